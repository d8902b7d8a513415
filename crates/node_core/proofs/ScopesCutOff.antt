-- The scopes after a link of a peer is gone, or another of its links has come up.
use Rattle.node_core.proofs
use proofs.Words.{AllZip, ap, arith, cond, eq-eqb, eqb-true, flip, is_number, IsCutOff, IsRunningOf}
use proofs.Words.{List, nat_eq, not, Pid, refl, Running, same, ScopesFollow, ScopeWords, sym}
use proofs.Words.{without, ℕ, [], ◌&&◌, ◌==◌, ◌∙◌, ◌∷◌, ◌≡◌}
use proofs.Zipped.{zipped_each, zipped_map}

-- whether a number is left of these
pub number_left : (l j : ℕ) (ns : List ℕ)
    → is_number l (without j ns) ≡ (is_number l ns && not (j == l))
number_left l j [] = refl
number_left l j (x ∷ xs) =
    grind (arith, number_left l j xs, eqb-true x j, eqb-true l x, eq-eqb j l, flip j l)

-- the words of scopes between which link m of node n is cut off
pub record AreCutOff (m : ℕ) (n : List ℕ) (w v : ScopeWords) : Type 0 where
  pub own : v.own ≡ w.own
  pub running : v.running ≡ w.running
  pub listed : (s g : List ℕ) (p : Pid) → v.listed s g p ≡ cond (same p.node n) 0 (w.listed s g p)
  pub heard : (l : ℕ) (s : List ℕ) → v.heard l s ≡ (w.heard l s && not (nat_eq l m))
  pub told : (l : ℕ) (s : List ℕ) → v.told l s ≡ (w.told l s && not (nat_eq l m))

module _ (m : ℕ) (n : List ℕ) (w v : ScopeWords) (a : AreCutOff m n w v) where
  one_cut_off : (r q : Running) → IsCutOff m n r q → IsRunningOf w r → IsRunningOf v q
  one_cut_off r q c t = record {
    own = c.rows.own ∙ t.own ∙ sym a.own;
    rows = λ g p. c.rows.counts g p ∙ ap (cond (same p.node n) 0) (t.rows g p)
        ∙ sym (a.listed r.scope g p) ∙ ap (λ s. v.listed s g p) (sym c.scope);
    heard = λ l. ap (is_number l) c.heard
        ∙ grind (arith, number_left l m r.heard.items, flip m l, t.heard l, a.heard l r.scope)
        ∙ ap (v.heard l) (sym c.scope);
    told = λ l. ap (is_number l) c.told
        ∙ grind (arith, number_left l m r.told.items, flip m l, t.told l, a.told l r.scope)
        ∙ ap (v.told l) (sym c.scope);
  }

  pub cut_off_follow : (old new : List Running) → ScopesFollow w old → AllZip (IsCutOff m n) old new
      → ScopesFollow v new
  cut_off_follow old new t c = record {
    running = zipped_map (IsCutOff m n) (λ r. r.scope) (λ r. r.scope) (λ r q x. x.scope) old new c
        ∙ t.running ∙ sym a.running;
    each = zipped_each (IsCutOff m n) (IsRunningOf w) (IsRunningOf v) one_cut_off old new c t.each;
  }
