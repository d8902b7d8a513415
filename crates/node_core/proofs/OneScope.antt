-- One of the running scopes changes.
use Rattle.node_core.proofs
use proofs.Words.{AllByRecursion, apart, arith, changes_are, false, filter, get_or, GroupChange}
use proofs.Words.{History, if_some, is_empty, IsChange, IsDifference, IsRunningOf, length, Less}
use proofs.Words.{List, listed, map, not, Pid, Rises, Running, same, same_sym, ScopesFollow}
use proofs.Words.{ScopeWords, set, subst, suc, sym, text_cmp, zero, ℕ, [], ◌<◌, ◌∙◌, ◌∷◌, ◌≡◌}
use Rattle.std.proofs.Math.Seq.{map-set_same}
use Rattle.scope_core.proofs.Rising.{all_unmapped}
use proofs.KeptOn.{each_at}

module _ (w v : ScopeWords) (s : List ℕ) (y : Running) (here : IsRunningOf v y)
    (named : y.scope ≡ s) (on : (r : Running) → same r.scope s ≡ false → IsRunningOf w r
    → IsRunningOf v r) where
  -- those above it stay
  above : (t : List ℕ) (rs : List Running)
      → AllByRecursion (λ u. text_cmp t u ≡ Less) (map (λ r. r.scope) rs) → t ≡ s
      → AllByRecursion (IsRunningOf w) rs → AllByRecursion (IsRunningOf v) rs
  above t [] less e a = tt
  above t (r ∷ rs) less e a = (
    on r (apart s r.scope (subst (λ u. text_cmp u r.scope ≡ Less) e less.0)) a.0,
    above t rs less.1 e a.1,
  )

  -- the first comes before the one at a place
  below : (t : List ℕ) (rs : List Running) (p : ℕ) (d : Running)
      → AllByRecursion (λ u. text_cmp t u ≡ Less) (map (λ r. r.scope) rs) → p < length rs
      → text_cmp t (get_or rs p d).scope ≡ Less
  below t rs p d less within =
      each_at (λ r. text_cmp t r.scope ≡ Less) rs p d
      (all_unmapped (λ u. text_cmp t u ≡ Less) (λ r. r.scope) rs less) within

  changed : (rs : List Running) (p : ℕ) (d : Running) → Rises text_cmp (map (λ r. r.scope) rs)
      → AllByRecursion (IsRunningOf w) rs → p < length rs → (get_or rs p d).scope ≡ s
      → AllByRecursion (IsRunningOf v) (set rs p y)
  changed [] p d rises a within is = tt
  changed (r ∷ rs) zero d rises a within is = (here, above r.scope rs rises.0 is a.1)
  changed (r ∷ rs) (suc p) d rises a within is = (
    on r (same_sym r.scope s
        ∙ apart r.scope s (subst (λ u. text_cmp r.scope u ≡ Less) is
        (below r.scope rs p d rises.0 (omega arith)))) a.0,
    changed rs p d rises.1 a.1 (omega arith) is,
  )

  pub one_scope_follows : (rs : List Running) (p : ℕ) (d : Running) → ScopesFollow w rs
      → Rises text_cmp w.running → v.running ≡ w.running → p < length rs → (get_or rs p d).scope ≡ s
      → ScopesFollow v (set rs p y)
  one_scope_follows rs p d t rises running within is = record {
    running = map-set_same (λ r. r.scope) rs p y d (named ∙ sym is) ∙ t.running ∙ sym running;
    each = changed rs p d (subst (Rises text_cmp) (sym t.running) rises) t.each within is;
  }

-- where the rows of one scope alone change
pub scope_change : (h k : History) (s : List ℕ) (gs : List GroupChange)
    → IsDifference (listed h s) (listed k s) gs
    → ((u g : List ℕ) (p : Pid) → same u s ≡ false → listed h u g p ≡ listed k u g p)
    → IsChange h k (if_some s gs)
scope_change h k s gs d others =
    let some : filter (λ c. not (is_empty c.groups)) (record { scope = s; groups = gs } ∷ [])
    ≡ if_some s gs = grind arith in
    subst (IsChange h k) some (changes_are h k (record { scope = s; groups = gs } ∷ []) (tt, tt) (
      d,
      tt,
    ) (λ u none g p. others u g p (grind (arith, same_sym u s))))
