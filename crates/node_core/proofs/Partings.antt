-- What leaves the scopes, one scope after the other.
use Rattle.node_core.proofs
use proofs.Words.{ap, ArePartings, arith, Change, changes_are, cond, count_of, eq-eqb, eqb-true}
use proofs.Words.{false, filter_append, GroupChange, History, is_among, is_empty, is_running}
use proofs.Words.{IsChange, IsDifference, IsParting, IsRunningOf, length, List, listed, map, not}
use proofs.Words.{Pid, refl, Rises, Running, running_among, running_rises, running_scopes}
use proofs.Words.{scope_words, ScopesFollow, stopped_lists, subst, sym, Table, text_cmp, ℕ, []}
use proofs.Words.{◌++◌, ◌==◌, ◌∙◌, ◌∷◌, ◌≡◌}
use Rattle.indexmap.proofs.SetLemmas.{AllZip-push}
use proofs.Zipped.{zipped_each, zipped_map}
use proofs.Scopes.{counts_listed}

module _ (h k : History) (left : Table → List ℕ → Pid → ℕ)
    (leaves : (r : Running) → IsRunningOf (scope_words h) r → (g : List ℕ) (p : Pid)
    → left r.table g p ≡ listed k r.scope g p) where
  parting_is : (r : Running) (c : Change) → IsParting left r c → IsRunningOf (scope_words h) r
      → IsDifference (listed h c.scope) (listed k c.scope) c.groups
  parting_is r c a t =
      subst (λ s. IsDifference (listed h s) (listed k s) c.groups) (sym a.scope)
      (subst (λ f. IsDifference f (listed k r.scope) c.groups) (counts_listed h r.scope r refl t)
      (subst (λ f. IsDifference (count_of r.table) f c.groups) (λ i g p. leaves r t g p i)
      a.groups))

  -- where nobody is listed in other scopes
  pub partings_change : (rs : List Running) → ScopesFollow (scope_words h) rs
      → ((s : List ℕ) → is_running h s ≡ false → (g : List ℕ) (p : Pid) → listed k s g p ≡ 0)
      → (cs : List Change) → ArePartings left rs cs → IsChange h k cs
  partings_change rs t others cs a =
      let scopes : map (λ c. c.scope) a.all ≡ running_scopes h =
      zipped_map (IsParting left) (λ r. r.scope) (λ c. c.scope) (λ r c x. x.scope) rs a.all
      a.each ∙ t.running in
      subst (IsChange h k) (sym a.some)
      (changes_are h k a.all (subst (Rises text_cmp) (sym scopes) (running_rises h))
      (zipped_each (IsParting left) (IsRunningOf (scope_words h))
      (λ c. IsDifference (listed h c.scope) (listed k c.scope) c.groups) parting_is rs a.all
      a.each t.each)
      (λ s none g p.
      let stopped = sym (running_among h s) ∙ sym (ap (is_among s) scopes) ∙ none in
      stopped_lists h s g p stopped ∙ sym (others s stopped g p)))

-- one scope more, which changes or not
abbrev pub one_parting : (left : Table → List ℕ → Pid
    → ℕ) (rs : List Running) (cs : List Change) (r : Running) (gs : List GroupChange)
    → ArePartings left rs cs → IsDifference (count_of r.table) (left r.table) gs
    → ArePartings left (rs ++ r ∷ [])
    (cs ++ cond (not (is_empty gs)) (record { scope = r.scope; groups = gs } ∷ []) [])
one_parting left rs cs r gs a d = record {
  all = a.all ++ record { scope = r.scope; groups = gs } ∷ [];
  each = AllZip-push (IsParting left) rs a.all r (record { scope = r.scope; groups = gs }) a.each
      (record { scope = refl; groups = d });
  some =
      ap (λ xs. xs ++ cond (not (is_empty gs)) (record { scope = r.scope; groups = gs } ∷ []) [])
      a.some
      ∙ sym (filter_append (λ c. not (is_empty c.groups)) a.all
      (record { scope = r.scope; groups = gs } ∷ []));
}

-- whether there are groups, by their number
pub none_by : {A : Type 0} (xs : List A) (n : ℕ) → length xs ≡ n → (n == 0) ≡ is_empty xs
none_by [] n long = eq-eqb n 0 (sym long)
none_by (x ∷ xs) n long = grind (arith, long, eqb-true n 0)
