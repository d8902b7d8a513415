-- What a binary search finds among links and scopes, which are kept in order.
use Rattle.node_core.proofs
use Rattle.node_core.specs
use Rattle.std.specs as std_specs
use proofs.Words.{AllByRecursion, ap, arith, Bool, Climbs, cond, eq-eqb, eqb-true, Err, false, find}
use proofs.Words.{Follows, get_or, History, is_some, kept_climbs, KeptLink, length, Less, lie}
use proofs.Words.{link_place, List, list_all, list_any, lt-ltb, ltb-false, ltb-true, map, nat_eq}
use proofs.Words.{nat_lt, None, Ok, Ordering, Parts, position, position-Some, refl, Result, Rises}
use proofs.Words.{Running, running_rises, same, same_decides, scope_place, Some, subst, suc, sym}
use proofs.Words.{text_cmp, texts_total, true, zero, ℕ, [], ◌+◌, ◌<◌, ◌∙◌, ◌∷◌, ◌≡◌}
use std_specs.declared.cmp.Ordering.TheVariants.{Equal, Greater}
use std_specs.Ordering.{is_lt, nat_cmp, ordering_reverse}
use std_specs.List.{position_or_len}
use std_specs.List.Sorted.{IsBinarySearchResult, IsPartitionPoint, IsSearchInRange, IsSortedBy}
use std_specs.Result.{result_ok}
use std_specs.Cmp.{IsTotalOrder}
use Rattle.std.proofs.lemmas.Cmp.{nat_cmp_total, tied_itself}
use Rattle.std.proofs.lemmas.List.Sorted.{searchable_from_sorted}
use Rattle.std.proofs.lemmas.List.Sums.{position_or_len_is}
use Rattle.std.proofs.lemmas.Map.Lookups.{exact_bytes, exact_unsigned}
use specs.Links.{AreInOrder}
use specs.ScopeFacts.{AreAscending}
use proofs.Found.{not_so, place_found}

module _ {X K : Type 0} {cmp : K → K → Ordering} (total : IsTotalOrder cmp)
    (exact : (a b : K) → cmp a b ≡ Equal → a ≡ b) (same : K → K → Bool)
    (decides : (a b : K) → (same a b ≡ true → a ≡ b) × (a ≡ b → same a b ≡ true)) (key : X
    → K) where
  apart : (a b : K) → (cmp a b ≡ Equal → ⊥) → same a b ≡ false
  apart a b unlike =
      not_so (same a b)
      (λ q. unlike (subst (λ c. cmp a c ≡ Equal) ((decides a b).0 q) (tied_itself total a)))

  below : (k : K) (xs : List X) → AllByRecursion (λ y. cmp k y ≡ Less) (map key xs)
      → (j : ℕ) (d : X) → j < length xs → cmp k (key (get_or xs j d)) ≡ Less
  below k [] a j d h = absurd (omega arith)
  below k (x ∷ xs) a zero d h = a.0
  below k (x ∷ xs) a (suc j) d h = below k xs a.1 j d (omega arith)

  rises_at : (xs : List X) → Rises cmp (map key xs) → (i j : ℕ) (d : X) → i < j → j < length xs
      → cmp (key (get_or xs i d)) (key (get_or xs j d)) ≡ Less
  rises_at [] r i j d l h = absurd (omega arith)
  rises_at (x ∷ xs) r i zero d l h = absurd (omega arith)
  rises_at (x ∷ xs) r zero (suc j) d l h = below (key x) xs r.0 j d (omega arith)
  rises_at (x ∷ xs) r (suc i) (suc j) d l h =
      rises_at xs r.1 i j d (omega arith) (omega arith)

  sorted : (xs : List X) → Rises cmp (map key xs)
      → IsSortedBy (λ a b. is_lt (cmp (key a) (key b))) xs
  sorted xs r k d l h =
      ap is_lt (total.antisymm _ _ ∙ ap ordering_reverse
      (rises_at xs r k (k + 1) d (omega arith) (omega arith)))

  -- it is the place of the first one with that key
  pub place_is : (xs : List X) (k : K) (r : Result ℕ ℕ) → Rises cmp (map key xs)
      → IsSearchInRange r (length xs) → IsBinarySearchResult (λ x. cmp (key x) k) xs r
      → result_ok r ≡ position (λ x. same (key x) k) xs
  place_is [] k (Ok i) r h b = absurd (omega arith)
  place_is [] k (Err i) r h b = refl
  place_is (x ∷ xs) k (Ok i) r h b =
      sym (ap (λ n. cond (nat_lt n (length (x ∷ xs))) (Some n) None) at
      ∙ ap (λ c. cond c (Some i) None) (lt-ltb i (length (x ∷ xs)) h))
    where
      there : key (get_or (x ∷ xs) i x) ≡ k
      there = exact _ _ (b x)

      at : position_or_len (λ y. same (key y) k) (x ∷ xs) ≡ i
      at = position_or_len_is (λ y. same (key y) k) (x ∷ xs) i x (omega arith)
          (λ n l. apart _ k
          (λ q. lie (ap is_lt
          (sym (subst (λ z. cmp (key (get_or (x ∷ xs) n x)) z ≡ Less) there
          (rises_at (x ∷ xs) r n i x l h)) ∙ q))))
          (λ l. (decides _ k).1 there)
  place_is (x ∷ xs) k (Err i) r h b =
      sym (ap (λ n. cond (nat_lt n (length (x ∷ xs))) (Some n) None) at ∙ (grind arith))
    where
      gap : IsPartitionPoint (λ y. cmp (key y) k ≡ Less) (λ y. cmp (key y) k ≡ Greater) (x ∷ xs) i
      gap = b (searchable_from_sorted total key (x ∷ xs) k (sorted (x ∷ xs) r))

      at : position_or_len (λ y. same (key y) k) (x ∷ xs) ≡ length (x ∷ xs)
      at = position_or_len_is (λ y. same (key y) k) (x ∷ xs) (length (x ∷ xs)) x (omega arith)
          (λ n l. apart _ k (λ q. grind (
            arith,
            q,
            l,
            gap.0 n x,
            gap.1 n x,
            ltb-true n i,
            ltb-false n i,
          )))
          (λ l. absurd (omega arith))

-- what stands at the first place that passes, and that nothing does where there is none
module _ {A : Type 0} (test : A → Bool) where
  found_first : (xs : List A) (i : ℕ) (d : A) → i < length xs → test (get_or xs i d) ≡ true
      → ((k : ℕ) → k < i → test (get_or xs k d) ≡ false) → find test xs ≡ Some (get_or xs i d)
  found_first [] i d l passes before = absurd (omega arith)
  found_first (x ∷ xs) zero d l passes before = grind arith
  found_first (x ∷ xs) (suc i) d l passes before =
      grind (arith, before 0, found_first xs i d, λ (k : ℕ). before (suc k))

  pub find_at : (xs : List A) (i : ℕ) (d : A) → position test xs ≡ Some i
      → find test xs ≡ Some (get_or xs i d)
  find_at xs i d q = let it = position-Some test xs i d q in found_first xs i d it.0 it.1 it.2

  nothing : (xs : List A) → list_any test xs ≡ false → find test xs ≡ None
  nothing [] q = refl
  nothing (x ∷ xs) q = grind (arith, nothing xs)

  pub find_none : (xs : List A) → position test xs ≡ None → find test xs ≡ None
  find_none xs q = nothing xs (sym (place_found test xs) ∙ ap is_some q)

-- numbers that climb
climbs_rise : (ns : List ℕ) → Climbs ns → Rises nat_cmp ns
climbs_rise [] c = tt
climbs_rise (n ∷ ns) c = (each ns c.0, climbs_rise ns c.1)
  where
    each : (ms : List ℕ) → list_all (λ m. nat_lt n m) ms ≡ true
        → AllByRecursion (λ m. nat_cmp n m ≡ Less) ms
    each [] a = tt
    each (m ∷ ms) a = grind (arith, each ms)

module _ {h : History} {parts : Parts} (t : Follows h parts) where
  pub links_in_order : AreInOrder parts.links
  links_in_order = climbs_rise _ (subst Climbs (sym t.links.numbers) (kept_climbs h t.sound.played))

  pub scopes_ascend : AreAscending parts.scopes
  scopes_ascend = subst (Rises text_cmp) (sym t.scopes.running) (running_rises h)

pub link_searched : (xs : List KeptLink) (n : ℕ) (r : Result ℕ ℕ) → AreInOrder xs
    → IsSearchInRange r (length xs) → IsBinarySearchResult (λ x. nat_cmp x.number n) xs r
    → result_ok r ≡ link_place n xs
link_searched = place_is nat_cmp_total exact_unsigned nat_eq (λ a b. (eqb-true a b, eq-eqb a b))
    (λ x. x.number)

pub scope_searched : (xs : List Running) (s : List ℕ) (r : Result ℕ ℕ) → AreAscending xs
    → IsSearchInRange r (length xs) → IsBinarySearchResult (λ x. text_cmp x.scope s) xs r
    → result_ok r ≡ scope_place s xs
scope_searched = place_is texts_total exact_bytes same same_decides (λ x. x.scope)
