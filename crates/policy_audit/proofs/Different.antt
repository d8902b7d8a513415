-- A list of texts in which each stands once is as long as there are different texts in it.
use Rattle.policy_audit.proofs
use proofs.Words.{AllByRecursion, ap, arith, ascending, cond, different, false, is_among, length}
use proofs.Words.{Less, List, occurrences, refl, Rises, same, same_decides, same_length, sym}
use proofs.Words.{text_cmp, true, ℕ, [], ◌∙◌, ◌∷◌, ◌≡◌, ◌≤◌}
use proofs.OneDifference.{apart}
use proofs.Named.{occurs_stands, stands_occurs}
use proofs.ScopesNow.{rising, rising_stands}

-- how often q stands in a list in which it stands once at most
pub once : (q : List ℕ) (xs : List (List ℕ)) → occurrences same q xs ≤ 1
    → occurrences same q xs ≡ cond (is_among q xs) 1 0
once q xs most = grind (arith, stands_occurs same q xs, occurs_stands same q xs)

-- where q is like no text of the list
none_like : (q : List ℕ) (xs : List (List ℕ)) → AllByRecursion (λ y. same y q ≡ false) xs
    → occurrences same q xs ≡ 0
none_like q [] a = refl
none_like q (x ∷ xs) a = grind (arith, none_like q xs)

first_once : (q x : List ℕ) (xs : List (List ℕ)) → (same x q ≡ true → occurrences same q xs ≡ 0)
    → occurrences same q xs ≤ 1 → occurrences same q (x ∷ xs) ≤ 1
first_once q x xs none most = grind (arith, none)

pub rising_once : (q : List ℕ) (xs : List (List ℕ)) → Rises text_cmp xs → occurrences same q xs ≤ 1
rising_once q [] r = omega arith
rising_once q (x ∷ xs) r =
    first_once q x xs (λ e. none_like q xs (each xs e r.0)) (rising_once q xs r.1)
  where
    each : (ys : List (List ℕ)) → same x q ≡ true → AllByRecursion (λ y. text_cmp x y ≡ Less) ys
        → AllByRecursion (λ y. same y q ≡ false) ys
    each [] e a = tt
    each (y ∷ ys) e a = (ap (same y) (sym ((same_decides x q).0 e)) ∙ apart x y a.0, each ys e a.1)

pub different_is : (xs ys : List (List ℕ)) → ((q : List ℕ) → occurrences same q xs ≤ 1)
    → ((q : List ℕ) → is_among q xs ≡ is_among q ys) → length xs ≡ different ys
different_is xs ys most among = same_length same same_decides xs (ascending text_cmp ys) (λ q.
    once q xs (most q) ∙ ap (λ b. cond b 1 0) (among q ∙ sym (rising_stands q ys))
    ∙ sym (once q (ascending text_cmp ys) (rising_once q (ascending text_cmp ys) (rising ys))))
