-- The bits in which bytes differ.
use Rattle.std.proofs.Common.{ap, arith, bit_or, inl, inr, length, List, refl, slice_index, sym, ℕ}
use Rattle.std.proofs.Common.{◌+◌, ◌<◌, ◌↔◌, ◌∙◌, ◌≡◌}
use Rattle.std.specs.Prelude.{bit_xor}
use Rattle.std.proofs.lemmas.Bool.{cases_lt}
use Rattle.std.proofs.lemmas.List.{ext_get_or}
use Rattle.std.proofs.lemmas.Nat.{le_or_l, le_or_r}
use lib.Bits.{xor_assoc, xor_self, xor_zero_l, xor_zero_r}

-- the lists have the same bytes below an index
abbrev pub SameBelow : ℕ → List ℕ → List ℕ → Type 0
SameBelow n a b = (k : ℕ) → k < n → slice_index a k ≡ slice_index b k

-- bytes that differ in no bit are equal
equal_from_xor : (x y : ℕ) → bit_xor x y ≡ 0 → x ≡ y
equal_from_xor x y none =
    sym (xor_zero_r x) ∙ ap (bit_xor x) (sym (xor_self y)) ∙ sym (xor_assoc x y y)
    ∙ ap (λ d. bit_xor d y) none ∙ xor_zero_l y

-- a further byte of both keeps that no bit differs exactly where it is the same
pub SameBelow-suc : (bits n : ℕ) (a b : List ℕ) (x y : ℕ) → x ≡ slice_index a n
    → y ≡ slice_index b n
    → ((bits ≡ 0) ↔ SameBelow n a b) → ((bit_or bits (bit_xor x y) ≡ 0) ↔ SameBelow (n + 1) a b)
SameBelow-suc bits n a b x y ex ey so_far = (
  (λ none k lt. elim (cases_lt k n) [
    | inl below ↦ so_far.0 (omega (arith, none, le_or_l bits (bit_xor x y))) k below
    | inr past ↦
        let here : k ≡ n = omega arith in
        rw (here, sym ex, sym ey)
        (equal_from_xor x y (omega (arith, none, le_or_r bits (bit_xor x y))))
  ]),
  (λ same.
      let none : bits ≡ 0 = so_far.1 (λ k lt. same k (omega arith)) in
      let equal : x ≡ y = ex ∙ same n (omega arith) ∙ sym ey in
      rw (none, equal, xor_self y) refl),
)

-- lists of this length with the same bytes below it are equal
pub SameBelow-length : (n : ℕ) (a b : List ℕ) → length a ≡ n → length b ≡ n
    → SameBelow n a b ↔ (a ≡ b)
SameBelow-length n a b la lb = (
  (λ same. ext_get_or 0 a b (omega (arith, la, lb)) (λ k lt. same k (omega (arith, la)))),
  (λ equal k lt. ap (λ bytes. slice_index bytes k) equal),
)
