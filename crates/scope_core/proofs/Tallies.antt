-- Sums over lists of rows that are joined.
use Rattle.scope_core.proofs.Words
use Words.{ap, arith, Bool, cond, Counted, drop, get_or, is_empty, length, List, mentions, Pid}
use Words.{refl, Row, suc, sym, take, take-append-drop, take_more, tally, total, true, zero, [], ℕ}
use Words.{◌++◌, ◌+◌, ◌<◌, ◌∙◌, ◌∷◌, ◌≡◌, ◌≤◌}

pub tally_append : (test : Row → Bool) (xs ys : List Counted)
    → tally test (xs ++ ys) ≡ tally test xs + tally test ys
tally_append test [] ys = grind arith
tally_append test (x ∷ xs) ys = grind (arith, tally_append test xs ys)

-- no test passes more than all
pub tally_le : (test : Row → Bool) (xs : List Counted) → tally test xs ≤ total (λ c. c.count) xs
tally_le test [] = omega arith
tally_le test (x ∷ xs) = grind (arith, tally_le test xs)

pub tally_take : (test : Row → Bool) (xs : List Counted) (i : ℕ) (c : Counted) → i < length xs
    → c ≡ get_or xs i c
    → tally test (take (i + 1) xs) ≡ tally test (take i xs) + cond (test c.row) c.count 0
tally_take test xs i c l at =
    simp (take_more xs i c l, ← at) (tally_append test (take i xs) (c ∷ []) ∙ grind arith)

-- what stands before a row, and the row, are no more than all
pub take_le : (test : Row → Bool) (xs : List Counted) (i : ℕ)
    → tally test (take i xs) ≤ tally test xs
take_le test [] zero = omega arith
take_le test [] (suc i) = omega arith
take_le test (x ∷ xs) zero = omega arith
take_le test (x ∷ xs) (suc i) = grind (arith, take_le test xs i)

pub tally_parts : (test : Row → Bool) (n : ℕ) (xs : List Counted)
    → tally test xs ≡ tally test (take n xs) + tally test (drop n xs)
tally_parts test n xs =
    ap (tally test) (sym (take-append-drop n xs)) ∙ tally_append test (take n xs) (drop n xs)

pub none_mentioned : (p : Pid) (ps : List Pid) → is_empty ps ≡ true → mentions p ps ≡ 0
none_mentioned p [] e = refl
none_mentioned p (q ∷ ps) e = grind arith
