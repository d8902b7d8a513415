-- The first line of a text, and the first word of a line.
use Rattle.std.proofs.Common.{All, arith, Bool, cond, eqb, false, length, List, nat_lt, ne_eqb}
use Rattle.std.proofs.Common.{None, refl, rules, Some, suc, true, ℕ, [], ◌++◌, ◌-◌, ◌<◌, ◌∷◌, ◌≡◌}
use Rattle.std.proofs.Common.{◌≢◌}
use Rattle.std.proofs.lemmas.List.Elements.{All-head, All-tail}
use Rattle.std.specs.Io.BufRead.{drop_through, strip_last, take_through}
use Rattle.std.specs.List.{list_any}
use Rattle.std.specs.Option.{option_map}
use Rattle.pg_text.specs.Lines.{lines_of, only_of, onto_first, words_of}

-- a byte before another part of a text stays when the line feed at its end goes
strip_cons : (b c : ℕ) (cs : List ℕ) → strip_last 10 (b ∷ c ∷ cs) ≡ b ∷ strip_last 10 (c ∷ cs)
strip_cons b c cs =
    let two : suc (suc (length cs)) - 1 ≡ suc (length cs) = omega arith in
    let one : suc (length cs) - 1 ≡ length cs = omega arith in
    let some : nat_lt 0 (suc (suc (length cs))) ≡ true = search rules in
    let some_left : nat_lt 0 (suc (length cs)) ≡ true = search rules in
    rw (two, one, some, some_left) (grind arith)

strip_through : (b c : ℕ) (cs : List ℕ)
    → strip_last 10 (b ∷ take_through 10 (c ∷ cs)) ≡ b ∷ strip_last 10 (take_through 10 (c ∷ cs))
strip_through b c cs = grind (arith, strip_cons b c [], strip_cons b c (take_through 10 cs))

-- the first line is what a reader gives up to a line feed, without it
abbrev pub BeginsWithLine : List ℕ → Type 0
BeginsWithLine bytes = lines_of bytes ≡ strip_last 10 (take_through 10 bytes) ∷ lines_of
    (drop_through 10 bytes)

lines_one : (b : ℕ) → BeginsWithLine (b ∷ [])
lines_one b = at (eqb b 10) refl
  where
    at : (t : Bool) → eqb b 10 ≡ t → BeginsWithLine (b ∷ [])
    at true e = rw e (rw e refl)
    at false e = rw e (rw e refl)

lines_cons : (b c : ℕ) (cs : List ℕ) → BeginsWithLine (c ∷ cs) → BeginsWithLine (b ∷ c ∷ cs)
lines_cons b c cs h = grind (arith, h, strip_through b c cs)

pub lines_step : (b : ℕ) (bytes : List ℕ) → BeginsWithLine (b ∷ bytes)
lines_step b [] = lines_one b
lines_step b (c ∷ cs) = lines_cons b c cs (lines_step c cs)

-- a front with no space is one word
pub words_plain : (xs : List ℕ) → All (λ b. b ≢ 32) xs → words_of xs ≡ xs ∷ []
words_plain [] h = refl
words_plain (x ∷ xs) h =
    rw (ne_eqb x 32 (All-head (λ b. b ≢ 32) x xs h), words_plain xs (All-tail (λ b. b ≢ 32) x xs h))
    refl

-- and ends at a space
pub words_space : (xs ys : List ℕ) → All (λ b. b ≢ 32) xs
    → words_of (xs ++ 32 ∷ ys) ≡ xs ∷ words_of ys
words_space [] ys h = refl
words_space (x ∷ xs) ys h =
    rw (
      ne_eqb x 32 (All-head (λ b. b ≢ 32) x xs h),
      words_space xs ys (All-tail (λ b. b ≢ 32) x xs h),
    ) refl

-- there is always a word
onto_some : (x : ℕ) (words : List (List ℕ)) → 0 < length (onto_first x words)
onto_some x [] = omega arith
onto_some x (word ∷ words) = omega arith

words_some : (xs : List ℕ) → 0 < length (words_of xs)
words_some [] = omega arith
words_some (x ∷ xs) = grind (arith, onto_some x (words_of xs))

-- a word before others is not the only one
only_before : (words : List (List ℕ)) → 0 < length words → only_of ([] ∷ words) ≡ None
only_before [] some = absurd (omega arith)
only_before (word ∷ words) some = refl

only_onto : (x : ℕ) (words : List (List ℕ)) → 0 < length words
    → only_of (onto_first x words) ≡ option_map (λ word. x ∷ word) (only_of words)
only_onto x [] some = absurd (omega arith)
only_onto x (word ∷ []) some = refl
only_onto x (word ∷ other ∷ words) some = refl

-- a line is one word where it has no space
pub only_words : (xs : List ℕ)
    → only_of (words_of xs) ≡ cond (list_any (λ x. eqb x 32) xs) None (Some xs)
only_words [] = refl
only_words (x ∷ xs) =
    grind (
      arith,
      only_words xs,
      only_before (words_of xs) (words_some xs),
      only_onto x (words_of xs) (words_some xs),
    )
