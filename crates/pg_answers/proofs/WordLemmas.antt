-- The first word of a line.
use Rattle.std.proofs.Common.{All, List, ne_eqb, refl, ℕ, [], ◌++◌, ◌∷◌, ◌≡◌, ◌≢◌}
use Rattle.std.proofs.lemmas.List.Elements.{All-head, All-tail}
use Rattle.pg_answers.specs.Words.{words_of}

-- a front with no space is one word
pub words_plain : (xs : List ℕ) → All (λ b. b ≢ 32) xs → words_of xs ≡ xs ∷ []
words_plain [] h = refl
words_plain (x ∷ xs) h =
    rw (ne_eqb x 32 (All-head (λ b. b ≢ 32) x xs h), words_plain xs (All-tail (λ b. b ≢ 32) x xs h))
    refl

-- and ends at a space
pub words_space : (xs ys : List ℕ) → All (λ b. b ≢ 32) xs
    → words_of (xs ++ 32 ∷ ys) ≡ xs ∷ words_of ys
words_space [] ys h = refl
words_space (x ∷ xs) ys h =
    rw (
      ne_eqb x 32 (All-head (λ b. b ≢ 32) x xs h),
      words_space xs ys (All-tail (λ b. b ≢ 32) x xs h),
    ) refl
