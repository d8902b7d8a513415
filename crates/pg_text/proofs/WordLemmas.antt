-- Which words are texts and numbers, how long numbers are, and the last slash of a word.
use Rattle.std.proofs.Common.{All, ap, arith, decimal, drop, get_or, length, List, ne_eqb, None}
use Rattle.std.proofs.Common.{refl, rules, Some, subst, sym, take, take-append-drop, true, ℕ, []}
use Rattle.std.proofs.Common.{◌++◌, ◌+◌, ◌<◌, ◌^◌, ◌∙◌, ◌∷◌, ◌≡◌, ◌≢◌, ◌≤◌}
use Rattle.std.proofs.lemmas.List.{drop_more}
use Rattle.std.proofs.lemmas.List.Elements.{All-cons, All-head, All-same, All-tail}
use Rattle.pg_text.specs.Words.{cut_of, long_number_of, text_of}
use Rattle.dist_types.specs.Text.{is_text, IsText}
use Rattle.dist_types.proofs.LimitLemmas.{texts_compute}
use Rattle.std.specs.Str.{bytes_eq}
use Rattle.std.specs.Str.Parse.{digits_value}
use Rattle.std.proofs.lemmas.Fmt.{digits_value-decimal, length-decimal-le}
use Rattle.std.proofs.lemmas.Str.Parse.{numerals_by_value, tells_all_ascii_digits}
use Rattle.std.proofs.lemmas.Slice.Eq.{bytes_eq-Decides}
use Rattle.std.proofs.lemmas.Bool.{lt-ltb, ltb-true}

-- no slash stands in it
abbrev pub IsWhole : List ℕ → Type 0
IsWhole bytes = All (λ b. b ≢ 47) bytes

-- where there is no slash, nothing is cut
pub cut_none : (ys : List ℕ) → IsWhole ys → cut_of ys ≡ None
cut_none [] h = refl
cut_none (y ∷ ys) h =
    rw (cut_none ys (All-tail (λ b. b ≢ 47) y ys h), ne_eqb y 47 (All-head (λ b. b ≢ 47) y ys h))
    refl

-- a slash with none behind it is the last
cut_last : (xs ys : List ℕ) → IsWhole ys → cut_of (xs ++ 47 ∷ ys) ≡ Some (xs, ys)
cut_last [] ys h = rw (cut_none ys h) refl
cut_last (x ∷ xs) ys h = rw (cut_last xs ys h) refl

pub cut_here : (word : List ℕ) (i : ℕ) → i < length word → get_or word i 0 ≡ 47
    → IsWhole (drop (i + 1) word) → cut_of word ≡ Some (take i word, drop (i + 1) word)
cut_here word i in_word slash h =
    let behind : drop i word ≡ 47 ∷ drop (i + 1) word = drop_more word i 0 in_word
    ∙ ap (λ b. b ∷ drop (i + 1) word) slash in
    let parts : word ≡ take i word ++ 47 ∷ drop (i + 1) word = sym (take-append-drop i word)
    ∙ ap (λ l. take i word ++ l) behind in
    ap cut_of parts ∙ cut_last (take i word) (drop (i + 1) word) h

-- one byte more that is no slash
pub whole_more : (word : List ℕ) (i : ℕ) → i < length word → get_or word i 0 ≢ 47
    → IsWhole (drop (i + 1) word) → IsWhole (drop i word)
whole_more word i in_word other h =
    All-same (λ b. b ≢ 47) (drop i word) (get_or word i 0 ∷ drop (i + 1) word)
    (drop_more word i 0 in_word) (All-cons (λ b. b ≢ 47) (get_or word i 0) (drop (i + 1) word) other
    h)

pub text_read : (word : List ℕ) → IsText word → text_of word ≡ Some word
text_read word is = let yes : is_text word ≡ true = (texts_compute word).1 is in rw yes refl

-- `==` of bytes
pub bytes_eq_same : (xs ys : List ℕ) → bytes_eq xs ys ≡ true → xs ≡ ys
bytes_eq_same xs ys h = search (rules, bytes_eq-Decides)

pub bytes_eq_refl : (xs : List ℕ) → bytes_eq xs xs ≡ true
bytes_eq_refl xs = search (rules, bytes_eq-Decides)

value_of_decimal : (n : ℕ) → n < 2 ^ 64 → digits_value 10 (decimal n) ≡ n
value_of_decimal n small = digits_value-decimal (numerals_by_value _ tells_all_ascii_digits) n
    (omega arith)

-- the decimal text of a number says it
pub number_is : (n : ℕ) (word : List ℕ) → n < 2 ^ 64 → decimal n ≡ word
    → long_number_of word ≡ Some n
number_is n word small is = subst (λ (w : List ℕ). long_number_of w ≡ Some n) is
    (rw (value_of_decimal n small, bytes_eq_refl (decimal n), lt-ltb n (2 ^ 64) small) refl)

-- and nothing else does
pub number_none : (word : List ℕ) → ((n : ℕ) → n < 2 ^ 64 → decimal n ≡ word → ⊥)
    → long_number_of word ≡ None
number_none word never = grind (arith, never (digits_value 10 word), ltb-true, bytes_eq_same)

-- a number of 64 bits has 20 digits at most
pub decimal_short : (n : ℕ) → n < 2 ^ 64 → length (decimal n) ≤ 20
decimal_short n small = length-decimal-le 20 n (omega arith) (omega arith) small
