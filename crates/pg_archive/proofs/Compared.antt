-- What comparisons of bytes say.
use Rattle.std.proofs.Common.{drop, eqb, length, List, refl, true, ℕ, ◌++◌, ◌≡◌}
use Rattle.std.specs.List.{starts_with}
use Rattle.std.specs.Str.{bytes_eq}
use Rattle.std.proofs.lemmas.Bool.Decides.{Decides-eqb}
use Rattle.std.proofs.lemmas.Slice.Eq.{bytes_eq-Decides, starts_is}

pub begins : (text front : List ℕ) → starts_with eqb text front ≡ true
    → (rest : List ℕ) × (text ≡ front ++ rest)
begins text front e = (
  drop (length front) text,
  (starts_is Decides-eqb text front (starts_with eqb text front) refl).0 e,
)

pub same_bytes : (xs ys : List ℕ) → bytes_eq xs ys ≡ true → xs ≡ ys
same_bytes xs ys h = (bytes_eq-Decides xs ys).0 h

pub bytes_same : (xs ys : List ℕ) → xs ≡ ys → bytes_eq xs ys ≡ true
bytes_same xs ys e = (bytes_eq-Decides xs ys).1 e

pub begun : (text front rest : List ℕ) → text ≡ front ++ rest → starts_with eqb text front ≡ true
begun text front rest e =
    (starts_is Decides-eqb text front (starts_with eqb text front) refl).1 rest e
