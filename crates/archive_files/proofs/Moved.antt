-- Bytes on their way from what waits to what is held.
use Rattle.archive_files.specs
use Rattle.std.proofs.Common.{ap, append-nil, append_assoc, arith, drop, inl, inr, length, List}
use Rattle.std.proofs.Common.{None, Option, refl, Some, sym, take, ℕ, [], ◌++◌, ◌∙◌, ◌∷◌, ◌≡◌, ◌≤◌}
use Rattle.std.proofs.lemmas.List.{drop-append-le, length-drop, take-append-drop, take-append-le}
use Rattle.std.proofs.lemmas.Bool.{cases_lt}
use Rattle.std.specs.Io.KnownBytes.{Appends, Keeps}
use specs.Text.{Text}
use specs.Waiting.{bytes_of, IsMoved, piece_of, rest_of, Waiting}

-- nothing has moved yet
pub moved_none : (a : Option (List ℕ)) (r : List ℕ) → IsMoved a r a r
moved_none None r = tt
moved_none (Some x) r = ([], sym (append-nil x), refl)

-- one move behind another is one
pub moved_on : (a b c : Option (List ℕ)) (r s t : List ℕ) → IsMoved a r b s → IsMoved b s c t
    → IsMoved a r c t
moved_on None b c r s t first second = tt
moved_on (Some x) None c r s t first second = absurd first
moved_on (Some x) (Some y) None r s t first second = absurd second
moved_on (Some x) (Some y) (Some z) r s t (m, at, is) (n, at', is') =
    (m ++ n, at' ∙ rw at (append_assoc x m n), is ∙ rw is' (sym (append_assoc m n t)))

-- what is held stays, and what waits
pub moved_kept : (a b : Option (List ℕ)) (r : List ℕ) → Keeps a b → IsMoved a r b r
moved_kept None b r keeps = tt
moved_kept (Some x) None r keeps = absurd keeps
moved_kept (Some x) (Some y) r keeps = ([], keeps ∙ sym (append-nil x), refl)

-- the same behind a file that was turned
pub moved_then : (a b c d : Option (List ℕ)) (r t : List ℕ) (w w' : Waiting)
    → IsMoved a r b (rest_of w) → Keeps b c → w' ≡ w → IsMoved c (rest_of w') d t → IsMoved a r d t
moved_then a b c d r t w w' first keeps same then =
    let kept = moved_kept b c (rest_of w) keeps in
    moved_on a c d r (rest_of w) t (moved_on a b c r (rest_of w) (rest_of w) first kept)
    (rw same at then)

-- the front of what waits went behind what is held
pub moved_front : (a b : Option (List ℕ)) (r front : List ℕ) (n : ℕ) → front ++ drop n r ≡ r
    → Appends a b front → IsMoved a r b (drop n r)
moved_front None b r front n whole appends = tt
moved_front (Some x) None r front n whole appends = absurd appends
moved_front (Some x) (Some y) r front n whole appends = (front, appends, sym whole)

-- the front of a list that begins with another's end
front_within : (piece more : List ℕ) (n : ℕ) → n ≤ length piece
    → take n piece ++ drop n (piece ++ more) ≡ piece ++ more
front_within piece more n short =
    sym (ap (λ z. z ++ drop n (piece ++ more)) (take-append-le n piece more short))
    ∙ take-append-drop n (piece ++ more)

-- what goes next is the front of all that is to go
pub front_of : (lines : List Text) (b n : ℕ) → n ≤ length (piece_of lines b)
    → take n (piece_of lines b) ++ drop n (drop b (bytes_of lines)) ≡ drop b (bytes_of lines)
front_of [] b n short = let none : n ≡ 0 = omega arith in rw none refl
front_of (line ∷ lines) b n short =
    elim (cases_lt (length line.bytes) b) [
      | inl over ↦ let none : n ≡ 0 = omega (arith, length-drop b line.bytes) in rw none refl
      | inr within ↦ rw (drop-append-le b line.bytes (bytes_of lines) within)
          (front_within (drop b line.bytes) (bytes_of lines) n short)
    ]
