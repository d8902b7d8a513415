-- What no text of others has once it is put.
use Rattle.std.proofs.Common.{All, arith, List, ℕ, [], ◌∷◌, ◌≢◌}
use Rattle.std.proofs.lemmas.List.Elements.{All-append, All-nil}
use Rattle.pg_page.specs.Escaping.{IsInert, label_byte, labelled, shown, shown_byte}

inert_byte : (b : ℕ) → All IsInert (shown_byte b)
inert_byte b = grind arith

line_byte : (b : ℕ) → All (λ x. x ≢ 10) (label_byte b)
line_byte b = grind arith

pub inert : (text : List ℕ) → All IsInert (shown text)
inert [] = All-nil IsInert
inert (b ∷ text) = All-append IsInert (shown_byte b) (shown text) (inert_byte b) (inert text)

pub one_line : (text : List ℕ) → All (λ b. b ≢ 10) (labelled text)
one_line [] = All-nil (λ b. b ≢ 10)
one_line (b ∷ text) =
    All-append (λ x. x ≢ 10) (label_byte b) (labelled text) (line_byte b) (one_line text)
