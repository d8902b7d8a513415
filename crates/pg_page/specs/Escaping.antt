-- How the texts of others are put, so that nothing in them is read as more than text.
use Rattle.std.specs.Prelude.{ℕ, Bool, List, [], ◌∷◌, ◌==◌, ◌≢◌, ◌&&◌, nat_le, cond, codes}
use Rattle.std.specs.List.{flat_map}

-- what has been written so far, and whether nothing is missing in it for want of memory
pub record Written : Type 0 where
  pub bytes : List ℕ
  pub whole : Bool

-- a printable byte of ASCII
abbrev pub is_printable : ℕ → Bool
is_printable b = nat_le 0x20 b && nat_le b 0x7E

-- such a byte stands for itself, any other for a question mark
abbrev pub printed_byte : ℕ → List ℕ
printed_byte b = cond (is_printable b) (b ∷ []) (codes "?")

-- a byte of a text in a page: `<`, `>`, `&` and both quotes as HTML names them
abbrev pub shown_byte : ℕ → List ℕ
shown_byte b =
    cond (b == 60) (codes "&lt;")
    (cond (b == 62) (codes "&gt;")
    (cond (b == 38) (codes "&amp;")
    (cond (b == 34) (codes "&quot;")
    (cond (b == 39) (codes "&#39;")
    (printed_byte b)))))

-- a text in a page
abbrev pub shown : List ℕ → List ℕ
shown text = flat_map shown_byte text

-- at this byte no tag of HTML begins or ends, nor the value of an attribute
abbrev pub IsInert : ℕ → Type 0
IsInert b = (b ≢ 60) × (b ≢ 62) × (b ≢ 34) × (b ≢ 39)

-- a byte between the quotes of a label: `\`, `"` and a line feed behind a backslash
abbrev pub label_byte : ℕ → List ℕ
label_byte b =
    cond (b == 92) (92 ∷ 92 ∷ [])
    (cond (b == 34) (92 ∷ 34 ∷ [])
    (cond (b == 10) (92 ∷ 110 ∷ [])
    (printed_byte b)))

-- a text between the quotes of a label
abbrev pub labelled : List ℕ → List ℕ
labelled text = flat_map label_byte text
