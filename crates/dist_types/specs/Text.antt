-- The limits of the texts.
use Rattle.std.specs.Prelude.{◌≡◌, ◌≢◌, ℕ, ◌-◌, ◌<◌, ◌≤◌, ◌==◌, ◌&&◌, not, nat_lt, nat_le, Bool, List, length, All, count_by, slice_get, get_or, Some}
use Rattle.std.specs.List.{list_all}

-- a visible byte of ASCII
abbrev pub IsTextByte : ℕ → Type 0
IsTextByte b = (0x21 ≤ b) × (b ≤ 0x7E)

-- a scope, a group or a cookie
pub record IsText (bytes : List ℕ) : Type 0 where
  pub not_empty : 0 < length bytes
  pub not_long : length bytes ≤ 255
  pub visible : All IsTextByte bytes

-- one `@` (0x40), neither first nor last
pub record HasInnerAt (bytes : List ℕ) : Type 0 where
  pub one : count_by (λ b. b == 0x40) bytes ≡ 1
  pub not_first : slice_get bytes 0 ≢ Some 0x40
  pub not_last : slice_get bytes (length bytes - 1) ≢ Some 0x40

-- the name of a node
pub record IsNodeName (bytes : List ℕ) : Type 0 where
  pub text : IsText bytes
  pub at : HasInnerAt bytes

-- the same limits as tests that compute
abbrev pub is_text_byte : ℕ → Bool
is_text_byte b = nat_le 0x21 b && nat_le b 0x7E

abbrev pub is_text : List ℕ → Bool
is_text bytes = nat_lt 0 (length bytes) && nat_le (length bytes) 255 && list_all is_text_byte bytes

abbrev pub has_inner_at : List ℕ → Bool
has_inner_at bytes = count_by (λ b. b == 0x40) bytes == 1 && not (get_or bytes 0 0 == 0x40)
    && not (get_or bytes (length bytes - 1) 0 == 0x40)

abbrev pub is_node_name : List ℕ → Bool
is_node_name bytes = is_text bytes && has_inner_at bytes
