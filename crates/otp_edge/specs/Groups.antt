-- Groups as texts. A group of Erlang is any term; here it is a text of 1 to 255 visible bytes.
use Rattle.std.specs.Prelude.{◌≡◌, ℕ, List, ◌∷◌, ◌&&◌, ◌||◌, not, Bool, cond, Option, Some, None, drop}
use Rattle.std.specs.Prelude.{bytes_eq}
use Rattle.dist_types.specs.Text.{is_text}
use Rattle.external_terms.specs.Values.{atom_bytes, binary_bytes}
use Rattle.external_terms.specs.Terms.{SpellsTerm}
use Rattle.hex.specs.Hex.{IsBytes, encode_lower}

-- a text behind `#`, a letter and `:`
abbrev pub marked : ℕ → List ℕ → List ℕ
marked letter text = 0x23 ∷ letter ∷ 0x3A ∷ text

-- whether a text begins so
abbrev pub has_mark : ℕ → List ℕ → Bool
has_mark letter text = bytes_eq (marked letter (drop 3 text)) text

-- `#b:` or `#x:`
abbrev pub is_marked : List ℕ → Bool
is_marked text = has_mark 0x62 text || has_mark 0x78 text

-- the text, where it is within the limits of texts
abbrev pub text_or_none : List ℕ → Option (List ℕ)
text_or_none text = cond (is_text text) (Some text) None

-- an atom stands for its own text, unless that begins with a mark
abbrev pub atom_text : List ℕ → Option (List ℕ)
atom_text term = cond (bytes_eq (atom_bytes (drop 2 term)) term && not (is_marked (drop 2 term)))
    (text_or_none (drop 2 term)) None

-- a binary stands behind `#b:`
abbrev pub binary_text : List ℕ → Option (List ℕ)
binary_text term = cond (bytes_eq (binary_bytes (drop 5 term)) term)
    (text_or_none (marked 0x62 (drop 5 term))) None

-- the bytes of any term in hex stand behind `#x:`
abbrev pub hex_text : List ℕ → Option (List ℕ)
hex_text term = text_or_none (marked 0x78 (encode_lower term))

-- the first, or else the second
abbrev pub or_else : {A : Type 0} → Option A → Option A → Option A
or_else (Some x) other = Some x
or_else None other = other

-- the text of the group that a term is; none where it isn't carried
unfoldable pub group_text : List ℕ → Option (List ℕ)
group_text term = or_else (atom_text term) (or_else (binary_text term) (hex_text term))

-- bytes that are one term, and the text is that of the group that it is
pub record IsTermOf (term group : List ℕ) : Type 0 where
  pub bytes : IsBytes term
  pub spelled : SpellsTerm term
  pub text : group_text term ≡ Some group
