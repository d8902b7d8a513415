-- Which bytes spell a term (External Term Format). A term is a head, and the terms inside it, of
-- which the head says how many there are.
use Rattle.std.specs.Prelude.{◌≡◌, ⊤, ℕ, suc, ◌+◌, ◌*◌, ◌<◌, Bool, true, false, List, [], ◌∷◌, ◌++◌}
use Rattle.std.specs.Prelude.{length}
use Rattle.external_terms.specs.declared.tag.Tag.{Tag}
use Rattle.external_terms.specs.declared.form.Form.{Form}
use Rattle.external_terms.specs.declared.form.Width.{Width}
use Rattle.external_terms.specs.Tags.{tag_byte, number_limit, number_bytes, form, IsAtomTag}

-- the byte of a tag
abbrev pub IsTag : List ℕ → Type 0
IsTag piece = (tag : Tag) × (piece ≡ tag_byte tag ∷ [])

-- the byte of an atom's tag
abbrev pub IsMark : List ℕ → Type 0
IsMark piece = (width : Width) × ((byte : ℕ) × IsAtomTag width byte × (piece ≡ byte ∷ []))

-- a number of this width
abbrev pub IsNumber : Width → List ℕ → Type 0
IsNumber width piece = (n : ℕ) × (n < number_limit width) × (piece ≡ number_bytes width n)

-- that many bytes
abbrev pub IsLong : ℕ → List ℕ → Type 0
IsLong len piece = length piece ≡ len

-- a length of this width, and as many bytes
pub record IsCounted (width : Width) (body : List ℕ) : Type 0 where
  pub text : List ℕ
  pub fits : length text < number_limit width
  pub bytes : body ≡ number_bytes width (length text) ++ text

-- the tag of an atom, and its text behind the length
pub record IsAtom (atom : List ℕ) : Type 0 where
  pub width : Width
  pub byte : ℕ
  pub body : List ℕ
  pub tagged : IsAtomTag width byte
  pub counted : IsCounted width body
  pub bytes : atom ≡ byte ∷ body

-- a node, where one is due, is an atom
abbrev pub IsNode : Bool → List ℕ → Type 0
IsNode true node = IsAtom node
IsNode false node = node ≡ []

-- what stands between a tag and the terms inside, and how many these are
pub record HasForm (f : Form) (body : List ℕ) (inside : ℕ) : Type 0 where
  pub first : List ℕ
  pub count : ℕ
  pub node : List ℕ
  pub last : List ℕ
  pub first_len : length first ≡ f.first
  pub fits : count < number_limit f.count
  pub is_node : IsNode f.node node
  pub last_len : length last ≡ f.each * count + f.more
  pub terms : inside ≡ f.terms_each * count + f.terms_more
  pub bytes : body ≡ first ++ (number_bytes f.count count ++ (node ++ last))

-- the same, whatever the number of the terms inside
abbrev pub IsBehind : Form → List ℕ → Type 0
IsBehind f body = (inside : ℕ) × HasForm f body inside

-- a tag, and what stands behind it, up to the terms inside
pub record IsHead (head : List ℕ) (inside : ℕ) : Type 0 where
  pub tag : Tag
  pub body : List ℕ
  pub has_form : HasForm (form tag) body inside
  pub bytes : head ≡ tag_byte tag ∷ body

-- the same, whatever the number of the terms inside
abbrev pub IsSomeHead : List ℕ → Type 0
IsSomeHead head = (inside : ℕ) × IsHead head inside

-- terms one behind the other: of the first its head, and the terms inside; and the further ones
pub data Terms : Type 0 where
  none : Terms
  next : List ℕ → Terms → Terms → Terms

-- how many they are, without those inside of others
abbrev pub count_of : Terms → ℕ
count_of none = 0
count_of (next head inside further) = suc (count_of further)

-- their bytes
abbrev pub bytes_of : Terms → List ℕ
bytes_of none = []
bytes_of (next head inside further) = head ++ (bytes_of inside ++ bytes_of further)

-- each has a head, and inside as many terms as its head says
abbrev pub AreTerms : Terms → Type 0
AreTerms none = ⊤
AreTerms (next head inside further) =
    IsHead head (count_of inside) × AreTerms inside × AreTerms further

-- the bytes are that many terms
pub record SpellsTerms (count : ℕ) (bytes : List ℕ) : Type 0 where
  pub terms : Terms
  pub are : AreTerms terms
  pub counted : count_of terms ≡ count
  pub spelled : bytes ≡ bytes_of terms

-- the bytes are one term
abbrev pub SpellsTerm : List ℕ → Type 0
SpellsTerm bytes = SpellsTerms 1 bytes
