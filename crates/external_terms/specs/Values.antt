-- How the terms are spelled that a link is made of (External Term Format). Numbers are big-endian.
use Rattle.std.specs.Prelude.{◌≡◌, ℕ, ◌*◌, ◌<◌, ◌^◌, List, [], ◌∷◌, ◌++◌, length}
use Rattle.std.specs.Int.{w16, w32, to_be_bytes}
use Rattle.external_terms.specs.Tags.{tag_byte}
use Rattle.external_terms.specs.declared.tag.Tag.TheVariants as tags
use Rattle.external_terms.specs.declared.values.PidTerm.{PidTerm}
use Rattle.external_terms.specs.declared.values.ReferenceTerm.{ReferenceTerm}

-- bytes behind their length in 1 byte, in 2, and in 4
abbrev pub short : List ℕ → List ℕ
short bytes = length bytes ∷ bytes

abbrev pub medium : List ℕ → List ℕ
medium bytes = to_be_bytes w16 (length bytes) ++ bytes

abbrev pub long : List ℕ → List ℕ
long bytes = to_be_bytes w32 (length bytes) ++ bytes

-- an integer from 0 to 255
abbrev pub small_integer_bytes : ℕ → List ℕ
small_integer_bytes n = tag_byte tags.SmallInteger ∷ n ∷ []

-- an atom, by its text in UTF-8
abbrev pub atom_bytes : List ℕ → List ℕ
atom_bytes text = tag_byte tags.SmallAtomUtf8 ∷ short text

-- a process without where its node lies in memory
pub record Process : Type 0 where
  pub node : List ℕ
  pub id : ℕ
  pub serial : ℕ
  pub creation : ℕ

abbrev pub process_said : PidTerm → Process
process_said p = record { node = p.node.now; id = p.id; serial = p.serial; creation = p.creation }

-- each part fits its field
pub record ProcessFits (p : Process) : Type 0 where
  pub node : length p.node < 2 ^ 8
  pub id : p.id < 2 ^ 32
  pub serial : p.serial < 2 ^ 32
  pub creation : p.creation < 2 ^ 32

-- the node, an atom; the id, the serial and the creation in 4 bytes each
abbrev pub process_bytes : Process → List ℕ
process_bytes p = tag_byte tags.NewPid ∷ atom_bytes p.node
    ++ (to_be_bytes w32 p.id ++ (to_be_bytes w32 p.serial ++ to_be_bytes w32 p.creation))

-- a reference without where its parts lie in memory
pub record Reference : Type 0 where
  pub count : ℕ
  pub node : List ℕ
  pub creation : ℕ
  pub words : List ℕ

abbrev pub reference_said : ReferenceTerm → Reference
reference_said r = record {
  count = r.count;
  node = r.node.now;
  creation = r.creation;
  words = r.words.now;
}

-- each part fits its field, and the words are as many as it says, of 4 bytes each
pub record ReferenceFits (r : Reference) : Type 0 where
  pub count : r.count < 2 ^ 16
  pub node : length r.node < 2 ^ 8
  pub creation : r.creation < 2 ^ 32
  pub words : length r.words ≡ 4 * r.count

-- the count of the words in 2 bytes, the node, an atom, the creation in 4 bytes, and the words
abbrev pub reference_bytes : Reference → List ℕ
reference_bytes r = tag_byte tags.NewerReference ∷ to_be_bytes w16 r.count
    ++ (atom_bytes r.node ++ (to_be_bytes w32 r.creation ++ r.words))

-- a tuple of that many terms begins so
abbrev pub tuple_head : ℕ → List ℕ
tuple_head arity = tag_byte tags.SmallTuple ∷ arity ∷ []

-- a list of that many terms begins so; behind them stands its end, of a proper list the empty list
abbrev pub list_head : ℕ → List ℕ
list_head count = tag_byte tags.List ∷ to_be_bytes w32 count

-- the empty list
abbrev pub nil_bytes : List ℕ
nil_bytes = tag_byte tags.Nil ∷ []

-- a list of numbers from 0 to 255, one byte each. It is no text
abbrev pub numbers_bytes : List ℕ → List ℕ
numbers_bytes numbers = tag_byte tags.String ∷ medium numbers

-- a binary
abbrev pub binary_bytes : List ℕ → List ℕ
binary_bytes bytes = tag_byte tags.Binary ∷ long bytes
