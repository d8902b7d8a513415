-- The tags of terms, and what stands behind each (External Term Format). Numbers are big-endian.
use Rattle.std.specs.Prelude.{◌≡◌, ◌⊎◌, ℕ, ◌^◌, true, false, List, [], ◌∷◌}
use Rattle.std.specs.Int.{w16, w32, to_be_bytes}
use Rattle.external_terms.specs.declared.tag.Tag.{Tag}
use Rattle.external_terms.specs.declared.tag.Tag.TheVariants as tags
use Rattle.external_terms.specs.declared.form.Form.{Form}
use Rattle.external_terms.specs.declared.form.Width.{Width}
use Rattle.external_terms.specs.declared.form.Width.TheVariants as widths

-- the byte of each tag
abbrev pub tag_byte : Tag → ℕ
tag_byte tags.NewFloat = 70
tag_byte tags.BitBinary = 77
tag_byte tags.NewPid = 88
tag_byte tags.NewPort = 89
tag_byte tags.NewerReference = 90
tag_byte tags.SmallInteger = 97
tag_byte tags.Integer = 98
tag_byte tags.Atom = 100
tag_byte tags.SmallTuple = 104
tag_byte tags.LargeTuple = 105
tag_byte tags.Nil = 106
tag_byte tags.String = 107
tag_byte tags.List = 108
tag_byte tags.Binary = 109
tag_byte tags.SmallBig = 110
tag_byte tags.LargeBig = 111
tag_byte tags.NewFun = 112
tag_byte tags.Export = 113
tag_byte tags.Map = 116
tag_byte tags.AtomUtf8 = 118
tag_byte tags.SmallAtomUtf8 = 119
tag_byte tags.V4Port = 120

-- how many bytes a number of a width has
abbrev pub number_len : Width → ℕ
number_len widths.Zero = 0
number_len widths.One = 1
number_len widths.Two = 2
number_len widths.Four = 4

-- what a number of a width is below
abbrev pub number_limit : Width → ℕ
number_limit widths.Zero = 1
number_limit widths.One = 256
number_limit widths.Two = 2 ^ 16
number_limit widths.Four = 2 ^ 32

-- a number in the bytes of its width
abbrev pub number_bytes : Width → ℕ → List ℕ
number_bytes widths.Zero n = []
number_bytes widths.One n = n ∷ []
number_bytes widths.Two n = to_be_bytes w16 n
number_bytes widths.Four n = to_be_bytes w32 n

-- that many bytes
abbrev pub bytes_only : ℕ → Form
bytes_only len = record {
  first = 0;
  count = widths.Zero;
  node = false;
  each = 0;
  more = len;
  terms_each = 0;
  terms_more = 0;
}

-- a count, as many bytes, and some more
abbrev pub counted : Width → ℕ → Form
counted width more = record {
  first = 0;
  count = width;
  node = false;
  each = 1;
  more = more;
  terms_each = 0;
  terms_more = 0;
}

-- a count; inside stand so many terms for each of it, and some more
abbrev pub holding : Width → ℕ → ℕ → Form
holding width each more = record {
  first = 0;
  count = width;
  node = false;
  each = 0;
  more = 0;
  terms_each = each;
  terms_more = more;
}

-- a node, and that many bytes
abbrev pub named : ℕ → Form
named more = record {
  first = 0;
  count = widths.Zero;
  node = true;
  each = 0;
  more = more;
  terms_each = 0;
  terms_more = 0;
}

-- the count of the words of the number, the node, the creation in 4 bytes, and the words, of 4
-- bytes each
abbrev pub reference_form : Form
reference_form = record {
  first = 0;
  count = widths.Two;
  node = true;
  each = 4;
  more = 4;
  terms_each = 0;
  terms_more = 0;
}

-- size 4, arity 1, digest 16, index 4, and the count of the free variables; inside stand module,
-- old index, old digest,
-- process, and the free variables
abbrev pub fun_form : Form
fun_form = record {
  first = 25;
  count = widths.Four;
  node = false;
  each = 0;
  more = 0;
  terms_each =
      1;
  terms_more = 4;
}

-- what stands behind each tag
abbrev pub form : Tag → Form
form tags.NewFloat = bytes_only 8
form tags.BitBinary = counted widths.Four 1
form tags.NewPid = named 12
form tags.NewPort = named 8
form tags.NewerReference = reference_form
form tags.SmallInteger = bytes_only 1
form tags.Integer = bytes_only 4
form tags.Atom = counted widths.Two 0
form tags.SmallTuple = holding widths.One 1 0
form tags.LargeTuple = holding widths.Four 1 0
form tags.Nil = bytes_only 0
form tags.String = counted widths.Two 0
form tags.List = holding widths.Four 1 1
form tags.Binary = counted widths.Four 0
form tags.SmallBig = counted widths.One 1
form tags.LargeBig = counted widths.Four 1
form tags.NewFun = fun_form
form tags.Export = holding widths.Zero 0 3
form tags.Map = holding widths.Four 2 0
form tags.AtomUtf8 = counted widths.Two 0
form tags.SmallAtomUtf8 = counted widths.One 0
form tags.V4Port = named 12

-- the tags of atoms, by the width of the length behind each
abbrev pub IsAtomTag : Width → ℕ → Type 0
IsAtomTag widths.One byte = byte ≡ tag_byte tags.SmallAtomUtf8
IsAtomTag widths.Two byte = (byte ≡ tag_byte tags.AtomUtf8) ⊎ (byte ≡ tag_byte tags.Atom)
IsAtomTag width byte = ⊥
