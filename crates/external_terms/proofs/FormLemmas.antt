-- Bytes begin with one head at most: each part of a head is found by the bytes before it.
use Rattle.external_terms.proofs
use Rattle.external_terms.specs
use proofs.Words.{ap, append_assoc, arith, Bool, drop, drop_at, false, find, Form, form}
use proofs.Words.{from_be_bytes, from_be_bytes-to_be_bytes_2, from_be_bytes-to_be_bytes_4, get_or}
use proofs.Words.{HasForm, inl, inr, IsAtom, IsAtomTag, IsCounted, IsHead, IsNode, length, List}
use proofs.Words.{number_bytes, number_limit, Option, refl, Some, subst, sym, Tag, tag_byte, take}
use proofs.Words.{take_at, to_be_bytes, true, w16, w32, Width, ℕ, [], ◌*◌, ◌++◌, ◌+◌, ◌<◌, ◌==◌}
use proofs.Words.{◌∙◌, ◌∷◌, ◌≡◌}
use specs.declared.tag.Tag.TheVariants as tags
use specs.declared.form.Width.TheVariants as widths

-- pieces of one length at the front of the same bytes are the same, and so is what stands behind
-- them
pub parts_same : (a b x y : List ℕ) → length a ≡ length b → a ++ x ≡ b ++ y → (a ≡ b) × (x ≡ y)
parts_same a b x y long same = (
  sym (take_at a x (length a) refl) ∙ ap (take (length a)) same ∙ take_at b y (length a) (sym long),
  sym (drop_at a x (length a) refl) ∙ ap (drop (length a)) same ∙ drop_at b y (length a) (sym long),
)

-- the same of two pieces behind each other
pub regroup : (a b x : List ℕ) → (a ++ b) ++ x ≡ a ++ (b ++ x)
regroup a b x = append_assoc a b x

all_tags : List Tag
all_tags = tags.NewFloat ∷ tags.BitBinary ∷ tags.NewPid ∷ tags.NewPort ∷ tags.NewerReference ∷
    tags.SmallInteger ∷ tags.Integer ∷ tags.Atom ∷ tags.SmallTuple ∷ tags.LargeTuple ∷ tags.Nil ∷
    tags.String ∷ tags.List ∷ tags.Binary ∷ tags.SmallBig ∷ tags.LargeBig ∷ tags.NewFun ∷
    tags.Export ∷ tags.Map ∷ tags.AtomUtf8 ∷ tags.SmallAtomUtf8 ∷ tags.V4Port ∷ []

tag_found : ℕ → Option Tag
tag_found byte = find (λ tag. tag_byte tag == byte) all_tags

found_itself : (tag : Tag) → tag_found (tag_byte tag) ≡ Some tag
unfolding tag_found all_tags
found_itself tags.NewFloat = refl
found_itself tags.BitBinary = refl
found_itself tags.NewPid = refl
found_itself tags.NewPort = refl
found_itself tags.NewerReference = refl
found_itself tags.SmallInteger = refl
found_itself tags.Integer = refl
found_itself tags.Atom = refl
found_itself tags.SmallTuple = refl
found_itself tags.LargeTuple = refl
found_itself tags.Nil = refl
found_itself tags.String = refl
found_itself tags.List = refl
found_itself tags.Binary = refl
found_itself tags.SmallBig = refl
found_itself tags.LargeBig = refl
found_itself tags.NewFun = refl
found_itself tags.Export = refl
found_itself tags.Map = refl
found_itself tags.AtomUtf8 = refl
found_itself tags.SmallAtomUtf8 = refl
found_itself tags.V4Port = refl

some_same : {A : Type 0} (x y : A) → Some x ≡ Some y → x ≡ y
some_same x y same = cc same

-- a byte is of one tag at most
pub tag_same : (t u : Tag) (x y : List ℕ) → tag_byte t ∷ x ≡ tag_byte u ∷ y → (t ≡ u) × (x ≡ y)
tag_same t u x y same = (
  some_same t u
      (sym (found_itself t) ∙ ap (λ l. tag_found (get_or l 0 0)) same ∙ found_itself u),
  ap (drop 1) same,
)

-- a number of a width is found by its bytes
pub number_same : (w : Width) (n m : ℕ) (x y : List ℕ) → n < number_limit w → m < number_limit w
    → number_bytes w n ++ x ≡ number_bytes w m ++ y → (n ≡ m) × (x ≡ y)
number_same widths.Zero n m x y small few same = (omega (arith, small, few), same)
number_same widths.One n m x y small few same = (ap (λ l. get_or l 0 0) same, ap (drop 1) same)
number_same widths.Two n m x y small few same =
    let parts = parts_same (to_be_bytes w16 n) (to_be_bytes w16 m) x y refl same in (
      sym (from_be_bytes-to_be_bytes_2 n small) ∙ ap (from_be_bytes w16) parts.0
          ∙ from_be_bytes-to_be_bytes_2 m few,
      parts.1,
    )
number_same widths.Four n m x y small few same =
    let parts = parts_same (to_be_bytes w32 n) (to_be_bytes w32 m) x y refl same in (
      sym (from_be_bytes-to_be_bytes_4 n small) ∙ ap (from_be_bytes w32) parts.0
          ∙ from_be_bytes-to_be_bytes_4 m few,
      parts.1,
    )

counted_same : (w : Width) (a b x y : List ℕ) → IsCounted w a → IsCounted w b → a ++ x ≡ b ++ y
    → (a ≡ b) × (x ≡ y)
counted_same w a b x y is are same =
    let whole : number_bytes w (length is.text) ++ (is.text ++ x) ≡ number_bytes w (length are.text)
    ++ (are.text ++ y) = sym (regroup (number_bytes w (length is.text)) is.text x)
    ∙ ap (λ l. l ++ x) (sym is.bytes) ∙ same ∙ ap (λ l. l ++ y) are.bytes
    ∙ regroup (number_bytes w (length are.text)) are.text y in
    let numbers = number_same w (length is.text) (length are.text) (is.text ++ x) (are.text ++ y)
    is.fits are.fits whole in
    let texts = parts_same is.text are.text x y numbers.0 numbers.1 in
    (is.bytes ∙ ap (λ t. number_bytes w (length t) ++ t) texts.0 ∙ sym are.bytes, texts.1)

width_same : (v w : Width) (byte : ℕ) → IsAtomTag v byte → IsAtomTag w byte → v ≡ w
width_same widths.One widths.One byte is are = refl
width_same widths.Two widths.Two byte is are = refl
width_same widths.One widths.Two byte is (inl are) = absurd (omega (arith, is, are))
width_same widths.One widths.Two byte is (inr are) = absurd (omega (arith, is, are))
width_same widths.Two widths.One byte (inl is) are = absurd (omega (arith, is, are))
width_same widths.Two widths.One byte (inr is) are = absurd (omega (arith, is, are))
width_same widths.Zero w byte is are = absurd is
width_same widths.Four w byte is are = absurd is
width_same v widths.Zero byte is are = absurd are
width_same v widths.Four byte is are = absurd are

-- what stands behind the tag of an atom
pub behind_mark : (w : Width) (byte : ℕ) (more whole rest : List ℕ) → IsAtomTag w byte
    → (is : IsAtom whole)
    → byte ∷ more ≡ whole ++ rest → (w ≡ is.width) × (byte ≡ is.byte) × (more ≡ is.body ++ rest)
behind_mark w byte more whole rest tagged is same =
    let parts : byte ∷ more ≡ is.byte ∷ (is.body ++ rest) = same ∙ ap (λ l. l ++ rest) is.bytes in
    let bytes : byte ≡ is.byte = ap (λ l. get_or l 0 0) parts in (
      width_same w is.width is.byte (subst (IsAtomTag w) bytes tagged) is.tagged,
      bytes,
      ap (drop 1)
          parts,
    )

-- bytes begin with one atom at most
pub atom_same : (a b x y : List ℕ) → IsAtom a → IsAtom b → a ++ x ≡ b ++ y → (a ≡ b) × (x ≡ y)
atom_same a b x y is are same =
    let behind = behind_mark is.width is.byte (is.body ++ x) b y is.tagged are
    (ap (λ l. l ++ x) (sym is.bytes) ∙ same) in
    let bodies = counted_same are.width is.body are.body x y
    (subst (λ w. IsCounted w is.body) behind.0 is.counted) are.counted behind.2 in
    (is.bytes ∙ (λ k. behind.1 k ∷ bodies.0 k) ∙ sym are.bytes, bodies.1)

node_same : (due : Bool) (a b x y : List ℕ) → IsNode due a → IsNode due b → a ++ x ≡ b ++ y
    → (a ≡ b) × (x ≡ y)
node_same true a b x y is are same = atom_same a b x y is are same
node_same false a b x y is are same = parts_same a b x y (ap (length {A = ℕ}) (is ∙ sym are)) same

-- the parts behind a tag, and what stands behind them
pub form_parts : (first number node last x : List ℕ)
    → (first ++ (number ++ (node ++ last))) ++ x ≡ first ++ (number ++ (node ++ (last ++ x)))
form_parts first number node last x = simp append_assoc

-- what stands behind the first bytes of a form
pub behind_first : (f : Form) (i : ℕ) (first more whole rest : List ℕ) → length first ≡ f.first
    → (is : HasForm f whole i) → first ++ more ≡ whole ++ rest
    → (first ≡ is.first) × (more ≡ number_bytes f.count is.count ++ (is.node ++ (is.last ++ rest)))
behind_first f i first more whole rest long is same = parts_same first is.first more _
    (long ∙ sym is.first_len)
    (same ∙ ap (λ l. l ++ rest) is.bytes
    ∙ form_parts is.first (number_bytes f.count is.count) is.node is.last rest)

-- and behind the count
pub behind_count : (f : Form) (i : ℕ) (first : List ℕ) (count : ℕ) (more whole rest : List ℕ)
    → length first ≡ f.first → count < number_limit f.count → (is : HasForm f whole i)
    → first ++ (number_bytes f.count count ++ more) ≡ whole ++ rest
    → (first ≡ is.first) × (count ≡ is.count) × (more ≡ is.node ++ (is.last ++ rest))
behind_count f i first count more whole rest long fits is same =
    let firsts = behind_first f i first _ whole rest long is same in
    let counts = number_same f.count count is.count more (is.node ++ (is.last ++ rest)) fits is.fits
    firsts.1 in
    (firsts.0, counts.0, counts.1)

-- and behind the node
pub behind_named : (f : Form) (i : ℕ) (first : List ℕ) (count : ℕ) (node more whole rest : List ℕ)
    → length first ≡ f.first → count < number_limit f.count → IsNode f.node node
    → (is : HasForm f whole i)
    → first ++ (number_bytes f.count count ++ (node ++ more)) ≡ whole ++ rest
    → (first ≡ is.first) × (count ≡ is.count) × (node ≡ is.node) × (more ≡ is.last ++ rest)
behind_named f i first count node more whole rest long fits is_node is same =
    let counts = behind_count f i first count _ whole rest long fits is same in
    let nodes = node_same f.node node is.node more (is.last ++ rest) is_node is.is_node counts.2 in
    (counts.0, counts.1, nodes.0, nodes.1)

pub form_same : (f : Form) (a b x y : List ℕ) (i j : ℕ) → HasForm f a i → HasForm f b j
    → a ++ x ≡ b ++ y → (a ≡ b) × (i ≡ j) × (x ≡ y)
form_same f a b x y i j is are same =
    let parts = behind_named f j is.first is.count is.node (is.last ++ x) b y is.first_len is.fits
    is.is_node are (sym (form_parts is.first (number_bytes f.count is.count) is.node is.last x)
    ∙ ap (λ l. l ++ x) (sym is.bytes) ∙ same) in
    let lasts = parts_same is.last are.last x y
    (is.last_len ∙ ap (λ n. f.each * n + f.more) parts.1 ∙ sym are.last_len) parts.3 in (
      is.bytes ∙ (λ k. parts.0 k ++ (number_bytes f.count (parts.1 k) ++ (parts.2 k ++ lasts.0 k)))
          ∙ sym are.bytes,
      is.terms ∙ ap (λ n. f.terms_each * n + f.terms_more) parts.1 ∙ sym are.terms,
      lasts.1,
    )

-- bytes begin with one head at most
pub head_same : (a b x y : List ℕ) (i j : ℕ) → IsHead a i → IsHead b j → a ++ x ≡ b ++ y
    → (a ≡ b) × (i ≡ j) × (x ≡ y)
head_same a b x y i j is are same =
    let whole : tag_byte is.tag ∷ (is.body ++ x) ≡ tag_byte are.tag ∷ (are.body ++ y) =
    ap (λ l. l ++ x) (sym is.bytes) ∙ same ∙ ap (λ l. l ++ y) are.bytes in
    let tags = tag_same is.tag are.tag _ _ whole in
    let forms = form_same (form are.tag) is.body are.body x y i j
    (subst (λ t. HasForm (form t) is.body i) tags.0 is.has_form) are.has_form tags.1 in (
      is.bytes ∙ (λ k. tag_byte (tags.0 k) ∷ forms.0 k) ∙ sym are.bytes,
      forms.1,
      forms.2,
    )
