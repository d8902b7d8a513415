-- The parts of values, one behind the other, and that values are terms.
use Rattle.external_terms.proofs
use Rattle.external_terms.specs
use proofs.Words.{ap, append-nil, append_assoc, arith, bytes_of, IsAtom, IsHead, length, List, next}
use proofs.Words.{none, refl, SpellsTerm, SpellsTerms, subst, sym, to_be_bytes, w16, w32, ℕ, []}
use proofs.Words.{◌++◌, ◌+◌, ◌<◌, ◌^◌, ◌∙◌, ◌∷◌, ◌≡◌}
use specs.Values.{atom_bytes, binary_bytes, list_head, nil_bytes, numbers_bytes, Process}
use specs.Values.{process_bytes, ProcessFits, Reference, reference_bytes, ReferenceFits}
use specs.Values.{small_integer_bytes, tuple_head}
use specs.declared.tag.Tag.TheVariants as tags
use specs.declared.form.Width.TheVariants as widths

-- what stands behind the node of a process, behind its id, and behind its serial
abbrev pub after_serial : Process → List ℕ → List ℕ
after_serial p rest = to_be_bytes w32 p.creation ++ rest

abbrev pub after_id : Process → List ℕ → List ℕ
after_id p rest = to_be_bytes w32 p.serial ++ after_serial p rest

abbrev pub after_node : Process → List ℕ → List ℕ
after_node p rest = to_be_bytes w32 p.id ++ after_id p rest

pub process_parts : (p : Process) (rest : List ℕ) → process_bytes p ++ rest ≡ 88 ∷ (atom_bytes
    p.node ++ after_node p rest)
process_parts p rest = simp append_assoc

-- what stands behind the creation of a reference, behind its node, and behind its count
abbrev pub after_name : Reference → List ℕ → List ℕ
after_name r rest = to_be_bytes w32 r.creation ++ (r.words ++ rest)

abbrev pub after_count : Reference → List ℕ → List ℕ
after_count r rest = atom_bytes r.node ++ after_name r rest

pub reference_parts : (r : Reference) (rest : List ℕ) → reference_bytes r ++ rest ≡ 90 ∷
    (to_be_bytes w16 r.count ++ after_count r rest)
reference_parts r rest = simp append_assoc

-- ---- the values are terms

-- a head, and as many terms as it says
pub one_term : (head bytes : List ℕ) (inside : ℕ) → IsHead head inside
    → SpellsTerms inside bytes → SpellsTerm (head ++ bytes)
one_term head bytes inside is are = record {
  terms = next head are.terms none;
  are = (subst (IsHead head) (sym are.counted) is, are.are, tt);
  counted = refl;
  spelled = ap (λ l. head ++ l) (are.spelled ∙ sym (append-nil (bytes_of are.terms)));
}

pub leaf : (head : List ℕ) → IsHead head 0 → SpellsTerm head
leaf head is = subst SpellsTerm (append-nil head)
    (one_term head [] 0 is (record { terms = none; are = tt; counted = refl; spelled = refl }))

pub small_integer_term : (n : ℕ) → SpellsTerm (small_integer_bytes n)
small_integer_term n = leaf (small_integer_bytes n) (record {
  tag = tags.SmallInteger;
  body = n ∷ [];
  has_form = record {
    first = [];
    count = 0;
    node = [];
    last = n ∷ [];
    first_len = refl;
    fits = omega arith;
    is_node = refl;
    last_len = refl;
    terms = refl;
    bytes = refl;
  };
  bytes = refl;
})

pub nil_term : SpellsTerm nil_bytes
nil_term = leaf nil_bytes (record {
  tag = tags.Nil;
  body = [];
  has_form = record {
    first = [];
    count = 0;
    node = [];
    last = [];
    first_len = refl;
    fits = omega arith;
    is_node = refl;
    last_len = refl;
    terms = refl;
    bytes = refl;
  };
  bytes = refl;
})

pub atom_is : (text : List ℕ) → length text < 2 ^ 8 → IsAtom (atom_bytes text)
atom_is text fits = record {
  width = widths.One;
  byte = 119;
  body = length text ∷ text;
  tagged = refl;
  counted = record { text = text; fits = fits; bytes = refl };
  bytes = refl;
}

pub atom_term : (text : List ℕ) → length text < 2 ^ 8 → SpellsTerm (atom_bytes text)
atom_term text fits = leaf (atom_bytes text) (record {
  tag = tags.SmallAtomUtf8;
  body = length text ∷ text;
  has_form = record {
    first = [];
    count = length text;
    node = [];
    last = text;
    first_len = refl;
    fits = fits;
    is_node = refl;
    last_len = omega arith;
    terms = omega arith;
    bytes = refl;
  };
  bytes = refl;
})

pub numbers_term : (numbers : List ℕ) → length numbers < 2 ^ 16 → SpellsTerm (numbers_bytes numbers)
numbers_term numbers fits = leaf (numbers_bytes numbers) (record {
  tag = tags.String;
  body = to_be_bytes w16 (length numbers) ++ numbers;
  has_form = record {
    first = [];
    count = length numbers;
    node = [];
    last = numbers;
    first_len = refl;
    fits = fits;
    is_node = refl;
    last_len = omega arith;
    terms = omega arith;
    bytes = refl;
  };
  bytes = refl;
})

pub binary_term : (binary : List ℕ) → length binary < 2 ^ 32 → SpellsTerm (binary_bytes binary)
binary_term binary fits = leaf (binary_bytes binary) (record {
  tag = tags.Binary;
  body = to_be_bytes w32 (length binary) ++ binary;
  has_form = record {
    first = [];
    count = length binary;
    node = [];
    last = binary;
    first_len = refl;
    fits = fits;
    is_node = refl;
    last_len = omega arith;
    terms = omega arith;
    bytes = refl;
  };
  bytes = refl;
})

pub process_term : (p : Process) → ProcessFits p → SpellsTerm (process_bytes p)
process_term p fits =
    let last = to_be_bytes w32 p.id ++ (to_be_bytes w32 p.serial ++ to_be_bytes w32 p.creation) in
    leaf (process_bytes p) (record {
      tag = tags.NewPid;
      body = atom_bytes p.node ++ last;
      has_form = record {
        first = [];
        count = 0;
        node = atom_bytes p.node;
        last = last;
        first_len = refl;
        fits = omega arith;
        is_node = atom_is p.node fits.node;
        last_len = refl;
        terms = refl;
        bytes = refl;
      };
      bytes = refl;
    })

pub reference_term : (r : Reference) → ReferenceFits r → SpellsTerm (reference_bytes r)
reference_term r fits =
    let last = to_be_bytes w32 r.creation ++ r.words in
    leaf (reference_bytes r) (record {
      tag = tags.NewerReference;
      body = to_be_bytes w16 r.count ++ (atom_bytes r.node ++ last);
      has_form = record {
        first = [];
        count = r.count;
        node = atom_bytes r.node;
        last = last;
        first_len = refl;
        fits = fits.count;
        is_node = atom_is r.node fits.node;
        last_len = omega (arith, fits.words);
        terms = omega arith;
        bytes = refl;
      };
      bytes = refl;
    })

pub tuple_term : (arity : ℕ) (bytes : List ℕ) → arity < 2 ^ 8 → SpellsTerms arity bytes
    → SpellsTerm (tuple_head arity ++ bytes)
tuple_term arity bytes fits are = one_term (tuple_head arity) bytes arity (record {
  tag = tags.SmallTuple;
  body = arity ∷ [];
  has_form = record {
    first = [];
    count = arity;
    node = [];
    last = [];
    first_len = refl;
    fits = fits;
    is_node = refl;
    last_len = omega arith;
    terms = omega arith;
    bytes = refl;
  };
  bytes = refl;
}) are

pub list_term : (count : ℕ) (bytes : List ℕ) → count < 2 ^ 32 → SpellsTerms (count + 1) bytes
    → SpellsTerm (list_head count ++ bytes)
list_term count bytes fits are = one_term (list_head count) bytes (count + 1) (record {
  tag = tags.List;
  body = to_be_bytes w32 count;
  has_form = record {
    first = [];
    count = count;
    node = [];
    last = [];
    first_len = refl;
    fits = fits;
    is_node = refl;
    last_len = omega arith;
    terms = omega arith;
    bytes = refl;
  };
  bytes = refl;
}) are
