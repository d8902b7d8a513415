-- Which text a term has, and which terms can have a text.
use Rattle.otp_edge.proofs
use Rattle.otp_edge.specs
use proofs.Words.{ap, arith, Bool, cond, drop, false, length, List, None, Option, refl, Some, sym}
use proofs.Words.{true, ℕ, ◌<◌, ◌^◌, ◌∙◌, ◌≡◌, ◌≢◌, ◌≤◌}
use Rattle.std.specs.Prelude.{bytes_eq, not, ◌&&◌}
use Rattle.std.proofs.lemmas.Bool.{and_from, cond-true}
use Rattle.std.proofs.lemmas.Option.{cond_some}
use Rattle.std.proofs.lemmas.Slice.Eq.{bytes_eq-Decides}
use Rattle.dist_types.proofs.LimitLemmas.{texts_compute}
use Rattle.dist_types.specs.Text.{is_text, IsText}
use Rattle.dist_types.specs.Fault.{IsTextFault}
use Rattle.dist_types.specs.declared.fault.TextFault.{TextFault}
use Rattle.external_terms.specs.Values.{atom_bytes, binary_bytes}
use Rattle.hex.specs.Hex.{encode_lower, lower_digits}
use Rattle.hex.proofs.HexLemmas.{length-encode_with}
use specs.Groups.{atom_text, binary_text, group_text, has_mark, hex_text, is_marked, marked}
use specs.Groups.{or_else, text_or_none}
use Rattle.dist_types.specs.declared.fault.TextFault.TheVariants as faults

-- ---- texts

pub text_is : (bytes : List ℕ) → IsText bytes → text_or_none bytes ≡ Some bytes
text_is bytes is = cond-true (is_text bytes) (Some bytes) None ((texts_compute bytes).1 is)

by_test : (test : Bool) (bytes : List ℕ) → test ≢ true → cond test (Some bytes) None ≡ None
by_test true bytes other = absurd (other refl)
by_test false bytes other = refl

pub no_text : (bytes : List ℕ) → ¬ IsText bytes → text_or_none bytes ≡ None
no_text bytes other = by_test (is_text bytes) bytes (λ is. other ((texts_compute bytes).0 is))

fault_tells : (fault : TextFault) (bytes : List ℕ) → IsTextFault fault bytes
    → fault ≢ faults.OutOfMemory → ¬ IsText bytes
fault_tells faults.Empty bytes is other text = let some = text.not_empty in
    omega (arith, ap (length {A = ℕ}) is)
fault_tells faults.TooLong bytes is other text = let short = text.not_long in omega arith
fault_tells faults.BadByte bytes is other text = is.2 text.visible
fault_tells faults.BadAt bytes is other text = is
fault_tells faults.OutOfMemory bytes is other text = other refl

pub refused_text : (fault : TextFault) (bytes : List ℕ) → IsTextFault fault bytes
    → fault ≢ faults.OutOfMemory → text_or_none bytes ≡ None
refused_text fault bytes is other = no_text bytes (fault_tells fault bytes is other)

pub text_some : (bytes text : List ℕ) → text_or_none bytes ≡ Some text
    → IsText bytes × (bytes ≡ text)
text_some bytes text some = let parts = cond_some (is_text bytes) bytes text some in
    ((texts_compute bytes).0 parts.0, parts.1)

-- ---- tests

bytes_same : (bytes : List ℕ) → bytes_eq bytes bytes ≡ true
bytes_same bytes = (bytes_eq-Decides bytes bytes).1 refl

not_true : (test : Bool) → (test ≡ true → ⊥) → test ≡ false
not_true true other = absurd (other refl)
not_true false other = refl

pub mark_found : (letter : ℕ) (text rest : List ℕ) → text ≡ marked letter rest
    → has_mark letter text ≡ true
mark_found letter text rest is =
    (bytes_eq-Decides (marked letter (drop 3 text)) text).1
    (ap (λ l. marked letter (drop 3 l)) is ∙ sym is)

pub mark_none : (letter : ℕ) (text : List ℕ) → ((rest : List ℕ) → text ≢ marked letter rest)
    → has_mark letter text ≡ false
mark_none letter text other = not_true (has_mark letter text) (λ is. other (drop 3 text)
    (sym ((bytes_eq-Decides (marked letter (drop 3 text)) text).0 is)))

chosen : (test : Bool) (a b : Option (List ℕ)) → test ≡ true → cond test a b ≡ a
chosen test a b is = cond-true test a b is

other_one : (test : Bool) (a b : Option (List ℕ)) → test ≡ false → cond test a b ≡ b
other_one true a b is = cc is
other_one false a b is = refl

-- ---- an atom, a binary, any term

pub atom_found : (term text : List ℕ) → term ≡ atom_bytes text → is_marked text ≡ false
    → atom_text term ≡ text_or_none text
atom_found term text is plain = ap atom_text is ∙ chosen _ (text_or_none text) None
    (and_from _ _ (bytes_same (atom_bytes text)) (ap not plain))

and_false : (a b : Bool) → b ≡ false → (a && b) ≡ false
and_false true b is = is
and_false false b is = refl

false_and : (a b : Bool) → a ≡ false → (a && b) ≡ false
false_and true b is = cc is
false_and false b is = refl

pub atom_marked : (term text : List ℕ) → term ≡ atom_bytes text → is_marked text ≡ true
    → atom_text term ≡ None
atom_marked term text is mark = ap atom_text is ∙ other_one _ (text_or_none text) None
    (and_false _ _ (ap not mark))

pub atom_none : (term : List ℕ) → ((text : List ℕ) → term ≢ atom_bytes text)
    → atom_text term ≡ None
atom_none term other = other_one _ _ None (false_and _ _ (not_true _
    (λ is. other (drop 2 term) (sym ((bytes_eq-Decides (atom_bytes (drop 2 term)) term).0 is)))))

pub binary_found : (term bytes : List ℕ) → term ≡ binary_bytes bytes
    → binary_text term ≡ text_or_none (marked 0x62 bytes)
binary_found term bytes is = ap binary_text is ∙ chosen _ (text_or_none (marked 0x62 bytes))
    None (bytes_same (binary_bytes bytes))

long_marked : (letter : ℕ) (bytes : List ℕ) → IsText (marked letter bytes) → length bytes ≤ 252
long_marked letter bytes is = let long = is.not_long in omega arith

none_by : (test : Bool) (o : Option (List ℕ)) → (test ≡ true → o ≡ None) → cond test o None ≡ None
none_by true o none = none refl
none_by false o none = refl

pub binary_none : (term : List ℕ)
    → ((bytes : List ℕ) → length bytes < 2 ^ 32 → term ≢ binary_bytes bytes)
    → binary_text term ≡ None
binary_none term other = none_by _ _ (λ is. no_text _ (λ text.
    let few = long_marked 0x62 (drop 5 term) text in
    other (drop 5 term) (omega arith)
    (sym ((bytes_eq-Decides (binary_bytes (drop 5 term)) term).0 is))))

pub hex_long : (term : List ℕ) → 126 < length term → hex_text term ≡ None
hex_long term long = no_text _ (λ text.
    let few = long_marked 0x78 (encode_lower term) text in
    let twice = length-encode_with lower_digits term in omega arith)

-- ---- a term's text

pub first_text : (a b : Option (List ℕ)) (x : List ℕ) → a ≡ Some x → or_else a b ≡ Some x
first_text (Some y) b x is = is
first_text None b x is = cc is

pub second_text : (a b : Option (List ℕ)) → a ≡ None → or_else a b ≡ b
second_text (Some y) b is = cc is
second_text None b is = refl

pub by_atom : (term text : List ℕ) → atom_text term ≡ Some text → group_text term ≡ Some text
unfolding group_text
by_atom term text is = first_text _ _ text is

pub by_binary : (term text : List ℕ) → atom_text term ≡ None → binary_text term ≡ Some text
    → group_text term ≡ Some text
unfolding group_text
by_binary term text none is = second_text _ _ none ∙ first_text _ _ text is

pub by_hex : (term : List ℕ) → atom_text term ≡ None → binary_text term ≡ None
    → group_text term ≡ hex_text term
unfolding group_text
by_hex term none neither = second_text _ _ none ∙ second_text _ _ neither
