-- The only term that can have a text.
use Rattle.otp_edge.proofs
use Rattle.otp_edge.specs
use proofs.Words.{ap, arith, Bool, cond, drop, false, List, None, Option, refl, Some, sym, true, ℕ}
use proofs.Words.{◌∙◌, ◌≡◌}
use Rattle.std.specs.Prelude.{bytes_eq, get_or, not, ◌&&◌, ◌||◌}
use Rattle.std.proofs.Common.{inl, inr, ◌⊎◌}
use Rattle.std.proofs.lemmas.Bool.{and_parts, cond-true}
use Rattle.std.proofs.lemmas.Slice.Eq.{bytes_eq-Decides}
use Rattle.external_terms.specs.Values.{atom_bytes, binary_bytes}
use Rattle.hex.specs.Hex.{decode_of, encode_lower, IsBytes}
use Rattle.hex.proofs.HexLemmas.{decode_of-encode_lower}
use specs.Groups.{atom_text, binary_text, group_text, has_mark, hex_text, is_marked, IsTermOf}
use specs.Groups.{marked, or_else, text_or_none}
use specs.GroupTerms.{decoded, term_named}
use proofs.GroupLemmas.{mark_found, mark_none, text_some}

pub otherwise : (test : Bool) (a b : Option (List ℕ)) → test ≡ false → cond test a b ≡ b
otherwise true a b is = cc is
otherwise false a b is = refl

pub named_binary : (text bytes : List ℕ) → text ≡ marked 0x62 bytes
    → term_named text ≡ Some (binary_bytes bytes)
unfolding term_named
named_binary text bytes is = ap term_named is
    ∙ cond-true (has_mark 0x62 (marked 0x62 bytes)) (Some (binary_bytes bytes)) _
    (mark_found 0x62 (marked 0x62 bytes) bytes refl)

pub named_hex : (text digits : List ℕ) → has_mark 0x62 text ≡ false → text ≡ marked 0x78 digits
    → term_named text ≡ decoded (decode_of digits)
unfolding term_named
named_hex text digits other is = otherwise (has_mark 0x62 text) _ _ other
    ∙ cond-true (has_mark 0x78 text) _ _ (mark_found 0x78 text digits is)
    ∙ ap (λ l. decoded (decode_of (drop 3 l))) is

pub named_atom : (text : List ℕ) → has_mark 0x62 text ≡ false → has_mark 0x78 text ≡ false
    → term_named text ≡ Some (atom_bytes text)
unfolding term_named
named_atom text other neither = otherwise (has_mark 0x62 text) _ _ other
    ∙ otherwise (has_mark 0x78 text) _ _ neither

-- ---- a text says which of the three it is

abbrev IsOf : Option (List ℕ) → Option (List ℕ) → Option (List ℕ) → List ℕ → Type 0
IsOf a b c g = (a ≡ Some g) ⊎ ((b ≡ Some g) ⊎ (c ≡ Some g))

one_of : (a b c : Option (List ℕ)) (g : List ℕ) → or_else a (or_else b c) ≡ Some g → IsOf a b c g
one_of (Some x) b c g is = inl is
one_of None (Some y) c g is = inr (inl is)
one_of None None c g is = inr (inr is)

chosen_some : (test : Bool) (o : Option (List ℕ)) (g : List ℕ) → cond test o None ≡ Some g
    → (test ≡ true) × (o ≡ Some g)
chosen_some true o g is = (refl, is)
chosen_some false o g is = cc is

not_marked : (a b : Bool) → not (a || b) ≡ true → (a ≡ false) × (b ≡ false)
not_marked true b is = cc is
not_marked false true is = cc is
not_marked false false is = (refl, refl)

from_atom : (term g : List ℕ) → atom_text term ≡ Some g → term_named g ≡ Some term
from_atom term g is =
    let parts = chosen_some (bytes_eq (atom_bytes (drop 2 term)) term
    && not (is_marked (drop 2 term)))
    (text_or_none (drop 2 term)) g is in
    let tests = and_parts _ _ parts.0 in
    let same = (text_some (drop 2 term) g parts.1).1 in
    let plain = not_marked (has_mark 0x62 (drop 2 term)) (has_mark 0x78 (drop 2 term)) tests.1 in
    ap term_named (sym same) ∙ named_atom (drop 2 term) plain.0 plain.1
    ∙ ap Some ((bytes_eq-Decides (atom_bytes (drop 2 term)) term).0 tests.0)

from_binary : (term g : List ℕ) → binary_text term ≡ Some g → term_named g ≡ Some term
from_binary term g is =
    let parts = chosen_some (bytes_eq (binary_bytes (drop 5 term)) term)
    (text_or_none (marked 0x62 (drop 5 term))) g is in
    let same = (text_some (marked 0x62 (drop 5 term)) g parts.1).1 in
    named_binary g (drop 5 term) (sym same)
    ∙ ap Some ((bytes_eq-Decides (binary_bytes (drop 5 term)) term).0 parts.0)

other_mark : (text : List ℕ) → has_mark 0x62 (marked 0x78 text) ≡ false
other_mark text = mark_none 0x62 (marked 0x78 text) (λ rest is.
    let bad = ap (λ l. get_or l 1 0) is in absurd (omega (arith, bad)))

from_hex : (term g : List ℕ) → IsBytes term → hex_text term ≡ Some g → term_named g ≡ Some term
from_hex term g bytes is =
    let same = (text_some (marked 0x78 (encode_lower term)) g is).1 in
    ap term_named (sym same)
    ∙ named_hex (marked 0x78 (encode_lower term)) (encode_lower term)
    (other_mark (encode_lower term)) refl
    ∙ ap decoded (decode_of-encode_lower term bytes)

from_any : (term g : List ℕ) → IsBytes term
    → IsOf (atom_text term) (binary_text term) (hex_text term) g → term_named g ≡ Some term
from_any term g bytes (inl is) = from_atom term g is
from_any term g bytes (inr (inl is)) = from_binary term g is
from_any term g bytes (inr (inr is)) = from_hex term g bytes is

pub only_named : (term g : List ℕ) → IsTermOf term g → term_named g ≡ Some term
unfolding group_text
only_named term g is = from_any term g is.bytes
    (one_of (atom_text term) (binary_text term) (hex_text term) g is.text)

pub some_same : (s t : List ℕ) → Some s ≡ Some t → s ≡ t
some_same s t is = cc is
