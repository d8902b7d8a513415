-- The limits of the texts, as facts and as tests that compute.
use Rattle.dist_types.specs
use Rattle.std.proofs.Common.{ap, arith, Err, false, IfErr, IsErr, IsTrue, length, List}
use Rattle.std.proofs.Common.{MatchResult, Ok, refl, Result, true, ℕ, ◌-◌, ◌<◌, ◌↔◌, ◌≡◌, ◌≢◌}
use Rattle.std.proofs.lemmas.Bool.{and_from, and_parts}
use Rattle.std.proofs.lemmas.List.Sums.{AllPass-from_list_all, list_all-from_AllPass}
use Rattle.std.proofs.lemmas.Option.{slice_get-get_or}
use Rattle.std.specs.List.{list_all}
use specs.declared.fault.TextFault.{TextFault}
use specs.Fault.{IsNameFault}
use specs.Text.{has_inner_at, HasInnerAt, is_node_name, is_text, is_text_byte, IsNodeName, IsText}
use specs.declared.fault.TextFault.TheVariants as faults

pub texts_compute : (bytes : List ℕ) → IsTrue (is_text bytes) ↔ IsText bytes
texts_compute bytes = (
  λ h. let visible : list_all is_text_byte bytes ≡ true = grind arith in
      record {
        not_empty = grind arith;
        not_long = grind arith;
        visible = λ k d inside.
            grind (arith, AllPass-from_list_all is_text_byte bytes visible k d inside);
      },
  λ h. let visible = list_all-from_AllPass is_text_byte bytes
      (λ k d inside. grind (arith, h.visible k d inside)) in grind arith,
)

inner_at_computes : (bytes : List ℕ) → 0 < length bytes
    → IsTrue (has_inner_at bytes) ↔ HasInnerAt bytes
inner_at_computes bytes some = let first = slice_get-get_or bytes 0 0 some in let last =
    slice_get-get_or bytes (length bytes - 1) 0 (omega arith) in (
      λ h. record { one = grind arith; not_first = λ e. grind arith; not_last = λ e. grind arith },
      λ h. grind arith,
    )

pub names_compute : (bytes : List ℕ) → IsTrue (is_node_name bytes) ↔ IsNodeName bytes
names_compute bytes = (
  λ h. let parts = and_parts _ _ h in let text = (texts_compute bytes).0 parts.0 in
      record { text = text; at = (inner_at_computes bytes text.not_empty).0 parts.1 },
  λ h. and_from _ _ ((texts_compute bytes).1 h.text)
      ((inner_at_computes bytes h.text.not_empty).1 h.at),
)

-- a fault other than want of memory tells that the bytes are no name
fault_tells : (fault : TextFault) (bytes : List ℕ) → IsNameFault fault bytes
    → fault ≢ faults.OutOfMemory → ¬ IsNodeName bytes
fault_tells faults.Empty bytes is other name = let some = name.text.not_empty in
    omega (arith, ap (length {A = ℕ}) is)
fault_tells faults.TooLong bytes is other name = let short = name.text.not_long in omega arith
fault_tells faults.BadByte bytes is other name = is.2 name.text.visible
fault_tells faults.BadAt bytes is other name = is.1 name.at
fault_tells faults.OutOfMemory bytes is other name = other refl

pub refused_name : (fault : TextFault) (bytes : List ℕ) → IsNameFault fault bytes
    → fault ≢ faults.OutOfMemory → is_node_name bytes ≡ false
refused_name fault bytes is other =
    grind (arith, fault_tells fault bytes is other, (names_compute bytes).0)

pub tells_no_name : {T : Type 0} (bytes : List ℕ) (r : Result T TextFault) → IsErr r
    → IfErr r (λ fault. IsNameFault fault bytes)
    → MatchResult r (λ t. is_node_name bytes ≡ true) (λ fault. fault ≢ faults.OutOfMemory
    → is_node_name bytes ≡ false)
tells_no_name bytes (Ok t) failed is = let bad : false ≡ true = failed in absurd (cc)
tells_no_name bytes (Err fault) failed is = refused_name fault bytes is
