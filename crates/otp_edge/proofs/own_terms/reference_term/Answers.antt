use Rattle.otp_edge.proofs.Words.{refl}
use Rattle.otp_edge.proofs.own_terms.reference_term.Goals as goal

pub returns : goal.returns
returns c = rw (
  c.in_ok-put_reference.ensures.ok,
  c.new-term.ensures.items,
  c.deref.ensures.value,
  c.as_bytes.ensures.value,
  c.in_ok-extend_from_slice-3.ensures.items,
  c.in_ok-extend_from_slice-2.ensures.items,
  c.in_ok-extend_from_slice.ensures.items,
  c.new-words.ensures.items,
  c.to_be_bytes.ensures,
  c.to_be_bytes-2.ensures,
  c.to_be_bytes-3.ensures,
) refl
