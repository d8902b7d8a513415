use Rattle.external_terms.proofs.Words.{append_assoc}
use Rattle.external_terms.proofs.writing.put_pid.Goals as goal

pub returns-clause-ok : goal.returns-clause-ok
returns-clause-ok c =
    rw (
      c.in_ok-extend_from_slice-4.ensures.items,
      c.in_ok-extend_from_slice-3.ensures.items,
      c.in_ok-extend_from_slice-2.ensures.items,
      c.in_ok-extend_from_slice.ensures.items,
      c.in_ok-push-3.ensures.items,
      c.in_ok-push-2.ensures.items,
      c.in_ok-push.ensures.items,
      c.reserve.ensures.items,
      c.to_be_bytes.ensures,
      c.to_be_bytes-2.ensures,
      c.to_be_bytes-3.ensures,
    ) (simp append_assoc)
