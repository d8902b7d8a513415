use Rattle.link_frames.proofs
use proofs.Words.{arith, flat_map, length, row_bytes, sym, ◌∙◌}
use proofs.DecodingLemmas.{found_not_refused}
use Rattle.link_frames.proofs.decoding.rows_at.Goals as goal

pub returns-in_err-count-clause-only : goal.returns-in_err-count-clause-only
returns-in_err-count-clause-only c =
    λ rows are bytes. absurd
    (found_not_refused _ _ _ _ (c.u32_at.ensures.only (length rows) (flat_map row_bytes rows)
    (omega arith) bytes) (sym c.ok_or.ensures.value ∙ c.in_err-count.was))
