use Rattle.scope_core.proofs
use proofs.Words.{ap, arith, length, length-append, stands, sym, take, take-append-le, tally, ◌∙◌}
use proofs.Outcomes.{from_not_err}
use proofs.HashedWrites.{grown_stands, grown_tally, stands_more}
use proofs.hashed_rows.HashedRows.hold.Goals as goal

pub loop-counted-preserved : goal.loop-counted-preserved
loop-counted-preserved c =
    let item = c.counted-item.result in
    let cur = c.loop-counted.self.rows in
    let more = c.args.more.now in
    let i = c.loop-counted.counted-index in
    let so_far = c.loop-counted.invariant in
    let put = from_not_err c.put.result
    (sym c.is_err.ensures.value ∙ c.if-is_err.false) c.put.ensures.ok in
    let len = ap length put in (
      ap (take c.len-len.result) put ∙ take-append-le c.len-len.result cur _ so_far.1 ∙ so_far.0,
      grind (arith, length-append),
      c.put.ensures.node ∙ so_far.2,
      λ test. ap (tally test) put ∙ grown_tally item.row test cur ∙ so_far.3 test,
      λ r. ap (stands r) put ∙ grown_stands item.row r cur
          ∙ (grind (arith, stands_more, so_far.4 r)),
    )
