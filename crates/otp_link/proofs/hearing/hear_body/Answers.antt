use Rattle.otp_link.proofs
use proofs.Cuts.{follows_as}
use Rattle.otp_link.proofs.hearing.hear_body.Goals as goal

-- it is cut by the table's counts
pub returns-clause-heard : goal.returns-clause-heard
returns-clause-heard g c =
    let cut = rw c.deref.ensures.value at c.in_ok-cut.ensures in (
      c.in_ok-heard.heard,
      c.in_ok-heard.ensures.hears,
      follows_as (g.T.Table.lists c.args.table.now) c.in_ok-counts.counts.items
          c.in_ok-heard.heard c.in_ok-cut.cut c.in_ok-counts.ensures cut,
    )
