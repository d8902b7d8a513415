use Rattle.otp_edge.proofs
use proofs.Words.{ap, arith, ◌+◌, ◌∙◌}
use Rattle.otp_edge.specs.Tallies.{counted, once}
use proofs.RowTallies.{put_once, put_some}
use Rattle.otp_edge.proofs.row_tally.RowTally.put.Goals as goal

pub invariant_of-self-2 : goal.invariant_of-self-2
invariant_of-self-2 c =
    put_some c.self.inside.counts.entries c.insert.new.self.entries c.in_ok-try_clone.field-0
    (c.get-count.result + 1) (omega arith) c.in_ok-insert.ensures.updates.0 c.self.invariant

pub returns-clause-ok : goal.returns-clause-ok
returns-clause-ok c = λ r.
    let key = c.in_ok-try_clone.field-0 in
    put_once c.self.inside.counts.entries c.insert.new.self.entries key (c.get-count.result + 1)
    (grind (arith, c.get-count.ensures, c.self.view_is, c.in_ok-try_clone.ensures))
    c.in_ok-insert.ensures.updates.0 r
    ∙ ap (λ es. counted r es + once r key) c.self.view_is
    ∙ ap (λ k. counted r c.args.self.now + once r k) c.in_ok-try_clone.ensures
