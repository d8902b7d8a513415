use Rattle.node_threads.proofs
use Rattle.std.proofs.Common.{None, Some}
use proofs.Openings.{not_used, opens_then}
use proofs.Drawn.{ended_drawn, opened_drawn}
use Rattle.node_threads.proofs.opening.open_next.Goals as goal

pub returns-in-Link-clause-ok : goal.returns-in-Link-clause-ok
returns-in-Link-clause-ok g c =
    rw c.new.ensures.0 (opens_then (Some c.in-Link.link) c.args.reader.now c.loop.reader
    c.open_or_hang_up.new.reader c.loop.invariant.0 c.in-Link.ensures.0)

pub returns-in-Link-clause-drawn : goal.returns-in-Link-clause-drawn
returns-in-Link-clause-drawn g c =
    opened_drawn _ _ _ _ c.args.reader.now c.loop.reader c.open_or_hang_up.new.reader
    c.loop.invariant.0 c.loop.invariant.1 c.draw.ensures (Some c.in-Link.link) c.in-Link.ensures.0
    c.in-Link.ensures.1

pub returns-in-End-clause-none : goal.returns-in-End-clause-none
returns-in-End-clause-none g c = (
  opens_then None c.args.reader.now c.loop.reader c.open_or_hang_up.new.reader c.loop.invariant.0
      c.in-End.ensures.0,
  not_used c.in-End.end c.in-End.ensures.1,
)

pub returns-in-End-clause-left : goal.returns-in-End-clause-left
returns-in-End-clause-left g c =
    ended_drawn _ _ _ _ c.args.reader.now c.loop.reader c.open_or_hang_up.new.reader
    c.loop.invariant.0 c.loop.invariant.1 c.draw.ensures c.in-End.end c.in-End.ensures.0
    c.in-End.ensures.1
    c.in-End.ensures.2

pub loop-preserved : goal.loop-preserved
loop-preserved g c = (
  opens_then None c.args.reader.now c.loop.reader c.open_or_hang_up.new.reader c.loop.invariant.0
      c.in-Refused.ensures.0,
  opened_drawn _ _ _ _ c.args.reader.now c.loop.reader c.open_or_hang_up.new.reader
      c.loop.invariant.0 c.loop.invariant.1 c.draw.ensures None c.in-Refused.ensures.0
      c.in-Refused.ensures.1,
)
