use Rattle.node_threads.specs
use Rattle.std.proofs.Common.{subst, sym}
use Rattle.node_core.specs.Recorded.{Recorded}
use specs.Room.{recorded}
use specs.Closing.{IsClosed}
use Rattle.node_threads.proofs.node.Node.close.Goals as goal

pub returns-in-Ok-clause-ok : goal.returns-in-Ok-clause-ok
returns-in-Ok-clause-ok c =
    let room = c.into_inner.result in
    let closed : IsClosed (recorded room) c.args.passes.items =
    (room.counts, c.close.ensures.sound, c.in-Ok.ensures.ok.1) in
    let of_core = subst (λ (n : Recorded). IsClosed n c.args.passes.items)
    (sym c.in-Ok.ensures.ok.0)
    closed in (
      subst (λ ps. IsClosed c.in-Ok.closed.core ps.items) (sym c.in-Ok.ensures.passes) of_core,
      c.in-Ok.ensures.passes,
    )
