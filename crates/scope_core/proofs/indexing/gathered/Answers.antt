use Rattle.scope_core.proofs
use proofs.Words.{arith, length, mentions, ◌<◌}
use proofs.GroupNodes.{times_once}
use proofs.Indexed.{all_below, gather_more}
use proofs.indexing.gathered.Goals as goal

pub loop-node-preserved : goal.loop-node-preserved
loop-node-preserved c =
    let nodes = c.args.nodes.now in
    let i = c.loop-node.node-index in
    let within : i < length nodes = omega arith in (
      gather_more nodes i c.node-item.result within c.node-item.is
          (times_once nodes c.requires) c.args.group.now c.args.lists.now
          (λ p. mentions p c.loop-node.pids.items) (λ p. mentions p c.push_members.new.pids.items)
          c.loop-node.invariant.0 c.in_ok-push_members.ensures.counts,
      c.in_ok-push_members.ensures.ascends
          (all_below nodes i c.node-item.result within c.node-item.is c.requires
          c.args.group.now c.args.lists.now c.loop-node.pids.items c.loop-node.invariant.0)
          c.loop-node.invariant.1,
    )
