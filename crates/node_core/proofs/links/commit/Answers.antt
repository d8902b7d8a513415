use Rattle.node_core.proofs.Words.{arith, committed, get_or, get_or_default}
use Rattle.std.proofs.lemmas.List.Edits.{map_over_more}
use Rattle.node_core.proofs.links.commit.Goals as goal

pub loop-link-preserved : goal.loop-link-preserved
loop-link-preserved c =
    let it = get_or c.loop-link.link-items c.loop-link.link-index c.link-item.result in
    rw c.commit.ensures (map_over_more committed c.args.links.now.items c.loop-link.link-items
    c.loop-link.link-index it (omega arith) c.loop-link.invariant
    (get_or_default c.loop-link.link-items c.loop-link.link-index c.link-item.result it
    (omega arith)))
