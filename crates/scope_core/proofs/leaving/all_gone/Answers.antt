use Rattle.scope_core.proofs
use proofs.Words.{take_all, ◌∙◌}
use proofs.Between.{all_emptied}
use proofs.leaving.all_gone.Goals as goal

pub returns : goal.returns
returns c =
    let named =
    take_all c.loop-group.group-index c.deref-group-items.result.now c.loop-group-test.false
    ∙ c.deref-group-items.ensures.value in
    all_emptied c.args.rows.now c.in_ok-groups.groups.items c.loop-group.changes.items
    c.in_ok-groups.ensures (c.loop-group.invariant.names ∙ named) c.loop-group.invariant.emptied
