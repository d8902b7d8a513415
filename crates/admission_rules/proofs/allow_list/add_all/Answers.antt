use Rattle.admission_rules.proofs
use Rattle.std.proofs.Common.{refl}
use proofs.NameLists.{insert_all_more}
use proofs.allow_list.add_all.Goals as goal

pub loop-name-preserved : goal.loop-name-preserved
loop-name-preserved c =
    let more = insert_all_more c.args.allowed.now.keys c.args.names.now c.loop-name.name-index
    _ c.loop-name-test.true c.name-item.is in
    rw (c.in_ok-insert.ensures.keys, more, c.loop-name.invariant, c.in_ok-try_clone.ensures) refl
