use Rattle.node_core.proofs
use proofs.Words.{subst, sym, [], ◌∙◌}
use Rattle.dist_types.specs.Difference.{change_unless_empty}
use proofs.AllLost.{none_ends}
use proofs.OwnChanges.{AreAllProper, ending_weaker, ok_weaker, one_proper, own_leave}
use proofs.membership.leave_ending.Goals as goal

pub returns-then-not-is_any_overfull : goal.returns-then-not-is_any_overfull
returns-then-not-is_any_overfull c =
    none_ends c.args.links.now (sym c.is_any_overfull.ensures ∙ c.if-not-is_any_overfull.true)

pub ending_with-requires : goal.ending_with-requires
ending_with-requires c =
    let own = own_leave c.args.running.now c.args.group.now c.args.pids.now c.requires
    c.in_ok-left.left.items c.in_ok-left.ensures.value in
    subst AreAllProper
    (sym (c.deref.ensures.value ∙ (rw c.new.ensures.items at c.in_ok-own.ensures)))
    (one_proper c.args.running.now.scope _ own.proper)

pub returns : goal.returns
returns c =
    let own = own_leave c.args.running.now c.args.group.now c.args.pids.now c.requires
    c.in_ok-left.left.items c.in_ok-left.ensures.value in
    ok_weaker c.ending_with.result c.ending_with.ensures (λ o t. ending_weaker
    (λ cs is. record {
      groups = change_unless_empty c.args.group.now c.in_ok-left.left.items [];
      difference = own;
      changes = is ∙ c.deref.ensures.value ∙ (rw c.new.ensures.items at c.in_ok-own.ensures);
    })
    _ _ _ o t)
