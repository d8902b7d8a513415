use Rattle.node_core.proofs
use proofs.Words.{append-nil, arith, cond, count_but, is_empty, not, sym, take, take_more, vec_len}
use proofs.Words.{[], ◌++◌, ◌∙◌, ◌∷◌, ◌≡◌}
use proofs.Partings.{none_by, one_parting}
use proofs.changes.changes_of.Goals as goal

pub loop-running-preserved : goal.loop-running-preserved
loop-running-preserved c =
    let more = take_more c.args.scopes.now c.loop-running.running-index c.running-item.result
    c.loop-running-test.true in
    let groups = c.in_ok-groups.groups.items in
    let none = sym (none_by groups (vec_len c.in_ok-groups.groups) (omega arith))
    ∙ sym c.is_empty.ensures in
    let grown : c.if-not-is_empty.changes.items
    ≡ c.loop-running.changes.items ++ cond (not (is_empty groups))
    (record { scope = c.running-item.result.scope; groups = groups } ∷ []) [] =
    grind (arith, none, append-nil c.loop-running.changes.items, c.if-not-is_empty.branch) in
    rw (more, ← c.running-item.is, grown) (one_parting (count_but c.args.leaving)
    (take c.loop-running.running-index c.args.scopes.now) c.loop-running.changes.items
    c.running-item.result groups c.loop-running.invariant c.in_ok-groups.ensures)
