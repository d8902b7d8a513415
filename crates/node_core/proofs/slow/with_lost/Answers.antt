use Rattle.node_core.proofs
use proofs.Words.{append-nil, arith, Change, cond, is_empty, not, sym, take, take_more, vec_len, []}
use proofs.Words.{◌++◌, ◌∙◌, ◌∷◌, ◌≡◌}
use Rattle.node_core.specs.Ending.{is_stopped}
use proofs.Partings.{none_by}
use proofs.AllLost.{one_loss}
use proofs.slow.with_lost.Goals as goal

pub loop-running-preserved : goal.loop-running-preserved
loop-running-preserved c =
    let scopes = c.args.scopes.now in
    let index = c.loop-running.running-index in
    let running = c.running-item.result in
    let groups = c.in_ok-groups.groups.items in
    let before = c.loop-running.changes.items in
    let none = sym (none_by groups (vec_len c.in_ok-groups.groups) (omega arith))
    ∙ sym c.is_empty.ensures in
    let change : Change = record { scope = running.scope; groups = groups } in
    let grown : c.if-not-is_empty.changes.items
    ≡ before ++ cond (not (is_empty groups)) (change ∷ []) [] =
    grind (arith, none, append-nil before, c.if-not-is_empty.branch) in
    rw (take_more scopes index running c.loop-running-test.true, ← c.running-item.is, grown)
    (one_loss c.args.ends.now (is_stopped c.args.stopped) c.args.own.now (take index scopes) before
    running groups c.loop-running.invariant c.in_ok-groups.ensures)
