use Rattle.node_core.proofs
use proofs.Words.{local_count, ◌∙◌}
use proofs.Said.{left_rows_are}
use Rattle.std.proofs.lemmas.Result.{on_err_weaker}
use proofs.Told.{forgotten}
use proofs.membership.tell_leave.Goals as goal

pub returns-clause-same : goal.returns-clause-same
returns-clause-same c = on_err_weaker c.tell-told.result
    (λ forgot. forgot ∙ forgotten c.args.links.now.items c.requires.idle) c.tell-told.ensures.forgot

pub returns-clause-told : goal.returns-clause-told
returns-clause-told c =
    let rows = c.of-rows.ensures ∙ left_rows_are c.args.group.now c.args.pids.now
    c.in_ok-gone.gone.items (local_count c.args.running.now.table c.args.group.now)
    c.in_ok-rows_of.field-0.items c.in_ok-gone.ensures.value
    (rw c.deref.ensures.value at c.in_ok-rows_of.ensures.rows) in
    rw (c.deref-2.ensures.value, c.in_ok-scope.ensures, rows) at c.tell-told.ensures.ok
