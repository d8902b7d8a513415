use Rattle.node_core.proofs
use proofs.Words.{◌∙◌}
use proofs.Said.{joined_rows_are}
use Rattle.std.proofs.lemmas.Result.{on_err_weaker}
use proofs.Told.{forgotten}
use proofs.membership.tell_join.Goals as goal

pub returns-clause-same : goal.returns-clause-same
returns-clause-same c = on_err_weaker c.tell-told.result
    (λ forgot. forgot ∙ forgotten c.args.links.now.items c.requires.idle) c.tell-told.ensures.forgot

pub returns-clause-told : goal.returns-clause-told
returns-clause-told c =
    let rows = c.of-rows.ensures ∙ joined_rows_are c.args.group.now c.args.pids.now
    c.in_ok-rows_of.field-0.items c.in_ok-rows_of.ensures.rows in
    rw (c.deref.ensures.value, c.in_ok-scope.ensures, rows) at c.tell-told.ensures.ok
