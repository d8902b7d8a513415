use Rattle.scope_core.proofs
use proofs.Words.{ap, append-nil, changes_left_by, keys_of, sym, ◌++◌, ◌∙◌}
use proofs.hashed_rows.HashedRows.left_under.Goals as goal

pub returns-clause-changes : goal.returns-clause-changes
returns-clause-changes g c =
    let changes = c.loop-group.changes.items in
    sym (append-nil changes) ∙ ap (λ i. changes
    ++ changes_left_by c.args.self.now.rows c.args.pid.now (keys_of i))
    (sym c.in-None.ensures.steps.0) ∙ c.loop-group.invariant
