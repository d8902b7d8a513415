use Rattle.scope_core.proofs
use proofs.Words.{ap, NodeTable, sym, take, tally, ◌∙◌}
use proofs.Outcomes.{from_not_err}
use proofs.Tallies.{tally_append}
use proofs.hashed_rows.HashedRows.grow.Goals as goal

pub returns-clause-ok : goal.returns-clause-ok
returns-clause-ok c = λ test.
    from_not_err c.hold.result (sym c.is_err.ensures.value ∙ c.if-is_err.false) c.hold.ensures.ok
    test ∙ ap (λ (t : NodeTable). tally test t.rows) c.in_ok-fresh.ensures.ok
    ∙ tally_append test c.args.self.now.rows (take c.in_ok-fresh.fresh c.args.more.now)
