use Rattle.scope_core.proofs
use proofs.Words.{arith, ◌∙◌}
use proofs.table.ScopeTable.exit.Goals as goal

pub returns-then-not-leave_one : goal.returns-then-not-leave_one
returns-then-not-leave_one c =
    let none = c.leave_one.ensures.none (grind (arith, c.if-not-leave_one.true)) in
    record {
      own = c.leave_one.ensures.own;
      counts = λ g p. grind (arith, none g p, c.leave_one.ensures.others g p);
    }

pub returns : goal.returns
returns c =
    let none = c.leave_one-in-loop.ensures.none (grind (arith, c.loop-test.false)) in
    record {
      own = c.leave_one-in-loop.ensures.own ∙ c.loop.invariant.own;
      counts = λ g p. grind (
        arith,
        none g p,
        c.leave_one-in-loop.ensures.others g p,
        c.loop.invariant.others g p,
      );
    }
