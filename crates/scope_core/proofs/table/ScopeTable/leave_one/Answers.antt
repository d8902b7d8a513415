use Rattle.scope_core.proofs
use proofs.Words.{arith, is_of_node}
use Rattle.scope_core.specs.HashedRows.{with_process}
use proofs.Kept.{none_of_process, popped_listed}
use proofs.table.ScopeTable.leave_one.Goals as goal

pub returns-in_default-clause-none : goal.returns-in_default-clause-none
returns-in_default-clause-none c = λ _ g p is.
    rw (c.in_default.ensures.same)
    (none_of_process c.args.pid.now g p c.self.inside.rows c.in_default.ensures.none is)

pub returns-clause-none : goal.returns-clause-none
returns-clause-none c = λ last g p is.
    none_of_process c.args.pid.now g p c.pop_of.new.self
    (grind (arith, last, c.in-Some.ensures.done)) is

pub invariant_of-self-2 : goal.invariant_of-self-2
invariant_of-self-2 c =
    let gone = with_process c.args.pid.now c.in-Some.gone.from in
    let joins = c.in-Some.ensures.gone in
    let total = joins (is_of_node c.self.inside.own) in
    record {
      few = omega (arith, c.self.invariant.few);
      total = grind (arith, total, c.share_of.ensures, c.self.invariant.total);
      listed = popped_listed gone c.self.inside.rows c.pop_of.new.self joins c.self.inside.listings
          c.forget.new.self c.self.invariant.listed c.forget.ensures;
    }
