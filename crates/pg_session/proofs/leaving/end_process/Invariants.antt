use Rattle.pg_session.specs
use Rattle.std.proofs.Common.{true, ◌≡◌}
use Rattle.policy_audit.specs.declared.event.Event.TheVariants.{Exit}
use specs.Processes.{spawned}
use specs.Asked.{is_end}
use specs.Calls.{GoesOnBy, may_call}
use Rattle.pg_session.proofs.leaving.end_process.Given as goal

abbrev pub invariant-loop : goal.invariant-loop
invariant-loop g l = record {
  on : GoesOnBy is_end l.fn.caller l.caller;
  may : may_call (spawned l.caller.calls) (Exit l.pid) ≡ true;
}
