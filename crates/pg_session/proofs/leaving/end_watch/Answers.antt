use Rattle.std.proofs.Common.{inl, refl}
use Rattle.policy_audit.specs.declared.event.Event.TheVariants.{Demonitor}
use Rattle.pg_session.specs.Asked.{ends}
use Rattle.pg_session.proofs.Callers.{by_call, by_further, by_none, ends_its_own}
use Rattle.pg_session.proofs.leaving.end_watch.Goals as goal

pub loop-init : goal.loop-init
loop-init g c = by_none (ends c.args.number) c.args.caller.now c.args.caller.now refl

pub loop-preserved : goal.loop-preserved
loop-preserved g c =
    let test = ends c.args.number in
    by_further test c.args.caller.now c.loop.caller c.end.new.self c.loop.invariant
    (by_call test c.loop.caller c.end.new.self (Demonitor c.args.number) (inl c.end.ensures)
    (ends_its_own c.args.number))

pub returns-then-end : goal.returns-then-end
returns-then-end g c =
    let test = ends c.args.number in
    by_further test c.args.caller.now c.loop.caller c.end.new.self c.loop.invariant
    (by_call test c.loop.caller c.end.new.self (Demonitor c.args.number) (inl c.end.ensures)
    (ends_its_own c.args.number))
