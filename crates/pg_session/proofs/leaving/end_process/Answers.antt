use Rattle.std.proofs.Common.{refl}
use Rattle.policy_audit.specs.declared.event.Event.TheVariants.{Exit}
use Rattle.pg_session.specs.Asked.{is_end}
use Rattle.pg_session.proofs.Callers.{by_call, by_further, by_none, may_go_on}
use Rattle.pg_session.proofs.leaving.end_process.Goals as goal

pub loop-init : goal.loop-init
loop-init g c =
    record { on = by_none is_end c.args.caller.now c.args.caller.now refl; may = c.requires }

pub loop-preserved : goal.loop-preserved
loop-preserved g c =
    let exit = Exit c.args.pid.now in
    let on = by_call is_end c.loop.caller c.try_exit.new.caller exit c.try_exit.ensures refl in
    record {
      on = by_further is_end c.args.caller.now c.loop.caller c.try_exit.new.caller
          c.loop.invariant.on on;
      may = may_go_on c.loop.caller c.try_exit.new.caller exit (on.more, on.gains)
          c.loop.invariant.may;
    }

pub returns-then-try_exit : goal.returns-then-try_exit
returns-then-try_exit g c =
    by_further is_end c.args.caller.now c.loop.caller c.try_exit.new.caller c.loop.invariant.on
    (by_call is_end c.loop.caller c.try_exit.new.caller (Exit c.args.pid.now)
    c.try_exit.ensures refl)
