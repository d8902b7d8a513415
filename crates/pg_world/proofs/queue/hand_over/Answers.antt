use Rattle.pg_world.proofs
use proofs.Words.{ap, CoreFault, Err, Event, frames_in, refl, Rule, sym, ◌∙◌}
use proofs.Stepping.{full_step, memory_step, taken}
use Rattle.pg_world.proofs.queue.hand_over.Goals as goal

pub returns-then-is_full : goal.returns-then-is_full
returns-then-is_full c = record {
  answer = Err (CoreFault.Refused Rule.EntriesFull);
  stepped = full_step c.args.core.now c.args.seat (Event.Take c.args.link)
      (sym c.is_full.ensures ∙ c.if-is_full.true);
  effect = (refl, refl);
}

pub returns-in_default : goal.returns-in_default
returns-in_default c = record {
  answer = Err CoreFault.OutOfMemory;
  stepped = memory_step c.args.core.now c.args.seat (Event.Take c.args.link)
      (sym c.is_full.ensures ∙ c.if-is_full.false);
  effect = (c.make_room.ensures.same, refl);
}

pub append-requires : goal.append-requires
append-requires c =
    let it = taken c.args.core.now c.args.seat c.args.link c.in-Ok-step.reply c.step.new.self
    (rw c.in-Ok-step.is at c.step.ensures) in
    rw (ap frames_in it.1) (c.in-Ok.ensures.room it.0)
