use Rattle.pg_world.proofs
use proofs.Words.{ap, cond, CoreFault, drop, Err, Event, IsStepped, oldest, refl, Rule, subst, sym}
use proofs.Words.{◌∙◌}
use proofs.Stepping.{full_step, memory_step}
use Rattle.pg_world.proofs.queue.deliver_oldest.Goals.{else-leaves, then-leaves}
use Rattle.pg_world.proofs.queue.deliver_oldest.Goals as goal

pub returns-then-is_full : goal.returns-then-is_full
returns-then-is_full c = record {
  answer = Err (CoreFault.Refused Rule.EntriesFull);
  stepped = full_step c.args.core.now c.args.seat (Event.Frame c.args.link
      (oldest c.args.queue.now.items)) (sym c.is_full.ensures ∙ c.if-is_full.true);
  effect = (refl, refl);
}

pub returns-in_default : goal.returns-in_default
returns-in_default c = record {
  answer = Err CoreFault.OutOfMemory;
  stepped = memory_step c.args.core.now c.args.seat (Event.Frame c.args.link
      (oldest c.args.queue.now.items)) (sym c.is_full.ensures ∙ c.if-is_full.false);
  effect = (refl, refl);
}

pub returns : goal.returns
returns c = record {
  answer = c.step-answer.result;
  stepped = subst (λ b. IsStepped c.args.core.now c.args.seat (Event.Frame c.args.link b)
      c.step-answer.new.self c.step-answer.result)
      (c.in-Ok.ensures ∙ ap oldest c.deref.ensures.value)
      c.step-answer.ensures;
  effect = (
    elim c.if-leaves.branch [
      | then-leaves w ↦ ap (λ v. v.items) w.queue-is ∙ w.remove.ensures.by_index.2
          ∙ sym (ap (λ b. cond b (drop 1 c.args.queue.now.items) c.args.queue.now.items)
          (sym c.leaves.ensures ∙ w.if-leaves.true))
      | else-leaves w ↦ ap (λ v. v.items) w.queue-is
          ∙ sym (ap (λ b. cond b (drop 1 c.args.queue.now.items) c.args.queue.now.items)
          (sym c.leaves.ensures ∙ w.if-leaves.false))
    ],
    c.plain.ensures,
  );
}
