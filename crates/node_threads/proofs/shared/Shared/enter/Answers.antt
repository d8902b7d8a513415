use Rattle.node_threads.specs
use Rattle.std.proofs.Common.{ap, append_assoc, false, List, refl, subst, sym, ◌++◌, ◌∙◌, ◌≡◌}
use Rattle.policy_audit.specs.Policy.{is_full}
use specs.declared.pass.Call.{Call}
use specs.Calls.{last_reply, Record}
use specs.Room.{Room}
use specs.Applied.{IsAnswered}
use Rattle.node_threads.proofs.Kept.{answered, last_reply_push, told_ok, told_refusal}
use Rattle.node_threads.proofs.shared.Shared.enter.Goals as goal

abbrev first : goal.After-keep → List Call
first c = c.pass.inside.past.calls

abbrev after : goal.After-keep → Record
after c = record {
  seat = c.pass.inside.seat;
  calls = first c ++ c.keep.new.calls.items;
  gone = c.pass.inside.gone;
}

is_answered : (c : goal.After-keep) → IsAnswered c.args.self.now c.args.pass.now c.args.event
    c.in-Ok-advance.verdict c.advance.new.self (after c)
is_answered c =
    let free : is_full c.args.self.now.history ≡ false =
    ap (λ (r : Room). is_full r.history) (sym c.self.view_is) ∙ sym c.if-is_full.ensures in
    subst (λ (r : Record). IsAnswered c.args.self.now r c.args.event c.in-Ok-advance.verdict
    c.advance.new.self (after c)) c.pass.view_is (answered c.args.self.now c.advance.new.self _
    c.args.event c.in-Ok-advance.number c.in-Ok-advance.verdict (first c ++ c.keep.new.calls.items)
    (rw c.pass.view_is (c.if-not-knows.ensures.0 refl)) free c.in-Ok-advance.ensures.number
    c.in-Ok-advance.ensures.verdict c.in-Ok-advance.ensures.room
    (ap (λ (cs : List Call). first c ++ cs)
    (rw (c.in-Ok.ensures.same, c.in-Ok.ensures.copy) at c.keep.ensures.calls)
    ∙ sym (append_assoc (first c) c.pass.inside.calls.items _)))

pub returns-clause-ok : goal.returns-clause-ok
returns-clause-ok c = told_ok c.args.self.now c.advance.new.self c.args.pass.now (after c)
    c.args.event c.keep.result c.in-Ok-advance.verdict
    (ap (λ (cs : List Call). last_reply (first c ++ cs)) c.keep.ensures.calls
    ∙ ap last_reply (sym (append_assoc (first c) c.room_and_copy.new.calls.items _))
    ∙ last_reply_push (first c ++ c.room_and_copy.new.calls.items) _)
    c.keep.ensures.answer (is_answered c)

pub returns-clause-refused : goal.returns-clause-refused
returns-clause-refused c = told_refusal c.args.self.now c.advance.new.self c.args.pass.now
    (after c) c.args.event c.keep.result c.in-Ok-advance.verdict c.keep.ensures.answer
    (is_answered c)
