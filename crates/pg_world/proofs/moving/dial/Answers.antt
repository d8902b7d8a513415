use Rattle.pg_world.proofs
use proofs.Words.{ap, append-nil, Asks, CoreFault, Event, get_or}
use proofs.Words.{refl, Rule, slice_get-get_or, sym, world, ◌∙◌}
use proofs.Stepping.{full_step, memory_step}
use proofs.Turning.{dial_turn, dials_nobody, nobody_dials, refused, turned, unanswered}
use Rattle.pg_world.proofs.moving.dial.Goals.{then-from-nodes-via-else-from-nodes+then-to-nodes}
use Rattle.pg_world.proofs.moving.dial.Goals.{then-from-nodes-via-then-from-nodes}
use Rattle.pg_world.proofs.moving.dial.Goals as goal

pub returns-then-from-nodes : goal.returns-then-from-nodes
returns-then-from-nodes c =
    let w = world c.args.nodes.now c.args.wires.now.items in
    refused _ _ (elim c.then-from-nodes.branch [
      | then-from-nodes-via-then-from-nodes b ↦ nobody_dials w c.args.from c.args.to c.args.seat
          c.args.challenge b.if-from-nodes.true
      | then-from-nodes-via-else-from-nodes+then-to-nodes b ↦ dials_nobody w c.args.from c.args.to
          c.args.seat c.args.challenge b.if-to-nodes.true
    ])

pub returns-then-is_full : goal.returns-then-is_full
returns-then-is_full c =
    let w = world c.args.nodes.now c.args.wires.now.items in
    let k = c.index-nodes-from.result in
    unanswered _ _ k (CoreFault.Refused Rule.EntriesFull)
    (dial_turn w c.args.from c.args.to c.args.seat c.args.challenge k c.if-from-nodes.false
    c.if-to-nodes.false) c.if-from-nodes.false
    (full_step (get_or c.args.nodes.now c.args.from k) c.args.seat
    (Event.Dial (get_or c.args.nodes.now c.args.to k).opening.name c.args.challenge)
    (sym c.is_full.ensures ∙ c.if-is_full.true)) (sym (append-nil c.args.wires.now.items)) refl

pub returns-in_default : goal.returns-in_default
returns-in_default c =
    let w = world c.args.nodes.now c.args.wires.now.items in
    let k = c.index-nodes-from.result in
    rw c.in_default.ensures.same
    (unanswered _ _ k CoreFault.OutOfMemory
    (dial_turn w c.args.from c.args.to c.args.seat c.args.challenge k c.if-from-nodes.false
    c.if-to-nodes.false) c.if-from-nodes.false
    (memory_step (get_or c.args.nodes.now c.args.from k) c.args.seat
    (Event.Dial (get_or c.args.nodes.now c.args.to k).opening.name c.args.challenge)
    (sym c.is_full.ensures ∙ c.if-is_full.false)) (sym (append-nil c.args.wires.now.items)) refl)

pub returns : goal.returns
returns c =
    let w = world c.args.nodes.now c.args.wires.now.items in
    turned _ _ (get_or c.args.nodes.now c.args.from c.index-nodes-from-2.result)
    c.step-answer.new.self c.add_wire-place.new.wires.items c.place_dialled.result
    (dial_turn w c.args.from c.args.to c.args.seat c.args.challenge c.index-nodes-to.result
    c.if-from-nodes.false c.if-to-nodes.false
    ∙ ap (λ n. Asks c.args.from c.args.seat (Event.Dial n c.args.challenge))
    (sym c.in-Ok.ensures.name))
    (slice_get-get_or c.args.nodes.now c.args.from c.index-nodes-from-2.result
    c.if-from-nodes.false)
    (record {
      answer = c.step-answer.result;
      stepped = c.step-answer.ensures;
      effect = (
        rw (c.add_wire-place.ensures.wires, c.in-Ok.ensures.same, c.link_opened.ensures),
        rw (c.place_dialled.ensures, c.add_wire-place.ensures.place, c.in-Ok.ensures.same),
      );
    })
