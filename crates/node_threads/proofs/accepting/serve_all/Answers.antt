use Rattle.node_threads.proofs
use Rattle.node_threads.specs
use Rattle.std.proofs.Common.{rules, sym, ◌∙◌, ◌≡◌}
use Rattle.std.proofs.lemmas.List.{map-id}
use Rattle.std.proofs.lemmas.Iterator.Adapters.{YieldsList-from_vec}
use Rattle.std.proofs.lemmas.Iterator.Consumers.{YieldsList-end}
use specs.declared.accepting.Stop.{Stop}
use proofs.Pairs.{all_served, one_more, so_far_more}
use proofs.Drawn.{all_drawn, are_next, drawn_more}
use specs.declared.accepting.AcceptEnd.TheVariants as ends
use Rattle.node_threads.proofs.accepting.serve_all.Goals as goal

pub loop-pair-preserved : goal.loop-pair-preserved
loop-pair-preserved g c =
    let at = c.loop-pair in
    let push = c.push_reserved.ensures in
    let pair = c.in-Some.pair in
    let turn = c.serve_next.ensures.turn in
    let here = c.len-place.ensures ∙ at.invariant.1 in
    let drawn = c.serve_next.ensures.drawn in (
      rw push.items (so_far_more c.len-place.result at.stop c.serve_next.new.stop at.yielded
          at.held.items pair c.serve_next.result here at.invariant.0 turn),
      one_more at.yielded pair push.len at.invariant.1,
      rw push.capacity at.invariant.2,
      rw push.items (drawn_more _ at.stop c.serve_next.new.stop _ _ _ at.yielded at.held.items
          at.invariant.3.0 pair c.serve_next.result at.invariant.3.1 at.invariant.3.2 turn drawn),
    )

pub returns : goal.returns
returns g c =
    let at = c.loop-pair in
    let back = c.finish_all.result.items in
    let rest : Stop = record { served = c.len.result; end = ends.PassesUsed } in
    let pairs = c.args.pairs.items in
    let steps = YieldsList-from_vec pairs (search rules) (search rules) in
    let end = c.next.ensures.steps in
    let whole : at.yielded ≡ pairs =
    sym (map-id at.yielded)
    ∙ (YieldsList-end steps at.yielded _ at.yielded_by _ c.next.new.self c.in-None.is end).0 in
    let served =
    all_served at.stop rest at.yielded at.held.items back (c.len.ensures ∙ at.invariant.1)
    at.invariant.0 c.finish_all.ensures in
    let drawn =
    all_drawn at.stop rest _ (g.S.Rng.stream at.source) at.yielded at.invariant.3.0 at.held.items
    back
    at.invariant.3.1 at.invariant.3.2 c.finish_all.ensures in
    let left = rw (whole, ← c.unwrap_or-served.ensures) at drawn in record {
      served = rw (whole, ← c.unwrap_or-served.ensures) at served;
      used = search rules;
      drawn = are_next _ _ _ _ left;
      left = left;
    }
