use Rattle.std.proofs.Common.{arith, length, List, refl, ℕ, [], ◌<◌, ◌∷◌, ◌≡◌}
use Rattle.node_threads.specs.declared.pass.Call.{Call}
use Rattle.node_net.proofs.LaneLemmas.{begins_lane}
use Rattle.node_net.proofs.lane.Lane.new.Goals as goal

-- a pass whose number of calls isn't above 0 has none
none : (calls : List Call) (count : ℕ) → count ≡ length calls → (0 < count → ⊥) → calls ≡ []
none [] count is few = refl
none (c ∷ calls) count is few = absurd (few (omega (arith, is)))

pub invariant_of-result : goal.invariant_of-result
invariant_of-result c =
    let reader = none c.args.reader.calls c.count.result c.count.ensures
    (grind (arith, c.if-count-gt0.false)) in
    let writer = none c.args.writer.calls c.count-else-count-gt0.result
    c.count-else-count-gt0.ensures (grind (arith, c.if-count-gt0-2.false)) in
    begins_lane (record {
      reader = c.args.reader;
      writer = c.args.writer;
      challenge = c.draw-challenge.result;
      left = c.draw-challenge.new.self;
    }) c.args.source reader writer c.draw-challenge.ensures
