use Rattle.std.proofs.Common.{arith, length, refl, ◌<◌, ◌≤◌}
use Rattle.node_net.specs.LaneCalls.{Pair}
use Rattle.node_net.proofs.LaneLemmas.{kept_next, keeps_lane, opened_next, opens_lane, opens_own}
use Rattle.node_net.proofs.lane.Lane.open.Goals as goal

pub invariant_of-self : goal.invariant_of-self
invariant_of-self g c =
    let lane : Pair = record {
      reader = c.self.inside.reader;
      writer = c.self.inside.writer;
      challenge = c.self.inside.challenge;
      left = c.self.inside.source;
    } in
    let lane' : Pair =
    record lane {
      reader = c.open_link-link.new.pass;
      challenge = c.draw-self-inside.result;
      left = c.draw-self-inside.new.self;
    } in
    let many : length lane.reader.calls < length lane'.reader.calls =
    grind (arith, c.if-count-before.true, c.count.ensures, c.count-before.ensures) in
    opens_lane lane lane' c.args.event c.open_link-link.result c.open_link-link.ensures
    c.self.invariant refl
    (rw (← c.self.view_is) at c.requires.opening) many c.draw-self-inside.ensures

pub invariant_of-self-else-count-before : goal.invariant_of-self-else-count-before
invariant_of-self-else-count-before g c =
    let lane : Pair = record {
      reader = c.self.inside.reader;
      writer = c.self.inside.writer;
      challenge = c.self.inside.challenge;
      left = c.self.inside.source;
    } in
    let lane' : Pair = record lane { reader = c.open_link-link.new.pass } in
    let few : length lane'.reader.calls ≤ length lane.reader.calls =
    grind (arith, c.if-count-before.false, c.count.ensures, c.count-before.ensures) in
    keeps_lane lane lane' c.args.event c.open_link-link.result c.open_link-link.ensures
    c.self.invariant refl few refl refl

pub returns-then-count-before-clause-own : goal.returns-then-count-before-clause-own
returns-then-count-before-clause-own g c =
    opens_own c.args.event c.open_link-link.result c.self.inside.reader c.open_link-link.new.pass
    c.open_link-link.ensures

pub returns-then-count-before-clause-next : goal.returns-then-count-before-clause-next
returns-then-count-before-clause-next g c =
    let lane : Pair = record {
      reader = c.self.inside.reader;
      writer = c.self.inside.writer;
      challenge = c.self.inside.challenge;
      left = c.self.inside.source;
    } in
    let lane' : Pair =
    record lane {
      reader = c.open_link-link.new.pass;
      challenge = c.draw-self-inside.result;
      left = c.draw-self-inside.new.self;
    } in
    rw (← c.self.view_is) (opened_next lane lane' c.args.event c.open_link-link.result
    c.open_link-link.ensures c.self.invariant refl
    (grind (arith, c.if-count-before.true, c.count.ensures, c.count-before.ensures))
    c.draw-self-inside.ensures)

pub returns-else-count-before-clause-own : goal.returns-else-count-before-clause-own
returns-else-count-before-clause-own g c =
    opens_own c.args.event c.open_link-link.result c.self.inside.reader c.open_link-link.new.pass
    c.open_link-link.ensures

pub returns-else-count-before-clause-next : goal.returns-else-count-before-clause-next
returns-else-count-before-clause-next g c =
    let lane : Pair = record {
      reader = c.self.inside.reader;
      writer = c.self.inside.writer;
      challenge = c.self.inside.challenge;
      left = c.self.inside.source;
    } in
    let lane' : Pair = record lane { reader = c.open_link-link.new.pass } in
    rw (← c.self.view_is) (kept_next lane lane' c.args.event c.open_link-link.result
    c.open_link-link.ensures c.self.invariant refl
    (grind (arith, c.if-count-before.false, c.count.ensures, c.count-before.ensures)) refl refl)
