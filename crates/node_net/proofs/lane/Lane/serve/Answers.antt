use Rattle.std.proofs.Common.{refl}
use Rattle.node_net.specs.LaneCalls.{Pair}
use Rattle.node_net.proofs.LaneLemmas.{serves_lane}
use Rattle.node_net.proofs.lane.Lane.serve.Goals as goal

pub invariant_of-result : goal.invariant_of-result
invariant_of-result g c =
    let self = c.self.inside in
    let served = c.serve_link-served in
    let lane : Pair = record {
      reader = self.reader;
      writer = self.writer;
      challenge = self.challenge;
      left = self.source;
    } in
    let lane' : Pair = record {
      reader = served.result.pair.reader;
      writer = served.result.pair.writer;
      challenge = self.challenge;
      left = self.source;
    } in
    serves_lane c.args.connection.link lane lane' _ _ served.result.read served.result.written
    c.self.invariant refl refl (rw (← c.self.view_is) at c.requires.own) served.ensures.read
    served.ensures.written
