use Rattle.otp_edge.proofs
use Rattle.otp_edge.specs.Edges.{none}
use proofs.EdgeLemmas.{heard_ended, heard_named, heard_sent, ok_so}
use Rattle.otp_edge.proofs.edge_state.Edge.hear.Goals as goal

pub returns-in_ok-sent-in-Said-clause-hears : goal.returns-in_ok-sent-in-Said-clause-hears
returns-in_ok-sent-in-Said-clause-hears c = heard_sent c.args.self.now _ c.args.body.now
    c.in-Said.to c.in-Said.said c.in_ok-sent-in-Said.sent
    (rw c.in-Said.is at c.in_ok-signal.ensures.found) c.in_ok-sent-in-Said.ensures.heard

pub returns-in_ok-named-in-Named-clause-hears : goal.returns-in_ok-named-in-Named-clause-hears
returns-in_ok-named-in-Named-clause-hears c = heard_named c.args.self.now _ c.args.body.now
    c.in-Named.name.now c.in-Named.said c.in_ok-named-in-Named.named
    (rw c.in-Named.is at c.in_ok-signal.ensures.found) c.in_ok-named-in-Named.ensures.heard

pub returns-in-MonitorExit-clause-hears : goal.returns-in-MonitorExit-clause-hears
returns-in-MonitorExit-clause-hears c =
    let is = rw c.in-MonitorExit.is at c.in_ok-signal.ensures.found in
    ok_so c.hear_end.result (λ heard by. heard_ended c.args.self.now _ c.args.body.now
    c.in-MonitorExit.from.now c.in-MonitorExit.to.now heard is by) c.hear_end.ensures.heard

pub returns-in_ok-sent-in-Said-clause-found : goal.returns-in_ok-sent-in-Said-clause-found
returns-in_ok-sent-in-Said-clause-found c = (
  c.hear_sent.new.self,
  heard_sent c.args.self.now _ c.args.body.now c.in-Said.to c.in-Said.said
      c.in_ok-sent-in-Said.sent (rw c.in-Said.is at c.in_ok-signal.ensures.found)
      c.in_ok-sent-in-Said.ensures.heard,
)

pub returns-in_ok-named-in-Named-clause-found : goal.returns-in_ok-named-in-Named-clause-found
returns-in_ok-named-in-Named-clause-found c = (
  c.hear_named.new.self,
  heard_named c.args.self.now _ c.args.body.now c.in-Named.name.now c.in-Named.said
      c.in_ok-named-in-Named.named (rw c.in-Named.is at c.in_ok-signal.ensures.found)
      c.in_ok-named-in-Named.ensures.heard,
)

pub returns-in-MonitorExit-clause-found : goal.returns-in-MonitorExit-clause-found
returns-in-MonitorExit-clause-found c =
    let is = rw c.in-MonitorExit.is at c.in_ok-signal.ensures.found in
    ok_so c.hear_end.result (λ heard by. (
      c.hear_end.new.self,
      heard_ended c.args.self.now _
          c.args.body.now c.in-MonitorExit.from.now c.in-MonitorExit.to.now heard is by,
    ))
    c.hear_end.ensures.heard

pub returns-in_ok-owed-in_default-clause-hears : goal.returns-in_ok-owed-in_default-clause-hears
returns-in_ok-owed-in_default-clause-hears c = none (record {
  nothing = c.only_owed.ensures.nothing;
  same = c.in_ok-owed-in_default.ensures.same;
})

pub returns-in_ok-owed-in_default-clause-found : goal.returns-in_ok-owed-in_default-clause-found
returns-in_ok-owed-in_default-clause-found c = (
  c.answer.new.self,
  none (record {
    nothing = c.only_owed.ensures.nothing;
    same = c.in_ok-owed-in_default.ensures.same;
  }),
)
