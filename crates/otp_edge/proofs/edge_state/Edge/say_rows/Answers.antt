use Rattle.otp_edge.proofs
use proofs.Words.{refl, ◌∙◌}
use proofs.SayingLemmas.{knows_the_same, on_err, told_there}
use Rattle.otp_edge.proofs.edge_state.Edge.say_rows.Goals as goal

pub returns-in_err-out-clause-memory : goal.returns-in_err-out-clause-memory
returns-in_err-out-clause-memory c = on_err c.from_residual.result (knows_the_same
    c.args.self.now.scopes.items c.in-Some.place c.index_mut.result.now c.tell.new.self
    c.index_mut.ensures.value c.in_err-out.ensures.same)

pub returns-clause-said : goal.returns-clause-said
returns-clause-said c = told_there c.args.self.now.own c.args.self.now.scopes.items _
    c.args.life.now.processes _ _ c.args.kind c.args.scope.now c.args.rows c.in_ok-out.out.items
    c.in-Some.place c.index_mut.result.now c.tell.new.self c.in-Some.ensures.found.0
    (λ d. c.in-Some.ensures.found.1 d ∙ c.as_bytes.ensures.value) c.index_mut.ensures.value
    c.in_ok-out.ensures.told refl
