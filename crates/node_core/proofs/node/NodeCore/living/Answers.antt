use Rattle.node_core.proofs
use proofs.Words.{arith, false, is_local, lives_of, sym, ◌∙◌, ◌≡◌}
use proofs.Entered.{seen}
use proofs.StepAnswers.{core_local, its_history}
use proofs.node.NodeCore.living.Goals as goal

pub returns-then-is_local : goal.returns-then-is_local
returns-then-is_local c =
    let local = sym (core_local c.self.invariant (its_history c.self.view_is) c.args.pid.now)
    ∙ sym c.is_local.ensures ∙ c.if-is_local.true in
    let now = its_history c.self.view_is in
    c.is_live.ensures
    ∙ (seen now c.self.invariant.follows).processes.live c.args.pid.now.number
    ∙ sym (lives_of c.args.self.now.history c.args.pid.now local)

pub returns-else-is_local : goal.returns-else-is_local
returns-else-is_local c =
    let foreign : is_local c.args.self.now.history c.args.pid.now ≡ false =
    sym (core_local c.self.invariant (its_history c.self.view_is) c.args.pid.now)
    ∙ sym c.is_local.ensures ∙ c.if-is_local.false in
    grind (arith, foreign, c.if-is_local.false)
