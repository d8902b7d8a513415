use Rattle.pg_script.proofs
use Rattle.std.proofs.Common.{arith, subst, ℕ, ◌+◌, ◌≡◌, ◌≤◌}
use Rattle.policy_audit.specs.History.{audited, entered}
use Rattle.policy_audit.specs.Pages.{IsPageBehind, page_size}
use Rattle.node_core.specs.Recorded.{IsSpare}
use Rattle.pg_script.specs.Playing.{forgotten_to, Playing}
use proofs.StepLemmas.{seated}
use proofs.Kept.{left_is}
use Rattle.pg_script.proofs.console.Console.forget.Goals as goal

pub returns-clause-left : goal.returns-clause-left
returns-clause-left c =
    let node = c.self.inside in
    let room : node.core.forgotten + page_size + c.args.keep ≤ entered node.core.history.entries =
    omega arith in
    subst (λ (p : Playing). (handed : ℕ)
    × (seated node.seat c.forget.new.self.forgotten c.forget.new.self.history
    ≡ forgotten_to c.args.keep handed p)) c.self.view_is
    (left_is (λ page. IsPageBehind node.core.forgotten (audited node.core.history.entries) page)
    (IsSpare node.core → ⊥) c.args.keep node.seat node.core c.forget.new.self c.forget.result
    c.forget.ensures.same c.forget.ensures.page c.forget.ensures.none room)
