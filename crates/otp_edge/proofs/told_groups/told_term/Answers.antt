use Rattle.otp_edge.proofs
use Rattle.std.proofs.Common.{inr}
use proofs.AtomLemmas.{life_of_admit}
use Rattle.otp_edge.proofs.told_groups.told_term.Goals as goal

pub returns-in_err-admit-clause-life : goal.returns-in_err-admit-clause-life
returns-in_err-admit-clause-life c = life_of_admit c.args.life.now c.admit.new.self
    c.in_err-admit.ensures.keeps c.in_err-admit.ensures.processes

pub returns-then-branch-clause-life : goal.returns-then-branch-clause-life
returns-then-branch-clause-life c = life_of_admit c.args.life.now c.admit.new.self
    c.in_ok-admit.ensures.keeps c.in_ok-admit.ensures.processes

pub returns-else-branch-clause-life : goal.returns-else-branch-clause-life
returns-else-branch-clause-life c = life_of_admit c.args.life.now c.admit.new.self
    c.in_ok-admit.ensures.keeps c.in_ok-admit.ensures.processes

pub returns-then-branch-clause-term : goal.returns-then-branch-clause-term
returns-then-branch-clause-term c =
    let term = rw c.in-Some.is at c.in_ok-term.ensures.found in
    (term, c.in_ok-admit.ensures.admitted c.if-branch.true)

pub returns-else-branch-clause-term : goal.returns-else-branch-clause-term
returns-else-branch-clause-term c =
    record { why = inr (c.in_ok-admit.ensures.refused c.if-branch.false) }
