use Rattle.otp_edge.proofs
use Rattle.std.proofs.Common.{arith, inr}
use proofs.AtomLemmas.{found_in, keeps_more}
use Rattle.otp_edge.proofs.life.Life.admit.Goals as goal

pub returns-in_default-clause-admitted : goal.returns-in_default-clause-admitted
returns-in_default-clause-admitted c = λ is. inr (found_in c.args.self.now.atoms.items
    c.deref.result.now c.args.group.now _ c.deref.ensures.value c.in_default.ensures.bound
    c.in_default.ensures.ok)

pub returns-clause-keeps : goal.returns-clause-keeps
returns-clause-keeps c = keeps_more c.args.self.now.atoms.items c.insert.new.self.items _ _
    c.in_ok-insert.ensures.items (omega (arith, c.in_ok-insert.ensures.len))
