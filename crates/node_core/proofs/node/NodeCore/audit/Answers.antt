use Rattle.node_core.proofs
use proofs.Words.{ap, sym}
use Rattle.policy_audit.proofs.Losses.{made_audited, made_entered, made_legal}
use proofs.Entered.{seen}
use proofs.StepAnswers.{core_count, core_limit, its_history}
use proofs.node.NodeCore.audit.Goals as goal

pub returns-clause-entries : goal.returns-clause-entries
returns-clause-entries c =
    rw (← c.self.view_is)
    (sym (made_audited c.self.inside.kept.opening c.self.inside.audit.entries
    c.self.invariant.legal))

pub returns-clause-count : goal.returns-clause-count
returns-clause-count c = sym (core_count c.self.invariant (its_history c.self.view_is))

pub returns-clause-limit : goal.returns-clause-limit
returns-clause-limit c = core_limit c.self.invariant (its_history c.self.view_is)

pub returns-clause-forgotten : goal.returns-clause-forgotten
returns-clause-forgotten c = ap (λ node. node.forgotten) c.self.view_is

pub returns-clause-had : goal.returns-clause-had
returns-clause-had c =
    rw (
      ← c.self.view_is,
      made_entered c.self.inside.kept.opening c.self.inside.audit.entries
          c.self.invariant.legal,
    )
    c.self.invariant.had

pub returns-clause-reach : goal.returns-clause-reach
returns-clause-reach c =
    rw (
      ← c.self.view_is,
      made_audited c.self.inside.kept.opening c.self.inside.audit.entries
          c.self.invariant.legal,
    )
    c.self.invariant.reach

pub returns-clause-legal : goal.returns-clause-legal
returns-clause-legal c =
    rw (← c.self.view_is)
    (made_legal c.self.inside.kept.opening c.self.inside.audit.entries c.self.invariant.legal)

pub returns-clause-few : goal.returns-clause-few
returns-clause-few c = (seen (its_history c.self.view_is) c.self.invariant.follows).sound.few

pub returns-clause-fits : goal.returns-clause-fits
returns-clause-fits c = (seen (its_history c.self.view_is) c.self.invariant.follows).sound.fits

pub returns-clause-links : goal.returns-clause-links
returns-clause-links c = (seen (its_history c.self.view_is) c.self.invariant.follows).sound.links
