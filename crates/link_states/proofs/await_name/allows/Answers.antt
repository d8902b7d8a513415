use Rattle.link_states.proofs
use Rattle.std.proofs.Common.{IsTrue, subst, ◌↔◌}
use Rattle.admission_rules.specs.Admission.{IsAllowed}
use proofs.AllowedLemmas.{allowed_is}
use proofs.await_name.allows.Goals as goal

pub returns : goal.returns
returns c =
    allowed_is _ c.args.admission.now c.args.name.now
    (subst (λ name. IsTrue c.is_allowed.result ↔ IsAllowed c.args.admission.now name)
    c.as_bytes.ensures.value c.is_allowed.ensures)
