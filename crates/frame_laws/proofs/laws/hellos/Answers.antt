use Rattle.frame_laws.proofs.Greetings.{asked_own, named_own}
use Rattle.frame_laws.proofs.laws.hellos.Goals as goal

pub returns-clause-dialled : goal.returns-clause-dialled
returns-clause-dialled c = λ h node l n d opens.
    (let it = named_own h.opening h.entries node l n d opens in (it.first, it.stands, it.says))

pub returns-clause-opened : goal.returns-clause-opened
returns-clause-opened c =
    λ h node l d opens n x f q. asked_own h.opening h.entries node l d opens n x q f
