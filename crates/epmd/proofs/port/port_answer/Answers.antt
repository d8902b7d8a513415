use Rattle.std.proofs.Common.{inr, refl}
use Rattle.epmd.proofs.PortLemmas.{behind_of}
use Rattle.epmd.proofs.port.port_answer.Goals as goal

pub returns-in-Some-clause-only : goal.returns-in-Some-clause-only
returns-in-Some-clause-only c = λ port spells.
    c.in-Some.ensures.only port (behind_of port c.in_ok-rest.ensures.found spells)

pub returns-in-None-clause-only : goal.returns-in-None-clause-only
returns-in-None-clause-only c = λ port spells.
    c.in-None.ensures.only port (behind_of port c.in_ok-rest.ensures.found spells)

pub returns-in-None-clause-refused : goal.returns-in-None-clause-refused
returns-in-None-clause-refused c =
    inr (c.in_ok-rest.rest.now, c.in_ok-rest.ensures.found, refl, c.in-None.ensures.only)
