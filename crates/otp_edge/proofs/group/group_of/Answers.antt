use Rattle.otp_edge.proofs
use proofs.Words.{sym, ◌∙◌}
use proofs.GroupLemmas.{by_atom, by_binary}
use Rattle.otp_edge.proofs.group.group_of.Goals as goal

pub returns-in-Some : goal.returns-in-Some
returns-in-Some c = sym (by_atom c.args.term.now c.in-Some.group
    (sym c.in_ok-group.ensures ∙ c.in-Some.is))

pub returns-in-Some-2 : goal.returns-in-Some-2
returns-in-Some-2 c = sym (by_binary c.args.term.now c.in-Some-2.group
    (sym c.in_ok-group.ensures ∙ c.in_default.is)
    (sym c.in_ok-group-2.ensures ∙ c.in-Some-2.is))
