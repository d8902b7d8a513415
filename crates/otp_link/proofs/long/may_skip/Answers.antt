use Rattle.otp_link.specs.Long.{to_name, to_process}
use Rattle.otp_link.proofs.long.may_skip.Goals as goal

pub returns-in-2 : goal.returns-in-2
returns-in-2 c = λ other. to_process _ _ _ c.in-2.is c.in-Some.ensures
    (c.is_other_process.ensures other)

pub returns-in-6 : goal.returns-in-6
returns-in-6 c = λ other. to_name _ _ (rw c.in-6.is at c.in-Some.ensures)
    (c.is_other_name.ensures other)
