-- The exit of a `?`.
use Rattle.std.proofs.Common.{Err, IfErr, Ok, Result, subst, sym, ◌≡◌}
use Rattle.std.specs.Result.{IsErrAnd}
use Rattle.otp_link.specs.declared.fault.LinkFault.{LinkFault}

-- it returns the fault that was met
pub met : {T : Type 0} (r : Result T LinkFault) (P : LinkFault → Type 0) (fault : LinkFault)
    → IsErrAnd r (λ y. y ≡ fault) → P fault → IfErr r P
met (Ok x) P fault is holds = tt
met (Err y) P fault is holds = subst P (sym is) holds
