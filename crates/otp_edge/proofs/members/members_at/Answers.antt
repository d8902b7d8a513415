use Rattle.otp_edge.proofs
use Rattle.otp_edge.specs
use proofs.Words.{ap, IsList, IsPid, listed, pid_bytes, refl, StandsFirst, [], ◌++◌, ◌∙◌, ◌∷◌, ◌≡◌}
use Rattle.std.specs.Prelude.{IfErr, ◌≢◌}
use specs.PgMessages.{AreMembers, many, Members, members_bytes, members_of, one}
use proofs.FirstLemmas.{many_first, members_lack, one_first}
use proofs.SaidLemmas.{ok_so}
use specs.declared.fault.HearFault.TheVariants as faults
use Rattle.otp_edge.proofs.members.members_at.Goals as goal

pub returns-in_ok-push-in-Ok-clause-found : goal.returns-in_ok-push-in-Ok-clause-found
returns-in_ok-push-in-Ok-clause-found c = (
  one c.in-Ok.pid,
  c.in_ok-push-in-Ok.ensures.items
      ∙ ap (λ l. l ++ c.in-Ok.pid ∷ []) c.in_ok-pids-in-Ok.ensures.items,
  one_first c.args.bytes.now c.in-Ok.pid c.in-Ok.rest.now c.in-Ok.ensures.found,
)

pub returns-in-Err-NoMessage-clause-found : goal.returns-in-Err-NoMessage-clause-found
returns-in-Err-NoMessage-clause-found c = ok_so c.listed_at.result
    (λ read. StandsFirst (listed pid_bytes) (IsList IsPid) c.args.bytes.now read.0.items read.1.now)
    (λ read. (ms : Members) × (read.0.items ≡ members_of ms)
    × StandsFirst members_bytes AreMembers c.args.bytes.now ms read.1.now)
    c.listed_at.ensures.found
    (λ read first. (
      many read.0.items,
      refl,
      many_first c.args.bytes.now read.0.items read.1.now first,
    ))

pub returns-in-Err-NoMessage-clause-only : goal.returns-in-Err-NoMessage-clause-only
returns-in-Err-NoMessage-clause-only c = members_lack c.args.bytes.now
    (IfErr c.listed_at.result (λ fault. fault ≢ faults.NoMessage))
    (λ p rest is whole. c.in-Err-NoMessage.ensures.only p rest is whole
    c.in-Err-NoMessage.field-0-is)
    c.listed_at.ensures.only
