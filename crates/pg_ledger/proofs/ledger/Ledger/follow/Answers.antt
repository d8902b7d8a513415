use Rattle.pg_ledger.proofs
use Rattle.std.proofs.Common.{arith, cond, max, ◌==◌, ◌∙◌, ◌≡◌}
use Rattle.policy_audit.specs.History.{audited, creation, History}
use Rattle.policy_audit.specs.Log.{later_than}
use proofs.Behind.{comes_up, stops_between}
use proofs.Going.{on_err}
use Rattle.pg_ledger.specs.Following.{IsBehind, IsBetween}
use Rattle.pg_ledger.specs.Telling.{nothing}
use Rattle.pg_ledger.proofs.ledger.Ledger.follow.Goals as goal

pub returns-clause-told : goal.returns-clause-told
returns-clause-told g c = λ h behind.
    let t = c.args.self.now.account in
    let life = c.args.self.now.creation in
    let node = c.args.core.now in
    let u = c.begin.new.self.account in
    let is : u ≡ cond (life == creation node.history) t nothing =
    grind (arith, c.begin.ensures.account, c.creation.ensures) in
    let are : c.after.result
    ≡ later_than (max u.entries node.forgotten) (audited node.history.entries) =
    grind (
      arith,
      c.after.ensures.rest,
      c.entries-seen.ensures,
      c.audit.ensures.entries,
      c.audit.ensures.forgotten,
    ) in
    c.end_slow.ensures.account
    ∙ comes_up t life h node behind c.audit.ensures.legal c.audit.ensures.fits u
    c.look_at_all.new.self.account c.after.result is are c.in_ok-look_at_all.ensures.told

pub returns-in_err-look_at_all-clause-part : goal.returns-in_err-look_at_all-clause-part
returns-in_err-look_at_all-clause-part g c =
    let t = c.args.self.now.account in
    let life = c.args.self.now.creation in
    let node = c.args.core.now in
    let u = c.begin.new.self.account in
    let is : u ≡ cond (life == creation node.history) t nothing =
    grind (arith, c.begin.ensures.account, c.creation.ensures) in
    let are : c.after.result ≡ later_than (max u.entries node.forgotten)
    (audited node.history.entries) = grind (
      arith,
      c.after.ensures.rest,
      c.entries-seen.ensures,
      c.audit.ensures.entries,
      c.audit.ensures.forgotten,
    ) in
    let some = c.in_err-look_at_all.ensures.part in
    let part : (h : History) → IsBehind t life h node
    → IsBetween c.look_at_all.new.self.account node = λ h behind.
    stops_between t life h node behind c.audit.ensures.legal c.audit.ensures.fits u
    c.look_at_all.new.self.account some.0 c.after.result is are some.1 in
    on_err _ part
