use Rattle.pg_ledger.proofs
use Rattle.std.proofs.Common.{ap, arith, sym, ◌∙◌, ◌≡◌}
use Rattle.policy_audit.proofs.ScopesNow.{rising_is}
use Rattle.pg_ledger.specs.Telling.{Told}
use proofs.Saying.{placed_more}
use Rattle.pg_ledger.proofs.account.Account.note_allowed.Goals as goal

pub loop-name-init : goal.loop-name-init
loop-name-init c = λ rises.
    let seen = ap (λ (t : Told). t.allowed) c.self.view_is in
    let copied : c.in_ok-allowed.allowed.items ≡ c.args.self.now.allowed =
    grind (arith, c.in_ok-allowed.ensures, c.as_slice.ensures.value, seen) in
    copied ∙ sym (rising_is c.args.self.now.allowed rises)

pub loop-name-preserved : goal.loop-name-preserved
loop-name-preserved c = λ rises.
    placed_more c.args.names.now c.loop-name.name-index _ c.args.self.now.allowed
    c.loop-name.allowed.items c.insert.new.items.items c.loop-name-test.true c.name-item.is
    (c.loop-name.invariant rises) c.in_ok-insert.ensures.ok
