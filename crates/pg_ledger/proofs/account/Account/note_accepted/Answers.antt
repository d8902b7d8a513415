use Rattle.pg_ledger.proofs
use Rattle.std.proofs.Common.{arith, refl, rules, true, ◌≡◌}
use Rattle.std.proofs.lemmas.Fn.{filter_same}
use Rattle.std.specs.Prelude.{not}
use Rattle.dist_types.specs.Listing.{same}
use Rattle.policy_audit.specs.declared.event.Event.TheVariants as event
use Rattle.pg_ledger.specs.Telling.{Told}
use proofs.Saying.{allow_noted, equal_told, is_silent, silent_noted, start_noted, stop_noted}
use Rattle.pg_ledger.proofs.account.Account.note_accepted.Goals as goal

pub returns-in_ok-note_allowed-in-Allow-clause-ok :
    goal.returns-in_ok-note_allowed-in-Allow-clause-ok
returns-in_ok-note_allowed-in-Allow-clause-ok c = λ h e is accepts told.
    allow_noted c.as_slice.result.now c.args.self.now c.note_allowed.new.self
    c.in_ok-note_allowed-in-Allow.ensures.ok h e
    (grind (arith, is, c.in-Allow.is, c.as_slice.ensures)) accepts told

pub returns-in_ok-insert-in-StartScope-clause-ok :
    goal.returns-in_ok-insert-in-StartScope-clause-ok
returns-in_ok-insert-in-StartScope-clause-ok c = λ h e is accepts told.
    let a = c.self-in-StartScope.inside in
    let u : Told = record {
      scopes = a.scopes.items;
      allowed = a.allowed.items;
      refused = a.refused;
      entries = a.entries;
    } in
    start_noted c.in-StartScope.scope c.args.self.now u
    (record u { scopes = c.insert.new.items.items })
    (grind (arith, c.self-in-StartScope.view_is))
    (λ rises. equal_told _ _ (c.in_ok-insert-in-StartScope.ensures.ok rises) refl refl refl) h e
    (grind (arith, is, c.in-StartScope.is)) accepts told

pub returns-in-StopScope-clause-ok : goal.returns-in-StopScope-clause-ok
returns-in-StopScope-clause-ok c = λ h e is accepts told.
    let a = c.self-in-StopScope.inside in
    let u : Told = record {
      scopes = a.scopes.items;
      allowed = a.allowed.items;
      refused = a.refused;
      entries = a.entries;
    } in
    stop_noted c.in-StopScope.scope c.args.self.now u
    (record u { scopes = c.retain.new.self.items }) (grind (arith, c.self-in-StopScope.view_is))
    (equal_told _ _
    (filter_same _ (λ r. not (same r c.in-StopScope.scope)) _ (λ x b f' k. search rules) _ _
    c.retain.ensures.filtered) refl refl refl)
    h e (grind (arith, is, c.in-StopScope.is)) accepts told

pub returns-in_default : goal.returns-in_default
returns-in_default c =
    let silent : is_silent c.args.event.now ≡ true = grind (
      arith,
      c.in_default.not-Restart,
      c.in_default.not-Allow,
      c.in_default.not-StartScope,
      c.in_default.not-StopScope,
    ) in
    record { ok = silent_noted c.args.event.now c.args.self.now silent; same = tt }
