use Rattle.pg_settings.proofs
use Rattle.std.proofs.Common.{arith, subst}
use Rattle.policy_audit.specs.Own.{running_scopes}
use Rattle.pg_settings.specs.Settings.{IsToldJust}
use proofs.Lives.{holds}
use proofs.Settles.{all_settings}
use Rattle.pg_settings.proofs.settings.held.Goals as goal

pub returns-clause-exact : goal.returns-clause-exact
returns-clause-exact c =
    let rules = c.admission-admission.result.now in (
      rules,
      c.admission-admission.ensures,
      grind (
        arith,
        c.new-told.ensures.items,
        c.admission-admission.ensures.own_cookie,
        c.in_ok-tell_own_cookie.ensures,
        c.in_ok-tell_cookies.ensures,
        c.in_ok-names_of.ensures,
        c.in_ok-tell_names.ensures,
        c.in_ok-tell_scopes.ensures,
      ),
    )

pub returns-clause-renews : goal.returns-clause-renews
returns-clause-renews c next told =
    let h = c.args.core.now.history in
    let begun = c.args.begun.now in
    let exact = returns-clause-exact c in
    holds h next begun exact.0 exact.1
    (subst (λ es. IsToldJust h.opening.name begun es next) exact.2 told)

pub returns-clause-only : goal.returns-clause-only
returns-clause-only c =
    let exact = returns-clause-exact c in
    rw exact.2 (all_settings c.args.begun.now exact.0 (running_scopes c.args.core.now.history))
