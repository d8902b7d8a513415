use Rattle.otp_edge.proofs
use proofs.Words.{ap, append-nil, Decides-eqb, false, IsList, length, List, listed, nil_from_length}
use proofs.Words.{pid_bytes, sym, true, ℕ, [], ◌++◌, ◌==◌, ◌∙◌, ◌≡◌}
use Rattle.std.specs.Prelude.{codes}
use proofs.ListLemmas.{alone, alone_only}
use Rattle.otp_edge.specs.PgMessages.{headed, IsStated, stated_bytes}
use proofs.LackLemmas.{lack_match, of_none}
use Rattle.otp_edge.proofs.hearing.sync_in.Goals as goal

pub returns-in_default-clause-only : goal.returns-in_default-clause-only
returns-in_default-clause-only c = λ p ss is stated whole.
    absurd (c.in_default.ensures.only (pid_bytes p ++ listed stated_bytes ss) whole)

pub returns-in_err-pid-clause-only : goal.returns-in_err-pid-clause-only
returns-in_err-pid-clause-only c = λ p ss is stated whole.
    let rest = c.in-Some.ensures.only (pid_bytes p ++ listed stated_bytes ss) whole in
    lack_match _ _ c.from_residual.result _ c.from_residual.ensures.1 (of_none _ _
    (c.in_err-pid.ensures.only p (listed stated_bytes ss) is rest) c.in_err-pid.ensures.refused)

pub returns-in_err-rows-clause-only : goal.returns-in_err-rows-clause-only
returns-in_err-rows-clause-only c = λ p ss is stated whole.
    let rest = c.in-Some.ensures.only (pid_bytes p ++ listed stated_bytes ss) whole in
    let first = c.in_ok-pid.ensures.found.only p (listed stated_bytes ss) is rest in
    lack_match _ _ c.from_residual-in_err-rows.result _ c.from_residual-in_err-rows.ensures.1
    (c.in_err-rows.ensures.only ss [] stated (sym first.1
    ∙ sym (append-nil (listed stated_bytes ss))))

pub returns-then-not-is_empty-clause-only : goal.returns-then-not-is_empty-clause-only
returns-then-not-is_empty-clause-only c = λ p ss is stated whole.
    let rest = c.in-Some.ensures.only (pid_bytes p ++ listed stated_bytes ss) whole in
    let first = c.in_ok-pid.ensures.found.only p (listed stated_bytes ss) is rest in
    let found = c.in_ok-rows.ensures.found in
    let same = alone_only (listed stated_bytes) (IsList IsStated) c.in_ok-pid.rest.now found.0
    c.in_ok-rows.rest.now found.2 ss stated (sym first.1) in
    let bad : false ≡ true = c.if-not-is_empty.ensures
    ∙ ap (λ (xs : List ℕ). length xs == 0) same.1 in absurd (cc bad)

pub returns-clause-found : goal.returns-clause-found
returns-clause-found c =
    let none = nil_from_length c.in_ok-rows.rest.now
    ((Decides-eqb _ 0).0 (sym c.if-not-is_empty.ensures)) in
    let stated = c.in_ok-rows.ensures.found in
    let last = alone (listed stated_bytes) (IsList IsStated) c.in_ok-pid.rest.now stated.0
    c.in_ok-rows.rest.now stated.2 none in (
      c.in_ok-pid.pid,
      c.in_ok-pid.ensures.found.within,
      (
        stated.0,
        stated.2.within,
        c.in-Some.ensures.found ∙ ap (headed 3 (codes "sync")) (c.in_ok-pid.ensures.found.bytes
            ∙ ap (λ l. pid_bytes c.in_ok-pid.pid ++ l) last),
        cc (c.of.ensures, stated.1),
      ),
    )

pub returns-clause-only : goal.returns-clause-only
returns-clause-only c = λ p ss is stated whole.
    let rest = c.in-Some.ensures.only (pid_bytes p ++ listed stated_bytes ss) whole in
    let first = c.in_ok-pid.ensures.found.only p (listed stated_bytes ss) is rest in
    let found = c.in_ok-rows.ensures.found in
    let same = alone_only (listed stated_bytes) (IsList IsStated) c.in_ok-pid.rest.now found.0
    c.in_ok-rows.rest.now found.2 ss stated (sym first.1) in
    cc (c.of.ensures, found.1, first.0, same.0)
