use Rattle.otp_edge.proofs
use proofs.Words.{ap, append-nil, Decides-eqb, false, IsPid, length, List, nil_from_length}
use proofs.Words.{pid_bytes, refl, sym, true, ℕ, [], ◌==◌, ◌∙◌, ◌≡◌}
use proofs.ListLemmas.{alone, alone_only}
use proofs.LackLemmas.{lack_match, of_none}
use Rattle.otp_edge.proofs.hearing.discover_in.Goals as goal

pub returns-in_err-pid-clause-only : goal.returns-in_err-pid-clause-only
returns-in_err-pid-clause-only c = λ p is whole.
    lack_match _ [] c.from_residual.result _ c.from_residual.ensures.1 (of_none [] _
    (c.in_err-pid.ensures.only p [] is (whole ∙ sym (append-nil (pid_bytes p))))
    c.in_err-pid.ensures.refused)

pub returns-then-not-is_empty-clause-only : goal.returns-then-not-is_empty-clause-only
returns-then-not-is_empty-clause-only c = λ p is whole.
    let same = alone_only pid_bytes IsPid c.args.bytes.now c.in_ok-pid.pid c.in_ok-pid.rest.now
    c.in_ok-pid.ensures.found p is whole in
    let bad : false ≡ true = c.if-not-is_empty.ensures
    ∙ ap (λ (xs : List ℕ). length xs == 0) same.1 in absurd (cc bad)

pub returns-clause-found : goal.returns-clause-found
returns-clause-found c =
    let none = nil_from_length c.in_ok-pid.rest.now
    ((Decides-eqb _ 0).0 (sym c.if-not-is_empty.ensures)) in (
      c.in_ok-pid.pid,
      c.in_ok-pid.ensures.found.within,
      alone pid_bytes IsPid c.args.bytes.now c.in_ok-pid.pid c.in_ok-pid.rest.now
          c.in_ok-pid.ensures.found none,
      refl,
    )

pub returns-clause-only : goal.returns-clause-only
returns-clause-only c = λ p is whole.
    let same = alone_only pid_bytes IsPid c.args.bytes.now c.in_ok-pid.pid c.in_ok-pid.rest.now
    c.in_ok-pid.ensures.found p is whole in cc (same.0)
