use Rattle.otp_edge.proofs
use proofs.Words.{ap, append-nil, Decides-eqb, false, length, List, nil_from_length, pid_bytes, sym}
use proofs.Words.{true, ℕ, [], ◌++◌, ◌==◌, ◌∙◌, ◌≡◌}
use proofs.ListLemmas.{alone, alone_only}
use Rattle.otp_edge.specs.PgMessages.{AreGroups, groups_bytes, groups_of, members_bytes}
use Rattle.otp_edge.specs.PgMessages.{members_of, rows_left}
use proofs.LackLemmas.{lack_match, of_none, of_same}
use Rattle.otp_edge.proofs.hearing.leave_in.Goals as goal

pub returns-in_err-pid-clause-only : goal.returns-in_err-pid-clause-only
returns-in_err-pid-clause-only c = λ p ms gs is members groups whole.
    lack_match _ _ c.from_residual.result _ c.from_residual.ensures.1 (of_none _ _
    (c.in_err-pid.ensures.only p (members_bytes ms ++ groups_bytes gs) is whole)
    c.in_err-pid.ensures.refused)

pub returns-in_err-pids-clause-only : goal.returns-in_err-pids-clause-only
returns-in_err-pids-clause-only c = λ p ms gs is members groups whole.
    let first = c.in_ok-pid.ensures.found.only p (members_bytes ms ++ groups_bytes gs) is whole in
    let passed = c.from_residual-in_err-pids in
    lack_match _ _ passed.result _ passed.ensures.1 (of_none _ _
    (c.in_err-pids.ensures.only ms (groups_bytes gs) members (sym first.1))
    c.in_err-pids.ensures.refused)

pub returns-in_err-rows-clause-only : goal.returns-in_err-rows-clause-only
returns-in_err-rows-clause-only c = λ p ms gs is members groups whole.
    let first = c.in_ok-pid.ensures.found.only p (members_bytes ms ++ groups_bytes gs) is whole in
    let found = c.in_ok-pids.ensures.found in
    let second = found.2.only ms (groups_bytes gs) members (sym first.1) in
    let passed = c.from_residual-in_err-rows in
    lack_match _ _ passed.result _ passed.ensures.1 (of_same _ _ _
    (ap (λ ps. rows_left ps (groups_of gs)) (c.deref.ensures.value ∙ found.1
    ∙ sym (ap members_of second.0)))
    (c.in_err-rows.ensures.only gs [] groups (sym second.1 ∙ sym (append-nil (groups_bytes gs)))))

pub returns-then-not-is_empty-clause-only : goal.returns-then-not-is_empty-clause-only
returns-then-not-is_empty-clause-only c = λ p ms gs is members groups whole.
    let first = c.in_ok-pid.ensures.found.only p (members_bytes ms ++ groups_bytes gs) is whole in
    let second = c.in_ok-pids.ensures.found.2.only ms (groups_bytes gs) members (sym first.1) in
    let found = c.in_ok-rows.ensures.found in
    let same = alone_only groups_bytes AreGroups c.in_ok-pids.rest.now found.0
    c.in_ok-rows.rest.now found.2 gs groups (sym second.1) in
    let bad : false ≡ true = c.if-not-is_empty.ensures
    ∙ ap (λ (xs : List ℕ). length xs == 0) same.1 in absurd (cc bad)

pub returns-clause-found : goal.returns-clause-found
returns-clause-found c =
    let none = nil_from_length c.in_ok-rows.rest.now
    ((Decides-eqb _ 0).0 (sym c.if-not-is_empty.ensures)) in
    let members = c.in_ok-pids.ensures.found in
    let groups = c.in_ok-rows.ensures.found in
    let last = alone groups_bytes AreGroups c.in_ok-pids.rest.now groups.0 c.in_ok-rows.rest.now
    groups.2 none in (
      c.in_ok-pid.pid,
      c.in_ok-pid.ensures.found.within,
      (
        members.0,
        members.2.within,
        (
          groups.0,
          groups.2.within,
          c.in_ok-pid.ensures.found.bytes ∙ ap (λ l. pid_bytes c.in_ok-pid.pid ++ l)
              (members.2.bytes ∙ ap (λ l. members_bytes members.0 ++ l) last),
          cc (c.of.ensures, members.1, groups.1),
        ),
      ),
    )

pub returns-clause-only : goal.returns-clause-only
returns-clause-only c = λ p ms gs is members groups whole.
    let first = c.in_ok-pid.ensures.found.only p (members_bytes ms ++ groups_bytes gs) is whole in
    let found = c.in_ok-pids.ensures.found in
    let second = found.2.only ms (groups_bytes gs) members (sym first.1) in
    let last = c.in_ok-rows.ensures.found in
    let same = alone_only groups_bytes AreGroups c.in_ok-pids.rest.now last.0
    c.in_ok-rows.rest.now last.2 gs groups (sym second.1) in
    cc (c.of.ensures, found.1, last.1, first.0, second.0, same.0)
