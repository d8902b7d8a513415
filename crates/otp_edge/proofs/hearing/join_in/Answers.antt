use Rattle.otp_edge.proofs
use Rattle.otp_edge.specs
use proofs.Words.{ap, append-nil, Decides-eqb, false, length, List, nil_from_length, pid_bytes, sym}
use proofs.Words.{true, ℕ, [], ◌++◌, ◌==◌, ◌∙◌, ◌≡◌}
use proofs.ListLemmas.{alone, alone_only}
use specs.PgMessages.{AreMembers, members_bytes, members_of, rows_in}
use proofs.LackLemmas.{lack_match, of_none, of_same}
use specs.declared.meaning.Said.TheVariants as saids
use Rattle.otp_edge.proofs.hearing.join_in.Goals as goal

pub returns-in_err-pid-clause-only : goal.returns-in_err-pid-clause-only
returns-in_err-pid-clause-only c = λ p g ms is term members whole.
    lack_match _ _ c.from_residual.result _ c.from_residual.ensures.1 (of_none _ _
    (c.in_err-pid.ensures.only p (g ++ members_bytes ms) is whole) c.in_err-pid.ensures.refused)

pub returns-in_err-group-clause-only : goal.returns-in_err-group-clause-only
returns-in_err-group-clause-only c = λ p g ms is term members whole.
    let first = c.in_ok-pid.ensures.found.only p (g ++ members_bytes ms) is whole in
    let passed = c.from_residual-in_err-group in
    lack_match _ _ passed.result _ passed.ensures.1 (of_none _ _
    (c.in_err-group.ensures.only g (members_bytes ms) term (sym first.1))
    c.in_err-group.ensures.refused)

pub returns-in_err-pids-clause-only : goal.returns-in_err-pids-clause-only
returns-in_err-pids-clause-only c = λ p g ms is term members whole.
    let first = c.in_ok-pid.ensures.found.only p (g ++ members_bytes ms) is whole in
    let group = c.in_ok-group.ensures.found.only g (members_bytes ms) term (sym first.1) in
    let passed = c.from_residual-in_err-pids in
    lack_match _ _ passed.result _ passed.ensures.1 (of_none _ _
    (c.in_err-pids.ensures.only ms [] members (sym group.1 ∙ sym (append-nil (members_bytes ms))))
    c.in_err-pids.ensures.refused)

pub returns-then-not-is_empty-clause-only : goal.returns-then-not-is_empty-clause-only
returns-then-not-is_empty-clause-only c = λ p g ms is term members whole.
    let first = c.in_ok-pid.ensures.found.only p (g ++ members_bytes ms) is whole in
    let group = c.in_ok-group.ensures.found.only g (members_bytes ms) term (sym first.1) in
    let found = c.in_ok-pids.ensures.found in
    let same = alone_only members_bytes AreMembers c.in_ok-group.rest.now found.0
    c.in_ok-pids.rest.now found.2 ms members (sym group.1) in
    let bad : false ≡ true = c.if-not-is_empty.ensures
    ∙ ap (λ (xs : List ℕ). length xs == 0) same.1 in absurd (cc bad)

pub returns-clause-found : goal.returns-clause-found
returns-clause-found c =
    let none = nil_from_length c.in_ok-pids.rest.now
    ((Decides-eqb _ 0).0 (sym c.if-not-is_empty.ensures)) in
    let members = c.in_ok-pids.ensures.found in
    let last = alone members_bytes AreMembers c.in_ok-group.rest.now members.0
    c.in_ok-pids.rest.now members.2 none in (
      c.in_ok-pid.pid,
      c.in_ok-pid.ensures.found.within,
      (
        c.in_ok-group.group.now,
        c.in_ok-group.ensures.found.within,
        (
          members.0,
          members.2.within,
          c.in_ok-pid.ensures.found.bytes ∙ ap (λ l. pid_bytes c.in_ok-pid.pid ++ l)
              (c.in_ok-group.ensures.found.bytes ∙ ap (λ l. c.in_ok-group.group.now ++ l) last),
          ap (saids.Join c.in_ok-pid.pid) (c.of.ensures ∙ c.in_ok-push_rows.ensures.ok
              ∙ ap (λ l. l ++ rows_in c.in_ok-group.group.now c.deref.result.now)
              c.new-rows.ensures.items
              ∙ ap (rows_in c.in_ok-group.group.now) (c.deref.ensures.value ∙ members.1)),
        ),
      ),
    )

pub returns-clause-only : goal.returns-clause-only
returns-clause-only c = λ p g ms is term members whole.
    let first = c.in_ok-pid.ensures.found.only p (g ++ members_bytes ms) is whole in
    let group = c.in_ok-group.ensures.found.only g (members_bytes ms) term (sym first.1) in
    let found = c.in_ok-pids.ensures.found in
    let same = alone_only members_bytes AreMembers c.in_ok-group.rest.now found.0
    c.in_ok-pids.rest.now found.2 ms members (sym group.1) in
    let rows = c.of.ensures ∙ c.in_ok-push_rows.ensures.ok
    ∙ ap (λ l. l ++ rows_in c.in_ok-group.group.now c.deref.result.now)
    c.new-rows.ensures.items
    ∙ ap (rows_in c.in_ok-group.group.now) (c.deref.ensures.value ∙ found.1) in
    ap (saids.Join c.in_ok-pid.pid) rows
    ∙ sym (λ i. saids.Join (first.0 i) (rows_in (group.0 i) (members_of (same.0 i))))

pub returns-in_err-push_rows-clause-only : goal.returns-in_err-push_rows-clause-only
returns-in_err-push_rows-clause-only c = λ p g ms is term members whole.
    let passed = c.from_residual-in_err-push_rows in
    let first = c.in_ok-pid.ensures.found.only p (g ++ members_bytes ms) is whole in
    let group = c.in_ok-group.ensures.found.only g (members_bytes ms) term (sym first.1) in
    let found = c.in_ok-pids.ensures.found in
    let same = found.2.only ms [] members (sym group.1 ∙ sym (append-nil (members_bytes ms))) in
    let rows = ap (λ l. l ++ rows_in c.in_ok-group.group.now c.deref.result.now)
    c.new-rows.ensures.items
    ∙ ap (rows_in c.in_ok-group.group.now) (c.deref.ensures.value ∙ found.1)
    ∙ sym (λ i. rows_in (group.0 i) (members_of (same.0 i))) in
    lack_match _ _ passed.result _ passed.ensures.1 (of_same _ _ _ rows
    c.in_err-push_rows.ensures.refused)
