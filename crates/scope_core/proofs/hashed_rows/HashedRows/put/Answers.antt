use Rattle.scope_core.proofs
use proofs.Words.{ap, arith, length, NodeCounts, Some, sym, take, true, ◌-◌, ◌∙◌, ◌≡◌}
use proofs.Outcomes.{from_err, from_not_err}
use proofs.HashedRows.{stands_is}
use proofs.HashedWrites.{counted_more, hashed_write, taken_back}
use proofs.hashed_rows.HashedRows.put.Goals as goal

pub returns-then-not-branch-clause-fresh : goal.returns-then-not-branch-clause-fresh
returns-then-not-branch-clause-fresh c =
    let is = stands_is c.args.row.now c.self.inside.counts.entries in
    grind arith

pub returns-then-not-branch-clause-ok : goal.returns-then-not-branch-clause-ok
returns-then-not-branch-clause-ok c = rw (← c.self.view_is) (grind (arith, counted_more))

pub invariant_of-self-then-is_err : goal.invariant_of-self-then-is_err
invariant_of-self-then-is_err c =
    let es = c.self.inside.counts.entries in
    let failed = sym c.is_err.ensures.value ∙ c.if-is_err.true in
    let groups = from_err c.name-named.result failed c.name-named.ensures.same_groups in
    let processes = from_err c.name-named.result failed c.name-named.ensures.same_processes in
    let fresh : c.in_ok-push_new.field-0 ≡ true = grind arith in
    let pushed = rw fresh at c.in_ok-push_new.ensures.ok in
    let back = c.pop.ensures.shorter ∙ ap (λ (t : NodeCounts).
    record { node = t.node; entries = take (length t.entries - 1) t.entries }) pushed
    ∙ (λ i. record {
      node = c.self.inside.counts.node;
      entries = taken_back es (c.args.row.now, c.args.count) i;
    }) in
    rw back (record {
      once = c.self.invariant.once;
      own = c.self.invariant.own;
      by_group = λ g k. groups g k ∙ c.self.invariant.by_group g k;
      by_process = processes _ c.self.invariant.by_process;
    })

pub invariant_of-self-else-is_err : goal.invariant_of-self-else-is_err
invariant_of-self-else-is_err c =
    let done = sym c.is_err.ensures.value ∙ c.if-is_err.false in
    let groups = from_not_err c.name-named.result done c.name-named.ensures.groups in
    let processes = from_not_err c.name-named.result done c.name-named.ensures.processes in
    let own = rw (← c.self.view_is) at c.requires in
    let fresh : c.in_ok-push_new.field-0 ≡ true = grind arith in
    rw (ap (λ (t : NodeCounts). t.node) c.in_ok-push_new.ensures.ok)
    (hashed_write c.self.invariant c.args.row.now own (Some c.args.count) _ _ _
    c.in_ok-push_new.ensures.once (c.in_ok-push_new.ensures.written fresh) groups
    (processes _ c.self.invariant.by_process))

pub returns-clause-fresh : goal.returns-clause-fresh
returns-clause-fresh c =
    let is = stands_is c.args.row.now c.self.inside.counts.entries in
    grind arith

pub returns-clause-ok : goal.returns-clause-ok
returns-clause-ok c = rw (← c.self.view_is) (grind (arith, counted_more))
