use Rattle.scope_core.proofs
use proofs.Words.{ap, arith, Ascends, found, how_many_append, key_cmp, key_of, mentions, pid_cmp}
use proofs.Words.{same, same_decides, same_pid, subst, sym, true, ◌∙◌, ◌≡◌}
use proofs.Outcomes.{ok_both}
use proofs.HashedWrites.{in_group_count}
use proofs.GroupIndex.{left_behind}
use proofs.GroupRows.{member_mentions}
use proofs.hashed_rows.HashedRows.push_members.Goals as goal

pub returns-in_default-clause-counts : goal.returns-in_default-clause-counts
returns-in_default-clause-counts c = λ p.
    let g = c.args.group.now in
    let es = c.self.inside.counts.entries in
    let node = c.self.inside.counts.node in
    let none = ap (λ o. found key_cmp o (key_of p)) (sym c.in_default.ensures.value) in
    let count = λ (h : same node p.node ≡ true).
    in_group_count node g p es _ c.self.invariant.once ((same_decides node p.node).0 h)
    (sym none ∙ c.self.invariant.by_group g (key_of p)) in
    grind arith

pub returns-clause-counts : goal.returns-clause-counts
returns-clause-counts c = ok_both c.push_pids.result (λ pids sorted p.
    let g = c.args.group.now in
    let es = c.self.inside.counts.entries in
    let node = c.self.inside.counts.node in
    let there = ap (λ o. found key_cmp o (key_of p)) c.in-Some.ensures.value
    ∙ c.self.invariant.by_group g (key_of p) in
    let count = λ (h : same node p.node ≡ true).
    in_group_count node g p es _ c.self.invariant.once ((same_decides node p.node).0 h) there in
    let more = member_mentions node g p _ sorted in
    let all = ap (mentions p) pids ∙ how_many_append (λ q. same_pid q p) c.args.pids.now.items _ in
    rw (← c.self.view_is) (grind (arith, count, more, all)))
    (rw c.node.ensures at c.push_pids.ensures.pids) c.push_pids.ensures.ordered

pub returns-clause-ascends : goal.returns-clause-ascends
returns-clause-ascends c = ok_both c.push_pids.result (λ pids sorted. rw (← c.self.view_is)
    (λ below ascends. subst (Ascends pid_cmp) (sym pids)
    (left_behind c.self.inside.counts.node (c.args.group.now, c.in-Some.members.now) sorted
    c.args.pids.now.items below ascends)))
    (rw c.node.ensures at c.push_pids.ensures.pids) c.push_pids.ensures.ordered
