use Rattle.scope_core.proofs
use proofs.Words
use Words.{Adds, All, ap, arith, change_unless_empty, cond, Counted, is_of_node, is_row}
use Words.{IsDifference, IsNodeList, length, List, map, mentions, Pid, row_in, same, same_decides}
use Words.{tally, [], ℕ, ◌∙◌, ◌≡◌}
use proofs.Calls.{fresh_change, fresh_counts, fresh_fit, fresh_list, fresh_total, joined_change}
use proofs.Calls.{told_covered}
use proofs.Indexed.{told_named}
use proofs.Kept.{changed_listed}
use Rattle.scope_core.proofs.table.ScopeTable.join_local.Goals.{In_ok-counted}
use proofs.table.ScopeTable.join_local.Goals as goal

pub counted_rows-requires : goal.counted_rows-requires
counted_rows-requires c =
    let g = c.args.group.now in
    let rows = c.deref-2.ensures.value ∙ c.in_ok-fresh.ensures
    ∙ ap (map (row_in g)) c.deref.ensures.value in
    rw rows (fresh_fit c.self.inside.own g c.args.pids.now c.in_ok-sorted.sorted.items
    (rw (← c.self.view_is) at c.requires) c.in_ok-sorted.ensures (omega arith))

-- ---- what joins

module _ (c : In_ok-counted) where
  abbrev own : List ℕ
  own = c.self.inside.own

  abbrev group : List ℕ
  group = c.args.group.now

  abbrev pids : List Pid
  pids = c.args.pids.now

  abbrev sorted : List Pid
  sorted = c.in_ok-sorted.sorted.items

  abbrev counted : List Counted
  counted = c.in_ok-counted.counted.items

  all_own : All (λ p. p.node ≡ own) pids
  all_own = rw (← c.self.view_is) at c.requires

  added : Adds (map (row_in group) sorted) [] counted
  added = grind arith

  counts_are : (h : List ℕ) (p : Pid)
      → tally (is_row h p) counted ≡ cond (same h group) (mentions p pids) 0
  counts_are = fresh_counts own group pids sorted all_own c.in_ok-sorted.ensures counted added

  total_is : (node : List ℕ)
      → tally (is_of_node node) counted ≡ cond (same own node) (length pids) 0
  total_is = fresh_total own group pids sorted all_own c.in_ok-sorted.ensures counted added

  list_is : IsNodeList own counted
  list_is = fresh_list own group pids sorted all_own c.in_ok-sorted.ensures counted added
      c.in_ok-counted.ensures.kept

  change_is : IsDifference (λ h p. 0) (λ h p. tally (is_row h p) counted)
      (change_unless_empty group [] sorted)
  change_is = fresh_change own group pids sorted all_own c.in_ok-sorted.ensures counted added

pub join-requires-clause-list : goal.join-requires-clause-list
join-requires-clause-list c = list_is (goal.at.join-requires-clause-list c).In_ok-counted

pub join-requires-clause-few : goal.join-requires-clause-few
join-requires-clause-few c =
    let own = c.self.inside.own in
    let more = total_is (goal.at.join-requires-clause-few c).In_ok-counted own in
    grind (arith, same_decides)

pub join-requires-clause-changes : goal.join-requires-clause-changes
join-requires-clause-changes c =
    rw (c.deref-3.ensures.value, c.in_ok-changes.ensures, c.new.ensures.items)
    (told_covered c.self.inside.own c.in_ok-counted.counted.items _
    (change_is (goal.at.join-requires-clause-changes c).In_ok-counted))

pub join-requires-clause-named : goal.join-requires-clause-named
join-requires-clause-named c =
    let at = (goal.at.join-requires-clause-named c).In_ok-counted in
    rw (c.deref-3.ensures.value, c.in_ok-changes.ensures, c.new.ensures.items)
    (told_named c.self.inside.own c.in_ok-counted.counted.items _ (list_is at).own (change_is at))

pub returns-clause-ok : goal.returns-clause-ok
returns-clause-ok c = rw (← c.self.view_is) (grind (arith, counts_are))

pub returns-clause-change : goal.returns-clause-change
returns-clause-change c =
    let counts = counts_are (goal.at.returns-clause-change c).In_ok-counted in
    rw (c.in_ok-changes.ensures, c.new.ensures.items, ← c.self.view_is)
    (joined_change c.args.group.now c.args.pids.now _ _ _ c.in_ok-sorted.ensures
    (λ h p. grind (arith, counts h p, c.in_ok-join.ensures.ok (is_row h p))))

pub invariant_of-self-2 : goal.invariant_of-self-2
invariant_of-self-2 c =
    let own = c.self.inside.own in
    let at = (goal.at.invariant_of-self-2 c).In_ok-counted in
    let counts = counts_are at in
    record {
      few = omega arith;
      total = grind (arith, total_is, c.in_ok-join.ensures.ok (is_of_node own), same_decides);
      listed = changed_listed c.self.inside.listings c.forget_changed.new.self _ _
          c.self.invariant.listed c.in_ok-changes.changes.items
          (rw c.deref-4.ensures.value at c.forget_changed.ensures)
          (rw (c.in_ok-changes.ensures, c.new.ensures.items)
          (joined_change c.args.group.now c.args.pids.now c.in_ok-sorted.sorted.items
          (λ h p. tally (is_row h p) c.self.inside.rows)
          (λ h p. tally (is_row h p) c.join.new.self) c.in_ok-sorted.ensures
          (λ h p. grind (arith, counts h p, c.in_ok-join.ensures.ok (is_row h p)))));
    }
