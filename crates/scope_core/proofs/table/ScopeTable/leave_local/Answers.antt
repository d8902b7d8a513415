use Rattle.scope_core.proofs
use proofs.Words
use Words.{Adds, AllByRecursion, ap, arith, change_unless_empty, cond, count_of, Counted}
use Words.{is_any_joined, is_row, IsDifference, IsPidListing, Joins, length, List, map, mentions}
use Words.{min, Pid, row_in, rules, same, Table, tally, true, [], ℕ, ◌-◌, ◌<◌, ◌∙◌, ◌≡◌, ◌≤◌}
use proofs.GoneRows.{gone_change, gone_fit, gone_left, gone_within, none_leaves, some_leaves}
use proofs.Kept.{changed_listed}
use Rattle.scope_core.proofs.table.ScopeTable.leave_local.Goals.{Else-is_empty, In_ok-gone}
use proofs.table.ScopeTable.leave_local.Goals as goal

pub returns-then-is_empty-clause-refused : goal.returns-then-is_empty-clause-refused
returns-then-is_empty-clause-refused c =
    let empty : length c.in_ok-left.left.items ≡ 0 = grind arith in
    none_leaves (count_of c.args.self.now c.args.group.now) c.args.pids.now c.in_ok-left.left.items
    c.in_ok-left.ensures.value empty

somebody : (c : Else-is_empty)
    → is_any_joined c.args.self.now c.args.group.now c.args.pids.now ≡ true
somebody c =
    let some : 0 < length c.in_ok-left.left.items = grind arith in
    some_leaves (count_of c.args.self.now c.args.group.now) c.args.pids.now c.in_ok-left.left.items
    c.in_ok-left.ensures.value some

pub returns-in_err-rows-clause-refused : goal.returns-in_err-rows-clause-refused
returns-in_err-rows-clause-refused c = let e =
    somebody (goal.at.returns-in_err-rows-clause-refused c).Else-is_empty in search rules

pub returns-in_err-gone-clause-refused : goal.returns-in_err-gone-clause-refused
returns-in_err-gone-clause-refused c = let e =
    somebody (goal.at.returns-in_err-gone-clause-refused c).Else-is_empty in search rules

pub returns-in_err-changes-clause-refused : goal.returns-in_err-changes-clause-refused
returns-in_err-changes-clause-refused c = let e =
    somebody (goal.at.returns-in_err-changes-clause-refused c).Else-is_empty in search rules

pub returns-clause-only : goal.returns-clause-only
returns-clause-only c = somebody (goal.at.returns-clause-only c).Else-is_empty

pub counted_rows-requires : goal.counted_rows-requires
counted_rows-requires c =
    let g = c.args.group.now in
    let t : Table = record { own = c.self.inside.own; rows = c.self.inside.rows } in
    let rows = c.deref-2.ensures.value ∙ c.in_ok-rows.ensures
    ∙ ap (map (row_in g)) c.deref.ensures.value in
    rw rows (gone_fit t g c.args.pids.now c.in_ok-left.left.items
    (rw (← c.self.view_is) at c.in_ok-left.ensures.value) c.few.ensures)

-- ---- what leaves

module _ (c : In_ok-gone) where
  abbrev the_table : Table
  the_table = record { own = c.self.inside.own; rows = c.self.inside.rows }

  abbrev group : List ℕ
  group = c.args.group.now

  abbrev pids : List Pid
  pids = c.args.pids.now

  abbrev left : List Pid
  left = c.in_ok-left.left.items

  abbrev gone : List Counted
  gone = c.in_ok-gone.gone.items

  listing : IsPidListing (λ p. min (mentions p pids) (count_of the_table group p)) left
  listing = rw (← c.self.view_is) at c.in_ok-left.ensures.value

  added : Adds (map (row_in group) left) [] gone
  added = grind arith

  within_rows : AllByRecursion
      (λ x. x.count ≤ tally (is_row x.row.group x.row.pid) c.self.inside.rows) gone
  within_rows = gone_within the_table group pids left listing gone added

  counts : (new : List Counted) → Joins gone new c.self.inside.rows → (h : List ℕ) (p : Pid)
      → tally (is_row h p) new ≡ count_of the_table h p - cond (same h group) (mentions p pids) 0
  counts = gone_left the_table group pids left listing gone added

  change : (new : List Counted) → Joins gone new c.self.inside.rows
      → IsDifference (count_of the_table) (λ h p. tally (is_row h p) new)
      (change_unless_empty group left [])
  change = gone_change the_table group pids left listing gone added

pub take_rows-requires-clause-counted : goal.take_rows-requires-clause-counted
take_rows-requires-clause-counted c = rw c.deref-3.ensures.value
    (within_rows (goal.at.take_rows-requires-clause-counted c).In_ok-gone)

pub returns-clause-ok : goal.returns-clause-ok
returns-clause-ok c = rw (← c.self.view_is) (grind (arith, counts))

pub returns-clause-change : goal.returns-clause-change
returns-clause-change c =
    let joins = rw c.deref-3.ensures.value at c.take_rows.ensures in
    rw (c.in_ok-changes.ensures, c.new.ensures.items, ← c.self.view_is)
    (change (goal.at.returns-clause-change c).In_ok-gone c.take_rows.new.self joins)

pub invariant_of-self : goal.invariant_of-self
invariant_of-self c =
    let joins = rw c.deref-3.ensures.value at c.take_rows.ensures in
    let told = change (goal.at.invariant_of-self c).In_ok-gone c.take_rows.new.self joins in
    record {
      few = c.total_of-self-inside.ensures.few;
      total = c.total_of-self-inside.ensures.total;
      listed = changed_listed c.self.inside.listings c.forget_changed.new.self _ _
          c.self.invariant.listed c.in_ok-changes.changes.items
          (rw c.deref-4.ensures.value at c.forget_changed.ensures)
          (rw (c.in_ok-changes.ensures, c.new.ensures.items) told);
    }
