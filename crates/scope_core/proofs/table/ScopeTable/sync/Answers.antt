use Rattle.scope_core.proofs
use proofs.Words
use Words.{ap, arith, cond, Counted, how_many, IfErr-weaker, is_of_node, is_row, IsDifference}
use Words.{length, List, on_ok_weaker, picked, Pid, refl, rules, same, subst, sym, Table, tally}
use Words.{Tells, times_beyond, vec_len, ℕ, ◌∙◌, ◌≡◌}
use proofs.Calls.{all_or_none, counted_own, first_counts, first_fault, no_others, own_left}
use proofs.Calls.{sync_counts, sync_covered}
use proofs.Between.{synced_change, unchanged}
use proofs.Kept.{changed_listed}
use Rattle.scope_core.proofs.table.ScopeTable.sync.Goals.{In_ok-changes, Then-total_of-eq0}
use proofs.table.ScopeTable.sync.Goals as goal

-- ---- where the peer has no rows

none_held : (c : Then-total_of-eq0) → tally (is_of_node c.args.peer.now) c.args.self.now.rows ≡ 0
none_held c = sym (ap (λ (t : Table). tally (is_of_node c.args.peer.now) t.rows) c.self.view_is)
    ∙ sym c.total_of.ensures.total ∙ c.if-total_of-eq0.true

pub returns-then-total_of-eq0-clause-ok : goal.returns-then-total_of-eq0-clause-ok
returns-then-total_of-eq0-clause-ok c =
    let none = none_held (goal.at.returns-then-total_of-eq0-clause-ok c).Then-total_of-eq0 in
    on_ok_weaker c.join_remote.result
    (first_counts c.args.peer.now c.args.rows.now c.requires c.args.self.now _ none)
    c.join_remote.ensures.ok

pub returns-then-total_of-eq0-clause-refused : goal.returns-then-total_of-eq0-clause-refused
returns-then-total_of-eq0-clause-refused c =
    let none = none_held (goal.at.returns-then-total_of-eq0-clause-refused c).Then-total_of-eq0 in
    IfErr-weaker c.join_remote.result _ _
    (λ fault. first_fault c.args.peer.now c.args.self.now c.args.rows.now c.args.limit fault none)
    c.join_remote.ensures.refused

-- ---- where others stand in the place of the peer's

module _ (c : In_ok-changes) where
  abbrev held : List Counted
  held = c.in_ok-held.held.items

  abbrev counted : List Counted
  counted = c.in_ok-counted.counted.items

  left_is : c.deref-5.result.now ≡ picked (times_beyond counted) held
  left_is = c.deref-5.ensures.value ∙ c.in_ok-left.ensures
      ∙ (λ i. picked (times_beyond (c.deref-2.ensures.value i)) (c.deref.ensures.value i))

  joined_is : c.deref-6.result.now ≡ picked (times_beyond held) counted
  joined_is = c.deref-6.ensures.value ∙ c.in_ok-joined.ensures
      ∙ (λ i. picked (times_beyond (c.deref-4.ensures.value i)) (c.deref-3.ensures.value i))

  change : (after : List ℕ → Pid → ℕ) → ((g : List ℕ) (p : Pid)
      → after g p ≡ cond (same p.node c.args.peer.now) (how_many (is_row g p) c.args.rows.now)
      (tally (is_row g p) c.self.inside.rows))
      → IsDifference (λ g p. tally (is_row g p) c.self.inside.rows) after
      c.in_ok-changes.changes.items
  change after is =
      let told = subst
      (λ (x : List Counted × List Counted). Tells x.0 x.1 c.in_ok-changes.changes.items)
      (λ i. (left_is i, joined_is i)) c.in_ok-changes.ensures in
      synced_change c.args.peer.now c.args.rows.now c.self.inside.rows held counted
      c.in_ok-changes.changes.items c.in_ok-held.ensures.rises c.in_ok-held.ensures.counts
      c.in_ok-counted.ensures.kept.rises c.in_ok-counted.ensures.added told
      (no_others c.args.peer.now c.args.rows.now c.requires) after is

pub replace-requires-clause-list : goal.replace-requires-clause-list
replace-requires-clause-list c =
    counted_own c.args.peer.now c.args.rows.now c.requires c.in_ok-counted.counted.items
    c.in_ok-counted.ensures.added c.in_ok-counted.ensures.kept

pub replace-requires-clause-changes : goal.replace-requires-clause-changes
replace-requires-clause-changes c =
    let n = c.args.peer.now in
    let rows = c.args.rows.now in
    let cs = c.self.inside.rows in
    let after = λ (g : List ℕ) (p : Pid).
    cond (same p.node n) (how_many (is_row g p) rows) (tally (is_row g p) cs) in
    rw c.deref-7.ensures.value
    (sync_covered n rows c.requires cs c.in_ok-counted.counted.items c.in_ok-changes.changes.items
    c.in_ok-counted.ensures.added after (λ g p. refl)
    (change (goal.at.replace-requires-clause-changes c).In_ok-changes after (λ g p. refl)))

pub returns-clause-ok : goal.returns-clause-ok
returns-clause-ok c = rw (← c.self.view_is) (record {
  own = refl;
  counts = sync_counts c.args.peer.now c.args.rows.now c.requires c.self.inside.rows
      c.in_ok-counted.counted.items c.replace.new.self c.in_ok-counted.ensures.added
      c.in_ok-replace.ensures.ok;
})

pub returns-clause-change : goal.returns-clause-change
returns-clause-change c = rw (← c.self.view_is)
    (change (goal.at.returns-clause-change c).In_ok-changes _
    (sync_counts c.args.peer.now c.args.rows.now c.requires c.self.inside.rows
    c.in_ok-counted.counted.items c.replace.new.self c.in_ok-counted.ensures.added
    c.in_ok-replace.ensures.ok))

pub returns-then-is_empty-clause-ok : goal.returns-then-is_empty-clause-ok
returns-then-is_empty-clause-ok c =
    let n = c.args.peer.now in
    let rows = c.args.rows.now in
    let cs = c.self.inside.rows in
    let changes = c.in_ok-changes.changes in
    let after = λ (g : List ℕ) (p : Pid).
    cond (same p.node n) (how_many (is_row g p) rows) (tally (is_row g p) cs) in
    let len : length changes.items ≡ vec_len changes = search rules in
    let none : length changes.items ≡ 0 = grind arith in
    rw (← c.self.view_is) (record {
      own = refl;
      counts = unchanged (λ g p. tally (is_row g p) cs) after changes.items none
          (change (goal.at.returns-then-is_empty-clause-ok c).In_ok-changes after (λ g p. refl));
    })

pub invariant_of-self-2 : goal.invariant_of-self-2
invariant_of-self-2 c =
    let n = c.args.peer.now in
    let rows = c.args.rows.now in
    let own = c.self.inside.own in
    let share = all_or_none n rows c.requires own in
    let left = own_left n own c.self.inside.rows c.self.inside.own_rows c.self.invariant.total in
    record {
      few = grind arith;
      total = grind (
        arith,
        c.in_ok-counted.ensures.added (is_of_node own),
        c.in_ok-replace.ensures.ok (is_of_node own),
      );
      listed = changed_listed c.self.inside.listings c.forget_changed.new.self _ _
          c.self.invariant.listed c.in_ok-changes.changes.items
          (rw c.deref-8.ensures.value at c.forget_changed.ensures)
          (change (goal.at.invariant_of-self-2 c).In_ok-changes
          (λ g p. tally (is_row g p) c.replace.new.self)
          (sync_counts n rows c.requires c.self.inside.rows c.in_ok-counted.counted.items
          c.replace.new.self c.in_ok-counted.ensures.added c.in_ok-replace.ensures.ok));
    }
