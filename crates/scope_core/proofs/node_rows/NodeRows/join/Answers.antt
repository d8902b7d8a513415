use Rattle.scope_core.proofs
use proofs.Words.{ap, arith, Bool, cond, is_row, IsNodeList, or_right, Row, take, take_all, tally}
use proofs.Words.{total, true, ◌+◌, ◌∙◌, ◌≡◌}
use proofs.NodeLists.{joined_list}
use proofs.HashedRows.{rows_equal}
use proofs.HashedWrites.{counted_stands, stands_at, stands_bare, stands_drop}
use proofs.Tallies.{take_le, tally_le, tally_parts, tally_take}
use Rattle.scope_core.proofs.node_rows.NodeRows.join.Goals.{After-each_once}
use proofs.node_rows.NodeRows.join.Goals as goal

pub raise-requires-clause-stands : goal.raise-requires-clause-stands
raise-requires-clause-stands c = grind (arith, stands_at, stands_bare, or_right, stands_drop)

pub raise-requires-clause-few : goal.raise-requires-clause-few
raise-requires-clause-few c =
    let item = c.counted-item.result in
    let more = c.args.more.now in
    let others = c.split_at.result.1.now in
    let i = c.loop-counted.counted-index in
    let test = is_row item.row.group item.row.pid in
    let next = tally_take test others i item (omega arith) c.counted-item.is in
    let whole =
    next ∙ ap (λ b. tally test (take i others) + cond b item.count 0) (rows_equal.refl item.row) in
    let few = rw (← c.self.view_is) at c.requires.few in
    omega (
      arith,
      c.loop-counted.invariant.0 test,
      c.in_ok-fresh.ensures.ok test,
      take_le,
      tally_parts,
      ap (tally test) c.split_at.ensures.back,
      tally_le test more,
      tally_le test c.self.inside.rows.rows,
    )

pub loop-counted-preserved : goal.loop-counted-preserved
loop-counted-preserved c = grind (arith, tally_take)

-- each row is counted as often as before and in the list together
all_joined : (c : After-each_once) (test : Row → Bool)
    → tally test c.loop-counted.self-inside.rows.rows
    ≡ tally test c.self.inside.rows.rows + tally test c.args.more.now
all_joined c test = grind (arith, take_all, tally_parts)

-- the rows that were there and those that joined, in one list
joined : (c : After-each_once)
    → IsNodeList c.loop-counted.self-inside.rows.node c.loop-counted.self-inside.rows.rows
joined c = grind (arith, all_joined, stands_bare, counted_stands, joined_list, tally_le)

pub invariant_of-self-2 : goal.invariant_of-self-2
invariant_of-self-2 c =
    let at = (goal.at.invariant_of-self-2 c).After-each_once in
    let whole = all_joined at (λ _. true) in record {
      total = omega arith;
      list = joined at;
    }

pub returns-clause-ok : goal.returns-clause-ok
returns-clause-ok c = λ test.
    rw (← c.self.view_is) (all_joined (goal.at.returns-clause-ok c).After-each_once test)

pub returns-clause-list : goal.returns-clause-list
returns-clause-list c = joined (goal.at.returns-clause-list c).After-each_once
