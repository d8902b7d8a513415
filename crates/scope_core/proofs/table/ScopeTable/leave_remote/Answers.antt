use Rattle.scope_core.proofs
use proofs.Words.{ap, arith, how_many, is_of_node, is_row, IsDifference, List, Pid, rules, sym}
use proofs.Words.{Table, tally, ℕ, ◌+◌, ◌∙◌, ◌≡◌}
use proofs.Calls.{all_or_none, taken_change}
use proofs.GoneRows.{listed_fit}
use proofs.Kept.{changed_listed}
use Rattle.scope_core.proofs.table.ScopeTable.leave_remote.Goals.{After-take_listed}
use proofs.table.ScopeTable.leave_remote.Goals as goal

pub counted_rows-requires : goal.counted_rows-requires
counted_rows-requires c =
    let n = c.args.peer.now in
    let t : Table = record { own = c.self.inside.own; rows = c.self.inside.rows } in
    let few = rw c.are_all_in.ensures.same at (c.few.ensures n) in
    listed_fit n c.args.rows.now c.requires t
    (sym c.are_all_in.ensures.value ∙ c.if-not-are_all_in.false) few

pub returns-in_err-counted-clause-refused : goal.returns-in_err-counted-clause-refused
returns-in_err-counted-clause-refused c = rw (← c.self.view_is)
    (let e = sym c.are_all_in.ensures.value ∙ c.if-not-are_all_in.false in search rules)

pub returns-in_err-changes-clause-refused : goal.returns-in_err-changes-clause-refused
returns-in_err-changes-clause-refused c = rw (← c.self.view_is)
    (let e = sym c.are_all_in.ensures.value ∙ c.if-not-are_all_in.false in search rules)

taken : (c : After-take_listed) (g : List ℕ) (p : Pid)
    → tally (is_row g p) c.self.inside.rows ≡ tally (is_row g p) c.take_listed.new.self
    + how_many (is_row g p) c.args.rows.now
taken c g p = ap (tally (is_row g p)) (sym c.are_all_in.ensures.same)
    ∙ c.take_listed.ensures.rows g p

own_taken : (c : After-take_listed)
    → tally (is_of_node c.self.inside.own) c.self.inside.rows ≡ tally (is_of_node c.self.inside.own)
    c.take_listed.new.self + how_many (is_of_node c.self.inside.own) c.args.rows.now
own_taken c = ap (tally (is_of_node c.self.inside.own)) (sym c.are_all_in.ensures.same)
    ∙ c.take_listed.ensures.totals c.self.inside.own

change : (c : After-take_listed) → IsDifference (λ g p. tally (is_row g p) c.self.inside.rows)
    (λ g p. tally (is_row g p) c.take_listed.new.self) c.in_ok-changes.changes.items
change c =
    let told = rw c.deref.ensures.value at c.in_ok-changes.ensures in
    taken_change c.args.rows.now c.self.inside.rows c.in_ok-counted.counted.items
    c.take_listed.new.self c.in_ok-changes.changes.items told c.in_ok-counted.ensures.added
    (taken c)

pub overflow_sub-self : goal.overflow_sub-self
overflow_sub-self c =
    let share = all_or_none c.args.peer.now c.args.rows.now c.requires c.self.inside.own in
    grind (arith, own_taken)

pub returns-clause-change : goal.returns-clause-change
returns-clause-change c =
    rw (← c.self.view_is) (change (goal.at.returns-clause-change c).After-take_listed)

pub invariant_of-self-2 : goal.invariant_of-self-2
invariant_of-self-2 c =
    let at = (goal.at.invariant_of-self-2 c).After-take_listed in
    let share = all_or_none c.args.peer.now c.args.rows.now c.requires c.self.inside.own in
    record {
      few = omega arith;
      total = grind (arith, own_taken);
      listed = changed_listed c.self.inside.listings c.forget_changed.new.self _ _
          c.self.invariant.listed c.in_ok-changes.changes.items
          (rw c.deref-3.ensures.value at c.forget_changed.ensures) (change at);
    }
