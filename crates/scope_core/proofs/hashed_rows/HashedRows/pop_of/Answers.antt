use Rattle.scope_core.proofs
use proofs.Words
use Words.{ap, AreCounted, cond, counted_in, false, find_in, has_row, is_some, IsHashed, key_cmp}
use Words.{List, lookup, None, Option, option_map, refl, row_in, same_row, Some, sym, text_cmp}
use Words.{true}
use Words.{ℕ, ◌∙◌, ◌≡◌}
use proofs.HashedRows.{some_cond, taken_counted}
use proofs.HashedWrites.{hashed_write, no_other, none_left, none_of, row_of}
use proofs.Outcomes.{none_any, none_said, some_said}
use proofs.Popped.{popped_gone}
use Rattle.scope_core.specs.declared.counted.Membership.{Membership}
use Rattle.scope_core.proofs.hashed_rows.HashedRows.pop_of.Goals.{After-is_none-ends_process}
use Rattle.scope_core.proofs.hashed_rows.HashedRows.pop_of.Goals.{After-take-2}
use Rattle.scope_core.proofs.hashed_rows.HashedRows.pop_of.Goals.{In-Some-pop}
use proofs.hashed_rows.HashedRows.pop_of.Goals as goal

some_of : {A B : Type 0} (f : A → B) (o : Option A) → is_some (option_map f o) ≡ true
    → is_some o ≡ true
some_of f None e = e
some_of f (Some a) e = refl

-- ---- where the groups of processes aren't kept

pub returns-in_err-group-clause-none : goal.returns-in_err-group-clause-none
returns-in_err-group-clause-none c =
    let es = c.self.inside.counts.entries in
    let node = c.self.inside.counts.node in
    let p = c.args.pid.now in
    let own = rw (← c.self.view_is) at c.requires in
    rw (← c.self.view_is) (none_any c.from_residual.result (none_of p es
    (λ g. sym (row_of node g p c.of-key.result es own c.of-key.ensures)
    ∙ sym (ap is_some (c.self.invariant.by_group g c.of-key.result))
    ∙ ap is_some (c.in_err-group.ensures.none g))))

taken : (c : After-is_none-ends_process) → c.unwrap-from.result.group ≡ c.in_ok-group.group.now
taken c = rw c.unwrap-from.ensures at c.take.ensures.group

-- the map and the index, without that row
rest : (c : After-is_none-ends_process) → IsHashed c.self.inside.counts.node
    c.take.new.self.entries c.take-ends_group.new.map c.self.inside.processes
rest c =
    let own = rw (← c.self.view_is) at c.requires in
    let took = rw (taken c, c.of-key.ensures) at c.take-ends_group.ensures.taken in
    hashed_write c.self.invariant (row_in c.in_ok-group.group.now c.args.pid.now) own None _ _ _
    c.take.ensures.once c.take.ensures.written took (rw c.in_default.is tt)

pub invariant_of-self-in_default : goal.invariant_of-self-in_default
invariant_of-self-in_default c = rw c.take.ensures.node (rest c)

pub returns-in_default-clause-gone : goal.returns-in_default-clause-gone
returns-in_default-clause-gone c =
    let value : lookup (same_row (row_in c.in_ok-group.group.now c.args.pid.now))
    c.self.inside.counts.entries ≡ Some c.unwrap-from.result.count =
    sym c.take.ensures.count
    ∙ ap (option_map (λ (m : Membership). m.count)) c.unwrap-from.ensures in
    rw (← c.self.view_is) (popped_gone c.args.pid.now c.in_ok-group.group.now c.unwrap-from.result
    c.self.inside.counts.entries c.take.new.self.entries c.self.invariant.once
    c.take.ensures.once c.take.ensures.written value (taken c))

counted : (c : After-is_none-ends_process) → AreCounted (counted_in c.self.inside.counts.entries)
    → AreCounted (counted_in c.take.new.self.entries)
counted c = taken_counted (row_in c.in_ok-group.group.now c.args.pid.now)
    c.self.inside.counts.entries c.take.new.self.entries c.take.ensures.once c.take.ensures.written

pub returns-in_default-clause-last : goal.returns-in_default-clause-last
returns-in_default-clause-last c =
    let none = rw (taken c) at c.take-ends_group.ensures.none in
    let some = rw (taken c) at c.take-ends_group.ensures.some in
    rw (← c.self.view_is, c.take.ensures.node, taken c) (λ all.
    none_left _ c.in_ok-group.group.now _ c.take-ends_group.new.map c.take-ends_group.result
    (rest c).by_group (counted c all) none some)

pub returns-in_default-clause-done : goal.returns-in_default-clause-done
returns-in_default-clause-done c =
    let p = c.args.pid.now in
    let fs = c.take.new.self.entries in
    let own = rw (← c.self.view_is) at c.requires in
    let here : (g : List ℕ) → has_row fs (row_in g p)
    ≡ is_some (find_in text_cmp key_cmp c.take-ends_group.new.map g c.of-key.result) =
    λ g. sym (row_of c.self.inside.counts.node g p c.of-key.result fs own c.of-key.ensures)
    ∙ sym (ap is_some ((rest c).by_group g c.of-key.result)) in
    let said = c.is_none-ends_process.ensures in
    let more = c.group_of-in_default in
    rw (← c.self.view_is) (λ all. no_other p fs c.is_none-ends_process.result (counted c all)
    (λ e g. here g ∙ ap is_some (none_said more.result _ said e more.ensures.none g))
    (λ e. let one = some_said more.result _ said e more.ensures.found in
    (one.0.now, here one.0.now ∙ one.1)))

pub returns-in_default-clause-counted : goal.returns-in_default-clause-counted
returns-in_default-clause-counted c = rw (← c.self.view_is) (counted c)

-- ---- where they are

pub invariant_of-self-in_default-pop : goal.invariant_of-self-in_default-pop
invariant_of-self-in_default-pop c = record {
  once = c.self.invariant.once;
  own = c.self.invariant.own;
  by_group = c.self.invariant.by_group;
  by_process = λ k g. ap is_some (c.in_default-pop.ensures.same k g)
      ∙ (rw c.in-Some.is at c.self.invariant.by_process) k g;
}

pub returns-in_default-pop-clause-none : goal.returns-in_default-pop-clause-none
returns-in_default-pop-clause-none c =
    let es = c.self.inside.counts.entries in
    let p = c.args.pid.now in
    let own = rw (← c.self.view_is) at c.requires in
    let by_process = rw c.in-Some.is at c.self.invariant.by_process in
    rw (← c.self.view_is) (none_of p es
    (λ g. sym (row_of c.self.inside.counts.node g p c.of-key.result es own c.of-key.ensures)
    ∙ sym (by_process c.of-key.result g) ∙ ap is_some (c.in_default-pop.ensures.none g)))

-- the row of the process in the group is there
there : (c : In-Some-pop)
    → has_row c.self.inside.counts.entries (row_in c.in-Some-pop.group c.args.pid.now) ≡ true
there c =
    let own = rw (← c.self.view_is) at c.requires in
    let by_process = rw c.in-Some.is at c.self.invariant.by_process in
    sym (row_of c.self.inside.counts.node c.in-Some-pop.group c.args.pid.now c.of-key.result
    c.self.inside.counts.entries own c.of-key.ensures)
    ∙ sym (by_process c.of-key.result c.in-Some-pop.group) ∙ c.in-Some-pop.ensures.found

pub unwrap-from-requires-2 : goal.unwrap-from-requires-2
unwrap-from-requires-2 c = some_of (λ (m : Membership). m.count) c.take-2.result
    (ap is_some c.take-2.ensures.count ∙ there (goal.at.unwrap-from-requires-2 c).In-Some-pop)

-- the map and its indexes, without that row
hashed : (c : After-take-2) → IsHashed c.self.inside.counts.node c.take-2.new.self.entries
    c.take-ends_group-2.new.map (Some c.pop.new.map)
hashed c =
    let own = rw (← c.self.view_is) at c.requires in
    let took = rw c.of-key.ensures at c.take-ends_group-2.ensures.taken in
    let popped = rw c.of-key.ensures at c.in-Some-pop.ensures.taken in
    let by_process = rw c.in-Some.is at c.self.invariant.by_process in
    hashed_write c.self.invariant (row_in c.in-Some-pop.group c.args.pid.now) own None _ _ _
    c.take-2.ensures.once c.take-2.ensures.written took
    (λ k g. some_cond _ _ _ _ (popped k g) ∙ ap (cond _ false) (by_process k g))

pub invariant_of-self-2 : goal.invariant_of-self-2
invariant_of-self-2 c =
    rw c.take-2.ensures.node (hashed (goal.at.invariant_of-self-2 c).After-take-2)

pub returns-clause-gone : goal.returns-clause-gone
returns-clause-gone c =
    let group = rw c.unwrap-from-2.ensures at c.take-2.ensures.group in
    let value : lookup (same_row (row_in c.in-Some-pop.group c.args.pid.now))
    c.self.inside.counts.entries ≡ Some c.unwrap-from-2.result.count =
    sym c.take-2.ensures.count
    ∙ ap (option_map (λ (m : Membership). m.count)) c.unwrap-from-2.ensures in
    rw (← c.self.view_is) (popped_gone c.args.pid.now c.in-Some-pop.group c.unwrap-from-2.result
    c.self.inside.counts.entries c.take-2.new.self.entries c.self.invariant.once
    c.take-2.ensures.once c.take-2.ensures.written value group)

pub returns-clause-last : goal.returns-clause-last
returns-clause-last c =
    let row = row_in c.in-Some-pop.group c.args.pid.now in
    let is = hashed (goal.at.returns-clause-last c).After-take-2 in
    let group = rw c.unwrap-from-2.ensures at c.take-2.ensures.group in
    rw (← c.self.view_is, c.take-2.ensures.node, group) (λ all.
    none_left _ c.in-Some-pop.group _ c.take-ends_group-2.new.map c.take-ends_group-2.result
    is.by_group (taken_counted row c.self.inside.counts.entries c.take-2.new.self.entries
    c.take-2.ensures.once c.take-2.ensures.written all)
    c.take-ends_group-2.ensures.none c.take-ends_group-2.ensures.some)

pub returns-clause-done : goal.returns-clause-done
returns-clause-done c =
    let p = c.args.pid.now in
    let row = row_in c.in-Some-pop.group p in
    let fs = c.take-2.new.self.entries in
    let own = rw (← c.self.view_is) at c.requires in
    let is = hashed (goal.at.returns-clause-done c).After-take-2 in
    let here : (g : List ℕ) → has_row fs (row_in g p)
    ≡ is_some (find_in key_cmp text_cmp c.pop.new.map c.of-key.result g) =
    λ g. sym (row_of c.self.inside.counts.node g p c.of-key.result fs own c.of-key.ensures)
    ∙ sym (is.by_process c.of-key.result g) in
    rw (← c.self.view_is) (λ all. no_other p fs c.in-Some-pop.ends_process
    (taken_counted row c.self.inside.counts.entries fs c.take-2.ensures.once
    c.take-2.ensures.written all) (λ e g. here g ∙ ap is_some (c.in-Some-pop.ensures.last e g))
    (λ e. let one = c.in-Some-pop.ensures.more e in (one.0, here one.0 ∙ one.1)))

pub returns-clause-counted : goal.returns-clause-counted
returns-clause-counted c = rw (← c.self.view_is)
    (taken_counted (row_in c.in-Some-pop.group c.args.pid.now) c.self.inside.counts.entries
    c.take-2.new.self.entries c.take-2.ensures.once c.take-2.ensures.written)
