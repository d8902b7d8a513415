use Rattle.scope_core.proofs
use proofs.Words.{AllByRecursion, ap, append_assoc, arith, entries_of, List, NodeTable, Row, subst}
use proofs.Words.{sym, [], ◌++◌, ◌∙◌, ◌≡◌}
use proofs.GroupRows.{SortedMembers}
use proofs.GroupIndex.{all_repeated, members_repeated, no_rows, repeated}
use proofs.hashed_rows.HashedRows.are_just.Goals as goal

pub loop-group-preserved : goal.loop-group-preserved
loop-group-preserved c =
    let node = c.args.self.now.node in
    let was = c.loop-group.invariant in
    let done = c.in-Some-behind_all.ensures in
    let steps = c.in-Some.ensures.steps in
    let first = members_repeated node c.in-Some.group.now (entries_of c.in-Some.members.now) in
    let begins = done.begins node was.0 in (
      done.own node was.0,
      λ xs h. was.1 xs (begins ∙ ap (λ (rs : List Row). first ++ rs) h
          ∙ grind (arith, append_assoc)),
      λ a. was.2 (grind arith),
    )

pub returns : goal.returns
returns c = λ yes.
    let table = c.self.inside in
    let node = c.args.self.now.node in
    let was = c.loop-group.invariant in
    let done = ap (λ i. repeated node i ++ []) c.in-None.ensures.steps.0 in
    let start : c.into_iter-group-iterator.result ≡ table.groups.entries =
    c.into_iter-group-iterator.ensures.into_iter_gives ∙ c.iter-group-items.ensures.rest in
    let sorted = was.2 (subst (AllByRecursion SortedMembers) (sym c.in-None.ensures.steps.0) tt) in
    let members = subst (AllByRecursion SortedMembers) start sorted in
    let ended = no_rows c.loop-group.rest.now (sym c.is_empty.ensures ∙ yes) ∙ sym done in
    let all = was.1 [] ended ∙ ap (λ i. repeated node i ++ []) start in
    let es = table.groups.entries in
    let here = sym c.self.view_is in
    let mine = subst (λ (t : NodeTable). c.args.rows.now ≡ repeated t.node es ++ []) here all in
    rw (← c.self.view_is) (all_repeated table.counts.node table.counts.entries table.groups
    table.processes
    c.self.invariant c.iter-group-items.ensures.ordered members c.args.rows.now mine)
