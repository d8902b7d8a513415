use Rattle.scope_core.proofs
use proofs.Words.{ap, append_assoc, arith, List, pid_of, replicate, Row, row_in, ◌++◌, ◌∙◌}
use proofs.Outcomes.{some_any}
use Rattle.std.specs.List.Sorted.{IsStrictlySortedBy}
use proofs.group_members.behind_all.Goals as goal

pub loop-key-preserved : goal.loop-key-preserved
loop-key-preserved c = λ node own.
    let was = c.loop-key.invariant node own in
    let row = row_in c.args.group.now (pid_of node c.in-Some.key.now) in
    let x = replicate c.in-Some.count.now row in
    let first = c.in_ok-rest-in-Many.ensures.begins node was.0 in
    let steps = c.in-Some.ensures.steps in (
      c.in_ok-rest-in-Many.ensures.own node was.0,
      λ xs h. was.1 xs (first ∙ ap (λ (rs : List Row). x ++ rs) h ∙ grind (arith, append_assoc)),
    )

pub returns-in-None-clause-begins : goal.returns-in-None-clause-begins
returns-in-None-clause-begins c = λ node own.
    (c.loop-key.invariant node own).1 c.loop-key.rest.now (grind arith)

pub returns-in-None-clause-own : goal.returns-in-None-clause-own
returns-in-None-clause-own c = λ node own. (c.loop-key.invariant node own).0

pub returns-in-Empty-clause-ordered : goal.returns-in-Empty-clause-ordered
unfolding IsStrictlySortedBy
returns-in-Empty-clause-ordered c = rw c.in-Empty.is tt

pub returns-in-One-clause-ordered : goal.returns-in-One-clause-ordered
unfolding IsStrictlySortedBy
returns-in-One-clause-ordered c = rw c.in-One.is (some_any c.behind.result (tt, tt))

pub returns-in-Few-clause-begins : goal.returns-in-Few-clause-begins
returns-in-Few-clause-begins c =
    rw c.in-Few.is (rw c.entries.ensures.entries at c.behind_few.ensures.begins)
