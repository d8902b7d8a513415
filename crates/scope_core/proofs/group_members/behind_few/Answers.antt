use Rattle.scope_core.proofs
use proofs.Words.{ap, append_assoc, arith, drop_all, drop_more, pid_of, row_in, spread, sym, ◌++◌}
use proofs.group_members.behind_few.Goals as goal

pub loop-member-preserved : goal.loop-member-preserved
loop-member-preserved c = λ node own.
    let was = c.loop-member.invariant node own in
    let first = c.in_ok-rest.ensures.begins node was.0 in (
      c.in_ok-rest.ensures.own node was.0,
      λ xs h. was.1 xs (grind (arith, append_assoc, drop_more)),
    )

pub returns-clause-begins : goal.returns-clause-begins
returns-clause-begins c = λ node own.
    let rest = c.loop-member.rest.now in
    let done = drop_all c.loop-member.member-index c.args.members.now (omega arith) in
    (c.loop-member.invariant node own).1 rest
    (ap (λ es. spread (λ e. row_in c.args.group.now (pid_of node e.0)) (λ e. e.1) es ++ rest)
    (sym done))

pub returns-clause-own : goal.returns-clause-own
returns-clause-own c = λ node own. (c.loop-member.invariant node own).0
