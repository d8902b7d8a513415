use Rattle.scope_core.proofs
use proofs.Words.{arith, common_steps, pid_of, row_in, same_decides, same_row_decides, ◌∷◌, ◌≡◌}
use proofs.GroupRows.{behind_next}
use proofs.group_members.behind.Goals as goal

pub loop-preserved : goal.loop-preserved
loop-preserved c = λ node own.
    let was = c.loop.invariant node own in
    let row = c.in_ok-row.row.now in
    let others = c.in_ok-row.others.now in
    let x = row_in c.args.group.now (pid_of node c.args.key) in
    let first : c.loop.rest.now ≡ row ∷ others = grind (arith, common_steps) in
    let mine = rw first at was.1 in
    let is : row ≡ x = (same_row_decides row x).0 (grind (arith, same_decides)) in
    (behind_next c.args.rows.now c.loop.rest.now others c.loop.counter x row was.0 first is, mine.1)

pub returns-clause-own : goal.returns-clause-own
returns-clause-own c = λ node own. (c.loop.invariant node own).1
