use Rattle.std.proofs.Common.{take, ◌++◌, ◌≡◌}
use Rattle.pg_text.specs.Answers.{spaced}
use Rattle.pg_text.proofs.printed.put_each.Given as goal

-- the values so far are added
abbrev pub invariant-loop-item : goal.invariant-loop-item
invariant-loop-item g l = l.out.items ≡ l.fn.out.items ++ spaced g.T.Printed.text
    (take l.item-index l.items)
