use Rattle.scope_core.proofs
use proofs.Words.{Ascends, is_row, length, mentions, min, Pid, pid_cmp, tally, ◌++◌, ◌+◌, ◌≡◌}
use proofs.leaving.gone_in_order.Given as goal

-- those that are gone so far, and those of the rest that go, are all that go
abbrev pub invariant-loop-pid : goal.invariant-loop-pid
invariant-loop-pid l = record {
  order : Ascends pid_cmp (l.gone.items ++ l.rest);
  counts : (p : Pid)
      → mentions p l.gone.items + min (mentions p l.rest) (tally (is_row l.group p) l.rows)
      ≡ min (mentions p l.sorted) (tally (is_row l.group p) l.rows);
}

abbrev pub decreases-loop-pid : goal.decreases-loop-pid
decreases-loop-pid l = length l.rest
