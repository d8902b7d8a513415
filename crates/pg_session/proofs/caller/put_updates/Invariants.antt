use Rattle.std.proofs.Common.{take, ◌++◌, ◌≡◌}
use Rattle.std.specs.List.{flat_map}
use Rattle.pg_session.specs.Notices.{change, notice_line}
use Rattle.pg_session.proofs.caller.put_updates.Given as goal

-- the updates so far are told
abbrev pub invariant-loop-update : goal.invariant-loop-update
invariant-loop-update l = l.out.items ≡ l.fn.out.items ++ flat_map
    (λ u. notice_line (change l.number u)) (take l.update-index l.updates)
