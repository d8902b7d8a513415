use Rattle.std.proofs.Common.{take, ◌++◌, ◌≡◌}
use Rattle.std.specs.List.{flat_map}
use Rattle.pg_session.specs.Notices.{gone, notice_line}
use Rattle.pg_session.proofs.notice.put_all_down.Given as goal

-- the peers so far are told
abbrev pub invariant-loop-peer : goal.invariant-loop-peer
invariant-loop-peer l = l.out.items ≡ l.fn.out.items ++ flat_map
    (λ p. notice_line (gone l.reason p)) (take l.peer-index l.peers)
