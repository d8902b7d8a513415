use Rattle.std.proofs.Common.{take}
use Rattle.std.specs.List.{list_any}
use Rattle.policy_audit.specs.Monitors.{is_watched}
use Rattle.pg_session.specs.Watched.{Raises}
use Rattle.pg_session.proofs.watched.ScopeNews.note.Given as goal

-- those so far are noted
abbrev pub invariant-loop-change : goal.invariant-loop-change
invariant-loop-change l = Raises (λ g. list_any (is_watched g) (take l.change-index l.changes))
    l.number l.fn.self l.self
