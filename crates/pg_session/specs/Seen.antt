-- How far a connection has been told.
use Rattle.std.specs.Prelude.{ℕ, max, List}
use Rattle.policy_audit.specs.declared.entry.Entry.{Entry}
use Rattle.policy_audit.specs.History.{History, audited, creation, entered}
use Rattle.policy_audit.specs.Log.{later_than}
use Rattle.pg_session.specs.declared.news.Seen.{Seen}

-- up to now
abbrev pub seen_of : History → Seen
seen_of h = record { creation = creation h; entries = entered h.entries }

-- the entries since, but for those that the node has handed out
abbrev pub unseen : Seen → History → ℕ → List Entry
unseen seen h forgotten = later_than (max seen.entries forgotten) (audited h.entries)
