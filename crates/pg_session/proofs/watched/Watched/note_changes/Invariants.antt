use Rattle.std.proofs.Common.{List, take, ℕ, ◌&&◌, ◌≡◌}
use Rattle.std.specs.List.{list_any}
use Rattle.std.specs.Option.{option_map}
use Rattle.dist_types.specs.Listing.{same}
use Rattle.policy_audit.specs.Monitors.{is_watched, Target}
use Rattle.pg_session.specs.Watched.{last_change, last_stop, raised}
use Rattle.pg_session.proofs.watched.Watched.note_changes.Given as goal

-- those so far are noted
abbrev pub invariant-loop-change : goal.invariant-loop-change
invariant-loop-change l = record {
  stops : (s : List ℕ) → last_stop l.self s ≡ last_stop l.fn.self s;
  changes : (t : Target) → last_change l.self t ≡ option_map (raised (list_any
      (λ c. same c.scope t.scope && list_any (is_watched t.group) c.groups)
      (take l.change-index l.changes)) l.number) (last_change l.fn.self t);
}
