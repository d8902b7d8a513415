use Rattle.std.proofs.Common.{length, take, ◌+◌, ◌≡◌}
use Rattle.std.specs.Str.{bytes_eq}
use Rattle.indexmap.specs.IndexSet.{insert_all}
use Rattle.admission_rules.proofs.allow_list.is_past_limit.Given as goal

-- the room that the names so far leave
abbrev pub invariant-loop-i : goal.invariant-loop-i
invariant-loop-i l = length (insert_all bytes_eq l.allowed.keys (take l.i l.names)) + l.room ≡ 1024
