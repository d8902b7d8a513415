use Rattle.std.proofs.Common.{take, ◌≡◌}
use Rattle.std.specs.Str.{bytes_eq}
use Rattle.indexmap.specs.IndexSet.{insert_all}
use Rattle.admission_rules.proofs.allow_list.add_all.Given as goal

-- the names so far
abbrev pub invariant-loop-name : goal.invariant-loop-name
invariant-loop-name l = l.allowed.keys ≡ insert_all bytes_eq l.initial.allowed.keys
    (take l.name-index l.names)
