-- The orders of texts, processes and rows.
use Rattle.std.specs.Prelude.{ℕ, List}
use Rattle.std.specs.declared.cmp.Ordering.{Ordering}
use Rattle.std.specs.Ordering.{nat_cmp, ordering_then}
use Rattle.std.specs.Cmp.Lexicographic.{slice_cmp}
use Rattle.dist_types.specs.declared.pid.Pid.{Pid}
use Rattle.dist_types.specs.declared.row.Row.{Row}

-- by the bytes
abbrev pub text_cmp : List ℕ → List ℕ → Ordering
text_cmp = slice_cmp nat_cmp

-- by the name, the creation and the number
abbrev pub pid_cmp : Pid → Pid → Ordering
pid_cmp a b = ordering_then (text_cmp a.node b.node)
    (ordering_then (nat_cmp a.creation b.creation) (nat_cmp a.number b.number))

-- by the group, and then by the process
abbrev pub row_cmp : Row → Row → Ordering
row_cmp a b = ordering_then (text_cmp a.group b.group) (pid_cmp a.pid b.pid)
