-- Rows as they are told to a process of a scope.
use Rattle.std.specs.Prelude.{◌<◌, ◌^◌, List, map, length}
use Rattle.dist_types.specs.declared.pid.Pid.{Pid}
use Rattle.dist_types.specs.declared.row.Row.{Row}
use Rattle.otp_edge.specs.PgMessages.{Stated}
use Rattle.otp_edge.specs.declared.telling.Told.{Told}

abbrev pub pids_of : List Row → List Pid
pids_of rows = map (λ r. r.pid) rows

-- what is told of one group
abbrev pub stated_of : Told → Stated
stated_of told = record { group = told.group.items; pids = pids_of told.rows.now }

-- a list has fewer than 2^32 elements
abbrev pub HasFew : Told → Type 0
HasFew told = length told.rows.now < 2 ^ 32
