-- What the edge of a link knows of one scope, and what is made of what is said.
use Rattle.std.specs.Prelude.{◌==◌, ◌&&◌, not, Bool, true, false, cond, nat_lt}
use Rattle.std.specs.Prelude.{List, [], length, Option, Some, None}
use Rattle.std.specs.Option.{option_map_or}
use Rattle.dist_types.specs.declared.pid.Pid.{Pid}
use Rattle.dist_types.specs.declared.row.Row.{Row}
use Rattle.dist_types.specs.Listing.{same, same_pid}
use Rattle.otp_edge.specs.declared.scope_edge.Run.{Run}
use Rattle.otp_edge.specs.declared.scope_edge.ScopeEdge.{ScopeEdge}
use Rattle.otp_edge.specs.declared.scope_edge.HeardWord.{HeardWord}
use Rattle.otp_edge.specs.declared.word.Word.{Word}

-- ---- what is known

pub record Seen : Type 0 where
  -- the process of the peer's scope
  pub other : Option Pid
  -- whether it was sent our rows
  pub is_told : Bool
  -- the rows that it was told, without those that left
  pub told : List Row

abbrev pub seen_of : ScopeEdge → Seen
seen_of edge = record { other = edge.other; is_told = edge.is_told; told = edge.told.items }

-- of a process that is new nothing is known but that it is there
abbrev pub fresh : Option Pid → Seen
fresh other = record { other = other; is_told = false; told = [] }

-- whether the process is one of that run of a node
abbrev pub is_of : Run → Pid → Bool
is_of run p = same p.node run.node && p.creation == run.creation

-- whether the process is the known one
abbrev pub is_known : Pid → Option Pid → Bool
is_known p other = option_map_or (λ q. same_pid q p) other false

-- a process says that it is the scope's: of another one before it nothing is left
abbrev pub met : Pid → Seen → Seen
met p seen = cond (is_known p seen.other) seen (fresh (Some p))

-- whether another one was there
abbrev pub is_instead : Pid → Seen → Bool
is_instead p seen = option_map_or (λ q. not (same_pid q p)) seen.other false

-- ---- what is heard

-- nothing is handed in
abbrev pub nothing : HeardWord
nothing = record { is_down = false; is_new = false; word = None }

abbrev pub only_word : Word → HeardWord
only_word word = record { is_down = false; is_new = false; word = Some word }

-- of a process that says that it is the scope's; before it a Down, where another one was there
abbrev pub heard_of : Pid → Word → Seen → HeardWord
heard_of p word seen = record {
  is_down = is_instead p seen;
  is_new = not (is_known p seen.other);
  word = Some word;
}

-- a join or a leave counts of the known process, and where it has rows
abbrev pub may_state : Pid → List Row → Seen → Bool
may_state p rows seen = is_known p seen.other && nat_lt 0 (length rows)

-- ---- what is told

abbrev pub with_told : List Row → Seen → Seen
with_told rows seen = record { other = seen.other; is_told = true; told = rows }

-- whom a join or a leave may be told: the process that was told all rows
abbrev pub told_to : Seen → Option Pid
told_to seen = cond seen.is_told seen.other None

-- of a process that was told all rows, other rows are told now
abbrev pub now_told : List Row → Seen → Seen
now_told rows seen = record { other = seen.other; is_told = seen.is_told; told = rows }
