-- What a node lists, as the reader of a link with a stock node asks it.
use Rattle.std.specs.Prelude.{◌≡◌, ℕ, cond, List}
use Rattle.dist_types.specs.declared.row.Row.{Row}
use Rattle.node_threads.specs.Room.{IsSound, Room}
use Rattle.policy_audit.specs.History.{History}
use Rattle.policy_audit.specs.Listed.{listed}
use Rattle.policy_audit.specs.Own.{is_running}

-- how often a row is listed in the scope, where that runs
abbrev pub listing : History → List ℕ → Row → ℕ
listing h scope row = cond (is_running h scope) (listed h scope row.group row.pid) 0

-- so some sound node lists rows in the scope
abbrev pub IsListing : List ℕ → (Row → ℕ) → Type 0
IsListing scope rows = (room : Room) × IsSound room × (rows ≡ listing room.history scope)
