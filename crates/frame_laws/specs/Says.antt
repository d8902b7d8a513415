-- What an owed frame says.
use Rattle.std.specs.Prelude.{◌≡◌, ℕ, Bool, true, false, ◌&&◌, ◌==◌, List, [], Some, None}
use Rattle.std.specs.List.{list_all}
use Rattle.dist_types.specs.declared.row.Row.{Row}
use Rattle.dist_types.specs.Listing.{same}
use Rattle.link_frames.specs.declared.part.Message2.{Message2}
use Rattle.link_frames.specs.declared.part.Message2.TheVariants as frames
use Rattle.policy_audit.specs.OutFrame.{OutFrame}
use Rattle.policy_audit.specs.Hearing.{message_taken}

-- on a link of that version: a frame of the handshake, whose body spells no message, or a message,
-- or a part of one
pub data SaysOne (version : ℕ) (f : OutFrame) : Type 0 where
  Hello : f.wide ≡ false → message_taken version f.body ≡ None → SaysOne version f
  Means : (m : Message2) → f.wide ≡ true → message_taken version f.body ≡ Some m → SaysOne version f

-- the rows that a part has
abbrev pub rows_in : Message2 → List Row
rows_in (frames.Part kind s number last rows) = rows
rows_in m = []

-- the scope that a message, or a part of one, is about
abbrev pub scope_in : Message2 → List ℕ
scope_in (frames.Discover s) = s
scope_in (frames.Part kind s number last rows) = s
scope_in (frames.Down s) = s

-- every row of the part is of a process with this name and this creation
abbrev pub is_of : List ℕ → ℕ → Message2 → Bool
is_of name creation m = list_all (λ r. same r.pid.node name
    && r.pid.creation == creation) (rows_in m)
