-- What is handed in of a leave.
use Rattle.std.specs.Prelude.{◌≡◌, ◌<◌, ℕ, List, [], Option, Some, None, length, get_or, slice_index}
use Rattle.dist_types.specs.declared.row.Row.{Row}
use Rattle.link_frames.specs.declared.message.Message.{Message}
use Rattle.link_frames.specs.declared.message.Message.TheVariants as messages
use Rattle.otp_edge.specs.declared.left.Left.{Left}
use Rattle.otp_edge.specs.Tallies.{IsCutTo}

-- the rows that are listed, where there are some
abbrev pub leave_of : List ℕ → List Row → Option Message
leave_of scope [] = None
leave_of scope rows = Some (messages.Leave scope rows)

-- the counts of rows: each how often the node lists it
abbrev pub AreCounts : (Row → ℕ) → List Row → List ℕ → Type 0
AreCounts listed rows counts = (length counts ≡ length rows) × ((place : ℕ) (d : Row) →
    place < length rows → slice_index counts place ≡ listed (get_or rows place d))

pub record IsLeft (scope : List ℕ) (asked : List Row) (listed : Row → ℕ) (given : Option Message)
    : Type 0 where
  pub kept : List Row
  pub cut : IsCutTo asked kept listed
  pub message : given ≡ leave_of scope kept

-- of a leave by such counts the rows that are listed; any other message stays
abbrev pub IsCutBy : List ℕ → Option Left → Option Message → Option Message → Type 0
IsCutBy counts None before after = after ≡ before
IsCutBy counts (Some left) before after = (listed : Row → ℕ) → AreCounts listed left.rows counts
    → IsLeft left.scope left.rows listed after
