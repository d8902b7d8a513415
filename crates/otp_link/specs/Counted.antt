-- What is handed in of what an edge hears.
use Rattle.std.specs.Prelude.{◌≡◌, ⊤, ◌<◌, ℕ, List, length, get_or, slice_index}
use Rattle.std.specs.Prelude.{Option, Some, None}
use Rattle.dist_types.specs.declared.row.Row.{Row}
use Rattle.link_frames.specs.declared.message.Message.{Message}
use Rattle.otp_edge.specs.declared.heard.Heard.{Heard}
use Rattle.otp_edge.specs.declared.left.Left.{Left}
use Rattle.otp_edge.specs.Lefts.{IsLeft}

-- the counts of rows, each how often it is listed
abbrev pub Lists : (Row → ℕ) → List Row → List ℕ → Type 0
Lists listed rows counts = (length counts ≡ length rows) × ((place : ℕ) (d : Row) →
    place < length rows → slice_index counts place ≡ listed (get_or rows place d))

-- they are those of one listing of a table
abbrev pub AreCounts : ((Row → ℕ) → Type 0) → List Row → List ℕ → Type 0
AreCounts lists rows counts = (listed : Row → ℕ) × lists listed × Lists listed rows counts

-- the counts for a leave that was heard, by a table that lists rows in each scope
abbrev pub AreCountsOf : (List ℕ → (Row → ℕ) → Type 0) → Option Left → List ℕ → Type 0
AreCountsOf lists None counts = ⊤
AreCountsOf lists (Some left) counts = AreCounts (lists left.scope) left.rows counts

-- a leave is cut to just what these counts list
abbrev pub IsCutBy : List ℕ → Left → Option Message → Type 0
IsCutBy counts left message =
    (listed : Row → ℕ) → Lists listed left.rows counts
    → IsLeft left.scope left.rows listed message

-- a leave is cut to just what the table lists in its scope
abbrev pub IsCutAs : (List ℕ → (Row → ℕ) → Type 0) → Left → Option Message → Type 0
IsCutAs lists left message =
    (listed : Row → ℕ) × lists left.scope listed × IsLeft left.scope left.rows listed message

-- the message that is handed in: of a leave what is cut so, else the one that was heard
abbrev pub CutOf : (Left → Option Message → Type 0) → Option Left → Option Message
    → Option Message → Type 0
CutOf IsCut None first message = message ≡ first
CutOf IsCut (Some left) first message = IsCut left message

-- nothing else is handed in, and nothing else sent back
pub record Follows (IsCut : Left → Option Message → Type 0) (first heard : Heard) : Type 0 where
  pub down_is : heard.down ≡ first.down
  pub owed_is : heard.owed ≡ first.owed
  pub left_is : heard.left ≡ None
  pub message_is : CutOf IsCut first.left first.message heard.message
