-- A leave is cut by the counts of a table.
use Rattle.std.proofs.Common.{List, ℕ}
use Rattle.std.specs.Prelude.{None, Option, Some}
use Rattle.dist_types.specs.declared.row.Row.{Row}
use Rattle.link_frames.specs.declared.message.Message.{Message}
use Rattle.otp_edge.specs.declared.heard.Heard.{Heard}
use Rattle.otp_edge.specs.declared.left.Left.{Left}
use Rattle.otp_link.specs.Counted.{AreCountsOf, CutOf, Follows, IsCutAs, IsCutBy}

-- what is cut by counts is cut as the table lists of which they are
cut_as : (lists : List ℕ → (Row → ℕ) → Type 0) (left : Option Left) (counts : List ℕ)
    (first message : Option Message) → AreCountsOf lists left counts
    → CutOf (IsCutBy counts) left first message → CutOf (IsCutAs lists) left first message
cut_as lists None counts first message are cut = cut
cut_as lists (Some left) counts first message are cut = (are.0, are.1, cut are.0 are.2)

pub follows_as : (lists : List ℕ → (Row → ℕ) → Type 0) (counts : List ℕ) (first heard : Heard)
    → AreCountsOf lists first.left counts → Follows (IsCutBy counts) first heard
    → Follows (IsCutAs lists) first heard
follows_as lists counts first heard are so = record {
  down_is = so.down_is;
  owed_is = so.owed_is;
  left_is = so.left_is;
  message_is = cut_as lists first.left counts first.message heard.message are so.message_is;
}
