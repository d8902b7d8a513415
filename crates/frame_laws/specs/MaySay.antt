-- What a peer that is heard may say without being refused.
use Rattle.std.specs.Prelude.{ℕ, ◌+◌, ◌≤◌, ◌==◌, ◌||◌, nat_le, List, length, IsTrue}
use Rattle.std.specs.List.{list_all}
use Rattle.dist_types.specs.declared.row.Row.{Row}
use Rattle.dist_types.specs.Listing.{same_row, occurrences, max_rows}
use Rattle.link_frames.specs.declared.part.PartKind.{PartKind}
use Rattle.link_frames.specs.declared.part.PartKind.TheVariants as kinds
use Rattle.link_frames.specs.declared.part.Message2.{Message2}
use Rattle.link_frames.specs.declared.part.Message2.TheVariants as frames
use Rattle.link_frames.specs.Parts.{is_next}
use Rattle.policy_audit.specs.History.{History}
use Rattle.policy_audit.specs.Hearing.{begun, link_version, rows_of, stated}
use Rattle.policy_audit.specs.Checks.{peer_limit, so_far}
use Rattle.policy_audit.specs.Contents.{local_rows}
use Rattle.policy_audit.specs.Listed.{is_from}

-- every row's process is of the peer of link l, with the creation that it gave there
abbrev pub AreFrom : History → ℕ → List Row → Type 0
AreFrom h l rows = IsTrue (list_all (λ r. is_from l h.entries r.pid) rows)

-- all that link l has stated in s, with these rows, are no more than its peer may have
pub record HasRoom (h : History) (l : ℕ) (s : List ℕ) (rows : List Row) : Type 0 where
  pub all : List Row
  pub counts : (r : Row)
      → stated h.opening l s r.group r.pid h.entries + rows_of r.group r.pid rows
      ≤ occurrences same_row r all
  pub room : length all ≤ peer_limit h l

-- no row is named more often than link l has stated it
abbrev pub AreStated : History → ℕ → List ℕ → List Row → Type 0
AreStated h l s rows = (r : Row)
    → rows_of r.group r.pid rows ≤ stated h.opening l s r.group r.pid h.entries

-- with these rows so far, a message of this kind is one that the peer of link l may send in s
abbrev pub MaySaySoFar : History → ℕ → PartKind → List ℕ → List Row → Type 0
MaySaySoFar h l kinds.Sync s rows = length rows ≤ peer_limit h l
MaySaySoFar h l kinds.Join s rows = HasRoom h l s rows
MaySaySoFar h l kinds.Leave s rows = AreStated h l s rows

-- the message, or the part, is one that the peer of link l may send in its scope: own rows can be
-- told to who asks
abbrev pub MaySay : History → ℕ → Message2 → Type 0
MaySay h l (frames.Discover s) =
    IsTrue (link_version h.opening l h.entries == 2 || nat_le (length (local_rows h s)) max_rows)
MaySay h l (frames.Part kind s number last rows) =
    IsTrue (is_next (begun h.opening l h.entries) kind s number)
    × AreFrom h l rows
    × MaySaySoFar h l kind s (so_far h l kind s number rows)
MaySay h l (frames.Down s) = Unit {0}
