-- How often something was dropped, for each reason.
use Rattle.std.specs.Prelude.{◌≡◌, ◌≢◌, ◌+◌, ℕ, List, codes, min, slice_index}
use Rattle.otp_edge.specs.declared.drops.Dropped.{Dropped}
use Rattle.otp_edge.specs.declared.drops.Dropped.TheVariants as reasons
use Rattle.otp_edge.specs.declared.drops.Drops.{Drops}

abbrev pub name_of : Dropped → List ℕ
name_of reasons.ForMember = codes "for_member"
name_of reasons.ForName = codes "for_name"
name_of reasons.Unheard = codes "unheard"
name_of reasons.TooManyRows = codes "too_many_rows"
name_of reasons.Unanswered = codes "unanswered"
name_of reasons.Untold = codes "untold"
name_of reasons.TooManyScopes = codes "too_many_scopes"

-- its place among the counts
abbrev pub place_of : Dropped → ℕ
place_of reasons.ForMember = 0
place_of reasons.ForName = 1
place_of reasons.Unheard = 2
place_of reasons.TooManyRows = 3
place_of reasons.Unanswered = 4
place_of reasons.Untold = 5
place_of reasons.TooManyScopes = 6

-- how often something was dropped for that reason
abbrev pub times_for : Dropped → Drops → ℕ
times_for reason drops = slice_index drops.counts (place_of reason)

-- for that reason once more, 2^64 - 1 times at most; for each other one as often as before
pub record CountsOnce (reason : Dropped) (before after : Drops) : Type 0 where
  pub one : times_for reason after ≡ min (times_for reason before + 1) 0xFFFF_FFFF_FFFF_FFFF
  pub others : (other : Dropped) → other ≢ reason → times_for other after ≡ times_for other before
