-- Which frames said rows of a scope in the present hearing. A hearing is a longest run of entries
-- after each of which the peer of the link is heard.
use Rattle.std.specs.Prelude.{ℕ, ◌<◌, Bool, false, cond, ◌&&◌, ◌==◌, List, [], ◌∷◌, ◌++◌, length}
use Rattle.std.specs.List.{AllByRecursion}
use Rattle.std.specs.Option.{option_map_or}
use Rattle.dist_types.specs.Listing.{same}
use Rattle.link_frames.specs.declared.message.Message.{Message}
use Rattle.link_frames.specs.declared.message.Message.TheVariants as said
use Rattle.policy_audit.specs.declared.event.Event.{Event}
use Rattle.policy_audit.specs.declared.event.Event.TheVariants as event
use Rattle.policy_audit.specs.declared.entry.Verdict.{Verdict}
use Rattle.policy_audit.specs.declared.entry.Verdict.TheVariants.{Accepted}
use Rattle.policy_audit.specs.declared.entry.Entry.{Entry}
use Rattle.policy_audit.specs.Sides.{is_whole}
use Rattle.link_frames.specs.declared.part.Message2.{Message2}
use Rattle.link_frames.specs.declared.part.Message2.TheVariants as frames
use Rattle.policy_audit.specs.declared.opening.Opening.{Opening}
use Rattle.policy_audit.specs.Hearing.{message_taken, said_at, heard}
use Rattle.frame_laws.specs.Sent.{delivered}

-- a Sync, a Join or a Leave of s
abbrev pub says_rows : List ℕ → Message → Bool
says_rows s (said.Sync t rows) = same t s
says_rows s (said.Join t rows) = same t s
says_rows s (said.Leave t rows) = same t s
says_rows s m = false

-- the last part of a Sync, a Join or a Leave of s
abbrev pub ends_rows : List ℕ → Message2 → Bool
ends_rows s (frames.Part kind t number last rows) = last && same t s
ends_rows s m = false

-- the body says one
abbrev pub has_rows : ℕ → List ℕ → List ℕ → Bool
has_rows version s body = option_map_or (ends_rows s) (message_taken version body) false

-- the entry after these completes a Sync, a Join or a Leave of s on link l
abbrev pub tells_rows : Opening → ℕ → List ℕ → List Entry → Verdict → Event → Bool
tells_rows o l s es (Accepted r) (event.Frame k body) =
    (k == l && is_whole l es) && option_map_or (says_rows s) (said_at o l es body) false
tells_rows o l s es v e = false

-- in the present hearing of s on link l: the places, among all frames that came on l, of the frames
-- that completed a Sync, a Join or a Leave of s, the newest first
abbrev pub told_rows : Opening → ℕ → List ℕ → List Entry → List ℕ
told_rows o l s [] = []
told_rows o l s (e ∷ es) =
    cond (heard o l s (e ∷ es))
    (cond (tells_rows o l s es e.verdict e.event) (length (delivered l es) ∷ []) []
    ++ told_rows o l s es) []

-- each number is greater than all that follow it
abbrev pub Falls : List ℕ → Type 0
Falls [] = Unit {0}
Falls (n ∷ ns) = AllByRecursion (λ k. k < n) ns × Falls ns
