-- Messages that were accepted on a link, and the frames that brought them.
use Rattle.std.specs.Prelude.{◌≡◌, ℕ, Bool, true, false, cond, ◌&&◌, ◌==◌, List, [], ◌∷◌}
use Rattle.std.specs.Prelude.{◌++◌}
use Rattle.std.specs.List.{flat_map}
use Rattle.std.specs.Option.{option_to_list}
use Rattle.dist_types.specs.Listing.{same}
use Rattle.link_frames.specs.declared.message.Message.{Message}
use Rattle.link_frames.specs.declared.message.Message.TheVariants as said
use Rattle.link_frames.specs.declared.part.Message2.{Message2}
use Rattle.policy_audit.specs.declared.opening.Opening.{Opening}
use Rattle.policy_audit.specs.declared.event.Event.{Event}
use Rattle.policy_audit.specs.declared.event.Event.TheVariants as event
use Rattle.policy_audit.specs.declared.entry.Verdict.{Verdict}
use Rattle.policy_audit.specs.declared.entry.Verdict.TheVariants.{Accepted}
use Rattle.policy_audit.specs.declared.entry.Entry.{Entry}
use Rattle.policy_audit.specs.History.{is_accepted}
use Rattle.policy_audit.specs.Sides.{is_whole}
use Rattle.policy_audit.specs.Hearing.{Talk, Said, Stopped, talk, frame_taken}

-- the scope of a message
abbrev pub scope_of : Message → List ℕ
scope_of (said.Discover s) = s
scope_of (said.Sync s rows) = s
scope_of (said.Join s rows) = s
scope_of (said.Leave s rows) = s
scope_of (said.Down s) = s

-- a message, and not a stop
abbrev pub message_in : Talk → List Message
message_in (Said m) = m ∷ []
message_in (Stopped s) = []

-- the messages of link l, the newest first
abbrev pub messages : Opening → ℕ → List Entry → List Message
messages o l es = flat_map message_in (talk o l es)

-- what an entry after these takes on link l
abbrev pub takes : Opening → ℕ → List Entry → Verdict → Event → List Message2
takes o l es (Accepted r) (event.Frame k body) =
    cond (k == l && is_whole l es) (option_to_list (frame_taken o l es body)) []
takes o l es v e = []

-- what further entries take there behind these, the oldest first
abbrev pub taken_behind : Opening → ℕ → List Entry → List Entry → List Message2
taken_behind o l es [] = []
taken_behind o l es (e ∷ more) =
    taken_behind o l es more ++ takes o l (more ++ es) e.verdict e.event

-- an event that may change what is kept of a message on link l
abbrev pub moves_parts : ℕ → List Entry → Event → Bool
moves_parts l es (event.Frame k body) = k == l && is_whole l es
moves_parts l es (event.StopScope s) = true
moves_parts l es event.Restart = true
moves_parts l es e = false

-- the event stops s, or all scopes
abbrev pub disturbs : List ℕ → Event → Bool
disturbs s event.Restart = true
disturbs s (event.StopScope t) = same t s
disturbs s e = false

-- no such event was accepted
abbrev pub AreUndisturbed : List ℕ → List Entry → Type 0
AreUndisturbed s [] = Unit {0}
AreUndisturbed s (e ∷ es) =
    ((is_accepted e.verdict && disturbs s e.event) ≡ false) × AreUndisturbed s es
