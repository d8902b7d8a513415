-- Which version of link messages a link speaks, and what bodies say there.
use Rattle.std.specs.Prelude.{◌≡◌, ℕ, cond, ◌==◌, List, [], ◌∷◌, Option, None, IsTrue}
use Rattle.std.specs.List.{flat_map}
use Rattle.std.specs.Option.{option_to_list}
use Rattle.dist_types.specs.Listing.{max_rows}
use Rattle.link_frames.specs.declared.message.Message.{Message}
use Rattle.link_frames.specs.declared.part.Message2.{Message2}
use Rattle.link_frames.specs.Parts.{Begun, begun_by, completed_by}
use Rattle.policy_audit.specs.declared.opening.Opening.{Opening}
use Rattle.policy_audit.specs.declared.entry.Entry.{Entry}
use Rattle.policy_audit.specs.Sides.{is_whole}
use Rattle.policy_audit.specs.Hearing.{link_version, message_taken}

-- link l spoke this version after each entry after which its side was whole
abbrev pub Speaks : Opening → ℕ → ℕ → List Entry → Type 0
Speaks o l version [] = Unit {0}
Speaks o l version (e ∷ es) =
    (IsTrue (is_whole l (e ∷ es)) → link_version o l (e ∷ es) ≡ version) × Speaks o l version es

-- how many rows of its own a node may say in a scope
abbrev pub limit : ℕ → ℕ
limit version = cond (version == 2) 65536 max_rows

-- what these bodies say, in parts; a body that is no message is left out
abbrev pub frames_said : ℕ → List (List ℕ) → List Message2
frames_said version bodies =
    flat_map (λ body. option_to_list (message_taken version body)) bodies

-- the messages that they complete, in their order
abbrev pub messages_said : ℕ → List (List ℕ) → List Message
messages_said version bodies = completed_by None (frames_said version bodies)

-- the message that they begin and don't complete
abbrev pub begun_of : ℕ → List (List ℕ) → Option Begun
begun_of version bodies = begun_by None (frames_said version bodies)
