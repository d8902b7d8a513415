-- Which message is begun at a place in what a node owed.
use Rattle.std.specs.Prelude.{◌≡◌, ℕ, ◌+◌, ◌<◌, ◌≤◌, List, None, Some, drop, length, take}
use Rattle.link_frames.specs.declared.message.Message.{Message}
use Rattle.link_frames.specs.Parts.{Begun, begun_by, parts}
use Rattle.frame_laws.specs.Spoken.{frames_said}

-- Behind the first n of these bodies this is begun: from a place on they are the parts of one
-- message, one after the other, of which the first have come, as many as the number of the latest,
-- and not all.
pub record IsBegun (version : ℕ) (bodies : List (List ℕ)) (n : ℕ) (b : Begun) : Type 0 where
  pub message : Message
  pub place : ℕ
  pub fits : place + length (parts message) ≤ length bodies
  pub parts_are : (j : ℕ) → j ≤ length (parts message)
      → frames_said version (take j (drop place bodies)) ≡ take j (parts message)
  pub few : b.number < length (parts message)
  pub kept : begun_by None (take b.number (parts message)) ≡ Some b
  pub behind : place + b.number ≡ n
