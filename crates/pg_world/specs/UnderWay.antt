-- A message of which parts have come at one end of a wire, and not the last.
use Rattle.std.specs.Prelude.{◌≡◌, ℕ, ◌+◌, ◌<◌, ◌≤◌, ◌++◌, None, Some, drop, length}
use Rattle.std.specs.Prelude.{slice_get, take, IsTrue}
use Rattle.link_frames.specs.declared.message.Message.{Message}
use Rattle.link_frames.specs.Parts.{Begun, begun_by, parts}
use Rattle.policy_audit.specs.History.{History}
use Rattle.policy_audit.specs.Hearing.{begun}
use Rattle.policy_audit.specs.Links.{is_open, is_up}
use Rattle.policy_audit.specs.Owed.{waiting}
use Rattle.frame_laws.specs.Sent.{out, bodies_of, delivered}
use Rattle.frame_laws.specs.Spoken.{frames_said}
use Rattle.pg_world.specs.declared.side.Side.{Side}
use Rattle.pg_world.specs.World.{Wire, Nodes, node_at, link_at, other, under_way}
use Rattle.pg_world.specs.Sound.{bodies}

-- link b of B keeps this, and link a of A is the other end: it is the first parts of one message
-- that A owed there, from a place on. They are the last that came; and what is under way goes on
-- with the rest, in order. While link a is open, so does what waits there behind it, and no part is
-- missing.
pub record IsUnderWay (A : History) (a : ℕ) (B : History) (b : ℕ) (x : Wire) (to : Side) (k :
    Begun) : Type 0 where
  pub version : ℕ
  pub message : Message
  pub place : ℕ
  pub owed : (j : ℕ) → j ≤ length (parts message)
      → frames_said version (take j (drop place (bodies_of (out A a)))) ≡ take j (parts message)
  pub kept : begun_by None (take k.number (parts message)) ≡ Some k
  pub few : k.number < length (parts message)
  pub behind : length (delivered b B.entries) ≡ place + k.number
  pub accepted : frames_said version (drop place (delivered b B.entries)) ≡ take k.number (parts
      message)
  pub on_the_wire : (j : ℕ) → j ≤ length (under_way to x) → k.number + j ≤ length (parts message)
      → take k.number (parts message) ++ frames_said version (take j (bodies (under_way to x)))
      ≡ take (k.number + j) (parts message)
  pub all : IsTrue (is_open a A.entries) → (j : ℕ) → k.number + j ≤ length (parts message)
      → take k.number (parts message)
      ++ frames_said version (take j (bodies (under_way to x) ++ bodies (waiting A a)))
      ≡ take (k.number + j) (parts message)
  pub none_missing : IsTrue (is_open a A.entries)
      → length (parts message) ≤ k.number + length (bodies (under_way to x) ++ bodies (waiting A a))

-- so it is at each end of each wire, while that is up
abbrev pub PartsUnderWay : Nodes → Type 0
PartsUnderWay w = (n : ℕ) (x : Wire) → slice_get w.wires n ≡ Some x → (to : Side)
    → (A B : History) (a b : ℕ) → slice_get w.nodes (node_at (other to) x) ≡ Some A
    → slice_get w.nodes (node_at to x) ≡ Some B
    → link_at (other to) x ≡ Some a → link_at to x ≡ Some b → IsTrue (is_up b B.entries)
    → (k : Begun) → begun B.opening b B.entries ≡ Some k → IsUnderWay A a B b x to k
