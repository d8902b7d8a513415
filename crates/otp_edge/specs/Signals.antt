-- The signals of a node (Distribution Protocol, "Protocol messages"), as far as they are answered.
use Rattle.std.specs.Prelude.{◌≡◌, ◌<◌, ⊤, ℕ, List, [], ◌∷◌, length}
use Rattle.dist_types.specs.declared.pid.Pid.{Pid}
use Rattle.external_terms.specs.Terms.{SpellsTerm}
use Rattle.external_terms.specs.Values.{atom_bytes}
use Rattle.otp_edge.specs.Bodies.{IsBody, IsControl, version}
use Rattle.otp_edge.specs.Meaning.{meant}
use Rattle.otp_edge.specs.PgMessages.{PgMessage, SpellsPg, rows_meant}
use Rattle.otp_edge.specs.Processes.{IsPid, pid_bytes}
use Rattle.otp_edge.specs.declared.meaning.Said.{Said}
use Rattle.otp_edge.specs.declared.signal.Signal.{Signal}
use Rattle.otp_edge.specs.declared.signal.Signal.TheVariants as signals

-- a control message of that operation, and of so many terms with it
pub record HasControl (arity operation : ℕ) (first second rest behind body : List ℕ) : Type 0 where
  pub control : List ℕ
  pub is_body : IsBody control behind body
  pub is_control : IsControl arity operation first second rest control

-- behind the control message stands a message
pub record HasMessage (message behind : List ℕ) : Type 0 where
  pub spelled : SpellsTerm message
  pub bytes : behind ≡ version ∷ message

-- that message is one of a scope's process, and this is what it means
pub record Says (said : Said) (behind : List ℕ) : Type 0 where
  pub term : List ℕ
  pub message : PgMessage
  pub has : HasMessage term behind
  pub spells : SpellsPg term message
  pub means : said ≡ meant message

-- a message stands there, and where it is one of a scope's process, it has more than 65,536 rows
pub record HasTooMany (behind : List ℕ) : Type 0 where
  pub term : List ℕ
  pub has : HasMessage term behind
  pub rows : (m : PgMessage) → SpellsPg term m → 65536 < length (rows_meant m)

-- such a message stands behind the control message of a body
abbrev pub SaysTooMany : List ℕ → Type 0
SaysTooMany body = (control behind : List ℕ) → IsBody control behind body → HasTooMany behind

-- SEND: `{2, Cookie, To}` and a message
abbrev pub IsSent : Pid → Said → List ℕ → Type 0
IsSent to said body = (cookie : List ℕ) × IsPid to × ((behind : List ℕ)
    × HasControl 3 2 cookie (pid_bytes to) [] behind body × Says said behind)

-- REG_SEND: `{6, From, Cookie, Name}` and a message
abbrev pub IsNamed : List ℕ → Said → List ℕ → Type 0
IsNamed name said body = (from : List ℕ) × ((cookie : List ℕ) × ((behind : List ℕ)
    × HasControl 4 6 from cookie (atom_bytes name) behind body × Says said behind))

-- which signal a body is
abbrev pub IsSignal : Signal → List ℕ → Type 0
IsSignal (signals.Said to said) body = IsSent to said body
IsSignal (signals.Named name said) body = IsNamed name.now said body
IsSignal (signals.Asked name message) body = (from : List ℕ) × ((cookie : List ℕ)
    × ((behind : List ℕ) × HasControl 4 6 from cookie (atom_bytes name.now) behind body
    × HasMessage message.now behind))
-- MONITOR_P: `{19, From, To, Reference}`
IsSignal (signals.Monitor from to reference) body = (behind : List ℕ)
    × HasControl 4 19 from.now to.now reference.now behind body
-- DEMONITOR_P: `{20, From, To, Reference}`
IsSignal (signals.Demonitor from to reference) body = (behind : List ℕ)
    × HasControl 4 20 from.now to.now reference.now behind body
-- MONITOR_P_EXIT: `{21, From, To, Reference, Reason}`
IsSignal (signals.MonitorExit from to) body = (rest : List ℕ) × ((behind : List ℕ)
    × HasControl 5 21 from.now to.now rest behind body)
-- LINK: `{1, From, To}`
IsSignal (signals.Link from to) body = (behind : List ℕ)
    × HasControl 3 1 from.now to.now [] behind body
-- UNLINK_ID: `{35, Id, From, To}`
IsSignal (signals.Unlink id from to) body = (behind : List ℕ)
    × HasControl 4 35 id.now from.now to.now behind body
IsSignal signals.Other body = ⊤
