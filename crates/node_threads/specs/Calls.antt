-- What a pass has recorded, and which entries of an audit are a seat's.
use Rattle.std.specs.Prelude.{◌≡◌, ℕ, ◌+◌, ◌-◌, ◌<◌, ◌^◌, ◌==◌, Bool, true, false, List, ◌++◌, length, map, reverse, drop, Option, Some, None, slice_get}
use Rattle.std.specs.List.{filter}
use Rattle.policy_audit.specs.declared.reply.Reply.{Reply}
use Rattle.policy_audit.specs.declared.reply.Reply.TheVariants.{Up}
use Rattle.policy_audit.specs.declared.entry.Entry.{Entry}
use Rattle.policy_audit.specs.declared.entry.Verdict.{Verdict}
use Rattle.policy_audit.specs.declared.entry.Verdict.TheVariants.{Accepted, Refused}
use Rattle.node_threads.specs.declared.pass.Call.{Call}

-- a seat, all its calls that made an entry, the oldest first, and how many of the first of these
-- were let go
pub record Record : Type 0 where
  pub seat : ℕ
  pub calls : List Call
  pub gone : ℕ

-- the calls that are kept
abbrev pub kept_calls : Record → List Call
kept_calls pass = drop pass.gone pass.calls

-- the entry is of this seat
abbrev pub of : ℕ → Entry → Bool
of seat e = e.seat == seat

-- how many entries are of this seat
abbrev pub entries_of : ℕ → List Entry → ℕ
entries_of seat es = length (filter (of seat) es)

-- the call that made the entry
abbrev pub call_of : Entry → Call
call_of e = record { number = e.number; event = e.event; verdict = e.verdict }

-- the calls that made the entries of this seat, the oldest first; a history has its newest entry
-- first
abbrev pub calls_of : ℕ → List Entry → List Call
calls_of seat es = map call_of (filter (of seat) (reverse es))

-- ---- what the last call was answered

abbrev pub reply_in : Verdict → Option Reply
reply_in (Accepted reply) = Some reply
reply_in (Refused rule) = None

abbrev pub reply_of : Option Call → Option Reply
reply_of None = None
reply_of (Some call) = reply_in call.verdict

-- the reply of the last call, if it was accepted
abbrev pub last_reply : List Call → Option Reply
last_reply calls = reply_of (slice_get calls (length calls - 1))

-- ---- what a worker's calls add

-- the pass has gained these calls, whichever it has let go
abbrev pub Gains : Record → List Call → Record → Type 0
Gains pass more pass' =
    pass' ≡ record { seat = pass.seat; calls = pass.calls ++ more; gone = pass'.gone }

abbrev pub is_up_reply : Reply → Bool
is_up_reply (Up peer creation visible) = true
is_up_reply reply = false

abbrev pub is_up_answer : Verdict → Bool
is_up_answer (Accepted reply) = is_up_reply reply
is_up_answer (Refused rule) = false

-- the call was answered that its link is up
abbrev pub is_up : Call → Bool
is_up call = is_up_answer call.verdict

-- ---- calls that are let go

-- so many were let go, and these are they; with those that are kept they are no more than an audit
-- has entries
pub record AreParted (gone : ℕ) (first : List Call) (kept : List Call) : Type 0 where
  pub gone_are : gone ≡ length first
  pub few : length first + length kept < 2 ^ 32
