-- What the writer of a link adds to its pass, and what it writes.
use Rattle.std.specs.Prelude.{◌≡◌, ◌⊎◌, ℕ, true, All, List, [], ◌∷◌, Option, Result, Ok, Err}
use Rattle.std.specs.List.{flat_map}
use Rattle.std.specs.Io.KnownBytes.{Appends}
use Rattle.policy_audit.specs.OutFrame.{OutFrame}
use Rattle.policy_audit.specs.Wire.{wire_bytes}
use Rattle.policy_audit.specs.declared.event.Event.TheVariants.{Take}
use Rattle.policy_audit.specs.declared.reply.Reply.TheVariants.{Out}
use Rattle.policy_audit.specs.declared.entry.Verdict.{Verdict}
use Rattle.policy_audit.specs.declared.entry.Verdict.TheVariants.{Accepted}
use Rattle.node_threads.specs.declared.fault.CallFault.{CallFault}
use Rattle.node_threads.specs.declared.ends.WriteEnd.{WriteEnd}
use Rattle.node_threads.specs.declared.ends.WriteEnd.TheVariants as ends
use Rattle.node_threads.specs.declared.pass.Call.{Call}
use Rattle.node_threads.specs.declared.retreat.RetreatStep.{RetreatStep}
use Rattle.node_threads.specs.Calls.{Record, Gains}
use Rattle.node_threads.specs.Ends.{take_end, writer_gives_up, write_end_after}
use Rattle.node_threads.specs.Entered.{EndsAt}
use Rattle.node_threads.specs.Retreat.{Leaves}

-- each call takes what waits for the link
abbrev pub AreTakes : ℕ → List Call → Type 0
AreTakes link calls = All (λ (c : Call). c.event ≡ Take link) calls

-- the frames that a call was answered
abbrev pub frames_in : Verdict → List OutFrame
frames_in (Accepted (Out frames)) = frames
frames_in verdict = []

-- the frames that the calls were answered, as they go over the wire
abbrev pub wires : List Call → List ℕ
wires calls = flat_map wire_bytes (flat_map (λ (c : Call). frames_in c.verdict) calls)

-- the last Take is answered so that its writer ends, or some link of the node is stuck
abbrev pub IsSent : ℕ → Record → List Call → WriteEnd → Record → Type 0
IsSent link pass takes stop pass' = (stop ≡ ends.StuckLink)
    ⊎ ((fault : CallFault) × EndsAt (Take link) fault pass takes pass' × (stop ≡ take_end fault))

-- the writer stops for a reason of its own; or it is sent away, and has written all that it took
abbrev pub HasReason : ℕ → Record → List Call → Option (List ℕ) → WriteEnd → Option (List ℕ)
    → Record → Type 0
HasReason link pass takes known stop known' pass' = (writer_gives_up stop ≡ true)
    ⊎ (IsSent link pass takes stop pass' × Appends known known' (wires takes))

-- one Take: its frames were written; or the writer stops
abbrev pub Took : ℕ → Record → Option (List ℕ) → Result (Unit {0}) WriteEnd → Option (List ℕ)
    → Record → Type 0
Took link pass known (Ok done) known' pass' = (c : Call) × (c.event ≡ Take link)
    × Gains pass (c ∷ []) pass' × Appends known known' (wires (c ∷ []))
Took link pass known (Err stop) known' pass' = (more : List Call) × AreTakes link more
    × Gains pass more pass' × HasReason link pass more known stop known' pass'

-- the pass has gained Takes, and then the writer stopped
pub record WritesTo (link : ℕ) (pass : Record) (known : Option (List ℕ)) (stop : WriteEnd)
    (known' : Option (List ℕ)) (pass' : Record) : Type 0 where
  pub takes : List Call
  pub are_takes : AreTakes link takes
  pub gains : Gains pass takes pass'
  pub reason : HasReason link pass takes known stop known' pass'

-- the same; then a writer that stops for a reason of its own gives its link up, and tells what that
-- came to
pub record WritesAs (link : ℕ) (pass : Record) (known : Option (List ℕ)) (end : WriteEnd)
    (known' : Option (List ℕ)) (pass' : Record) : Type 0 where
  pub stop : WriteEnd
  pub mid : Record
  pub lost : List Call
  pub step : RetreatStep
  pub writes : WritesTo link pass known stop known' mid
  pub leaves : Leaves link (writer_gives_up stop) mid lost step pass'
  pub end_is : end ≡ write_end_after step stop
