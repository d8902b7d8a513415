-- What becomes of the pairs of passes that serve the connections of a door.
use Rattle.std.specs.Prelude.{◌≡◌, ◌≢◌, ◌⊎◌, ⊤, ℕ, zero, suc, All, List, [], ◌∷◌, ◌++◌, length, Option, Some, None}
use Rattle.policy_audit.specs.declared.event.Event.{Event}
use Rattle.policy_audit.specs.declared.event.Event.TheVariants as events
use Rattle.policy_audit.specs.declared.reply.Reply.TheVariants.{Link}
use Rattle.policy_audit.specs.declared.rule.Rule.{Rule}
use Rattle.policy_audit.specs.declared.rule.Rule.TheVariants as rules
use Rattle.policy_audit.specs.declared.entry.Verdict.TheVariants as verdicts
use Rattle.node_core.specs.declared.fault.CoreFault.TheVariants.{Refused, OutOfMemory}
use Rattle.node_threads.specs.declared.fault.CallFault.{CallFault}
use Rattle.node_threads.specs.declared.fault.CallFault.TheVariants.{StrangePass, Core}
use Rattle.node_threads.specs.declared.pass.Call.{Call}
use Rattle.node_threads.specs.declared.accepting.AcceptEnd.{AcceptEnd}
use Rattle.node_threads.specs.declared.accepting.AcceptEnd.TheVariants as ends
use Rattle.node_threads.specs.declared.opening.LinkAnswer.{LinkAnswer}
use Rattle.node_threads.specs.declared.opening.LinkAnswer.TheVariants as answers
use Rattle.node_threads.specs.declared.accepting.Stop.{Stop}
use Rattle.node_threads.specs.declared.serving.Pair.{Pair}
use Rattle.node_threads.specs.declared.accepting.Held.{Held}
use Rattle.node_threads.specs.declared.accepting.Held.TheVariants.{Running, Ended}
use Rattle.node_threads.specs.Calls.{Record, Gains}
use Rattle.node_threads.specs.Drawing.{new_challenges}

-- ---- a link is opened

-- the call is an Opened that was refused
abbrev pub IsRefusal : Call → Type 0
IsRefusal c = (challenge : ℕ) × (rule : Rule) × (c.event ≡ events.Opened challenge)
    × (c.verdict ≡ verdicts.Refused rule)

-- the call is an Opened that made this link
abbrev pub IsOpening : ℕ → Call → Type 0
IsOpening link c = (challenge : ℕ) × (c.event ≡ events.Opened challenge)
    × (c.verdict ≡ verdicts.Accepted (Link link))

-- the pass has gained refused Opened, if any, and then the one that made this link; or, without a
-- link, none
abbrev pub Opens : Option ℕ → Record → Record → Type 0
Opens (Some link) pass pass' = (refused : List Call) × (c : Call) × All IsRefusal refused
    × IsOpening link c × Gains pass (refused ++ c ∷ []) pass'
Opens None pass pass' = (refused : List Call) × All IsRefusal refused × Gains pass refused pass'

-- ends at an Opened that may have made no entry
abbrev pub IsUnentered : AcceptEnd → Type 0
IsUnentered ends.EntriesFull = ⊤
IsUnentered ends.StrangePass = ⊤
IsUnentered ends.Memory = ⊤
IsUnentered end = ⊥

-- the same of one answer to an Opened of this challenge, which is then that of the call
abbrev pub Asked : ℕ → Record → LinkAnswer → Record → Type 0
Asked challenge pass (answers.Link link) pass' = Opens (Some link) pass pass'
    × (new_challenges pass pass' ≡ challenge ∷ [])
Asked challenge pass answers.Refused pass' = Opens None pass pass'
    × (new_challenges pass pass' ≡ challenge ∷ [])
Asked challenge pass (answers.End end) pass' = Opens None pass pass' × IsUnentered end
    × ((new_challenges pass pass' ≡ challenge ∷ []) ⊎ (new_challenges pass pass' ≡ []))

-- what an Opened without a reply makes of its connection: a full audit, a strange pass and want of
-- memory are ends
abbrev pub IsUnopened : CallFault → LinkAnswer → Type 0
IsUnopened StrangePass opening = opening ≡ answers.End ends.StrangePass
IsUnopened (Core OutOfMemory) opening = opening ≡ answers.End ends.Memory
IsUnopened (Core (Refused rule)) opening =
    ((rule ≡ rules.EntriesFull) × (opening ≡ answers.End ends.EntriesFull))
    ⊎ ((rule ≢ rules.EntriesFull) × (opening ≡ answers.Refused))

-- ---- a link is served

-- the event is a frame, a Take or a Lost of the link
abbrev pub IsOfLink : ℕ → Event → Type 0
IsOfLink link event = ((body : List ℕ) × (event ≡ events.Frame link body))
    ⊎ ((event ≡ events.Take link) ⊎ (event ≡ events.Lost link))

-- the pass has gained such calls alone
pub record Serves (link : ℕ) (pass : Record) (pass' : Record) : Type 0 where
  pub more : List Call
  pub are : All (λ (c : Call). IsOfLink link c.event) more
  pub gains : Gains pass more pass'

-- so have both passes of the pair
pub record Works (link : ℕ) (pair : Pair) (pair' : Pair) : Type 0 where
  pub reader : Serves link pair.reader pair'.reader
  pub writer : Serves link pair.writer pair'.writer

-- the pair has opened a link, and served that link and no other
pub record HasServed (pair : Pair) (pair' : Pair) : Type 0 where
  pub link : ℕ
  pub opened : Record
  pub opens : Opens (Some link) pair.reader opened
  pub works : Works link (record { reader = opened; writer = pair.writer }) pair'

-- the pair has opened no link, and served none
pub record HasRested (pair : Pair) (pair' : Pair) : Type 0 where
  pub opens : Opens None pair.reader pair'.reader
  pub same : pair'.writer ≡ pair.writer

-- ---- all pairs

-- one by one, the first so many are related by First, and the others by Other
abbrev pub FirstAre : {A B : Type 0} → (A → B → Type 0) → (A → B → Type 0) → ℕ → List A → List B
    → Type 0
FirstAre First Other n [] [] = n ≡ 0
FirstAre First Other zero (x ∷ xs) (y ∷ ys) = Other x y × FirstAre First Other 0 xs ys
FirstAre First Other (suc n) (x ∷ xs) (y ∷ ys) = First x y × FirstAre First Other n xs ys
FirstAre First Other n xs ys = ⊥

-- the first so many pairs have served a link each, the others none
abbrev pub HaveServed : ℕ → List Pair → List Pair → Type 0
HaveServed served pairs pairs' = FirstAre HasServed HasRested served pairs pairs'

-- ---- while links are served

-- the pair comes back so
abbrev pub Finishes : Held → Pair → Type 0
Finishes (Running thread) pair' = Works thread.promise.link thread.promise.pair.value pair'
Finishes (Ended pair) pair' = pair' ≡ pair

-- the pair is being served for this link, or was
abbrev pub IsAtWork : ℕ → Pair → Held → Type 0
IsAtWork link pair (Running thread) = (thread.promise.link ≡ link)
    × (thread.promise.pair.value ≡ pair)
IsAtWork link pair (Ended pair') = Works link pair pair'

-- however it comes back, the pair will have served a link
abbrev pub WillServe : Pair → Held → Type 0
WillServe pair held = (pair' : Pair) → Finishes held pair' → HasServed pair pair'

-- or rested
abbrev pub WillRest : Pair → Held → Type 0
WillRest pair held = (pair' : Pair) → Finishes held pair' → HasRested pair pair'

-- the pair at this place serves a link; or it rests, and there is an end, or was one
abbrev pub Turns : Pair → ℕ → Option Stop → Held → Option Stop → Type 0
Turns pair place (Some stop) held stop' = (stop' ≡ Some stop) × WillRest pair held
Turns pair place None held None = WillServe pair held
Turns pair place None held (Some stop) = (stop.served ≡ place) × (stop.end ≢ ends.PassesUsed)
    × WillRest pair held

-- so far the first pairs serve a link each: all of them, until there is an end
abbrev pub SoFar : Option Stop → List Pair → List Held → Type 0
SoFar None pairs held = FirstAre WillServe WillRest (length pairs) pairs held
SoFar (Some stop) pairs held = FirstAre WillServe WillRest stop.served pairs held
    × (stop.end ≢ ends.PassesUsed)
