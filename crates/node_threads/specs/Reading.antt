-- What the reader of a link adds to its pass.
use Rattle.std.specs.Prelude.{◌≡◌, ◌≢◌, ℕ, ◌<◌, ◌≤◌, Bool, true, false, List, [], ◌∷◌, ◌++◌, length, map, take, ◌⊎◌, Some, Result, Ok, Err}
use Rattle.std.specs.Int.{w16}
use Rattle.std.specs.List.{list_any}
use Rattle.handshake_frames.specs.Stream.{Splits}
use Rattle.link_frames.specs.Stream.{SplitsLink}
use Rattle.policy_audit.specs.declared.event.Event.TheVariants.{Frame}
use Rattle.node_threads.specs.declared.cutter.Cutter.{Cutter}
use Rattle.node_threads.specs.declared.cutter.Cutter.TheVariants.{Handshake, Messages}
use Rattle.node_threads.specs.declared.fault.CallFault.{CallFault}
use Rattle.node_threads.specs.declared.ends.ReadEnd.{ReadEnd}
use Rattle.node_threads.specs.declared.ends.ReadEnd.TheVariants as ends
use Rattle.node_threads.specs.declared.pass.Call.{Call}
use Rattle.node_threads.specs.declared.retreat.RetreatStep.{RetreatStep}
use Rattle.node_threads.specs.Calls.{Record, Gains, is_up}
use Rattle.node_threads.specs.Cutting.{is_done}
use Rattle.node_threads.specs.Ends.{end_of, reader_gives_up, read_end_after}
use Rattle.node_threads.specs.Entered.{Enters, EndsAt}
use Rattle.node_threads.specs.Retreat.{Leaves}

-- the calls are frames of the link: these bodies, in order
abbrev pub AreFrames : ℕ → List (List ℕ) → List Call → Type 0
AreFrames link bodies calls = map (λ (c : Call). c.event) calls ≡ map (Frame link) bodies

-- the calls are the frames of the bodies that stand in the bytes behind lengths of 2 bytes; a rest
-- is less than a whole one
pub record OfHandshake (link : ℕ) (bytes : List ℕ) (calls : List Call)
    (rest : List ℕ) : Type 0 where
  pub bodies : List (List ℕ)
  pub splits : Splits w16 bytes bodies rest
  pub frames : AreFrames link bodies calls

-- the same behind lengths of 4 bytes, with ticks between them
pub record OfMessages (link : ℕ) (bytes : List ℕ) (calls : List Call) (rest : List ℕ) : Type 0 where
  pub bodies : List (List ℕ)
  pub splits : SplitsLink bytes bodies rest
  pub frames : AreFrames link bodies calls

-- while no frame is answered `Up`, all bytes are of the handshake
pub record BeforeUp (link : ℕ) (bytes : List ℕ) (calls : List Call) (rest : List ℕ) : Type 0 where
  pub handshake : OfHandshake link bytes calls rest
  pub none_up : list_any is_up calls ≡ false

-- the first frame that is answered `Up` is the last of the handshake
pub record AfterUp (link : ℕ) (bytes : List ℕ) (calls : List Call) (rest : List ℕ) : Type 0 where
  pub early : List ℕ
  pub late : List ℕ
  pub first : List Call
  pub last : Call
  pub later : List Call
  pub bytes_are : bytes ≡ early ++ late
  pub calls_are : calls ≡ (first ++ last ∷ []) ++ later
  pub none_up : list_any is_up first ≡ false
  pub up : is_up last ≡ true
  pub handshake : OfHandshake link early (first ++ last ∷ []) []
  pub messages : OfMessages link late later rest

-- the calls are the frames of all whole bodies of the bytes, and the cutter holds the rest
abbrev pub IsRead : ℕ → List ℕ → List Call → Cutter → Type 0
IsRead link bytes calls (Handshake rest) = BeforeUp link bytes calls rest
IsRead link bytes calls (Messages reader) = AfterUp link bytes calls reader.rest

-- ---- a step of a reader

-- from the one cutter to the other the bytes were read as these calls, whatever was read before
abbrev pub Moves : ℕ → Cutter → List ℕ → List Call → Cutter → Type 0
Moves link old bytes more new = (before : List ℕ) (calls : List Call) → IsRead link before calls old
    → IsRead link (before ++ bytes) (calls ++ more) new

-- the bytes were read, and the pass has gained their frames
pub record ReadsOn (link : ℕ) (pass : Record) (old : Cutter) (bytes : List ℕ) (pass' : Record)
    (new : Cutter) : Type 0 where
  pub more : List Call
  pub gains : Gains pass more pass'
  pub moves : Moves link old bytes more new

-- the reader stops for a reason of its own; or the last that was called is a frame whose answer
-- ends it, the handshake being done or not
abbrev pub HasReason : ℕ → Bool → Record → List Call → ReadEnd → Record → Type 0
HasReason link done pass frames stop pass' =
    (reader_gives_up stop ≡ true) ⊎ ((body : List ℕ) × (fault : CallFault)
    × EndsAt (Frame link body) fault pass frames pass' × (end_of fault done ≡ Some stop))

-- some of the bytes were read, and then the reader stopped
pub record Stops (link : ℕ) (pass : Record) (old : Cutter) (bytes : List ℕ) (stop : ReadEnd)
    (pass' : Record) : Type 0 where
  pub used : List ℕ
  pub unused : List ℕ
  pub cutter : Cutter
  pub whole : bytes ≡ used ++ unused
  pub reads : ReadsOn link pass old used pass' cutter
  pub reason : HasReason link (is_done cutter) pass reads.more stop pass'
  pub unclosed : stop ≢ ends.Closed

-- a body was handed in, and the reader goes on; or the answer to its frame ends it
abbrev pub Gave : ℕ → List ℕ → Bool → Record → Result Bool ReadEnd → Record → Type 0
Gave link body done pass (Ok up) pass' = (c : Call) × (c.event ≡ Frame link body) × (is_up c ≡ up)
    × Gains pass (c ∷ []) pass'
Gave link body done pass (Err stop) pass' = (fault : CallFault) × (more : List Call)
    × Enters pass (Frame link body) (Err fault) more pass' × (end_of fault done ≡ Some stop)

-- a body at most was cut off and handed in: so many bytes were used
abbrev pub Handed : ℕ → Record → Cutter → List ℕ → Result ℕ ReadEnd → Record → Cutter → Type 0
Handed link pass old piece (Ok used) pass' new = (used ≤ length piece)
    × (0 < length piece → 0 < used) × ReadsOn link pass old (take used piece) pass' new
Handed link pass old piece (Err stop) pass' new = Stops link pass old piece stop pass'

-- ---- the whole

-- of what was read, the pass has gained the frames of the first bodies; where the bytes have ended,
-- of all whole ones
pub record ReadsTo (link : ℕ) (pass : Record) (bytes : List ℕ) (stop : ReadEnd)
    (pass' : Record) : Type 0 where
  pub used : List ℕ
  pub unused : List ℕ
  pub frames : List Call
  pub cutter : Cutter
  pub whole : bytes ≡ used ++ unused
  pub read : IsRead link used frames cutter
  pub gains : Gains pass frames pass'
  pub reason : HasReason link (is_done cutter) pass frames stop pass'
  pub closed : stop ≡ ends.Closed → unused ≡ []

-- the same; then a reader that stops for a reason of its own gives its link up, and tells what that
-- came to
pub record ReadsAs (link : ℕ) (pass : Record) (bytes : List ℕ) (end : ReadEnd)
    (pass' : Record) : Type 0 where
  pub stop : ReadEnd
  pub mid : Record
  pub lost : List Call
  pub step : RetreatStep
  pub reads : ReadsTo link pass bytes stop mid
  pub leaves : Leaves link (reader_gives_up stop) mid lost step pass'
  pub end_is : end ≡ read_end_after step stop
