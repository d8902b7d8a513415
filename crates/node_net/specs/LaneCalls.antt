-- What the passes of a lane have called, and with which challenges.
use Rattle.std.specs.Prelude.{◌≡◌, ◌⊎◌, ℕ, List, [], ◌∷◌, ◌++◌, ⊤, Option, IfSome}
use Rattle.std.specs.List.{All, Contains, flat_map}
use Rattle.rand_core.specs.Stream.{Stream}
use Rattle.rand_core.specs.Steps.{stream_of, steps_u32}
use Rattle.rand_chacha.specs.ChaCha.{ChaCha, next_word}
use Rattle.policy_audit.specs.declared.event.Event.{Event}
use Rattle.policy_audit.specs.declared.event.Event.TheVariants.{Opened, Dial, Frame, Take, Lost}
use Rattle.policy_audit.specs.declared.reply.Reply.TheVariants.{Link}
use Rattle.policy_audit.specs.declared.entry.Verdict.{Verdict}
use Rattle.policy_audit.specs.declared.entry.Verdict.TheVariants.{Accepted}
use Rattle.node_threads.specs.declared.pass.Call.{Call}
use Rattle.node_threads.specs.Calls.{Record, Gains}
use Rattle.node_threads.specs.Drawing.{Draws, challenges}

-- both passes of a lane, the challenge for the next link, and what is left of its generator behind
-- that
pub record Pair : Type 0 where
  pub reader : Record
  pub writer : Record
  pub challenge : ℕ
  pub left : ChaCha

-- ---- its links

-- the event opens a link with this challenge
abbrev pub IsOpening : ℕ → Event → Type 0
IsOpening challenge (Opened c) = c ≡ challenge
IsOpening challenge (Dial peer c) = c ≡ challenge
IsOpening challenge event = ⊥

abbrev pub link_in : Verdict → List ℕ
link_in (Accepted (Link link)) = link ∷ []
link_in verdict = []

-- the link that an event with this verdict has opened
abbrev pub link_opened : Event → Verdict → List ℕ
link_opened (Opened challenge) verdict = link_in verdict
link_opened (Dial peer challenge) verdict = link_in verdict
link_opened event verdict = []

-- the links that the calls have opened
abbrev pub own_links : List Call → List ℕ
own_links calls = flat_map (λ (c : Call). link_opened c.event c.verdict) calls

-- ---- its calls

-- the event opens a link, or is a frame of one of these links, a Take or its loss
abbrev pub IsLinkEvent : List ℕ → Event → Type 0
IsLinkEvent links (Opened challenge) = ⊤
IsLinkEvent links (Dial peer challenge) = ⊤
IsLinkEvent links (Frame link body) = Contains links link
IsLinkEvent links (Take link) = Contains links link
IsLinkEvent links (Lost link) = Contains links link
IsLinkEvent links event = ⊥

abbrev pub AreOf : List ℕ → List Call → Type 0
AreOf links calls = All (λ (c : Call). IsLinkEvent links c.event) calls

-- the words that ChaCha with 20 rounds gives from here on
abbrev pub words_of : ChaCha → Stream
words_of = stream_of (steps_u32 (next_word 10))

-- both passes have called nothing else, of no other links than those that the lane has opened; the
-- reader alone has opened links, with words of the generator one after another, each once; the word
-- behind them is for the next link
pub record IsLane (lane : Pair) : Type 0 where
  pub reader : AreOf (own_links lane.reader.calls) lane.reader.calls
  pub writer : AreOf (own_links lane.reader.calls) lane.writer.calls
  pub reader_alone : challenges lane.writer.calls ≡ []
  pub drawn : (given : ChaCha) × Draws (words_of given) (challenges lane.reader.calls
      ++ lane.challenge ∷ []) (words_of lane.left)

-- it is a new lane of these passes, and the next word of the generator is for its first link
pub record IsBegun (reader : Record) (writer : Record) (source : ChaCha)
    (lane : Pair) : Type 0 where
  pub reader_is : lane.reader ≡ reader
  pub writer_is : lane.writer ≡ writer
  pub drawn : Draws (words_of source) (lane.challenge ∷ []) (words_of lane.left)

-- without a call neither the challenge nor the generator changes; behind one call the next word of
-- the same generator is for the next link
abbrev pub DrawsFor : List Call → Pair → Pair → Type 0
DrawsFor [] lane lane' = (lane'.challenge ≡ lane.challenge) × (lane'.left ≡ lane.left)
DrawsFor (c ∷ calls) lane lane' =
    (calls ≡ []) × Draws (words_of lane.left) (lane'.challenge ∷ []) (words_of lane'.left)

-- the reader has made one call or none, and drawn for it
abbrev pub OpensNext : Pair → Pair → Type 0
OpensNext lane lane' = (more : List Call) × Gains lane.reader more lane'.reader
    × (lane'.writer ≡ lane.writer) × DrawsFor more lane lane'

-- one of the passes has been used before
abbrev pub IsUsed : Record → Record → Type 0
IsUsed reader writer = ((reader.calls ≡ []) × (writer.calls ≡ [])) → ⊥

-- the pass has gained one call, of this event, or none; a link that is told is that of the call
pub record Opens (event : Event) (told : Option ℕ) (pass : Record) (pass' : Record) : Type 0 where
  pub more : List Call
  pub gains : Gains pass more pass'
  pub at_most_one : (more ≡ []) ⊎ ((c : Call) × (more ≡ c ∷ []) × (c.event ≡ event))
  pub is_own : IfSome told (Contains (own_links more))
