-- Words that are drawn from a generator, and the challenges with which calls open links.
use Rattle.std.specs.Prelude.{◌≡◌, ℕ, List, [], ◌∷◌, ◌++◌, length, drop}
use Rattle.std.specs.List.{flat_map}
use Rattle.rand_core.specs.Stream.{Stream, next_u32}
use Rattle.policy_audit.specs.declared.event.Event.{Event}
use Rattle.policy_audit.specs.declared.event.Event.TheVariants.{Opened, Dial}
use Rattle.node_threads.specs.declared.pass.Call.{Call}
use Rattle.node_threads.specs.Calls.{Record}

-- these are the next words of the stream, in order, and this is what is left of it
abbrev pub Draws : Stream → List ℕ → Stream → Type 0
Draws stream [] left = left ≡ stream
Draws stream (word ∷ words) left = (word ≡ (next_u32 stream).0)
    × Draws (next_u32 stream).1 words left

-- these are the next words of the stream, in order
abbrev pub AreNext : Stream → List ℕ → Type 0
AreNext stream words = (left : Stream) × Draws stream words left

-- they were drawn, and one more word was drawn behind them
abbrev pub DrawsOneMore : Stream → List ℕ → Stream → Type 0
DrawsOneMore stream words left = (word : ℕ) × Draws stream (words ++ word ∷ []) left

abbrev pub challenges_in : Event → List ℕ
challenges_in (Opened challenge) = challenge ∷ []
challenges_in (Dial peer challenge) = challenge ∷ []
challenges_in event = []

-- the challenges with which these calls were to open links, in order
abbrev pub challenges : List Call → List ℕ
challenges calls = flat_map (λ (c : Call). challenges_in c.event) calls

-- those of the calls that a pass has gained
abbrev pub new_challenges : Record → Record → List ℕ
new_challenges pass pass' = challenges (drop (length pass.calls) pass'.calls)
