-- The challenges with which the links of a door are opened.
use Rattle.std.specs.Prelude.{◌≡◌, ◌⊎◌, ℕ, List, [], ◌∷◌, ◌++◌, Option, Some, None}
use Rattle.rand_core.specs.Stream.{Stream}
use Rattle.node_threads.specs.declared.accepting.AcceptEnd.{AcceptEnd}
use Rattle.node_threads.specs.declared.accepting.Stop.{Stop}
use Rattle.node_threads.specs.declared.serving.Pair.{Pair}
use Rattle.node_threads.specs.declared.accepting.Held.{Held}
use Rattle.node_threads.specs.Drawing.{Draws, DrawsOneMore, new_challenges}
use Rattle.node_threads.specs.Accepting.{IsUnentered, Finishes}

-- those with which the readers of the pairs have opened links, one pair after another
abbrev pub opened_with : List Pair → List Pair → List ℕ
opened_with (p ∷ pairs) (p' ∷ pairs') = new_challenges p.reader p'.reader
    ++ opened_with pairs pairs'
opened_with pairs pairs' = []

-- they are the next words of the stream, and nothing else was drawn; but the last Opened may have
-- made no entry of its word
abbrev pub HaveDrawn : AcceptEnd → Stream → List ℕ → Stream → Type 0
HaveDrawn end stream words left = Draws stream words left
    ⊎ (IsUnentered end × DrawsOneMore stream words left)

-- ---- while links are served

-- the same before and after there is an end
abbrev pub DrawnSoFar : Option Stop → Stream → List ℕ → Stream → Type 0
DrawnSoFar None stream words left = Draws stream words left
DrawnSoFar (Some stop) stream words left = HaveDrawn stop.end stream words left

-- however the pair comes back, its reader will have opened links with these challenges
abbrev pub WillHave : Pair → List ℕ → Held → Type 0
WillHave pair words held = (pair' : Pair) → Finishes held pair'
    → new_challenges pair.reader pair'.reader ≡ words

-- so will the readers of all pairs, one after another
abbrev pub AllWillHave : List Pair → List ℕ → List Held → Type 0
AllWillHave [] words [] = words ≡ []
AllWillHave (p ∷ pairs) words (h ∷ held) = (first : List ℕ) × (others : List ℕ)
    × (words ≡ first ++ others) × WillHave p first h × AllWillHave pairs others held
AllWillHave pairs words held = ⊥

-- the pair opens links with the next words of the stream; where there was an end, it draws none
abbrev pub Spends : Pair → Option Stop → Stream → Held → Option Stop → Stream → Type 0
Spends pair (Some stop) stream held stop' left = WillHave pair [] held × (left ≡ stream)
Spends pair None stream held stop' left = (words : List ℕ) × WillHave pair words held
    × DrawnSoFar stop' stream words left
