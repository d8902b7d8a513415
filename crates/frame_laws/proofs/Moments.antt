-- What was so at each moment: the history was legal, and a node's.
use Rattle.frame_laws.proofs
use proofs.Words.{Bool, cond, entered, Entry, false, History, IsNode, IsPlayed, IsPlayedIn, List}
use proofs.Words.{moment, moment_in, nat_lt, past, true, ℕ, [], ◌∷◌}
use proofs.Spoken.{node_before}

-- what holds of the entries before, where it holds of more, holds of those of a moment
then_so : (P : List Entry → Type 0) → ((e : Entry) (es : List Entry) → P (e ∷ es) → P es)
    → (k : ℕ) (es : List Entry) → P es → P (moment_in k es)
then_so P fewer k [] all = all
then_so P fewer k (e ∷ es) all =
    by (nat_lt (entered es) k) (then_so P fewer k es (fewer e es all))
  where
    by : (b : Bool) → P (moment_in k es) → P (cond b (e ∷ es) (moment_in k es))
    by true so_far = all
    by false so_far = so_far

pub legal_then : (h : History) → IsPlayed h → (k : ℕ) → IsPlayed (moment k h)
legal_then h legal k = then_so (IsPlayedIn h.opening) (λ e es all. all.1) k h.entries legal

pub node_then : (h : History) → IsNode h → (k : ℕ) → IsNode (moment k h)
node_then h node k =
    then_so (λ es. IsNode (past h.opening es)) (node_before h.opening) k h.entries node
