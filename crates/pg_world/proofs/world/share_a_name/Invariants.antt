use Rattle.pg_world.proofs.Words.{histories, History, slice_get, Some, ℕ, ◌<◌, ◌≡◌, ◌≢◌}
use Rattle.pg_world.proofs.world.share_a_name.Given as goal

abbrev pub invariant-loop-place : goal.invariant-loop-place
invariant-loop-place l = (i j : ℕ) (h k : History) → i < j → j < l.place
    → slice_get (histories l.nodes) i ≡ Some h → slice_get (histories l.nodes) j ≡ Some k
    → h.opening.name ≢ k.opening.name
