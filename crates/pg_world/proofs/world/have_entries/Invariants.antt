use Rattle.pg_world.proofs.Words.{histories, History, IsNew, slice_get, Some, ℕ, ◌<◌, ◌≡◌}
use Rattle.pg_world.proofs.world.have_entries.Given as goal

abbrev pub invariant-loop-place : goal.invariant-loop-place
invariant-loop-place l = (i : ℕ) (h : History) → i < l.place
    → slice_get (histories l.nodes) i ≡ Some h → IsNew h
