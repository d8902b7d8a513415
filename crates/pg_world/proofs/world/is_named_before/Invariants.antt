use Rattle.pg_world.proofs.Words.{histories, History, slice_get, Some, ℕ, ◌<◌, ◌≡◌, ◌≢◌}
use Rattle.pg_world.proofs.world.is_named_before.Given as goal

abbrev pub invariant-loop-earlier : goal.invariant-loop-earlier
invariant-loop-earlier l = (i : ℕ) (h k : History) → i < l.earlier
    → slice_get (histories l.nodes) i ≡ Some h
    → slice_get (histories l.nodes) l.place ≡ Some k → h.opening.name ≢ k.opening.name
