use Rattle.std.proofs.Common.{false, ℕ, ◌<◌, ◌≡◌}
use Rattle.world_script.specs.Names.{is_named}
use Rattle.world_script.proofs.named_world.NamedWorld.place.Given as goal

-- no node so far has the name
abbrev pub invariant-loop-place : goal.invariant-loop-place
invariant-loop-place l = (k : ℕ) → k < l.place → is_named l.name l.self.nodes k ≡ false
