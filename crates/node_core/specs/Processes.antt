-- Processes as contracts see them.
use Rattle.std.specs.Prelude.{ℕ, List}

-- how many were spawned, and the numbers of those that live, in some order
pub record Spawned : Type 0 where
  pub spawned : ℕ
  pub live : List ℕ

-- how many may live
abbrev pub max_living : ℕ
max_living = 65536
