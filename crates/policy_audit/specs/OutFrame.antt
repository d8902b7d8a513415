-- A frame to send, as contracts see it.
use Rattle.std.specs.Prelude.{ℕ, Bool, List}

-- whether its length has 4 bytes, or 2, and its body
pub record OutFrame : Type 0 where
  pub wide : Bool
  pub body : List ℕ
