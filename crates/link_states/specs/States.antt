-- What a state knows, and the number of its own challenge.
use Rattle.std.specs.Prelude.{ℕ, Bool, List}

-- an end that knows only the name of its peer
pub record Dialled : Type 0 where
  pub peer : List ℕ
  pub challenge : ℕ

-- an end that has its peer's name frame or challenge frame
pub record Introduced : Type 0 where
  pub peer : List ℕ
  pub creation : ℕ
  pub visible : Bool
  pub version : ℕ
  pub challenge : ℕ

-- an end whose peer answered the challenge of this number
pub record Linked : Type 0 where
  pub peer : List ℕ
  pub creation : ℕ
  pub visible : Bool
  pub version : ℕ
  pub proof : ℕ

-- the state once its peer has answered the challenge
abbrev pub linked : Introduced → Linked
linked state =
    record {
      peer = state.peer;
      creation = state.creation;
      visible = state.visible;
      version = state.version;
      proof = state.challenge;
    }
