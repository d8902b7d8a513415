-- Bodies over a link that keeps no atoms and cuts no messages (Distribution Protocol, "Protocol
-- between connected nodes"): a control message, and the message that goes with some.
use Rattle.std.specs.Prelude.{◌≡◌, ◌⊎◌, ℕ, List, [], ◌∷◌, ◌++◌, length}
use Rattle.std.specs.Int.{w32, to_be_bytes}
use Rattle.external_terms.specs.Terms.{SpellsTerm}
use Rattle.external_terms.specs.Values.{tuple_head, small_integer_bytes}

-- the byte that a body begins with: its messages are passed through as they are
abbrev pub pass_through : ℕ
pass_through = 112

-- the byte before a term
abbrev pub version : ℕ
version = 131

-- behind a control message stands nothing, or a message
abbrev pub IsBehind : List ℕ → Type 0
IsBehind behind = (behind ≡ []) ⊎ ((message : List ℕ) × SpellsTerm message
    × (behind ≡ version ∷ message))

-- a body, of a control message and what stands behind it
pub record IsBody (control behind body : List ℕ) : Type 0 where
  pub spelled : SpellsTerm control
  pub follows : IsBehind behind
  pub bytes : body ≡ pass_through ∷ version ∷ control ++ behind

-- a control message: a tuple of its operation, two terms, and the rest of its terms
abbrev pub control_bytes : ℕ → ℕ → List ℕ → List ℕ → List ℕ → List ℕ
control_bytes arity operation first second rest =
    tuple_head arity ++ (small_integer_bytes operation ++ (first ++ (second ++ rest)))

pub record IsControl (arity operation : ℕ) (first second rest control : List ℕ) : Type 0 where
  pub one : SpellsTerm first
  pub two : SpellsTerm second
  pub bytes : control ≡ control_bytes arity operation first second rest

-- a body behind its length
abbrev pub framed : List ℕ → List ℕ
framed body = to_be_bytes w32 (length body) ++ body
