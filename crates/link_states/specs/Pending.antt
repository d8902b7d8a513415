-- What a node has of other links.
use Rattle.std.specs.Prelude.{ℕ, Bool, List, bytes_eq}
use Rattle.std.specs.List.{list_any}
use Rattle.link_states.specs.declared.pending.Pending.{Pending}

-- the list has the name
abbrev pub has_name : List (List ℕ) → List ℕ → Bool
has_name names name = list_any (λ other. bytes_eq other name) names

-- a link of the peer is up
abbrev pub is_up : Pending → List ℕ → Bool
is_up pending peer = has_name pending.up peer

-- an own dial to the peer is unfinished
abbrev pub is_dialled : Pending → List ℕ → Bool
is_dialled pending peer = has_name pending.dials peer
