-- A pass that lends a reply.
use Rattle.std.specs.Prelude.{⊤}
use Rattle.std.specs.Borrow.{follows_so, MutBor, Fml}
use mathlib.Core.Option.{none}
use Rattle.node_threads.specs.Calls.{Record}
use Rattle.node_threads.specs.contracts.pass.Pass.{the_row}

-- P holds of the pass once the loan of the reply ends
abbrev pub PassEnds : MutBor Record → (Record → Type 0) → Fml
PassEnds pass P = follows_so the_row the_row pass.ghost_name none (λ _ _. ⊤) P
