use Rattle.std.proofs.Common.{ap, IfNone, None, OnSome, Option, Some, subst, sym, ◌∙◌}
use Rattle.node_core.specs.Recorded.{IsSpare, Recorded}
use Rattle.node_threads.specs.Room.{recorded, Room, room_of}
use Rattle.node_threads.proofs.shared.Shared.forget.Goals as goal

weaker : {A P Q : Type 0} (o : Option A) → (P → Q) → IfNone o P → IfNone o Q
weaker None f p = f p
weaker (Some x) f p = p

pub returns-clause-spare : goal.returns-clause-spare
returns-clause-spare c =
    subst (λ (r : Room). OnSome c.forget.result (IsSpare (recorded r))) c.self.view_is
    c.forget.ensures.spare

pub returns-clause-none : goal.returns-clause-none
returns-clause-none c =
    weaker c.forget.result
    (λ none. (
      ap (λ (n : Recorded). room_of n c.self.inside.counts.items) none.0 ∙ c.self.view_is,
      λ spare. none.1 (subst (λ (r : Room). IsSpare (recorded r)) (sym c.self.view_is) spare),
    ))
    c.forget.ensures.none
