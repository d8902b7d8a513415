use Rattle.scope_core.proofs
use proofs.Words.{ap, arith, found, get, key_cmp, sym, text_cmp, ◌∙◌}
use proofs.HashedWrites.{none_there}
use proofs.Outcomes.{some_of}
use proofs.hashed_rows.HashedRows.groups.Goals as goal

pub returns : goal.returns
returns c = λ g h.
    let node = c.self.inside.counts.node in
    let es = c.self.inside.counts.entries in
    let some = rw (← c.self.view_is) at h in
    some_of (get text_cmp c.self.inside.groups g) (λ none.
    let zero = none_there g node es
    (λ k. sym (c.self.invariant.by_group g k) ∙ ap (λ o. found key_cmp o k) none) in
    absurd (grind arith))
