use Rattle.scope_core.proofs
use proofs.Words.{ap, arith, is_row, is_some, NodeTable, sym, tally, ◌∙◌}
use proofs.ProcessRows.{none_beside}
use proofs.hashed_rows.HashedRows.are_all_of.Goals as goal

pub returns-then-len-ge-MANY : goal.returns-then-len-ge-MANY
returns-then-len-ge-MANY c = λ yes g p other.
    let own = rw (← c.self.view_is) at c.requires in
    let there = sym (ap is_some c.in-Some-get.ensures.value) in
    sym (ap (λ (t : NodeTable). tally (is_row g p) t.rows) c.self.view_is)
    ∙ none_beside (rw c.in-Some.is at c.self.invariant) c.args.pid.now own (grind (arith, yes))
    (rw c.of.ensures at there) g p other
