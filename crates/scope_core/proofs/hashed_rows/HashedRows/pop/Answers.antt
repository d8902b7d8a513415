use Rattle.scope_core.proofs
use proofs.Words.{ap, Counted, counted_in, length, length-map, NodeCounts, NodeTable, None, refl}
use proofs.Words.{Row, row_at, sym, take, take-map, ℕ, ◌-◌, ◌∙◌}
use proofs.HashedWrites.{hashed_write}
use proofs.hashed_rows.HashedRows.pop.Goals as goal

pub invariant_of-self-2 : goal.invariant_of-self-2
invariant_of-self-2 c =
    let row = row_at c.self.inside.counts.node c.in-Some.row.group c.in-Some.row.process in
    rw (ap (λ (t : NodeCounts). t.node) c.pop.ensures.shorter)
    (hashed_write c.self.invariant row refl None _ _ _ c.pop.ensures.once c.in-Some.ensures.written
    c.forget.ensures.groups (c.forget.ensures.processes _ c.self.invariant.by_process))

pub returns : goal.returns
returns c =
    let es = c.self.inside.counts.entries in
    let node = c.self.inside.counts.node in
    let shown : Row × ℕ → Counted = λ e. record { row = e.0; count = e.1 } in
    ap (λ (t : NodeCounts). record { node = t.node; rows = counted_in t.entries })
    c.pop.ensures.shorter
    ∙ (λ i. record { node = node; rows = sym (take-map shown (length es - 1) es) i })
    ∙ (λ i. record { node = node; rows = take (sym (length-map es shown) i - 1) (counted_in es) })
    ∙ ap (λ (t : NodeTable).
    record { node = t.node; rows = take (length t.rows - 1) t.rows }) c.self.view_is
