use Rattle.scope_core.proofs
use proofs.Words.{ap, lookup_key_same, NodeRow, None, option_map, sym, ◌∙◌}
use proofs.RowCounts.{it, lookup_in, once_at, same_node_row_decides, writes_in}
use proofs.row_counts.RowCounts.take.Goals as goal

pub returns-in_err-row-clause-count : goal.returns-in_err-row-clause-count
returns-in_err-row-clause-count c =
    let own = rw (← c.self.view_is) at c.requires in
    let found = rw (c.of-at.ensures.group, c.of-at.ensures.process) at c.in_err-row.ensures.value in
    rw (← c.self.view_is) (ap (option_map (λ m. m.count)) c.from_residual.ensures ∙ found
    ∙ sym (lookup_in c.self.inside.node c.args.group.now c.args.pid.now own
    c.self.inside.counts.entries))

pub returns-in_err-row-clause-written : goal.returns-in_err-row-clause-written
returns-in_err-row-clause-written c =
    let own = rw (← c.self.view_is) at c.requires in
    let took = rw (c.of-at.ensures.group, c.of-at.ensures.process)
    at c.swap_remove_entry.ensures.updates in
    rw (← c.self.view_is) (writes_in c.self.inside.node c.args.group.now c.args.pid.now own None
    c.self.inside.counts.entries c.swap_remove_entry.new.self.entries took.0)

pub returns-in_err-row-clause-once : goal.returns-in_err-row-clause-once
returns-in_err-row-clause-once c = once_at c.self.inside.node c.swap_remove_entry.new.self.entries
    c.swap_remove_entry.ensures.unique

pub returns-clause-group : goal.returns-clause-group
returns-clause-group c =
    let node = c.self.inside.node in
    let own = rw (← c.self.view_is) at c.requires in
    let key = rw (c.of-at.ensures.group, c.of-at.ensures.process) at c.in_ok-row.ensures.key in
    let same =
    lookup_key_same (same_node_row_decides node) (it node c.args.group.now c.args.pid.now own)
    c.self.inside.counts.entries c.in_ok-row.row (sym key) in
    ap (λ (r : NodeRow). r.group) (sym same)

pub returns-clause-count : goal.returns-clause-count
returns-clause-count c =
    let own = rw (← c.self.view_is) at c.requires in
    let found = rw (c.of-at.ensures.group, c.of-at.ensures.process) at c.in_ok-row.ensures.value in
    rw (← c.self.view_is) (found ∙ sym (lookup_in c.self.inside.node c.args.group.now c.args.pid.now
    own c.self.inside.counts.entries))

pub returns-clause-written : goal.returns-clause-written
returns-clause-written c =
    let own = rw (← c.self.view_is) at c.requires in
    let took = rw (c.of-at.ensures.group, c.of-at.ensures.process)
    at c.swap_remove_entry.ensures.updates in
    rw (← c.self.view_is) (writes_in c.self.inside.node c.args.group.now c.args.pid.now own None
    c.self.inside.counts.entries c.swap_remove_entry.new.self.entries took.0)

pub returns-clause-once : goal.returns-clause-once
returns-clause-once c = once_at c.self.inside.node c.swap_remove_entry.new.self.entries
    c.swap_remove_entry.ensures.unique
