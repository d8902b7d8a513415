use Rattle.scope_core.proofs
use proofs.Words.{None}
use proofs.HashedRows.{taken_counted, taken_tally}
use proofs.HashedWrites.{hashed_write, none_left}
use proofs.hashed_rows.HashedRows.remove.Goals as goal

pub invariant_of-self : goal.invariant_of-self
invariant_of-self c =
    let row = c.args.row.now in
    let own = rw (← c.self.view_is) at c.requires in
    let groups = rw c.of-key.ensures at c.forget.ensures.groups in
    let processes = rw c.of-key.ensures at c.forget.ensures.processes in
    rw c.take.ensures.node (hashed_write c.self.invariant row own None _ _ _ c.take.ensures.once
    c.take.ensures.written groups (processes _ c.self.invariant.by_process))

pub returns-clause-tallies : goal.returns-clause-tallies
returns-clause-tallies c = λ test. rw (← c.self.view_is)
    (taken_tally c.args.row.now c.self.inside.counts.entries c.take.new.self.entries
    c.self.invariant.once c.take.ensures.once c.take.ensures.written test)

pub returns-clause-counted : goal.returns-clause-counted
returns-clause-counted c = rw (← c.self.view_is)
    (taken_counted c.args.row.now c.self.inside.counts.entries c.take.new.self.entries
    c.take.ensures.once c.take.ensures.written)

pub returns-clause-last : goal.returns-clause-last
returns-clause-last c =
    let row = c.args.row.now in
    let own = rw (← c.self.view_is) at c.requires in
    let groups = rw c.of-key.ensures at c.forget.ensures.groups in
    let processes = rw c.of-key.ensures at c.forget.ensures.processes in
    let gs = c.forget.new.groups in
    let hashed =
    hashed_write c.self.invariant row own None _ gs c.forget.new.processes c.take.ensures.once
    c.take.ensures.written groups (processes _ c.self.invariant.by_process) in
    rw (← c.self.view_is, c.take.ensures.node) (λ counted.
    none_left _ row.group _ gs c.forget.result hashed.by_group
    (taken_counted row c.self.inside.counts.entries c.take.new.self.entries
    c.take.ensures.once c.take.ensures.written counted) c.forget.ensures.none c.forget.ensures.some)
