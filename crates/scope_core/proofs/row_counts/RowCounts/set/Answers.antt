use Rattle.scope_core.proofs
use proofs.Words.{ap, arith, has_row, is_some, NodeCounts, rows_at, sym, ◌∙◌}
use proofs.HashedWrites.{set_absent}
use proofs.RowCounts.{lookup_in, once_at, set_in, writes_in}
use proofs.row_counts.RowCounts.set.Goals as goal

pub returns-in_default-clause-entries : goal.returns-in_default-clause-entries
returns-in_default-clause-entries c =
    let node = c.self.inside.node in
    let kept = c.self.inside.counts.entries in
    let row = c.args.row.now in
    let own = rw (← c.self.view_is) at c.requires.own in
    let none = rw (c.of-at.ensures.group, c.of-at.ensures.process) at c.in_default.ensures.value in
    rw (c.get_mut.follows.holds-at-none, ← c.self.view_is)
    (sym (set_absent row c.args.count (rows_at node kept)
    (lookup_in node row.group row.pid own kept ∙ sym none)))

-- it is there
pub returns-in_default-clause-written : goal.returns-in_default-clause-written
returns-in_default-clause-written c =
    let node = c.self.inside.node in
    let kept = c.self.inside.counts.entries in
    let row = c.args.row.now in
    let own = rw (← c.self.view_is) at c.requires.own in
    let none = rw (c.of-at.ensures.group, c.of-at.ensures.process) at c.in_default.ensures.value in
    let there = ap (λ (t : NodeCounts). has_row t.entries row) c.self.view_is ∙ c.requires.there in
    let is = ap is_some (none ∙ sym (lookup_in node row.group row.pid own kept)) in
    absurd (grind arith)

pub returns-in_default-clause-once : goal.returns-in_default-clause-once
returns-in_default-clause-once c = rw c.get_mut.follows.holds-at-none
    (once_at c.self.inside.node c.self.inside.counts.entries c.get_mut.ensures.unique)

pub returns-clause-entries : goal.returns-clause-entries
returns-clause-entries c =
    let node = c.self.inside.node in
    let kept = c.self.inside.counts.entries in
    let row = c.args.row.now in
    let own = rw (← c.self.view_is) at c.requires.own in
    let wrote = rw (c.of-at.ensures.group, c.of-at.ensures.process)
    at (c.get_mut.follows.holds c.args.count).0 in
    rw (← c.self.view_is) (ap (rows_at node) wrote
    ∙ sym (set_in node row.group row.pid own c.args.count kept))

pub returns-clause-written : goal.returns-clause-written
returns-clause-written c = rw (← c.self.view_is) (grind (arith, writes_in))

pub returns-clause-once : goal.returns-clause-once
returns-clause-once c = once_at c.self.inside.node _ (c.get_mut.follows.holds c.args.count).4
