use Rattle.scope_core.proofs
use proofs.Words.{ap, arith, insert_entry-new, Some, sym, ◌∙◌}
use proofs.RowCounts.{it, lookup_in, more_in, once_at, writes_in}
use Rattle.indexmap.specs.Entry.{entry_map_ref}
use proofs.row_counts.RowCounts.push_new.Goals as goal

pub returns-in_default-clause-fresh : goal.returns-in_default-clause-fresh
returns-in_default-clause-fresh c =
    let node = c.self.inside.node in
    let row = c.args.row.now in
    let es = c.self.inside.counts.entries in
    let own = rw (← c.self.view_is) at c.requires in
    let found = rw (c.in_ok-group.ensures, c.of-process.ensures, c.in_default.is)
    at c.in_ok-place.ensures.found in
    let there = found.0 in
    let is = lookup_in node row.group row.pid own es in
    grind arith

pub returns-in_default-clause-once : goal.returns-in_default-clause-once
returns-in_default-clause-once c =
    let is = c.self-in_default-1.given.1 in
    let new = c.self-in_default-3-1.given.1
    (sym c.in_ok-place.ensures.same_map ∙ ap (λ e. (entry_map_ref e).ghost_name) is) in
    let same = rw is at c.in_ok-place.ensures.unchanged in
    once_at c.self.inside.node _ (rw (new, same) c.in_ok-place.ensures.unique)

pub returns-clause-fresh : goal.returns-clause-fresh
returns-clause-fresh c =
    let node = c.self.inside.node in
    let row = c.args.row.now in
    let es = c.self.inside.counts.entries in
    let own = rw (← c.self.view_is) at c.requires in
    let found = rw (c.in_ok-group.ensures, c.of-process.ensures, c.in-Vacant.is)
    at c.in_ok-place.ensures.found in
    let is = lookup_in node row.group row.pid own es in
    grind arith

pub returns-clause-ok : goal.returns-clause-ok
returns-clause-ok c = rw (← c.self.view_is) (grind (arith, insert_entry-new, it, more_in))

pub returns-clause-written : goal.returns-clause-written
returns-clause-written c = λ fresh.
    let row = c.args.row.now in
    let n = c.insert.result.now in
    let own = rw (← c.self.view_is) at c.requires in
    let put = rw (c.in_ok-group.ensures, c.of-process.ensures, c.in-Vacant.is)
    at c.in_ok-place.ensures.update.0 n in
    let new = c.self-3-1.given.1
    (sym c.in_ok-place.ensures.same_map ∙ ap (λ e. (entry_map_ref e).ghost_name) c.in-Vacant.is) in
    rw (← c.self.view_is, ← c.insert.ensures.value)
    (writes_in c.self.inside.node row.group row.pid own (Some n) c.self.inside.counts.entries _
    (rw new put.0))

pub returns-clause-once : goal.returns-clause-once
returns-clause-once c =
    let new = c.self-3-1.given.1
    (sym c.in_ok-place.ensures.same_map ∙ ap (λ e. (entry_map_ref e).ghost_name) c.in-Vacant.is) in
    let once = rw c.in-Vacant.is at c.in_ok-place.ensures.update.2 c.insert.result.now in
    once_at c.self.inside.node _ (rw new once)
