use Rattle.scope_core.proofs
use proofs.Words
use Words.{ap, arith, lookup, rows_at, same_row, set_value, suc, sym, unwrap_or, ◌+◌, ◌∙◌, ◌≡◌}
use proofs.HashedWrites.{set_absent}
use proofs.RowCounts.{lookup_in, set_in}
use proofs.row_counts.RowCounts.raise.Goals as goal

pub overflow_add-count : goal.overflow_add-count
overflow_add-count c =
    let node = c.self.inside.node in
    let kept = c.self.inside.counts.entries in
    let row = c.args.row.now in
    let own = rw (← c.self.view_is) at c.requires.own in
    let found = rw (c.of-at.ensures.group, c.of-at.ensures.process) at c.in-Some.ensures.value in
    let few = rw (← c.self.view_is) at c.requires.few in
    let less = rw (lookup_in node row.group row.pid own kept ∙ sym found) at few in
    omega arith

pub returns-in_default : goal.returns-in_default
returns-in_default c =
    let node = c.self.inside.node in
    let kept = c.self.inside.counts.entries in
    let row = c.args.row.now in
    let own = rw (← c.self.view_is) at c.requires.own in
    let found = rw (c.of-at.ensures.group, c.of-at.ensures.process) at c.in_default.ensures.value in
    rw c.get_mut.follows.holds-at-none (c.self.view_is ∙ rw (← c.self.view_is) (λ i. record {
      node = node;
      entries = sym (set_absent row
          (suc (unwrap_or (lookup (same_row row) (rows_at node kept)) 0)) (rows_at node kept)
          (lookup_in node row.group row.pid own kept ∙ sym found)) i;
    }))

pub returns : goal.returns
returns c =
    let node = c.self.inside.node in
    let kept = c.self.inside.counts.entries in
    let row = c.args.row.now in
    let own = rw (← c.self.view_is) at c.requires.own in
    let n = c.in-Some.count.now in
    let found = rw (c.of-at.ensures.group, c.of-at.ensures.process) at c.in-Some.ensures.value in
    let there = lookup_in node row.group row.pid own kept ∙ sym found in
    let wrote = rw (c.of-at.ensures.group, c.of-at.ensures.process)
    at (c.get_mut.follows.holds (n + 1)).0 in
    let all = ap (rows_at node) wrote ∙ sym (set_in node row.group row.pid own (n + 1) kept) in
    let more : n + 1 ≡ suc (unwrap_or (lookup (same_row row) (rows_at node kept)) 0) =
    grind arith in
    rw (← c.self.view_is) (λ i. record {
      node = node;
      entries = (all ∙ ap (set_value (same_row row) (rows_at node kept)) more) i;
    })
