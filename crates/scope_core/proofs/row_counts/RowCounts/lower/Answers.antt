use Rattle.scope_core.proofs
use proofs.Words.{ap, arith, is_some, lookup, rows_at, same_row, set_value, suc, sym, unwrap_or}
use proofs.Words.{◌-◌, ◌∙◌, ◌≡◌}
use proofs.HashedWrites.{lookup_set, set_back, set_twice}
use proofs.RowCounts.{lookup_in, set_in}
use proofs.row_counts.RowCounts.lower.Goals as goal

pub returns-in_default-clause-none : goal.returns-in_default-clause-none
returns-in_default-clause-none c = λ _.
    let node = c.self.inside.node in
    let kept = c.self.inside.counts.entries in
    let row = c.args.row.now in
    let own = rw (← c.self.view_is) at c.requires in
    let found = rw (c.of-at.ensures.group, c.of-at.ensures.process) at c.in_default.ensures.value in
    let none = lookup_in node row.group row.pid own kept ∙ sym found in (
      rw c.get_mut.follows.holds-at-none c.self.view_is,
      rw (← c.self.view_is) (ap (λ o. unwrap_or o 0) none),
    )

pub returns-then-count-eq0-clause-none : goal.returns-then-count-eq0-clause-none
returns-then-count-eq0-clause-none c = λ _.
    let node = c.self.inside.node in
    let kept = c.self.inside.counts.entries in
    let row = c.args.row.now in
    let own = rw (← c.self.view_is) at c.requires in
    let n = c.in-Some.count.now in
    let found = rw (c.of-at.ensures.group, c.of-at.ensures.process) at c.in-Some.ensures.value in
    let there = lookup_in node row.group row.pid own kept ∙ sym found in
    let wrote = rw (c.of-at.ensures.group, c.of-at.ensures.process)
    at (c.get_mut.follows.holds n).0 in
    let same = ap (rows_at node) wrote ∙ sym (set_in node row.group row.pid own n kept)
    ∙ set_back row n (rows_at node kept) there in (
      (λ i. record { node = node; entries = same i }) ∙ c.self.view_is,
      rw (← c.self.view_is) (ap (λ o. unwrap_or o 0) there ∙ c.if-count-eq0.true),
    )

pub returns-clause-lowered : goal.returns-clause-lowered
returns-clause-lowered c = λ _.
    let node = c.self.inside.node in
    let kept = c.self.inside.counts.entries in
    let row = c.args.row.now in
    let own = rw (← c.self.view_is) at c.requires in
    let n = c.in-Some.count.now in
    let es = rows_at node kept in
    let found = rw (c.of-at.ensures.group, c.of-at.ensures.process) at c.in-Some.ensures.value in
    let there = lookup_in node row.group row.pid own kept ∙ sym found in
    let wrote = rw (c.of-at.ensures.group, c.of-at.ensures.process)
    at (c.get_mut.follows.holds (n - 1)).0 in
    let now = ap (rows_at node) wrote ∙ sym (set_in node row.group row.pid own (n - 1) kept) in
    let fewer = lookup_set row (n - 1) es (ap is_some there) in
    let back : suc (unwrap_or (lookup (same_row row) (set_value (same_row row) es (n - 1))) 0) ≡ n =
    grind arith in
    rw (now, ← c.self.view_is)
    (sym (ap (set_value (same_row row) (set_value (same_row row) es (n - 1))) back
    ∙ set_twice row (n - 1) n es ∙ set_back row n es there))

pub returns-clause-there : goal.returns-clause-there
returns-clause-there c = λ _.
    let node = c.self.inside.node in
    let kept = c.self.inside.counts.entries in
    let row = c.args.row.now in
    let own = rw (← c.self.view_is) at c.requires in
    let n = c.in-Some.count.now in
    let found = rw (c.of-at.ensures.group, c.of-at.ensures.process) at c.in-Some.ensures.value in
    let there = lookup_in node row.group row.pid own kept ∙ sym found in
    let wrote = rw (c.of-at.ensures.group, c.of-at.ensures.process)
    at (c.get_mut.follows.holds (n - 1)).0 in
    let now = ap (rows_at node) wrote ∙ sym (set_in node row.group row.pid own (n - 1) kept) in
    ap (λ o. is_some o) (ap (lookup (same_row row)) now
    ∙ lookup_set row (n - 1) (rows_at node kept) (ap is_some there))
