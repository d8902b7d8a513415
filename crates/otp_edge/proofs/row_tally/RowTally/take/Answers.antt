use Rattle.otp_edge.proofs
use proofs.Words.{ap, arith, None, Some, sym, ◌-◌, ◌∙◌}
use Rattle.std.specs.Option.{is_some, unwrap_or}
use Rattle.otp_edge.specs.Tallies.{counted}
use proofs.RowTallies.{IsSetAt, last_one, put_some, removed_some, set_again, taken_once}
use Rattle.otp_edge.proofs.row_tally.RowTally.take.Goals as goal

pub invariant_of-self-then-count-gt1 : goal.invariant_of-self-then-count-gt1
invariant_of-self-then-count-gt1 c =
    let less = c.in-Some.count.now - 1 in
    put_some c.self.inside.counts.entries (c.get_mut.follows.lender less).entries c.args.row.now
    less (omega arith)
    ((c.get_mut.follows.holds less).3 (ap is_some (sym c.in-Some.ensures.value))).0
    c.self.invariant

-- the row isn't there any more
removed : (c : goal.After-remove) → IsSetAt c.self.inside.counts.entries c.remove.new.self.entries
    c.args.row.now None
removed c =
    let same = c.get_mut.follows.lender c.in-Some.count.now in
    set_again c.self.inside.counts.entries same.entries c.remove.new.self.entries c.args.row.now
    (Some c.in-Some.count.now) None
    ((c.get_mut.follows.holds c.in-Some.count.now).3 (ap is_some (sym c.in-Some.ensures.value))).0
    c.remove.ensures.updates.0

pub invariant_of-self-else-count-gt1 : goal.invariant_of-self-else-count-gt1
invariant_of-self-else-count-gt1 c =
    removed_some c.self.inside.counts.entries c.remove.new.self.entries c.args.row.now
    (removed c) c.self.invariant

pub returns-then-count-gt1-clause-taken : goal.returns-then-count-gt1-clause-taken
returns-then-count-gt1-clause-taken c = λ r.
    let less = c.in-Some.count.now - 1 in
    let was = ap (λ o. unwrap_or o 0) c.in-Some.ensures.value in
    taken_once c.self.inside.counts.entries (c.get_mut.follows.lender less).entries
    c.args.row.now (Some less) (omega (arith, was))
    ((c.get_mut.follows.holds less).3 (ap is_some (sym c.in-Some.ensures.value))).0 r
    ∙ ap (counted r) c.self.view_is

pub returns-else-count-gt1-clause-taken : goal.returns-else-count-gt1-clause-taken
returns-else-count-gt1-clause-taken c = λ r.
    let one = last_one c.self.inside.counts.entries c.args.row.now c.in-Some.count.now
    c.in-Some.ensures.value c.self.invariant (omega arith) in
    taken_once c.self.inside.counts.entries c.remove.new.self.entries c.args.row.now None one
    (removed c) r
    ∙ ap (counted r) c.self.view_is
