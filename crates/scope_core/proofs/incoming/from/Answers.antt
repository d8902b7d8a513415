use Rattle.scope_core.proofs
use proofs.Words.{AllByRecursion, arith, drop, Less, row_cmp, subst, sym, ◌≡◌, ◌≢◌}
use proofs.Merges.{above_all}
use proofs.incoming.from.Goals as goal

pub returns-then-ge-clause-first : goal.returns-then-ge-clause-first
returns-then-ge-clause-first c =
    let row = c.args.row.now in
    let high : row_cmp c.in-Some.first.now.row row ≢ Less = grind arith in
    let rises = rw c.in-Some.ensures.cases.0 at c.loop-first.invariant.rises in
    subst (λ rs. AllByRecursion (λ d. row_cmp row d.row ≡ Less) (drop 1 rs))
    (sym c.in-Some.ensures.cases.0)
    (above_all row c.in-Some.first.now c.in-Some.others.now high rises.0)
