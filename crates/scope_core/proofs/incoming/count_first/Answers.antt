use Rattle.scope_core.proofs
use proofs.Words.{false, sym, true}
use proofs.Merges.{first_counted}
use proofs.incoming.count_first.Goals as goal

pub returns-then-eq : goal.returns-then-eq
returns-then-eq c =
    first_counted true c.args.row.now c.args.rows.now c.in-Some.first.now c.in-Some.ensures.value
    (sym c.if-eq.ensures) c.requires

pub returns-else-eq : goal.returns-else-eq
returns-else-eq c =
    first_counted false c.args.row.now c.args.rows.now c.in-Some.first.now c.in-Some.ensures.value
    (sym c.if-eq.ensures) c.requires
