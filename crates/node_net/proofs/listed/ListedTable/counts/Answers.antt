use Rattle.node_net.proofs
use Rattle.std.proofs.Common.{sym}
use Rattle.scope_core.specs.Table.{count_of}
use proofs.Counts.{counted, none_counted}
use Rattle.node_net.proofs.listed.ListedTable.counts.Goals as goal

-- they are those of the table
pub returns-in-Some : goal.returns-in-Some
returns-in-Some g c =
    counted c.core.result.now.history c.args.scope.now
    (λ row. count_of c.in-Some.table.now row.group row.pid) c.args.rows.now
    c.in_ok-counts-in-Some.counts.items c.core.ensures.sound c.core.ensures.history
    (sym c.in-Some.ensures.runs) (λ row. c.in-Some.ensures.listed row.group row.pid)
    c.in_ok-counts-in-Some.ensures

-- there is none
pub returns : goal.returns
returns g c =
    none_counted c.core.result.now.history c.args.scope.now c.args.rows.now
    c.in_ok-counts-in-None.counts.items c.core.ensures.sound c.core.ensures.history
    (sym c.in-None.ensures.runs) c.in_ok-counts-in-None.ensures
