use Rattle.scope_core.proofs
use proofs.Words.{ap, sym, unwrap_or, ◌∙◌}
use proofs.RowCounts.{lookup_in}
use proofs.row_counts.RowCounts.get.Goals as goal

pub returns : goal.returns
returns c =
    let g = c.args.group.now in
    let p = c.args.pid.now in
    let own = rw (← c.self.view_is) at c.requires in
    let found = rw (c.of-at.ensures.group, c.of-at.ensures.process) at c.get.ensures.value in
    rw (← c.self.view_is) (c.unwrap_or.ensures ∙ ap (λ o. unwrap_or o 0) (c.copied.ensures ∙ found
    ∙ sym (lookup_in c.self.inside.node g p own c.self.inside.counts.entries)))
