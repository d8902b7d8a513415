use Rattle.scope_core.proofs
use proofs.Words.{ap, Counted, exact_rows, length, rows_total, sym, ◌-◌, ◌∙◌}
use proofs.Pushed.{all_below}
use Rattle.std.proofs.lemmas.Option.{get_or_from_slice_get}
use proofs.incoming.order_behind.Goals as goal

pub returns-in-Some-clause-behind : goal.returns-in-Some-clause-behind
returns-in-Some-clause-behind c = λ less.
    all_below rows_total (λ (d : Counted). d.row) c.args.row.now c.args.counted.now
    c.in-Some.last.now c.requires (sym c.in-Some.ensures.value) (sym c.cmp.ensures ∙ less)

pub returns-in-Some-clause-again : goal.returns-in-Some-clause-again
returns-in-Some-clause-again c = λ equal d.
    let cs = c.args.counted.now in
    ap (λ (x : Counted). x.row)
    (get_or_from_slice_get cs (length cs - 1) c.in-Some.last.now d (sym c.in-Some.ensures.value))
    ∙ exact_rows c.in-Some.last.now.row c.args.row.now (sym c.cmp.ensures ∙ equal)
