use Rattle.scope_core.proofs
use proofs.Words
use Words.{ap, arith, drop, drop_more, picked, sym, times_beyond, [], ◌++◌, ◌+◌, ◌-◌, ◌∙◌, ◌∷◌, ◌≡◌}
use proofs.Merges.{low_all, low_itself, picked_more, picked_none, rises_drop}
use proofs.incoming.beyond.Goals.{else-count-gt0, then-count-gt0+in_ok-row+in_ok-push}
use proofs.incoming.beyond.Goals as goal

pub loop-counted-preserved : goal.loop-counted-preserved
loop-counted-preserved c =
    let rows = c.args.rows.now in
    let others = c.args.others.now in
    let item = c.counted-item.result in
    let i = c.loop-counted.counted-index in
    let rest = c.loop-counted.rest.now in
    let left = c.from-rest.result.now in
    let next : drop i rows ≡ item ∷ drop (i + 1) rows = grind (arith, drop_more) in
    let rises = rw next at (rises_drop i rows c.requires.rows) in
    let low = rw next at c.loop-counted.invariant.low in
    let here = low_itself item.row rest left others c.from-rest.ensures.low ∙ low.0 in
    let was = ap (λ ds. c.loop-counted.more.items ++ picked (times_beyond others) ds) (sym next)
    ∙ c.loop-counted.invariant.more in
    let n = c.saturating_sub-count.result in
    let tail = drop (i + 1) rows in
    let count : n ≡ times_beyond others item =
    c.saturating_sub-count.ensures ∙ ap (λ t. item.count - t) (c.count_first.ensures ∙ here) in
    record {
      rises = c.from-rest.ensures.rises;
      more = elim c.if-count-gt0.branch [
        | then-count-gt0+in_ok-row+in_ok-push w ↦
            let one : c.if-count-gt0.more.items
            ≡ c.loop-counted.more.items ++ record { row = item.row; count = n } ∷ [] =
            grind arith in
            ap (λ xs. xs ++ picked (times_beyond others) tail) one
            ∙ picked_more (times_beyond others) c.loop-counted.more.items item tail n count
            w.if-count-gt0.true ∙ was
        | else-count-gt0 w ↦ ap (λ v. v.items ++ picked (times_beyond others) tail) w.more-is
            ∙ picked_none (times_beyond others) c.loop-counted.more.items item tail n count
            w.if-count-gt0.false ∙ was
      ];
      low = low_all item.row rest left others c.from-rest.ensures.low (drop (i + 1) rows) rises.0
          low.1;
    }
