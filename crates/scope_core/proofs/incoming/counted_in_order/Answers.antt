use Rattle.scope_core.proofs
use proofs.Words.{Adds, ap, AreCounted, arith, Counted, counted_cmp, drop, drop_more, HasRoomFor}
use proofs.Words.{Rises, subst, sym, [], ◌++◌, ◌+◌, ◌∙◌, ◌∷◌, ◌≡◌}
use proofs.Counting.{added_next, has_room, new_last, new_tally}
use proofs.incoming.counted_in_order.Goals.{in-Equal}
use proofs.incoming.counted_in_order.Goals.{in-Less+in_ok-group-in-Less+in_ok-pid-in-Less+in_ok-push-in-Less}
use proofs.incoming.counted_in_order.Goals as goal

pub loop-row-preserved : goal.loop-row-preserved
loop-row-preserved c =
    let rows = c.args.rows.now in
    let row = c.row-item.result in
    let i = c.loop-row.row-index in
    let old = c.loop-row.counted.items in
    let new = c.match-order_behind.counted.items in
    let was = c.loop-row.invariant in
    let next : drop i rows ≡ row ∷ drop (i + 1) rows = grind (arith, drop_more) in
    let all : Rises counted_cmp new × AreCounted new × Adds (row ∷ []) old new =
    elim c.match-order_behind.branch [
      | in-Less+in_ok-group-in-Less+in_ok-pid-in-Less+in_ok-push-in-Less w ↦
          let one : new ≡ old ++ record { row = row; count = 1 } ∷ [] = grind arith in
          let behind = rw c.deref.ensures.value at (c.order_behind.ensures.behind w.in-Less.is) in
          let kept = new_last row old was.rises was.counted behind in (
            rw one kept.0,
            rw one kept.1,
            rw one (λ test. new_tally row test old),
          )
      | in-Equal w ↦
          let last = rw c.deref.ensures.value at (c.order_behind.ensures.again w.in-Equal.is) in
          let more = w.count_again.ensures row last in
          let is = ap (λ v. v.items) (sym w.counted-is) in (
            rw (← is) more.1.rises,
            rw (← is) more.1.counted,
            rw (← is) more.0,
          )
    ] in
    record {
      rises = all.0;
      counted = all.1;
      added = added_next rows (drop i rows) (drop (i + 1) rows) row next old was.added new all.2;
    }

pub count_again-requires-clause-room : goal.count_again-requires-clause-room
count_again-requires-clause-room c = λ other at.
    let rows = c.args.rows.now in
    let row = c.row-item.result in
    let i = c.loop-row.row-index in
    let old = c.loop-row.counted.items in
    let next : drop i rows ≡ row ∷ drop (i + 1) rows = grind (arith, drop_more) in
    let last = rw c.deref.ensures.value at (c.order_behind.ensures.again c.in-Equal.is) in
    let any : Counted = record { row = row; count = 0 } in
    subst (λ r. HasRoomFor (r ∷ []) old) (sym (last any) ∙ at any)
    (has_room rows (drop i rows) (drop (i + 1) rows) row next old c.loop-row.invariant.added
    c.requires)
