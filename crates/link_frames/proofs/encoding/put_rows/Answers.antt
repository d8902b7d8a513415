use Rattle.link_frames.proofs
use proofs.Words.{All-push, All-same, ap, append-nil, append_assoc, flat_map, flat_map-append}
use proofs.Words.{IsRow, length, List, Row, row_bytes, rules, sym, take, take_more, to_be_bytes}
use proofs.Words.{w32, ℕ, [], ◌++◌, ◌+◌, ◌∙◌, ◌∷◌, ◌≡◌}
use Rattle.link_frames.proofs.encoding.put_rows.Goals as goal

-- one row more behind the rows that were put
rows_put : (old before after count : List ℕ) (done : List Row) (row : Row) (more : List Row)
    → before ≡ old ++ (count ++ flat_map row_bytes done) → after ≡ before ++ row_bytes row
    → more ≡ done ++ row ∷ [] → after ≡ old ++ (count ++ flat_map row_bytes more)
rows_put old before after count done row more were put next =
    simp (put, were, next, flat_map-append, append-nil, append_assoc)

pub returns-in_err-put_row-clause-grown : goal.returns-in_err-put_row-clause-grown
returns-in_err-put_row-clause-grown c =
    let kept : c.put_row.new.out.items ≡ c.args.out.now.items
    ++ (to_be_bytes w32 (length c.args.rows.now) ++ flat_map row_bytes (take c.loop-row.row-index
    c.args.rows.now)) = c.in_err-put_row.ensures.same ∙ c.loop-row.invariant.0 in
    search (rules, kept)

pub loop-row-preserved : goal.loop-row-preserved
loop-row-preserved c =
    let rows = c.args.rows.now in
    let done = take c.loop-row.row-index rows in
    let row = c.row-item.result in
    let kept = c.loop-row.invariant in
    let next : take (c.loop-row.row-index + 1) rows ≡ done ++ row ∷ [] =
    take_more rows c.loop-row.row-index row c.loop-row-test.true ∙ ap (λ r. done ++ r ∷ [])
    (sym c.row-item.is) in (
      rows_put c.args.out.now.items c.loop-row.out.items c.put_row.new.out.items
          (to_be_bytes w32 (length rows)) done row _ kept.0 c.in_ok-put_row.ensures.ok next,
      All-same IsRow _ (done ++ row ∷ []) next
          (All-push IsRow done row kept.1 c.in_ok-put_row.ensures.limits),
    )
