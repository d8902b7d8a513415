use Rattle.link_frames.proofs
use proofs.Words.{All-push, All-same, ap, append-nil, append_assoc, arith, Decides-eqb, drop}
use proofs.Words.{drop_all, false, flat_map, flat_map_more, IsRow, length, length_push, List}
use proofs.Words.{nil_from_length, Row, row_bytes, rules, sym, true, ℕ, [], ◌++◌, ◌+◌, ◌==◌, ◌∙◌}
use proofs.Words.{◌∷◌, ◌≡◌}
use proofs.ReadingLemmas.{next_row, rows_left, same_rows}
use Rattle.link_frames.specs.declared.fault.MessageFault.TheVariants as faults
use Rattle.link_frames.proofs.decoding.rows_of.Goals as goal

pub returns-in_err-row-clause-only : goal.returns-in_err-row-clause-only
returns-in_err-row-clause-only c = λ rows long each bytes. let kept = c.loop.invariant in
    let left : c.loop.rest.now ≡ flat_map row_bytes (drop (length c.loop.rows.items) rows) =
    rows_left c.loop.rows.items rows c.loop.rest.now kept.each each (omega arith)
    (sym bytes ∙ kept.whole) in let next = next_row (length c.loop.rows.items) rows each
    (omega arith) in let fault : c.in_err-row.field-0.0 ≡ faults.OutOfMemory =
    c.in_err-row.ensures.only next.0 (flat_map row_bytes next.2.0) next.1
    (left ∙ ap (flat_map row_bytes) next.2.1) in search (rules, fault)

pub loop-preserved : goal.loop-preserved
loop-preserved c =
    let rows = c.loop.rows.items in
    let row = c.in_ok-row.row in
    let kept = c.loop.invariant in
    let found = c.in_ok-row.ensures.found in
    let pushed = c.in_ok-push.ensures.items in
    record {
      count = ap (length {A = Row}) pushed ∙ length_push rows row ∙ ap (λ n. n + 1) kept.count;
      each = All-same IsRow _ (rows ++ row ∷ []) pushed (All-push IsRow rows row kept.each found.0);
      whole = kept.whole ∙ ap (λ rest. flat_map row_bytes rows ++ rest) found.1
          ∙ sym (append_assoc (flat_map row_bytes rows) (row_bytes row) _)
          ∙ ap (λ front. front ++ c.in_ok-row.behind.now) (flat_map_more row_bytes [] rows row
          ∙ ap (flat_map row_bytes) (sym pushed));
    }

pub returns-then-not-is_empty-clause-only : goal.returns-then-not-is_empty-clause-only
returns-then-not-is_empty-clause-only c = λ rows long each bytes. let kept = c.loop.invariant in
    let left : c.loop.rest.now ≡ flat_map row_bytes (drop (length c.loop.rows.items) rows) =
    rows_left c.loop.rows.items rows c.loop.rest.now kept.each each (omega arith)
    (sym bytes ∙ kept.whole) in let none : c.loop.rest.now ≡ [] = left ∙ ap (flat_map row_bytes)
    (drop_all (length c.loop.rows.items) rows (omega arith)) in let bad : false ≡ true =
    c.if-not-is_empty.ensures ∙ ap (λ (xs : List ℕ). length xs == 0) none in absurd (cc bad)

pub returns-clause-found : goal.returns-clause-found
returns-clause-found c = let kept = c.loop.invariant in let none : c.loop.rest.now ≡ [] =
    nil_from_length c.loop.rest.now ((Decides-eqb _ 0).0 (sym c.if-not-is_empty.ensures)) in
    rw c.of.ensures (
      omega arith,
      kept.each,
      kept.whole ∙ ap (λ rest. flat_map row_bytes c.loop.rows.items ++ rest) none ∙ append-nil _,
    )

pub returns-clause-only : goal.returns-clause-only
returns-clause-only c = λ rows long each bytes.
    let found = returns-clause-found c in
    same_rows c.of.result rows found.1 each (found.0 ∙ sym long) (sym found.2 ∙ bytes)
