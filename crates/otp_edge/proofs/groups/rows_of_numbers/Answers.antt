use Rattle.otp_edge.proofs
use proofs.Words.{ap, arith, length, List, refl, ℕ, [], ◌+◌}
use Rattle.std.proofs.lemmas.List.{get_or_default}
use Rattle.external_terms.specs.Values.{small_integer_bytes}
use Rattle.otp_edge.specs.PgMessages.{rows_in}
use proofs.PutLemmas.{more_put, taken_less}
use proofs.LackLemmas.{lack_of, of_more}
use Rattle.otp_edge.proofs.groups.rows_of_numbers.Goals as goal

pub loop-number-preserved : goal.loop-number-preserved
loop-number-preserved c = more_put (λ g. rows_in g c.args.pids.now) small_integer_bytes
    c.args.numbers.now c.loop-number.number-index _ [] c.loop-number.rows.items
    c.push_rows.new.rows.items [] c.loop-number-test.true
    (get_or_default c.args.numbers.now c.loop-number.number-index 0 _ c.loop-number-test.true)
    c.loop-number.invariant c.in_ok-push_rows.ensures.ok

pub returns-in_err-push_rows-clause-refused : goal.returns-in_err-push_rows-clause-refused
returns-in_err-push_rows-clause-refused c =
    let numbers = c.args.numbers.now in
    let place = c.loop-number.number-index in
    let rows = λ (g : List ℕ). rows_in g c.args.pids.now in
    let more = more_put rows small_integer_bytes numbers place _ [] c.loop-number.rows.items _ []
    c.loop-number-test.true (get_or_default numbers place 0 _ c.loop-number-test.true)
    c.loop-number.invariant refl in
    lack_of _ c.from_residual.result _ c.from_residual.ensures.1 (of_more _ _ _
    (omega (arith, ap length more, taken_less rows small_integer_bytes numbers (place + 1)))
    c.in_err-push_rows.ensures.refused)
