use Rattle.std.proofs.Common.{arith, drop, get_or, length, length-drop, rules, take, take_all, ◌+◌}
use Rattle.std.proofs.Common.{◌-◌, ◌≡◌, ◌≢◌}
use Rattle.pg_text.proofs.WordLemmas.{cut_here, cut_none, whole_more}
use Rattle.pg_text.proofs.values.cut.Goals as goal

pub returns-then-word-i-eq47-clause-found : goal.returns-then-word-i-eq47-clause-found
returns-then-word-i-eq47-clause-found c =
    let word = c.args.word.now in
    let i = length word - 1 - c.loop-past.past in
    let here : length word - c.loop-past.past ≡ i + 1 = omega (arith, c.loop-past-test.true) in
    let rest : take (length word - (i + 1)) (drop (i + 1) word) ≡ drop (i + 1) word =
    search (rules, take_all, length-drop) in
    let slash : get_or word i 0 ≡ 47 = search rules in
    rw rest (cut_here word i (omega (arith, c.loop-past-test.true)) slash
    (rw here at c.loop-past.invariant))

pub loop-past-preserved : goal.loop-past-preserved
loop-past-preserved c =
    let word = c.args.word.now in
    let i = length word - 1 - c.loop-past.past in
    let here : length word - c.loop-past.past ≡ i + 1 = omega (arith, c.loop-past-test.true) in
    let next : length word - (c.loop-past.past + 1) ≡ i = omega arith in
    let other : get_or word i 0 ≢ 47 = search rules in
    rw next (whole_more word i (omega (arith, c.loop-past-test.true)) other
    (rw here at c.loop-past.invariant))

pub returns-clause-none : goal.returns-clause-none
returns-clause-none c = λ none.
    let word = c.args.word.now in
    let whole : length word - c.loop-past.past ≡ 0 = omega (arith, c.loop-past-test.false) in
    cut_none word (rw whole at c.loop-past.invariant)
