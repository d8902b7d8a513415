use Rattle.scope_core.proofs
use proofs.Words.{arith, false, is_gt, or_left, or_right, text_cmp, texts_total, ◌≡◌}
use proofs.Told.{first_in, itself, none_below_first}
use proofs.changes.first_group.Goals.{else-lt, then-lt}
use proofs.changes.first_group.Goals as goal

pub returns-after-lt-clause-gone : goal.returns-after-lt-clause-gone
returns-after-lt-clause-gone c =
    let one = c.in-Some-Some.one.now in
    let g = c.if-lt.result.now in
    let low : is_gt (text_cmp g one.row.group) ≡ false = elim c.if-lt.branch [
      | then-lt w ↦ grind arith
      | else-lt w ↦ grind (arith, itself)
    ] in none_below_first g c.args.gone.now one c.in-Some-Some.ensures.value low c.requires.gone

pub returns-after-lt-clause-joined : goal.returns-after-lt-clause-joined
returns-after-lt-clause-joined c =
    let one = c.in-Some-Some.one.now in
    let other = c.in-Some-Some.other.now in
    let g = c.if-lt.result.now in
    let low : is_gt (text_cmp g other.row.group) ≡ false = elim c.if-lt.branch [
      | then-lt w ↦ grind (arith, itself)
      | else-lt w ↦ grind (arith, texts_total.antisymm one.row.group other.row.group)
    ] in
    none_below_first g c.args.joined.now other c.in-Some-Some.ensures'.value low c.requires.joined

pub returns-after-lt-clause-some : goal.returns-after-lt-clause-some
returns-after-lt-clause-some c = grind (arith, first_in)

pub returns-in-Some-None-clause-gone : goal.returns-in-Some-None-clause-gone
returns-in-Some-None-clause-gone c =
    let one = c.in-Some-None.one.now in
    none_below_first one.row.group c.args.gone.now one c.in-Some-None.ensures.value
    (itself one.row.group) c.requires.gone

pub returns-in-Some-None-clause-some : goal.returns-in-Some-None-clause-some
returns-in-Some-None-clause-some c =
    or_left _ _ (first_in c.args.gone.now c.in-Some-None.one.now c.in-Some-None.ensures.value)

pub returns-in-None-Some-clause-joined : goal.returns-in-None-Some-clause-joined
returns-in-None-Some-clause-joined c =
    let other = c.in-None-Some.other.now in
    none_below_first other.row.group c.args.joined.now other c.in-None-Some.ensures'.value
    (itself other.row.group) c.requires.joined

pub returns-in-None-Some-clause-some : goal.returns-in-None-Some-clause-some
returns-in-None-Some-clause-some c =
    or_right _ _ (first_in c.args.joined.now c.in-None-Some.other.now c.in-None-Some.ensures'.value)
