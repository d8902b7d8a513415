use Rattle.scope_core.proofs
use proofs.Words.{arith, length, refl, vec_len, ◌-◌, ◌≡◌}
use proofs.Counting.{count_room, last_again, no_last, only_row}
use proofs.incoming.count_again.Goals as goal

pub overflow_add-last : goal.overflow_add-last
overflow_add-last c = grind (arith, only_row, count_room)

pub returns-in-Some : goal.returns-in-Some
returns-in-Some c = λ row at.
    let v = c.args.counted.now in
    let n : vec_len v ≡ length v.items = omega arith in
    last_again v.items (vec_len v - 1) c.in-Some.last.now
    (omega (arith, c.in-Some.ensures.variant.0 refl)) c.in-Some.ensures.value c.requires.kept
    row (rw n at) (c.requires.room row at)

pub returns-in_default : goal.returns-in_default
returns-in_default c = λ row at. absurd (no_last c.args.counted.now.items _ row (grind arith) at)
