use Rattle.admission_rules.proofs
use Rattle.std.proofs.Common.{arith, refl, sym, ◌∙◌}
use proofs.NameLists.{new_name_makes_more}
use proofs.allow_list.is_past_limit.Goals as goal

pub returns-then-room-eq0 : goal.returns-then-room-eq0
returns-then-room-eq0 c = let new = sym c.is_new.ensures ∙ c.if-is_new.true in let more =
    new_name_makes_more c.args.allowed.now.keys c.args.names.now c.loop-i.i _ c.loop-i-test.true
    c.index-names-i.is new in
    ((λ _. omega (arith, c.loop-i.invariant, c.if-room-eq0.true)), (λ _. refl))
