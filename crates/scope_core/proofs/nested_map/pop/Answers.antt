use Rattle.scope_core.proofs
use proofs.Words.{ap, arith, eq_by_cmp, is_some, None, Some, sym, tied_itself, ◌∙◌}
use proofs.NestedMaps.{after_two, same_at, set_at}
use proofs.nested_map.pop.Goals as goal

pub returns-in_default-pop_first-clause-same : goal.returns-in_default-pop_first-clause-same
returns-in_default-pop_first-clause-same g c = λ a b.
    let w = c.pop_first.new.self in
    let up = ((c.get_mut.follows.holds w).3 (ap is_some (sym c.in-Some.ensures.value))).0 in
    same_at g.met.A.Ord.total g.B.Ord.cmp c.args.map.now
    (c.get_mut.follows.lender w) c.args.outer.now a b
    c.in-Some.place.now (Some w) (up a) c.in-Some.ensures.value
    (c.in_default-pop_first.ensures.same b ∙ sym (c.in_default-pop_first.ensures.none b))

pub returns-then-not-is_empty-clause-taken : goal.returns-then-not-is_empty-clause-taken
returns-then-not-is_empty-clause-taken g c = λ a b.
    let w = c.pop_first.new.self in
    let up = ((c.get_mut.follows.holds w).3 (ap is_some (sym c.in-Some.ensures.value))).0 in
    set_at g.met.A.Ord.total g.B.Ord.cmp c.args.map.now
    (c.get_mut.follows.lender w) c.args.outer.now a b
    (eq_by_cmp g.B.Ord.cmp c.in-Some-pop_first.inner b) None c.in-Some.place.now (Some w)
    (up a) c.in-Some.ensures.value (c.in-Some-pop_first.ensures.taken b)

pub returns-clause-taken : goal.returns-clause-taken
returns-clause-taken g c = λ a b.
    let w = c.pop_first.new.self in
    let m = c.args.map.now in
    let n = c.get_mut.follows.lender w in
    let l = c.remove.new.self in
    let up = ((c.get_mut.follows.holds w).3 (ap is_some (sym c.in-Some.ensures.value))).0 in
    let twice =
    after_two g.met.A.Ord.total g.B.Ord.cmp m n l c.args.outer.now a None (Some w) (up a)
    (c.remove.ensures.updates.0 a) in
    set_at g.met.A.Ord.total g.B.Ord.cmp m l c.args.outer.now a b
    (eq_by_cmp g.B.Ord.cmp c.in-Some-pop_first.inner b) None
    c.in-Some.place.now None twice c.in-Some.ensures.value
    (sym (c.is_empty.ensures.none c.if-not-is_empty.false b) ∙ c.in-Some-pop_first.ensures.taken b)

pub returns-clause-last : goal.returns-clause-last
returns-clause-last g c = λ last b.
    let gone = c.remove.ensures.updates.0 c.args.outer.now in
    grind (arith, tied_itself)

pub returns-then-not-is_empty-clause-more : goal.returns-then-not-is_empty-clause-more
returns-then-not-is_empty-clause-more g c = grind (arith, tied_itself)
