use Rattle.scope_core.proofs
use proofs.Words.{ap, arith, eq_by_cmp, is_some, None, Some, sym, tied_itself, ◌∙◌}
use proofs.NestedMaps.{after_two, set_at}
use proofs.nested_map.take.Goals as goal

pub returns-then-is_empty-clause-taken : goal.returns-then-is_empty-clause-taken
returns-then-is_empty-clause-taken g c = λ a b.
    let w = c.remove.new.self in
    let m = c.args.map.now in
    let n = c.get_mut.follows.lender w in
    let l = c.remove-then-is_empty.new.self in
    let up = ((c.get_mut.follows.holds w).3 (ap is_some (sym c.in-Some.ensures.value))).0 in
    let twice =
    after_two g.met.A.Ord.total g.B.Ord.cmp m n l c.args.outer.now a None (Some w) (up a)
    (c.remove-then-is_empty.ensures.updates.0 a) in
    set_at g.met.A.Ord.total g.B.Ord.cmp m l c.args.outer.now a b
    (eq_by_cmp g.B.Ord.cmp c.args.inner.now b) None
    c.in-Some.place.now None twice c.in-Some.ensures.value
    (sym (c.is_empty.ensures.none c.if-is_empty.true b) ∙ c.remove.ensures b)

pub returns-clause-taken : goal.returns-clause-taken
returns-clause-taken g c = λ a b.
    let w = c.remove.new.self in
    let up = ((c.get_mut.follows.holds w).3 (ap is_some (sym c.in-Some.ensures.value))).0 in
    set_at g.met.A.Ord.total g.B.Ord.cmp c.args.map.now
    (c.get_mut.follows.lender w) c.args.outer.now a b
    (eq_by_cmp g.B.Ord.cmp c.args.inner.now b) None c.in-Some.place.now (Some w)
    (up a) c.in-Some.ensures.value (c.remove.ensures b)

pub returns-then-is_empty-clause-none : goal.returns-then-is_empty-clause-none
returns-then-is_empty-clause-none g c = λ last b.
    let gone = c.remove-then-is_empty.ensures.updates.0 c.args.outer.now in
    grind (arith, tied_itself)

pub returns-clause-some : goal.returns-clause-some
returns-clause-some g c = grind (arith, tied_itself)
