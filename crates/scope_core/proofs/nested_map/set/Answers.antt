use Rattle.scope_core.proofs
use proofs.Words.{ap, eq_by_cmp, is_some, Some, sym}
use proofs.NestedMaps.{set_at}
use proofs.nested_map.set.Goals as goal

pub returns : goal.returns
returns g c = λ a b.
    let w = c.set.new.self in
    let up = ((c.get_mut.follows.holds w).3 (ap is_some (sym c.in-Some.ensures.value))).0 in
    set_at g.met.A.Ord.total g.B.Ord.cmp c.args.map.now
    (c.get_mut.follows.lender w) c.args.outer.now a b
    (eq_by_cmp g.B.Ord.cmp c.args.inner.now b) (Some c.args.value) c.in-Some.place.now (Some w)
    (up a) c.in-Some.ensures.value (c.set.ensures b)
