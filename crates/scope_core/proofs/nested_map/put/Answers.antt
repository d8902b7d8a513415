use Rattle.scope_core.proofs
use proofs.Words.{ap, eq_by_cmp, is_some, on_err_weaker, on_ok_weaker, Some, sym}
use proofs.NestedMaps.{same_at, set_at}
use proofs.nested_map.put.Goals as goal

pub returns-clause-ok : goal.returns-clause-ok
returns-clause-ok g c =
    let w = c.insert-2.new.self in
    let up = ((c.get_mut.follows.holds w).3 (ap is_some (sym c.in-Some.ensures.value))).0 in
    on_ok_weaker c.insert-2.result (λ put a b. set_at g.met.A.Ord.total g.B.Ord.cmp c.args.map.now
    (c.get_mut.follows.lender w) c.args.outer.now a b
    (eq_by_cmp g.B.Ord.cmp c.args.inner b) (Some c.args.value) c.in-Some.place.now (Some w)
    (up a) c.in-Some.ensures.value (put b)) c.insert-2.ensures.ok

pub returns-clause-same : goal.returns-clause-same
returns-clause-same g c =
    let w = c.insert-2.new.self in
    let up = ((c.get_mut.follows.holds w).3 (ap is_some (sym c.in-Some.ensures.value))).0 in
    on_err_weaker c.insert-2.result
    (λ same a b. same_at g.met.A.Ord.total g.B.Ord.cmp c.args.map.now
    (c.get_mut.follows.lender w) c.args.outer.now a b
    c.in-Some.place.now (Some w) (up a) c.in-Some.ensures.value (same b)) c.insert-2.ensures.same
