use Rattle.scope_core.proofs
use proofs.Words.{ap, cond, eq_by_cmp, Few, find, is_some, Many, SmallMap, Some, sym, ◌∙◌, ◌≡◌}
use proofs.small_map.SmallMap.set.Goals as goal

pub returns-in-Some : goal.returns-in-Some
returns-in-Some g c = λ k.
    let was : Many c.in-Many.map ≡ c.args.self.now = cc in
    ((c.get_mut.follows.holds c.args.value).3 (ap is_some (sym c.in-Some.ensures.value))).0 k
    ∙ ap (λ (m : SmallMap g.row.K.Denot g.row.V.Denot).
    cond (eq_by_cmp g.K.Ord.cmp c.args.key.now k) (Some c.args.value) (find g.K.Ord.cmp m k)) was

pub returns-in-Few : goal.returns-in-Few
returns-in-Few g c = λ k.
    let was : Few c.in-Few.map ≡ c.args.self.now = cc in
    c.set.ensures k ∙ ap (λ (m : SmallMap g.row.K.Denot g.row.V.Denot).
    cond (eq_by_cmp g.K.Ord.cmp c.args.key.now k) (Some c.args.value) (find g.K.Ord.cmp m k)) was
