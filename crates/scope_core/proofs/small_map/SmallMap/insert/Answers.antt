use Rattle.scope_core.proofs
use proofs.Words.{ap, cond, eq_by_cmp, find, Many, SmallMap, Some, ◌∙◌, ◌≡◌}
use proofs.small_map.SmallMap.insert.Goals as goal

pub returns-in_ok-inserted-in-Many-clause-ok : goal.returns-in_ok-inserted-in-Many-clause-ok
returns-in_ok-inserted-in-Many-clause-ok g c = λ k.
    let was : Many c.in-Many.map ≡ c.args.self.now = cc in
    c.in_ok-inserted-in-Many.ensures.updates.0 k ∙ ap (λ (m : SmallMap g.row.K.Denot g.row.V.Denot).
    cond (eq_by_cmp g.K.Ord.cmp c.args.key k) (Some c.args.value) (find g.K.Ord.cmp m k)) was
