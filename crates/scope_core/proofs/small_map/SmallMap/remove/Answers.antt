use Rattle.scope_core.proofs
use proofs.Words.{ap, cond, eq_by_cmp, find, Many, None, SmallMap, ◌∙◌, ◌≡◌}
use proofs.small_map.SmallMap.remove.Goals as goal

pub returns-in-Many : goal.returns-in-Many
returns-in-Many g c = λ k.
    let was : Many c.in-Many.map ≡ c.args.self.now = cc in
    c.remove-in-Many.ensures.updates.0 k ∙ ap (λ (m : SmallMap g.row.K.Denot g.row.V.Denot).
    cond (eq_by_cmp g.K.Ord.cmp c.args.key.now k) None (find g.K.Ord.cmp m k)) was
