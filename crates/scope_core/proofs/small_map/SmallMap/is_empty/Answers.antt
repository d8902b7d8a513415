use Rattle.scope_core.proofs
use proofs.Words.{ap, Few, find, is_eq, is_some, lookup, Many, SmallMap, sym, true≢false, ◌==◌}
use proofs.Words.{◌∙◌, ◌≡◌}
use proofs.NestedMaps.{some_entry}
use proofs.small_map.SmallMap.is_empty.Goals as goal

pub returns-in-Many-clause-some : goal.returns-in-Many-clause-some
returns-in-Many-clause-some g c = λ h.
    let was : Many c.in-Many.map ≡ c.args.self.now = cc in
    let some = some_entry g.met.K.Ord.total c.in-Many.map.entries
    (λ z. true≢false (sym (c.is_empty-in-Many.ensures.1 z) ∙ h)) in (
      some.0,
      ap (λ (m : SmallMap g.row.K.Denot g.row.V.Denot). is_some (find g.K.Ord.cmp m some.0))
          (sym was) ∙ some.1,
    )

pub returns-in-Few-clause-some : goal.returns-in-Few-clause-some
returns-in-Few-clause-some g c = λ h.
    let was : Few c.in-Few.map ≡ c.args.self.now = cc in
    let some = some_entry g.met.K.Ord.total c.entries.result.now
    (λ z. true≢false (sym (c.is_empty.ensures ∙ ap (λ n. n == 0) z) ∙ h)) in (
      some.0,
      ap (λ (m : SmallMap g.row.K.Denot g.row.V.Denot). is_some (find g.K.Ord.cmp m some.0))
          (sym was)
          ∙ ap (λ es. is_some (lookup (λ q. is_eq (g.K.Ord.cmp some.0 q)) es))
          (sym c.entries.ensures.entries) ∙ some.1,
    )
