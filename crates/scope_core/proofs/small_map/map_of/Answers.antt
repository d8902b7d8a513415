use Rattle.scope_core.proofs
use proofs.Words.{ap, arith, eq_by_cmp, eq_by_cmp_equiv, is_some, IsFromIterResult, None, refl, ◌∙◌}
use Rattle.std.proofs.lemmas.Map.Made.{is_some-update_all, update_all_none}
use Rattle.std.proofs.lemmas.Iterator.Adapters.{fact_from_collect, YieldsList-from_vec}
use proofs.small_map.map_of.Goals as goal

pub returns : goal.returns
returns g c =
    let es = c.args.entries.items in
    let road = YieldsList-from_vec es c.into_iter.ensures.rest
    (c.into_iter.ensures.len ∙ omega arith) in
    let made =
    fact_from_collect (IsFromIterResult g.K.Ord.cmp) c.collect.result c.collect.ensures.ran road in
    let has = (rw c.in_ok-collect.was at made).0 in
    let total = g.met.K.Ord.total in
    record {
      found = λ distinct k. has k
          ∙ update_all_none (eq_by_cmp_equiv total) (eq_by_cmp g.K.Ord.cmp) (λ x y. refl) es k
          distinct;
      there = λ k. ap is_some (has k) ∙ is_some-update_all (eq_by_cmp_equiv total) k (λ _. None) es;
    }
