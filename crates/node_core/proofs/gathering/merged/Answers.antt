use Rattle.node_core.proofs
use proofs.Words.{ap, append_assoc, arith, into_iter_items, rules, sym, [], ◌++◌, ◌∙◌, ◌∷◌, ◌≡◌}
use proofs.MergedGroups.{all_merged, merged_permuted, merges, some_permuted, sorted_by_group}
use proofs.gathering.merged.Goals as goal

pub loop-change-preserved : goal.loop-change-preserved
loop-change-preserved c =
    let given = c.into_iter-change-iterator.ensures.into_iter_gives.0 in
    let groups = c.args.groups.items in
    let sorted = c.sort_unstable_by.new.self.items in
    let moved = c.sort_unstable_by.ensures.permutation in
    let gone = c.loop-change.yielded in
    let change = c.in-Some.change in
    let rest = into_iter_items c.next.new.self in
    let next = ap (λ xs. gone ++ xs) c.in-Some.ensures.steps.0 in
    let all : sorted ≡ gone ++ change ∷ rest = sym given ∙ sym c.loop-change.invariant.all ∙ next in
    let up = sorted_by_group groups sorted moved c.sort_unstable_by.ensures.sorted
    (λ a r f' k. search rules) in
    record {
      able = tt;
      finite = tt;
      all = append_assoc gone (change ∷ []) rest ∙ sym all ∙ sym given;
      merged = merges gone c.loop-change.merged.items c.merge.new.merged.items change rest sorted
          all (some_permuted groups sorted moved c.requires) up c.loop-change.invariant.merged
          c.in_ok-merge.ensures;
    }

pub returns : goal.returns
returns c =
    let given = c.into_iter-change-iterator.ensures.into_iter_gives.0 in
    let sorted = c.sort_unstable_by.new.self.items in
    let all = all_merged c.loop-change.yielded (into_iter_items c.loop-change.change-iterator)
    sorted c.loop-change.merged.items (c.loop-change.invariant.all ∙ given)
    (omega (arith, c.in-None.ensures.steps)) c.loop-change.invariant.merged in
    merged_permuted c.args.groups.items sorted c.sort_unstable_by.ensures.permutation
    c.loop-change.merged.items all
