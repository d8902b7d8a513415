use Rattle.node_core.proofs
use proofs.Words.{ap, arith, rules, [], ◌++◌, ◌∙◌, ◌∷◌}
use proofs.MergedGroups.{merged_behind, merged_first, merged_last}
use proofs.gathering.merge.Goals as goal

pub returns-in_ok-push-in-Some : goal.returns-in_ok-push-in-Some
returns-in_ok-push-in-Some c =
    merged_last c.args.merged.now.items c.pop.new.self.items c.push.new.self.items c.args.change
    c.in-Some.last c.in-Some.ensures.items (search rules) (search rules)

pub returns-in_ok-push-in-Some-2-2 : goal.returns-in_ok-push-in-Some-2-2
returns-in_ok-push-in-Some-2-2 c =
    let last = c.in_ok-push-in-Some-2.ensures.items in
    merged_behind c.args.merged.now.items c.pop.new.self.items c.push-in-Some-2-2.new.self.items
    c.args.change c.in-Some.last c.in-Some.ensures.items
    (c.in_ok-push-in-Some-2-2.ensures.items ∙ ap (λ xs. xs ++ c.args.change ∷ []) last)
    (search rules)

pub returns-in_ok-push-in-None : goal.returns-in_ok-push-in-None
returns-in_ok-push-in-None c =
    merged_first c.args.merged.now.items c.pop.new.self.items c.push-in-None.new.self.items
    c.args.change (omega (arith, c.in-None.ensures.cases)) c.in-None.ensures.items
    c.in_ok-push-in-None.ensures.items
