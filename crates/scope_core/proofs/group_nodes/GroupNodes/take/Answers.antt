use Rattle.scope_core.proofs
use proofs.Words.{ap, arith, common_steps, cond, node_names, None, same, same_decides, Some, sym}
use proofs.Words.{[], ◌∙◌, ◌≡◌}
use proofs.GroupNodes.{found_nodes, gone_at, none_times, same_place, set_at, set_rises, set_times}
use proofs.GroupNodes.{times}
use proofs.group_nodes.GroupNodes.take.Goals.{in-None-1, in-Some-1}
use proofs.group_nodes.GroupNodes.take.Goals as goal

pub returns-in_default : goal.returns-in_default
returns-in_default c = λ g n.
    let none =
    none_times c.self.inside.nodes.entries c.args.group.now (sym c.in_default.ensures.value) in
    grind (arith, none n, same_decides)

pub remove-requires : goal.remove-requires
remove-requires c =
    let m = c.self.inside.nodes in
    let g = c.args.group.now in
    let got = c.in-Some.ensures in
    let at = c.pair_mut-nodes.ensures in
    let place = same_place m.entries c.in-Some.at g got.entry at.value got.key got.value in
    rw (found_nodes m.entries g _ place.value) (c.self.invariant g)

pub invariant_of-self : goal.invariant_of-self
invariant_of-self c =
    let m = c.self.inside.nodes in
    let g = c.args.group.now in
    let w = c.remove.new.nodes in
    let got = c.in-Some.ensures in
    let at = c.pair_mut-nodes.ensures in
    let place = same_place m.entries c.in-Some.at g got.entry at.value got.key got.value in
    let gone = c.swap_remove_index.ensures in
    let up = gone_at m c.in-Some.at g _ _ w at.unique place
    c.swap_remove_index.new.self c.swap_remove_index.result gone.entry gone.updates in
    set_rises m.entries c.swap_remove_index.new.self.entries g None up tt c.self.invariant

pub invariant_of-self-then-is_empty-2 : goal.invariant_of-self-then-is_empty-2
invariant_of-self-then-is_empty-2 c =
    let m = c.self.inside.nodes in
    let g = c.args.group.now in
    let w = c.remove.new.nodes in
    let got = c.in-Some.ensures in
    let at = c.pair_mut-nodes.ensures in
    let place = same_place m.entries c.in-Some.at g got.entry at.value got.key got.value in
    let gone = c.swap_remove_index.ensures in
    let up = gone_at m c.in-Some.at g _ _ w at.unique place
    c.swap_remove_index.new.self c.swap_remove_index.result gone.entry gone.updates in
    set_rises m.entries c.swap_remove_index.new.self.entries g None up tt c.self.invariant

pub invariant_of-self-else-is_empty : goal.invariant_of-self-else-is_empty
invariant_of-self-else-is_empty c =
    let m = c.self.inside.nodes in
    let g = c.args.group.now in
    let w = c.remove.new.nodes in
    let got = c.in-Some.ensures in
    let at = c.pair_mut-nodes.ensures in
    let place = same_place m.entries c.in-Some.at g got.entry at.value got.key got.value in
    let up = set_at m c.in-Some.at g _ _ w at.unique place in
    set_rises m.entries _ g (Some w) up c.remove.ensures.rises c.self.invariant

pub returns-then-is_empty : goal.returns-then-is_empty
returns-then-is_empty c =
    let m = c.self.inside.nodes in
    let g = c.args.group.now in
    let n = c.args.node.now in
    let w = c.remove.new.nodes in
    let got = c.in-Some.ensures in
    let at = c.pair_mut-nodes.ensures in
    let place = same_place m.entries c.in-Some.at g got.entry at.value got.key got.value in
    let gone = c.swap_remove_index.ensures in
    let up = gone_at m c.in-Some.at g _ _ w at.unique place
    c.swap_remove_index.new.self c.swap_remove_index.result gone.entry gone.updates in
    let was = found_nodes m.entries g _ place.value in
    let none : w.items ≡ [] = grind (arith, common_steps) in
    let is : c.match-swap_remove_index.self ≡ node_names c.swap_remove_index.new.self.entries =
    elim c.match-swap_remove_index.branch [
      | in-Some-1 b ↦ b.self-is
      | in-None-1 b ↦ b.self-is
    ] in
    rw (is, ← c.self.view_is) (set_times m.entries _ g None up n 0
    (λ q. sym (ap (λ ns. times ns q) none) ∙ c.remove.ensures.gone q
    ∙ ap (λ ns. cond (same n q) 0 (times ns q)) was))

pub returns-else-is_empty : goal.returns-else-is_empty
returns-else-is_empty c =
    let m = c.self.inside.nodes in
    let g = c.args.group.now in
    let w = c.remove.new.nodes in
    let got = c.in-Some.ensures in
    let at = c.pair_mut-nodes.ensures in
    let place = same_place m.entries c.in-Some.at g got.entry at.value got.key got.value in
    let up = set_at m c.in-Some.at g _ _ w at.unique place in
    let was = found_nodes m.entries g _ place.value in
    λ g n. rw (← c.self.view_is)
    (set_times m.entries _ c.args.group.now (Some w) up c.args.node.now 0
    (λ q. c.remove.ensures.gone q ∙ ap (λ ns. cond (same c.args.node.now q) 0 (times ns q)) was) g
    n)
