use Rattle.scope_core.proofs
use proofs.Words.{ap, cond, is_some, on_err_weaker, on_ok_weaker, same, Some, sym, ◌∙◌}
use proofs.GroupNodes.{found_nodes, none_times, set_rises, set_same_times, set_times, times}
use proofs.group_nodes.GroupNodes.put.Goals as goal

pub begin-requires : goal.begin-requires
begin-requires c = λ n. rw c.get_mut.follows.holds-at-none
    (none_times c.self.inside.nodes.entries c.args.group.now (sym c.in_default.ensures.value) n)

pub add-requires : goal.add-requires
add-requires c = rw (found_nodes c.self.inside.nodes.entries c.args.group.now c.in-Some.nodes.now
    (sym c.in-Some.ensures.value)) (c.self.invariant c.args.group.now)

pub invariant_of-self-2 : goal.invariant_of-self-2
invariant_of-self-2 c =
    let w = c.add.new.nodes in
    let up = ((c.get_mut.follows.holds w).3 (ap is_some (sym c.in-Some.ensures.value))).0 in
    set_rises c.self.inside.nodes.entries (c.get_mut.follows.lender w).entries c.args.group.now
    (Some w) up c.add.ensures.rises c.self.invariant

pub returns-clause-ok : goal.returns-clause-ok
returns-clause-ok c =
    let es = c.self.inside.nodes.entries in
    let group = c.args.group.now in
    let w = c.add.new.nodes in
    let up = ((c.get_mut.follows.holds w).3 (ap is_some (sym c.in-Some.ensures.value))).0 in
    let was = found_nodes es group c.in-Some.nodes.now (sym c.in-Some.ensures.value) in
    on_ok_weaker c.add.result (λ ok g n. rw (← c.self.view_is)
    (set_times es (c.get_mut.follows.lender w).entries group (Some w) up c.args.node.now 1
    (λ m. ok m ∙ ap (λ ns. cond (same c.args.node.now m) 1 (times ns m)) was) g n)) c.add.ensures.ok

pub returns-clause-same : goal.returns-clause-same
returns-clause-same c =
    let es = c.self.inside.nodes.entries in
    let group = c.args.group.now in
    let w = c.add.new.nodes in
    let up = ((c.get_mut.follows.holds w).3 (ap is_some (sym c.in-Some.ensures.value))).0 in
    let was = found_nodes es group c.in-Some.nodes.now (sym c.in-Some.ensures.value) in
    on_err_weaker c.add.result (λ still g n. rw (← c.self.view_is)
    (set_same_times es (c.get_mut.follows.lender w).entries group (Some w) up
    (λ m. ap (λ ns. times ns m) (still ∙ was)) g n)) c.add.ensures.same
