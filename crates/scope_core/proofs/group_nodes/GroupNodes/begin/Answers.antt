use Rattle.scope_core.proofs
use proofs.Words.{ap, arith, cond, List, lookup, same, Some, times_named, ℕ, ◌∙◌, ◌≡◌}
use proofs.GroupNodes.{set_rises, set_times}
use proofs.group_nodes.GroupNodes.begin.Goals as goal

pub invariant_of-self-2 : goal.invariant_of-self-2
invariant_of-self-2 c =
    let es = c.self.inside.nodes.entries in
    let w = c.in_ok-nodes.nodes in
    let up : (q : List ℕ) → lookup (same q) c.insert.new.self.entries
    ≡ cond (same c.args.group.now q) (Some w) (lookup (same q) es) =
    λ q. c.in_ok-insert.ensures.updates.0 q
    ∙ ap (λ (k : List ℕ). cond (same k q) (Some w) (lookup (same q) es)) c.in_ok-group.ensures in
    set_rises es c.insert.new.self.entries c.args.group.now (Some w) up
    (rw c.in_ok-nodes.ensures (tt, tt)) c.self.invariant

pub returns-clause-ok : goal.returns-clause-ok
returns-clause-ok c =
    let es = c.self.inside.nodes.entries in
    let w = c.in_ok-nodes.nodes in
    let group = c.args.group.now in
    let up : (q : List ℕ) → lookup (same q) c.insert.new.self.entries
    ≡ cond (same group q) (Some w) (lookup (same q) es) = λ q. c.in_ok-insert.ensures.updates.0 q
    ∙ ap (λ (k : List ℕ). cond (same k q) (Some w) (lookup (same q) es)) c.in_ok-group.ensures in
    let none =
    λ (n : List ℕ). ap (λ index. times_named index group n) c.self.view_is ∙ c.requires n in
    λ g n. rw (← c.self.view_is)
    (set_times es c.insert.new.self.entries group (Some w) up c.args.node.now 1
    (λ m. rw c.in_ok-nodes.ensures (grind (arith, none m))) g n)
