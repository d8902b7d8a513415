use Rattle.scope_core.proofs
use proofs.Words.{cond, List, list_any, same, times_named, ℕ, ◌&&◌, ◌≡◌}
use proofs.indexing.unname.Given as goal

-- once the node is taken out of the groups to come too, it is out of all
abbrev pub invariant-loop-group : goal.invariant-loop-group
invariant-loop-group l = (g n : List ℕ)
    → cond (list_any (λ e. same e.0 g) l.group-iterator && same l.node n) 0
    (times_named l.index g n)
    ≡ cond (list_any (λ e. same e.0 g) l.initial.group-iterator && same l.node n) 0
    (times_named l.fn.index g n)
