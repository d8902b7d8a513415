use Rattle.node_core.proofs.Words.{take, ◌≡◌}
use Rattle.node_core.specs.Ending.{AreCutAll, without_ends}
use Rattle.node_core.proofs.slow.end_all.Given as goal

-- the links so far are gone
abbrev pub invariant-loop-end : goal.invariant-loop-end
invariant-loop-end l = record {
  scopes : AreCutAll (take l.end-index l.ends) l.fn.scopes.items l.scopes.items;
  links : l.links.items ≡ without_ends (take l.end-index l.ends) l.fn.links.items;
}
