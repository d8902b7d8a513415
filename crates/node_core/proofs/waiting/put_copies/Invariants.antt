use Rattle.node_core.proofs.Words.{take, ◌++◌, ◌≡◌}
use Rattle.node_core.proofs.waiting.put_copies.Given as goal

-- copies of those so far stand behind the others
abbrev pub invariant-loop-frame : goal.invariant-loop-frame
invariant-loop-frame l = l.waiting.items ≡ l.initial.waiting.items ++ take l.frame-index l.fn.frames
