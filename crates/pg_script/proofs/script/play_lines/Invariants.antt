use Rattle.pg_script.specs
use Rattle.std.proofs.Common.{false, IfSome, List, Some, ℕ, ◌+◌, ◌≡◌}
use Rattle.policy_audit.specs.declared.opening.Opening.{Opening}
use specs.Playing.{opened_with}
use specs.Transcript.{line_left, line_text}
use Rattle.pg_script.proofs.Played.{Played}
use Rattle.pg_script.proofs.script.play_lines.Given as goal

-- on a new node, where the reader tells its bytes, the lines so far are answered
abbrev pub invariant-loop-turn : goal.invariant-loop-turn
invariant-loop-turn g l = (o : Opening) → l.fn.console ≡ opened_with o
    → IfSome (g.R.Read.remaining l.fn.reader) (λ script.
    (rest : List ℕ) × (g.R.Read.remaining l.reader ≡ Some rest)
    × Played false line_text line_left o script (g.W.Write.contents l.fn.writer)
    (g.W.Write.contents l.writer) l.console
    (l.turn + 1) rest)
