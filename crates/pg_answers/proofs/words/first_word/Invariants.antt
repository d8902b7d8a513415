use Rattle.std.proofs.Common.{All, take, ◌≢◌}
use Rattle.pg_answers.proofs.words.first_word.Given as goal

-- no space came so far
abbrev pub invariant-loop-i : goal.invariant-loop-i
invariant-loop-i l = All (λ b. b ≢ 32) (take l.i l.line)
