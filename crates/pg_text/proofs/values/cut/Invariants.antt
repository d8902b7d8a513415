use Rattle.std.proofs.Common.{drop, length, ◌-◌}
use Rattle.pg_text.proofs.WordLemmas.{IsWhole}
use Rattle.pg_text.proofs.values.cut.Given as goal

-- no slash stands behind
abbrev pub invariant-loop-past : goal.invariant-loop-past
invariant-loop-past l = IsWhole (drop (length l.word - l.past) l.word)
