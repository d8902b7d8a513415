use Rattle.std.proofs.Common.{take, ◌++◌, ◌≡◌}
use Rattle.pg_text.specs.Answers.{spaced}
use Rattle.pg_session.proofs.reading.put_names.Given as goal

-- the names so far are added
abbrev pub invariant-loop-name : goal.invariant-loop-name
invariant-loop-name l = l.out.items ≡ l.fn.out.items ++ spaced (λ n. n) (take l.name-index l.names)
