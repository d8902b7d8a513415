use Rattle.std.proofs.Common.{take, ◌++◌, ◌≡◌}
use Rattle.pg_archive.specs.Texts.{escaped}
use Rattle.pg_archive.proofs.archived.put_each_byte.Given as goal

-- what stands for the bytes so far is added
abbrev pub invariant-loop-byte : goal.invariant-loop-byte
invariant-loop-byte l = l.out.items ≡ l.fn.out.items ++ escaped (take l.byte-index l.text)
