use Rattle.std.proofs.Common.{take, ◌++◌, ◌≡◌}
use Rattle.pg_page.specs.Escaping.{shown}
use Rattle.pg_page.proofs.sheet.put_shown.Given as goal

-- what stands for the bytes so far is added
abbrev pub invariant-loop-byte : goal.invariant-loop-byte
invariant-loop-byte l = l.out.items ≡ l.fn.out.items ++ shown (take l.byte-index l.text)
