use Rattle.cookie_digest.proofs
use Rattle.std.proofs.Common.{length, ◌↔◌, ◌≡◌}
use proofs.Differing.{SameBelow}
use proofs.challenge.is_same_digest.Given as goal

-- no bit differs so far exactly where the bytes so far are the same
abbrev pub invariant-loop-x : goal.invariant-loop-x
invariant-loop-x l = (l.differing ≡ 0) ↔ SameBelow (length l.yielded) l.a l.b
