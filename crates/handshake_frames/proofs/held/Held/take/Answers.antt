use Rattle.handshake_frames.proofs
use Rattle.std.proofs.Common.{rules}
use proofs.HeldLemmas.{body_begins}
use proofs.held.Held.take.Goals as goal

pub returns-in_ok-taken-in-Length-clause-ok : goal.returns-in_ok-taken-in-Length-clause-ok
returns-in_ok-taken-in-Length-clause-ok c =
    rw c.in-Length.is (body_begins c.in-Length.first c.args.piece.now c.in-Some.behind.now
    c.in-Some.len c.in_ok-taken-in-Length.taken c.take-in-Length.new.self c.in-Some.ensures.found
    (search rules) (rw c.in_ok-so_far-in-Length.ensures at c.in_ok-taken-in-Length.ensures.ok))
