use Rattle.link_frames.proofs
use proofs.Words.{ComesTooLong, rules}
use proofs.HeldLemmas.{body_goes_on, body_not_too_long, length_goes_on}
use Rattle.link_frames.specs.Held.{held_bytes}
use Rattle.link_frames.proofs.held.Held.take.Goals as goal

pub returns-in_err-take-in-Body-clause-refused : goal.returns-in_err-take-in-Body-clause-refused
returns-in_err-take-in-Body-clause-refused c =
    let none : ¬ ComesTooLong (held_bytes c.args.self.now) c.args.piece.now = rw c.in-Body.is
    (body_not_too_long c.in-Body.so_far c.args.piece.now (rw c.in-Body.is at c.requires)) in
    search (rules, none)

pub returns-in_ok-take-in-Body-clause-ok : goal.returns-in_ok-take-in-Body-clause-ok
returns-in_ok-take-in-Body-clause-ok c =
    rw c.in-Body.is (body_goes_on c.in-Body.so_far c.take.new.self c.args.piece.now
    c.in_ok-take-in-Body.field-0 (rw c.in-Body.is at c.requires) c.in_ok-take-in-Body.ensures.ok)

pub returns-in-Err-clause-ok : goal.returns-in-Err-clause-ok
returns-in-Err-clause-ok c =
    let short = rw c.as_slice.ensures.value at c.in-Err.ensures.short in
    rw c.in-Length.is (length_goes_on c.in-Length.bytes c.in-Err.rest c.args.piece.now short.1.0
    short.1.1 short.0)
