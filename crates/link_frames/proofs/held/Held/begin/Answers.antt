use Rattle.link_frames.proofs
use proofs.Words.{arith, ComesTooLong, rules}
use proofs.LinkLemmas.{length_not_too_long}
use proofs.HeldLemmas.{body_begins}
use Rattle.link_frames.specs.Held.{held_bytes}
use Rattle.link_frames.proofs.held.Held.begin.Goals as goal

pub returns-in_err-so_far-clause-refused : goal.returns-in_err-so_far-clause-refused
returns-in_err-so_far-clause-refused c =
    let found = c.requires.found in
    let none : ¬ ComesTooLong (held_bytes c.args.self.now) c.args.piece.now =
    length_not_too_long _ _ c.args.behind.now found.0 c.args.len found.1 c.requires.some
    (omega (arith, c.if-len-gt-MAX_BODY.false)) in
    search (rules, none)

pub returns-in_err-used-clause-refused : goal.returns-in_err-used-clause-refused
returns-in_err-used-clause-refused c =
    let found = c.requires.found in
    let none : ¬ ComesTooLong (held_bytes c.args.self.now) c.args.piece.now =
    length_not_too_long _ _ c.args.behind.now found.0 c.args.len found.1 c.requires.some
    (omega (arith, c.if-len-gt-MAX_BODY.false)) in
    search (rules, none)

pub returns-clause-ok : goal.returns-clause-ok
returns-clause-ok c =
    let found = c.requires.found in
    body_begins c.args.self.now c.args.piece.now c.args.behind.now found.0 c.args.len
    c.in_ok-used.used c.take.new.self found.1 c.requires.last c.requires.some
    (omega (arith, c.if-len-gt-MAX_BODY.false))
    (rw c.in_ok-so_far.ensures at c.in_ok-used.ensures.ok)
