use Rattle.otp_edge.proofs
use Rattle.otp_edge.specs
use proofs.Words.{[], ◌∷◌}
use specs.PgMessages.{leave, many, terms}
use specs.Telling.{pids_of}
use specs.declared.telling.Told.{Told}
use proofs.TellingLemmas.{bodies_more}
use Rattle.otp_edge.proofs.told_bodies.leave_bodies.Goals as goal

pub loop-one-preserved : goal.loop-one-preserved
loop-one-preserved c = let own = c.args.ends.own.now in
    bodies_more (λ (t : Told). leave own (many (pids_of t.rows.now)) (terms (t.group.items ∷ [])))
    c.args.ends.other.now
    c.args.told.now c.loop-one.one-index c.one-item.result c.loop-one.out.items
    c.in_ok-body.body.items
    c.put_leave.new.out.items c.deref.result.now c.put_whole.new.out.items c.loop-one-test.true
    c.one-item.is c.loop-one.invariant c.in_ok-body.ensures c.in_ok-put_leave.ensures
    c.deref.ensures.value c.in_ok-put_whole.ensures
