use Rattle.std.proofs.Common.{refl, rules}
use Rattle.node_threads.proofs.Written.{took_end, took_unwritten, took_written}
use Rattle.node_threads.specs.declared.ends.WriteEnd.TheVariants as ends
use Rattle.node_threads.proofs.writing.write_once.Goals as goal

pub returns : goal.returns
returns g c =
    took_written c.args.work.now.link c.args.pass.now c.call.follows.lender-at-none
    c.in-Ok-Out.frames c.in-Ok-wire.bytes.items _ _
    (cc (c.in-Ok-wire.ensures, c.as_slice.ensures)) (search rules)
    (rw (c.in-Ok-Out.is, c.in-Ok-Out.field-0-is) at c.call.follows.holds-at-none)

pub returns-in-Err : goal.returns-in-Err
returns-in-Err g c =
    took_end c.args.work.now.link c.args.pass.now c.call.follows.lender-at-none c.in-Err.fault
    c.end_of.result (g.W.Write.contents c.args.output.now) c.end_of.ensures
    (rw c.in-Err.is at c.call.follows.holds-at-none)

pub returns-in_default : goal.returns-in_default
returns-in_default g c =
    took_unwritten c.args.work.now.link c.args.pass.now c.call.follows.lender-at-none _ ends.Memory
    (g.W.Write.contents c.args.output.now) (g.W.Write.contents c.args.output.now) refl
    (rw c.in-Ok-Out.is at c.call.follows.holds-at-none)

pub returns-then-is_err : goal.returns-then-is_err
returns-then-is_err g c =
    took_unwritten c.args.work.now.link c.args.pass.now c.call.follows.lender-at-none _
    ends.WriteFault (g.W.Write.contents c.args.output.now)
    (g.W.Write.contents c.write_all.new.self) refl
    (rw c.in-Ok-Out.is at c.call.follows.holds-at-none)
