use Rattle.std.proofs.Common.{sym}
use Rattle.node_threads.proofs.Answered.{gave_end, gave_reply}
use Rattle.node_threads.proofs.reading.give.Goals as goal

pub returns-in-Ok : goal.returns-in-Ok
returns-in-Ok g c =
    gave_reply c.args.work.now.link c.args.body c.args.done c.args.pass.now
    c.call.follows.lender-at-none c.in-Ok.reply.now c.is_up.result c.is_up.ensures
    (rw c.in-Ok.is at c.call.follows.holds-at-none)

pub returns-in-Some : goal.returns-in-Some
returns-in-Some g c =
    gave_end c.args.work.now.link c.args.body c.args.done c.args.pass.now
    c.call.follows.lender-at-none c.in-Err.fault c.in-Some.end (sym c.in-Some.ensures)
    (rw c.in-Err.is at c.call.follows.holds-at-none)
