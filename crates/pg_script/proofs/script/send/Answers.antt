use Rattle.pg_script.proofs.Played.{sent_more}
use Rattle.pg_script.proofs.script.send.Goals as goal

pub loop-preserved : goal.loop-preserved
loop-preserved g c = sent_more _ _ _ c.args.bytes.now c.loop.sent c.in_ok-sent.field-0
    c.loop.invariant.0 c.in_ok-sent.ensures.within c.loop.invariant.1 c.in_ok-sent.ensures.ok
