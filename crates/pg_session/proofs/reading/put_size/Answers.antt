use Rattle.pg_session.proofs
use proofs.Asking.{answers_stranger}
use proofs.Callers.{on_ok}
use Rattle.pg_session.specs.declared.request.Request.TheVariants as requests
use Rattle.pg_session.proofs.reading.put_size.Goals as goal

pub returns-then-not-is_known_to : goal.returns-then-not-is_known_to
returns-then-not-is_known_to g c =
    on_ok c.put_stranger.result
    (λ is. answers_stranger requests.Size c.deref.result.now c.args.caller.now c.is_known_to.result
    c.args.out.now.items c.put_stranger.new.out.items c.is_known_to.ensures
    c.if-not-is_known_to.true is)
    c.put_stranger.ensures
