use Rattle.pg_session.proofs
use proofs.Callers.{on_ok}
use proofs.Telling.{tells_more}
use Rattle.pg_session.proofs.watch.Watch.tell.Goals as goal

pub returns-then-not-self-clause-told : goal.returns-then-not-self-clause-told
returns-then-not-self-clause-told g c = on_ok c.put_end.result (λ more k. more k c.args.caller.now)
    c.put_end.ensures.more

pub returns-clause-told : goal.returns-clause-told
returns-clause-told g c =
    on_ok c.put_end-2.result
    (λ more k. tells_more c.args.caller.now c.fetch.new.self c.fetch.new.self k k k
    c.args.out.now.items c.fetch.new.out.items c.put_end-2.new.out.items
    (c.in_ok-fetched.ensures.told k)
    (more k c.fetch.new.self))
    c.put_end-2.ensures.more
