use Rattle.std.proofs.Common.{refl}
use Rattle.pg_session.proofs.session.Session.follow.Goals as goal

pub call-requires : goal.call-requires
call-requires g c = rw c.in-Call.is at c.requires

pub returns-in_ok-put_query-in-Query-clause-ok : goal.returns-in_ok-put_query-in-Query-clause-ok
returns-in_ok-put_query-in-Query-clause-ok g c =
    rw c.in-Query.is (rw (← c.self.view_is) (refl, refl, c.in_ok-put_query-in-Query.ensures))

pub returns-in_ok-put_found-in-Audit-clause-ok : goal.returns-in_ok-put_found-in-Audit-clause-ok
returns-in_ok-put_found-in-Audit-clause-ok g c =
    rw c.in-Audit.is
    (rw (← c.self-in-Audit.view_is) (refl, refl, c.in_ok-put_found-in-Audit.ensures))

pub returns-in_ok-put_size-in-Size-clause-ok : goal.returns-in_ok-put_size-in-Size-clause-ok
returns-in_ok-put_size-in-Size-clause-ok g c =
    rw c.in-Size.is (rw (← c.self-in-Size.view_is) (refl, refl, c.in_ok-put_size-in-Size.ensures))

pub returns-in_ok-put_peers-in-Nodes-clause-ok : goal.returns-in_ok-put_peers-in-Nodes-clause-ok
returns-in_ok-put_peers-in-Nodes-clause-ok g c =
    rw c.in-Nodes.is
    (rw (← c.self-in-Nodes.view_is) (refl, refl, c.in_ok-put_peers-in-Nodes.ensures))
