use Rattle.otp_edge.proofs.SayingLemmas.{join_tells, leave_tells, sync_tells}
use Rattle.otp_edge.proofs.open_scope.OpenScope.tell.Goals as goal

pub returns-in-Sync-clause-told : goal.returns-in-Sync-clause-told
returns-in-Sync-clause-told c = sync_tells c.tell_sync.result (λ out. out.items) _ c.args.kind
    c.args.rows c.into_vec.result.items c.args.self.now _ c.in-Sync.is c.into_vec.ensures
    c.tell_sync.ensures.untold c.tell_sync.ensures.told

pub returns-in-Join-clause-told : goal.returns-in-Join-clause-told
returns-in-Join-clause-told c = join_tells c.tell_join.result (λ out. out.items) _ c.args.kind
    c.args.rows c.into_vec-in-Join.result.items c.args.self.now _ c.in-Join.is
    c.into_vec-in-Join.ensures c.tell_join.ensures.untold c.tell_join.ensures.told

pub returns-in-Leave-clause-told : goal.returns-in-Leave-clause-told
returns-in-Leave-clause-told c = leave_tells c.tell_leave.result (λ out. out.items) _ c.args.kind
    c.args.rows c.as_slice.result.now c.args.self.now _ c.in-Leave.is c.as_slice.ensures
    c.tell_leave.ensures.untold c.tell_leave.ensures.told
