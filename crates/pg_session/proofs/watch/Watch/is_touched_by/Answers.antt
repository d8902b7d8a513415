use Rattle.std.proofs.Common.{refl}
use Rattle.dist_types.specs.Listing.{same}
use Rattle.policy_audit.specs.declared.change.Change.{Change}
use Rattle.policy_audit.specs.Monitors.{is_watched}
use Rattle.pg_session.proofs.Later.{any_kept}
use Rattle.pg_session.proofs.watch.Watch.is_touched_by.Goals as goal

pub returns : goal.returns
returns c = rw (
  c.sees_any.ensures,
  c.as_slice.ensures,
  any_kept (is_watched c.args.self.now.group)
      (λ (x : Change). same x.scope c.args.self.now.scope) (λ (x : Change). x.groups)
      c.args.entry.now.change,
) refl
