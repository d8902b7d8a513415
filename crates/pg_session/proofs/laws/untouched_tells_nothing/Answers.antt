use Rattle.policy_audit.specs.Changes.{groups_in}
use Rattle.policy_audit.specs.Monitors.{group_updates, is_watched}
use Rattle.pg_session.proofs.Later.{none_told}
use Rattle.pg_session.proofs.laws.untouched_tells_nothing.Goals as goal

pub returns : goal.returns
returns c = λ t e none. none_told (is_watched t.group) group_updates
    (groups_in t.scope e.change) none
