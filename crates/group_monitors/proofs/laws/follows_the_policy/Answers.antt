use Rattle.group_monitors.proofs
use proofs.Followed.{follows_cleared, follows_dropped, follows_free, follows_group, follows_moved}
use proofs.Followed.{follows_other, follows_removed, follows_scope, follows_start}
use proofs.FromPolicy.{follows_answer, follows_checked, follows_refused, follows_seen}
use proofs.FromPolicy.{follows_seen_later, follows_told}
use Rattle.group_monitors.proofs.laws.follows_the_policy.Goals as goal

pub returns : goal.returns
returns c = record {
  start = follows_start;
  other = follows_other;
  group = follows_group;
  scope = follows_scope;
  removed = follows_removed;
  moved = follows_moved;
  dropped = follows_dropped;
  cleared = follows_cleared;
  free = follows_free;
  answer = follows_answer;
  told = follows_told;
  seen = follows_seen;
  seen_later = follows_seen_later;
  checked = follows_checked;
  refused = follows_refused;
}
