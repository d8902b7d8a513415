use Rattle.group_monitors.proofs
use proofs.Reached.{reach_after, reach_all, reach_found, reach_only, reach_start}
use Rattle.group_monitors.proofs.laws.told_from_kept.Goals as goal

pub returns : goal.returns
returns c = record {
  start = reach_start;
  stays = reach_after;
  places = reach_found;
  all = reach_all;
  only = reach_only;
}
