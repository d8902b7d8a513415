use Rattle.group_monitors.proofs.Fetched.{answered, becomes_last, seen_all, since, stays_last}
use Rattle.group_monitors.proofs.laws.since_the_place.Goals as goal

pub returns : goal.returns
returns c = record {
  since = λ seat k m. since seat k m.place _;
  answer = answered;
  seen = seen_all;
  stays = stays_last;
  moves = becomes_last;
}
