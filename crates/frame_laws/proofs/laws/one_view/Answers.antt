use Rattle.frame_laws.proofs.OneView.{heard_moment, hears_now, listed_now}
use Rattle.frame_laws.proofs.laws.one_view.Goals as goal

pub returns : goal.returns
returns c = record {
  moment = λ sender receiver node legal a b v there here s later carried gives hears. heard_moment
      v sender node a receiver legal b s there here hears gives later carried;
  now = λ sender receiver node legal a b v there here s all gives hears.
      hears_now v sender node a receiver legal b s there here hears gives all;
  listed_now = λ sender receiver node legal a b v there here s all gives hears.
      listed_now v sender node a receiver legal b s there here hears gives all;
}
