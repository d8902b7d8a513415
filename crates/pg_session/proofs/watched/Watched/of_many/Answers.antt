use Rattle.std.proofs.Common.{sym}
use Rattle.pg_session.proofs.Noted.{awaits_of}
use Rattle.pg_session.proofs.Noting.{noted_none}
use Rattle.pg_session.proofs.watched.Watched.of_many.Goals as goal

pub returns-then-watches-le-FEW : goal.returns-then-watches-le-FEW
returns-then-watches-le-FEW g c = sym (noted_none c.args.watches.now)

pub returns-then-saturating_mul-le-AT_ONCE : goal.returns-then-saturating_mul-le-AT_ONCE
returns-then-saturating_mul-le-AT_ONCE g c = sym (noted_none c.args.watches.now)

pub returns : goal.returns
returns g c = rw c.ok.ensures.value (awaits_of c.of.result c.args.watches.now c.of.ensures)
