use Rattle.std.proofs.Common.{length}
use Rattle.pg_session.specs.Notices.{TellsNews}
use Rattle.pg_session.proofs.news.News.put_ended.Given as goal

abbrev pub invariant-loop-place : goal.invariant-loop-place
invariant-loop-place l = TellsNews l.fn.self l.fn.out.items l.self l.out.items

abbrev pub decreases-loop-place : goal.decreases-loop-place
decreases-loop-place l = length l.self.peers
