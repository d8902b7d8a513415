use Rattle.pg_session.specs.Notices.{TellsNews}
use Rattle.pg_session.proofs.news.News.put_entries.Given as goal

abbrev pub invariant-loop-entry : goal.invariant-loop-entry
invariant-loop-entry g l = TellsNews l.fn.self l.fn.out.items l.self l.out.items
