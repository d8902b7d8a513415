use Rattle.std.proofs.Common.{refl}
use Rattle.pg_session.proofs.Noted.{all_known_after}
use Rattle.pg_session.proofs.watched.note_news.Goals as goal

pub returns-in-Some : goal.returns-in-Some
returns-in-Some c = λ awaits. (
  refl,
  all_known_after c.args.entries c.in-Some.watched c.note_all.new.self c.args.watches.now.items
      c.note_all.ensures (rw c.in-Some.is at awaits).1,
)
