use Rattle.std.proofs.Common.{◌∙◌}
use Rattle.pg_session.proofs.Noted.{told_all}
use Rattle.pg_session.proofs.watched.tell_noted.Goals as goal

pub returns-in-Some : goal.returns-in-Some
returns-in-Some c = λ es before awaits.
    c.tell.ensures ∙ told_all es before c.args.watches.now.items c.in-Some.watched
    (rw c.in-Some.is at awaits)
