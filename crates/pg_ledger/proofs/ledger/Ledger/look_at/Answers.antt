use Rattle.pg_ledger.proofs
use Rattle.std.proofs.Common.{subst}
use Rattle.pg_ledger.specs.Telling.{NotesEntry, Told}
use Rattle.pg_ledger.proofs.ledger.Ledger.look_at.Goals as goal

pub returns-clause-ok : goal.returns-clause-ok
returns-clause-ok g c =
    subst (λ (t : Told). NotesEntry c.args.entry.now t c.note.new.self)
    c.in_ok-note_links.ensures.account c.in_ok-note.ensures.ok
