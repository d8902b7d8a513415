use Rattle.std.proofs.Common.{sym, ◌∙◌}
use Rattle.pg_session.proofs.Noting.{all_noted_first, noted_none}
use Rattle.pg_session.proofs.watch.note_all.Goals as goal

pub loop-entry-preserved : goal.loop-entry-preserved
loop-entry-preserved c =
    rw (
      c.note_entry.ensures,
      all_noted_first c.in-Some.entry.now c.next.new.self c.loop-entry.watches.items,
    ) (rw c.in-Some.ensures.steps at c.loop-entry.invariant)

pub returns : goal.returns
returns c =
    sym (noted_none c.loop-entry.watches.items)
    ∙ (rw c.in-None.ensures.steps.0 at c.loop-entry.invariant)
