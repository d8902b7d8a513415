use Rattle.std.proofs.Common.{map, ◌≡◌}
use Rattle.pg_session.specs
use Rattle.pg_session.proofs.AskedInTurn.{Asked}
use specs.Asked.{is_fetch}
use specs.Calls.{GoesOnBy}
use specs.Notices.{Known, Tells}
use specs.Watching.{as_begun}
use Rattle.pg_session.proofs.watch.ask_all.Given as goal

abbrev pub invariant-loop-watch : goal.invariant-loop-watch
invariant-loop-watch g l = record {
  goes : GoesOnBy is_fetch l.fn.caller l.caller;
  told : (k : Known) → Tells l.fn.caller k l.fn.out.items l.caller k l.out.items;
  asked : Asked l.fn.caller l.fn.watches.items l.entries l.watch-index l.caller l.watch-items;
  begun : map as_begun l.watch-items ≡ map as_begun l.fn.watches.items;
}
