use Rattle.std.proofs.Common.{drop, length, ◌++◌, ◌≡◌}
use Rattle.pg_settings.specs.Settings.{AreSaid}
use Rattle.pg_settings.proofs.saying.say_all.Given as goal

abbrev pub invariant-loop-event : goal.invariant-loop-event
invariant-loop-event g l = record {
  said : AreSaid l.yielded l.fn.pass l.pass;
  front : l.fn.told.items ≡ l.yielded ++ drop (length l.yielded) l.fn.told.items;
}
