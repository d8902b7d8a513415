use Rattle.std.proofs.Common.{◌≤◌}
use Rattle.world_script.specs.Settling.{Settles}
use Rattle.world_script.proofs.settling.settle.Given as goal

-- so many frames came so far, at most one a turn
abbrev pub invariant-loop-turn : goal.invariant-loop-turn
invariant-loop-turn l =
    record { settles : Settles l.fn.seat l.fn.world l.came l.world; few : l.came ≤ l.turn }
