use Rattle.otp_edge.proofs.Words.{flat_map, take, ◌≡◌}
use Rattle.otp_edge.specs.Endings.{end_bytes}
use Rattle.otp_edge.proofs.open_scope.OpenScope.ends_of_watches.Given as goal

abbrev pub invariant-loop-watcher : goal.invariant-loop-watcher
invariant-loop-watcher l =
    l.out.items ≡ flat_map (end_bytes l.self.own) (take l.watcher-index l.self.watchers.items)
