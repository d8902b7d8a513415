use Rattle.node_core.proofs
use proofs.Words.{append-nil, sym, [], ◌∙◌}
use Rattle.std.proofs.lemmas.Result.{on_ok_weaker}
use Rattle.node_core.specs.Ending.{is_stopped}
use proofs.AllLost.{all_lost, none_lost}
use proofs.slow.lose.Goals as goal

pub returns-then-is_stopped : goal.returns-then-is_stopped
returns-then-is_stopped c =
    let running = c.args.running.now in
    let stops = sym c.is_stopped.ensures ∙ c.if-is_stopped.true in (
      [],
      none_lost running.table (is_stopped c.args.stopped running.scope) c.args.ends.now stops,
      sym (append-nil c.args.groups.now.items),
    )

pub returns : goal.returns
returns c =
    let running = c.args.running.now in
    let ends = c.args.ends.now in
    let stays = sym c.is_stopped.ensures ∙ c.if-is_stopped.false in
    on_ok_weaker c.lose_all.result (λ l. (
      l.0,
      all_lost running.table (is_stopped c.args.stopped running.scope) ends l.0 stays l.1,
      l.2,
    )) c.lose_all.ensures
