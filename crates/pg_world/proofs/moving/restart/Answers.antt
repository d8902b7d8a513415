use Rattle.pg_world.proofs
use proofs.Words.{world}
use proofs.Turning.{restart_is}
use Rattle.pg_world.proofs.moving.restart.Goals as goal

pub returns : goal.returns
returns c = λ xs. restart_is (world c.args.nodes.now xs) (world c.ask.new.nodes xs) c.args.node
    c.args.seat c.ask.result (c.ask.ensures xs)
