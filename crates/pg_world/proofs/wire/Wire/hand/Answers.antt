use Rattle.pg_world.proofs
use proofs.Words.{ap, joined_by, other, refl, Side}
use proofs.Queues.{put}
use Rattle.pg_world.proofs.wire.Wire.hand.Goals as goal

pub returns-in-Dialler : goal.returns-in-Dialler
returns-in-Dialler c = let it = c.hand_over.ensures in record {
  answer = it.answer;
  stepped = it.stepped;
  effect = (
    put (other c.args.side) Side.Acceptor _ _ _ (joined_by it.answer) c.hand_over.new.queue.items
        (ap other c.in-Dialler.is) c.self.view_is it.effect.0 refl,
    it.effect.1,
  );
}

pub returns-in-Acceptor : goal.returns-in-Acceptor
returns-in-Acceptor c = let it = c.hand_over-in-Acceptor.ensures in record {
  answer = it.answer;
  stepped = it.stepped;
  effect = (
    put (other c.args.side) Side.Dialler _ _ _ (joined_by it.answer)
        c.hand_over-in-Acceptor.new.queue.items (ap other c.in-Acceptor.is) c.self.view_is
        it.effect.0
        refl,
    it.effect.1,
  );
}
