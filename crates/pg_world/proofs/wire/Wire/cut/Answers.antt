use Rattle.pg_world.proofs
use proofs.Words.{cut_by, refl, Side}
use proofs.Queues.{put}
use Rattle.pg_world.proofs.wire.Wire.cut.Goals as goal

pub returns-in-Dialler : goal.returns-in-Dialler
returns-in-Dialler c = let it = c.cut_off.ensures in record {
  answer = it.answer;
  stepped = it.stepped;
  effect = (
    put c.args.side Side.Dialler _ _ _ (cut_by it.answer) c.cut_off.new.queue.items c.in-Dialler.is
        c.self.view_is it.effect.0 refl,
    it.effect.1,
  );
}

pub returns-in-Acceptor : goal.returns-in-Acceptor
returns-in-Acceptor c = let it = c.cut_off-in-Acceptor.ensures in record {
  answer = it.answer;
  stepped = it.stepped;
  effect = (
    put c.args.side Side.Acceptor _ _ _ (cut_by it.answer) c.cut_off-in-Acceptor.new.queue.items
        c.in-Acceptor.is c.self.view_is it.effect.0 refl,
    it.effect.1,
  );
}
