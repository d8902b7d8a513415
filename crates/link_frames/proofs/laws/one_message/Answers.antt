use Rattle.link_frames.proofs.ReadingLemmas.{one_message}
use Rattle.link_frames.proofs.laws.one_message.Goals as goal

pub returns : goal.returns
returns c = one_message
