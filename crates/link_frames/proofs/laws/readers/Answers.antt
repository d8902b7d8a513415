use Rattle.link_frames.proofs.ReadingLemmas.{message-spelled, SpellsMessage-read}
use Rattle.link_frames.proofs.laws.readers.Goals as goal

pub returns : goal.returns
returns c = λ body m. (SpellsMessage-read body m, message-spelled body m)
