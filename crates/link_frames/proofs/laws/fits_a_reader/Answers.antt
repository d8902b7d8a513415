use Rattle.link_frames.proofs.ReadingLemmas.{message_within}
use Rattle.link_frames.proofs.laws.fits_a_reader.Goals as goal

pub returns : goal.returns
returns c = message_within
