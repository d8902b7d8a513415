use Rattle.otp_edge.proofs.WordLemmas.{word_of}
use Rattle.otp_edge.proofs.laws.only_what_was_said.Goals as goal

pub returns : goal.returns
returns c = word_of
