use Rattle.handshake_frames.proofs
use proofs.ReadingLemmas.{ack_frame-spelled, challenge_frame-spelled, name_frame-spelled}
use proofs.ReadingLemmas.{reply_frame-spelled, SpellsAck-read, SpellsChallenge-read}
use proofs.ReadingLemmas.{SpellsName-read, SpellsReply-read, SpellsStatus-read, status_of-spelled}
use proofs.laws.readers.Goals as goal

pub returns-clause-name : goal.returns-clause-name
returns-clause-name c = λ body f. (SpellsName-read body f, name_frame-spelled body f)

pub returns-clause-status : goal.returns-clause-status
returns-clause-status c = λ body word. (SpellsStatus-read body word, status_of-spelled body word)

pub returns-clause-challenge : goal.returns-clause-challenge
returns-clause-challenge c = λ body f. (SpellsChallenge-read body f, challenge_frame-spelled body f)

pub returns-clause-reply : goal.returns-clause-reply
returns-clause-reply c = λ body f. (SpellsReply-read body f, reply_frame-spelled body f)

pub returns-clause-ack : goal.returns-clause-ack
returns-clause-ack c = λ body f. (SpellsAck-read body f, ack_frame-spelled body f)
