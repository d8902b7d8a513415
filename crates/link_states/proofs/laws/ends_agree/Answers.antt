use Rattle.link_states.proofs
use proofs.MeetingLemmas.{ack_passes, challenge_passes, name_passes, reply_passes, same_version}
use proofs.laws.ends_agree.Goals as goal

pub returns-clause-name : goal.returns-clause-name
returns-clause-name c = name_passes

pub returns-clause-challenge : goal.returns-clause-challenge
returns-clause-challenge c = challenge_passes

pub returns-clause-reply : goal.returns-clause-reply
returns-clause-reply c = reply_passes

pub returns-clause-ack : goal.returns-clause-ack
returns-clause-ack c = ack_passes

pub returns-clause-version : goal.returns-clause-version
returns-clause-version c = same_version
