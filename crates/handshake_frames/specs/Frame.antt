-- What the frames with a name say, without where the name lies in memory.
use Rattle.std.specs.Prelude.{ℕ, List}
use Rattle.handshake_frames.specs.declared.frame.NameFrame.{NameFrame}
use Rattle.handshake_frames.specs.declared.frame.ChallengeFrame.{ChallengeFrame}

-- the dialler's flags, creation and name, and the version of link messages that it knows
pub record Name : Type 0 where
  pub flags : ℕ
  pub creation : ℕ
  pub name : List ℕ
  pub version : ℕ

-- the acceptor's flags, challenge, creation and name, and the version of link messages that it
-- knows
pub record Challenge : Type 0 where
  pub flags : ℕ
  pub challenge : ℕ
  pub creation : ℕ
  pub name : List ℕ
  pub version : ℕ

-- what a name frame says
abbrev pub name_said : NameFrame → Name
name_said f = record {
  flags = f.flags.0;
  creation = f.creation;
  name = f.name.now;
  version = f.version;
}

-- what a challenge frame says
abbrev pub challenge_said : ChallengeFrame → Challenge
challenge_said f = record {
  flags = f.flags.0;
  challenge = f.challenge;
  creation = f.creation;
  name = f.name.now;
  version = f.version;
}
