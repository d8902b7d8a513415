-- What a peer has given on a link, by the frames that came there.
use Rattle.std.specs.Prelude.{◌≡◌, ℕ, List, Some, slice_get}
use Rattle.handshake_frames.specs.Frame.{Name, Challenge}
use Rattle.handshake_frames.specs.Reading.{name_frame, challenge_frame}
use Rattle.policy_audit.specs.declared.entry.Entry.{Entry}
use Rattle.policy_audit.specs.Sides.{given, peer_of}
use Rattle.frame_laws.specs.Hellos.{hello_in}
use Rattle.frame_laws.specs.Sent.{delivered}

-- the first body that came on link l is a Name, and it is what the peer has given
pub record IsNamedFirst (l : ℕ) (es : List Entry) : Type 0 where
  pub body : List ℕ
  pub hello : Name
  pub stands : slice_get (delivered l es) 0 ≡ Some body
  pub says : name_frame body ≡ Some hello
  pub given_is : given l es ≡ Some hello
  pub peer : peer_of l es ≡ Some hello.name

-- a body that came on link l is a Challenge, and it is what the peer n has given
pub record IsAskedOnce (l : ℕ) (n : List ℕ) (es : List Entry) : Type 0 where
  pub place : ℕ
  pub body : List ℕ
  pub challenge : Challenge
  pub stands : slice_get (delivered l es) place ≡ Some body
  pub says : challenge_frame body ≡ Some challenge
  pub given_is : given l es ≡ Some (hello_in challenge)
  pub peer : peer_of l es ≡ Some n
