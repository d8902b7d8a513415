-- Admitted: what the handshake of a link was (Distribution Protocol, Distribution Handshake). No
-- recorded answer is read.
use Rattle.std.specs.Prelude.{◌≡◌, ℕ, Bool, true, false, List, [], ◌∷◌, ◌++◌, Some, IsTrue, MatchBool}
use Rattle.handshake_frames.specs.Frame.{Name, Challenge}
use Rattle.handshake_frames.specs.declared.frame.StatusWord.{StatusWord}
use Rattle.handshake_frames.specs.declared.frame.StatusWord.TheVariants as word
use Rattle.handshake_frames.specs.declared.frame.ReplyFrame.{ReplyFrame}
use Rattle.handshake_frames.specs.declared.frame.AckFrame.{AckFrame}
use Rattle.handshake_frames.specs.Reading.{name_frame, challenge_frame, reply_frame, ack_frame, status_of}
use Rattle.cookie_digest.specs.Digest.{digest_of}
use Rattle.policy_audit.specs.declared.entry.Entry.{Entry}
use Rattle.policy_audit.specs.History.{History, past}
use Rattle.policy_audit.specs.Admission.{cookie, allowed}
use Rattle.policy_audit.specs.Sides.{ByPeer, ByDial, Taken, opened, taken}
use Rattle.policy_audit.specs.Stages.{name_up}

-- the history as it was when it had these entries
abbrev pub at : History → List Entry → History
at h before = past h.opening before

-- a status with which a handshake goes on
abbrev pub goes_on : StatusWord → Bool
goes_on word.Ok = true
goes_on word.OkSimultaneous = true
goes_on word.Alive = true
goes_on w = false

-- the one frame is a Status `true`
abbrev pub IsTrueStatus : List Taken → Type 0
IsTrueStatus between = (t : Taken) × (between ≡ t ∷ []) × (status_of t.body ≡ Some word.True)

-- Link l was opened by its peer, with this challenge. Its accepted frames begin with a Name;
-- then a Status `true`, exactly where a link of that name was up at the Name; then a Reply.
-- The Reply's digest is that of the cookie for the peer, at the Reply, and the challenge.
-- The peer was allowed at the Name.
pub record IsLetIn (h : History) (l challenge : ℕ) : Type 0 where
  pub name : Taken
  pub between : List Taken
  pub reply : Taken
  pub later : List Taken
  pub peer : Name
  pub replied : ReplyFrame
  pub before : List Entry
  pub opened : opened l h.entries ≡ Some (record { start = ByPeer challenge; before = before })
  pub frames : taken l h.entries ≡ name ∷ (between ++ reply ∷ later)
  pub is_name : name_frame name.body ≡ Some peer
  pub is_confirmed : MatchBool (name_up peer.name name.before) (IsTrueStatus between) (between ≡ [])
  pub is_reply : reply_frame reply.body ≡ Some replied
  pub is_digest : replied.digest ≡ digest_of (cookie (at h reply.before) peer.name) challenge
  pub is_allowed : IsTrue (allowed (at h name.before) peer.name)

-- Link l was dialled to this peer, with this challenge. Its accepted frames begin with a Status
-- `ok`, `ok_simultaneous` or `alive`; then a Challenge with the name dialled; then an Ack. The
-- Ack's digest is that of the cookie for the peer, at the Ack, and the challenge. The peer was
-- allowed at the Dial.
pub record IsReached (h : History) (l : ℕ) (peer : List ℕ) (challenge : ℕ) : Type 0 where
  pub status : Taken
  pub asked : Taken
  pub ack : Taken
  pub later : List Taken
  pub said : StatusWord
  pub hello : Challenge
  pub acked : AckFrame
  pub before : List Entry
  pub opened : opened l h.entries ≡ Some (record { start = ByDial peer challenge; before = before })
  pub frames : taken l h.entries ≡ status ∷ asked ∷ ack ∷ later
  pub is_status : status_of status.body ≡ Some said
  pub is_welcome : IsTrue (goes_on said)
  pub is_challenge : challenge_frame asked.body ≡ Some hello
  pub is_named : hello.name ≡ peer
  pub is_ack : ack_frame ack.body ≡ Some acked
  pub is_digest : acked.digest ≡ digest_of (cookie (at h ack.before) peer) challenge
  pub is_allowed : IsTrue (allowed (at h before) peer)

-- the handshake of link l is whole: it was let in, or it was reached
pub data IsAdmitted (h : History) (l : ℕ) : Type 0 where
  LetIn : (challenge : ℕ) → IsLetIn h l challenge → IsAdmitted h l
  Reached : (peer : List ℕ) (challenge : ℕ) → IsReached h l peer challenge → IsAdmitted h l
