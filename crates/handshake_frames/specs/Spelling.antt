-- Which bodies spell which frames (Distribution Protocol, Distribution Handshake, version 6).
-- Numbers are big-endian.
use Rattle.std.specs.Prelude.{◌≡◌, ⊤, ℕ, ◌^◌, ◌<◌, ◌≤◌, ◌==◌, if◌then◌else◌, List, [], ◌∷◌, ◌++◌, length, codes, bytes_eq}
use Rattle.std.specs.Int.{Width, w16, w32, w64, to_be_bytes}
use Rattle.handshake_frames.specs.declared.frame.StatusWord.{StatusWord}
use Rattle.handshake_frames.specs.declared.frame.StatusWord.TheVariants as word
use Rattle.handshake_frames.specs.declared.frame.ReplyFrame.{ReplyFrame}
use Rattle.handshake_frames.specs.declared.frame.AckFrame.{AckFrame}
use Rattle.handshake_frames.specs.declared.frame.HsFrame.{HsFrame}
use Rattle.handshake_frames.specs.declared.frame.HsFrame.TheVariants as frame
use Rattle.handshake_frames.specs.Frame.{Name, Challenge, name_said, challenge_said}

-- bytes behind their length, a number of the width w
abbrev pub counted : Width → List ℕ → List ℕ
counted w bytes = to_be_bytes w (length bytes) ++ bytes

-- a version of link messages is 1 or 2
abbrev pub IsVersion : ℕ → Type 0
IsVersion version = (1 ≤ version) × (version ≤ 2)

-- the byte 02 behind a name says version 2, and no byte says version 1
abbrev pub version_bytes : ℕ → List ℕ
version_bytes version = if version == 2 then 2 ∷ [] else []

-- the version that the bytes behind a name say: 2 where they are exactly 02, else 1
abbrev pub version_of : List ℕ → ℕ
version_of extra = if bytes_eq extra (2 ∷ []) then 2 else 1

-- a name frame up to the name: `N`, the flags in 8 bytes, the creation in 4, and the name behind
-- its length in 2
abbrev pub name_head : Name → List ℕ
name_head f = 0x4E ∷ to_be_bytes w64 f.flags ++ to_be_bytes w32 f.creation ++ counted w16 f.name

-- the same, and the version
abbrev pub name_bytes : Name → List ℕ
name_bytes f = name_head f ++ version_bytes f.version

-- `s` and the word
abbrev pub status_bytes : StatusWord → List ℕ
status_bytes word.Ok = codes "sok"
status_bytes word.OkSimultaneous = codes "sok_simultaneous"
status_bytes word.Nok = codes "snok"
status_bytes word.NotAllowed = codes "snot_allowed"
status_bytes word.Alive = codes "salive"
status_bytes word.True = codes "strue"
status_bytes word.False = codes "sfalse"

-- a challenge frame up to the name: `N`, the flags in 8 bytes, the challenge in 4, the creation in
-- 4, and the name behind its length in 2
abbrev pub challenge_head : Challenge → List ℕ
challenge_head f = 0x4E ∷ to_be_bytes w64 f.flags ++ to_be_bytes w32 f.challenge
    ++ to_be_bytes w32 f.creation ++ counted w16 f.name

-- the same, and the version
abbrev pub challenge_bytes : Challenge → List ℕ
challenge_bytes f = challenge_head f ++ version_bytes f.version

-- `r`, the challenge in 4 bytes, and the digest
abbrev pub reply_bytes : ReplyFrame → List ℕ
reply_bytes f = 0x72 ∷ to_be_bytes w32 f.challenge ++ f.digest

-- `a` and the digest
abbrev pub ack_bytes : AckFrame → List ℕ
ack_bytes f = 0x61 ∷ f.digest

-- each number of a name frame fits its field, and the version is 1 or 2
pub record NameFits (f : Name) : Type 0 where
  pub flags : f.flags < 2 ^ 64
  pub creation : f.creation < 2 ^ 32
  pub length : length f.name < 2 ^ 16
  pub version : IsVersion f.version

-- each number of a challenge frame fits its field, and the version is 1 or 2
pub record ChallengeFits (f : Challenge) : Type 0 where
  pub flags : f.flags < 2 ^ 64
  pub challenge : f.challenge < 2 ^ 32
  pub creation : f.creation < 2 ^ 32
  pub length : length f.name < 2 ^ 16
  pub version : IsVersion f.version

-- the challenge fits its field, and the digest has 16 bytes
pub record ReplyFits (f : ReplyFrame) : Type 0 where
  pub challenge : f.challenge < 2 ^ 32
  pub digest : length f.digest ≡ 16

-- the digest has 16 bytes
pub record AckFits (f : AckFrame) : Type 0 where
  pub digest : length f.digest ≡ 16

-- a name frame: any bytes may follow the name, and they say the version
pub record SpellsName (body : List ℕ) (f : Name) : Type 0 where
  pub fits : NameFits f
  pub extra : List ℕ
  pub bytes : body ≡ name_head f ++ extra
  pub version : f.version ≡ version_of extra

-- a status frame: nothing follows the word
pub record SpellsStatus (body : List ℕ) (status : StatusWord) : Type 0 where
  pub bytes : body ≡ status_bytes status

-- a challenge frame: any bytes may follow the name, and they say the version
pub record SpellsChallenge (body : List ℕ) (f : Challenge) : Type 0 where
  pub fits : ChallengeFits f
  pub extra : List ℕ
  pub bytes : body ≡ challenge_head f ++ extra
  pub version : f.version ≡ version_of extra

-- a reply: nothing follows the digest
pub record SpellsReply (body : List ℕ) (f : ReplyFrame) : Type 0 where
  pub fits : ReplyFits f
  pub bytes : body ≡ reply_bytes f

-- an acknowledgement: nothing follows the digest
pub record SpellsAck (body : List ℕ) (f : AckFrame) : Type 0 where
  pub fits : AckFits f
  pub bytes : body ≡ ack_bytes f

-- the body that a frame is written as
abbrev pub spelling : HsFrame → List ℕ
spelling (frame.Name f) = name_bytes (name_said f)
spelling (frame.Status status) = status_bytes status
spelling (frame.Challenge f) = challenge_bytes (challenge_said f)
spelling (frame.Reply f) = reply_bytes f
spelling (frame.Ack f) = ack_bytes f

-- the length of the name fits its field, and the version is 1 or 2
abbrev pub HasSpelling : HsFrame → Type 0
HasSpelling (frame.Name f) = (length f.name.now < 2 ^ 16) × IsVersion f.version
HasSpelling (frame.Challenge f) = (length f.name.now < 2 ^ 16) × IsVersion f.version
HasSpelling f = ⊤
