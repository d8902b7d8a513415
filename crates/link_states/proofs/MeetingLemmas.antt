-- Each frame of one end breaks no rule at the other.
use Rattle.link_states.specs
use Rattle.std.proofs.Common.{ap, arith, Bool, false, length, List, Option, refl, Some, sym, true}
use Rattle.std.proofs.Common.{ℕ, [], ◌<◌, ◌^◌, ◌∷◌, ◌≡◌, ◌≢◌, ◌≤◌}
use Rattle.std.specs.Prelude.{bytes_eq}
use Rattle.std.proofs.lemmas.Bool.{false_from_ne_true}
use Rattle.std.proofs.lemmas.Slice.Eq.{bytes_eq-Decides}
use Rattle.md5.proofs.StandardFacts.{length-md5}
use Rattle.dist_types.specs.Text.{is_node_name}
use Rattle.dist_types.specs.Flags.{has_bit, own_flags}
use Rattle.dist_types.proofs.LimitLemmas.{names_compute}
use Rattle.handshake_frames.specs.Frame.{Challenge, Name}
use Rattle.handshake_frames.specs.declared.frame.ReplyFrame.{ReplyFrame}
use Rattle.handshake_frames.specs.declared.frame.AckFrame.{AckFrame}
use Rattle.handshake_frames.specs.Spelling.{ack_bytes, AckFits, challenge_bytes, IsVersion}
use Rattle.handshake_frames.specs.Spelling.{name_bytes, reply_bytes, ReplyFits, version_bytes}
use Rattle.handshake_frames.specs.Spelling.{version_of}
use Rattle.handshake_frames.specs.Reading.{ack_frame, challenge_frame, name_frame, reply_frame}
use Rattle.handshake_frames.proofs.ReadingLemmas.{ack_frame-spelled, challenge_frame-spelled}
use Rattle.handshake_frames.proofs.ReadingLemmas.{name_frame-spelled, reply_frame-spelled}
use Rattle.cookie_digest.specs.Digest.{digest_of}
use Rattle.admission_rules.specs.Admission.{AdmissionRules, cookie_of}
use specs.declared.pending.Pending.{Pending}
use specs.Checks.{ack_checks, allows, challenge_checks, is_answer, name_checks, outranks, PassesAll}
use specs.Checks.{reply_checks}
use specs.Frames.{ack_owed, own_challenge, own_name, reply_owed}
use specs.Meeting.{MayDial}
use specs.Peer.{link_version}
use Rattle.link_states.proofs.AllowedLemmas.{allows_allowed}

own_flags_fit : (hidden : Bool) → own_flags hidden < 2 ^ 64
own_flags_fit hidden = grind arith

own_flags_speak : (hidden : Bool) → has_bit 24 (own_flags hidden) ≡ true
own_flags_speak hidden = grind arith

own_flags_name : (hidden : Bool) → has_bit 33 (own_flags hidden) ≡ false
own_flags_name hidden = grind arith

same_bytes : (xs ys : List ℕ) → xs ≡ ys → bytes_eq xs ys ≡ true
same_bytes xs ys e = (bytes_eq-Decides xs ys).1 e

other_bytes : (xs ys : List ℕ) → xs ≢ ys → bytes_eq xs ys ≡ false
other_bytes xs ys apart = false_from_ne_true (bytes_eq xs ys)
    (λ yes. apart ((bytes_eq-Decides xs ys).0 yes))

-- what the other end hears where this one says a version
heard : ℕ → ℕ
heard version = version_of (version_bytes version)

heard_is : (version : ℕ) → IsVersion (heard version)
unfolding heard
heard_is version = grind arith

-- each end hears whether the other knows version 2
one_version : (a b : AdmissionRules)
    → link_version a (heard b.links) ≡ link_version b (heard a.links)
unfolding heard
one_version a b = grind arith

name_read : (f : Name) → f.flags < 2 ^ 64 → f.creation < 2 ^ 32 → length f.name ≤ 255
    → name_frame (name_bytes f) ≡ Some (record f { version = heard f.version })
unfolding heard
name_read f flags creation name =
    name_frame-spelled (name_bytes f) (record f { version = heard f.version })
    (record {
      fits = record {
        flags = flags;
        creation = creation;
        length = omega arith;
        version = heard_is f.version;
      };
      extra = version_bytes f.version;
      bytes = refl;
      version = refl;
    })

challenge_read : (f : Challenge) → f.flags < 2 ^ 64 → f.challenge < 2 ^ 32 → f.creation < 2 ^ 32
    → length f.name ≤ 255
    → challenge_frame (challenge_bytes f) ≡ Some (record f { version = heard f.version })
unfolding heard
challenge_read f flags challenge creation name =
    challenge_frame-spelled (challenge_bytes f) (record f { version = heard f.version })
    (record {
      fits = record {
        flags = flags;
        challenge = challenge;
        creation = creation;
        length = omega arith;
        version = heard_is f.version;
      };
      extra = version_bytes f.version;
      bytes = refl;
      version = refl;
    })

named_passes : (b : AdmissionRules) (pending : Pending) (f : Name) (read : Option Name)
    → read ≡ Some f
    → has_bit 24 f.flags ≡ true → has_bit 33 f.flags ≡ false → is_node_name f.name ≡ true
    → bytes_eq f.name b.own ≡ false
    → allows b f.name ≡ true → outranks b pending f.name ≡ false
    → PassesAll (name_checks b pending read)
named_passes b pending f read is speaks static good other allowed free =
    rw (is, speaks, static, good, other, allowed, free) refl

challenged_passes : (peer : List ℕ) (f : Challenge) (read : Option Challenge) → read ≡ Some f
    → has_bit 24 f.flags ≡ true → bytes_eq f.name peer ≡ true
    → PassesAll (challenge_checks peer read)
challenged_passes peer f read is speaks same = rw (is, speaks, same) refl

replied_passes : (r : AdmissionRules) (peer : List ℕ) (number : ℕ) (f : ReplyFrame) (read : Option
    ReplyFrame) → read ≡ Some f
    → is_answer r peer number f.digest ≡ true → PassesAll (reply_checks r peer number read)
replied_passes r peer number f read is right = rw (is, right) refl

acknowledged_passes : (r : AdmissionRules) (peer : List ℕ) (number : ℕ) (f : AckFrame)
    (read : Option AckFrame) → read ≡ Some f
    → is_answer r peer number f.digest ≡ true → PassesAll (ack_checks r peer number read)
acknowledged_passes r peer number f read is right = rw (is, right) refl

-- the digest of one end answers the challenge of the other
answers : (a b : AdmissionRules) (peers : ℕ) → cookie_of a b.own ≡ cookie_of b a.own
    → is_answer b a.own peers (digest_of (cookie_of a b.own) peers) ≡ true
answers a b peers cookie = same_bytes _ _ (ap (λ c. digest_of c peers) cookie)

only_body : (x y : List ℕ) → x ∷ [] ≡ y ∷ [] → y ≡ x
only_body x y e = cc

own_name_read : (a b : AdmissionRules) → MayDial a b
    → name_frame (own_name a) ≡ Some
    (record {
      flags = own_flags a.hidden;
      creation = a.creation;
      name = a.own;
      version = heard a.links;
    })
own_name_read a b may = name_read
    (record {
      flags = own_flags a.hidden;
      creation = a.creation;
      name = a.own;
      version = a.links;
    }) (own_flags_fit a.hidden) may.creation_of_dialler may.dialler.text.not_long

own_challenge_read : (a b : AdmissionRules) (number : ℕ) → MayDial a b → number < 2 ^ 32
    → challenge_frame (own_challenge b number) ≡ Some
    (record {
      flags = own_flags b.hidden;
      challenge = number;
      creation = b.creation;
      name = b.own;
      version = heard b.links;
    })
own_challenge_read a b number may fits = challenge_read
    (record {
      flags = own_flags b.hidden;
      challenge = number;
      creation = b.creation;
      name = b.own;
      version = b.links;
    }) (own_flags_fit b.hidden) fits may.creation_of_acceptor may.acceptor.text.not_long

pub name_passes : (a b : AdmissionRules) (pending : Pending) → MayDial a b
    → outranks b pending a.own ≡ false
    → PassesAll (name_checks b pending (name_frame (own_name a)))
name_passes a b pending may free =
    named_passes b pending _ (name_frame (own_name a)) (own_name_read a b may)
    (own_flags_speak a.hidden) (own_flags_name a.hidden) ((names_compute a.own).1 may.dialler)
    (other_bytes a.own b.own may.other) (allows_allowed b a.own may.allowed) free

pub challenge_passes : (a b : AdmissionRules) (number : ℕ) → MayDial a b → number < 2 ^ 32
    → PassesAll (challenge_checks b.own (challenge_frame (own_challenge b number)))
challenge_passes a b number may fits =
    challenged_passes b.own _ (challenge_frame (own_challenge b number))
    (own_challenge_read a b number may fits)
    (own_flags_speak b.hidden) (same_bytes b.own b.own refl)

pub reply_passes : (a b : AdmissionRules) (own peers : ℕ) (body : List ℕ) → MayDial a b
    → own < 2 ^ 32 → reply_owed a b.own own peers ≡ body ∷ []
    → PassesAll (reply_checks b a.own peers (reply_frame body))
reply_passes a b own peers body may fits owed =
    let f : ReplyFrame = record { challenge = own; digest = digest_of (cookie_of a b.own) peers } in
    let fit : ReplyFits f = record { challenge = fits; digest = length-md5 _ } in
    replied_passes b a.own peers f (reply_frame body)
    (reply_frame-spelled body f
    (record { fits = fit; bytes = only_body (reply_bytes f) body owed }))
    (answers a b peers may.cookie)

pub ack_passes : (a b : AdmissionRules) (peers : ℕ) (body : List ℕ) → MayDial a b
    → ack_owed b a.own peers ≡ body ∷ []
    → PassesAll (ack_checks a b.own peers (ack_frame body))
ack_passes a b peers body may owed =
    let f : AckFrame = record { digest = digest_of (cookie_of b a.own) peers } in
    let fit : AckFits f = record { digest = length-md5 _ } in
    acknowledged_passes a b.own peers f (ack_frame body)
    (ack_frame-spelled body f (record { fits = fit; bytes = only_body (ack_bytes f) body owed }))
    (answers b a peers (sym may.cookie))

-- both ends take the same version from each other's frames
pub same_version : (a b : AdmissionRules) (number : ℕ) (name : Name) (challenge : Challenge)
    → MayDial a b → number < 2 ^ 32 → name_frame (own_name a) ≡ Some name
    → challenge_frame (own_challenge b number) ≡ Some challenge
    → link_version a challenge.version ≡ link_version b name.version
same_version a b number name challenge may fits named asked =
    cc (
      one_version a b,
      named,
      asked,
      own_name_read a b may,
      own_challenge_read a b number may fits,
    )
