-- A reader gives a frame exactly where the body spells it.
use Rattle.handshake_frames.specs
use Rattle.std.proofs.Common.{ap, arith, Bool, cond, drop, eqb, false, length, List, None, refl}
use Rattle.std.proofs.Common.{Some, subst, sym, take, true, ℕ, [], ◌&&◌, ◌++◌, ◌<◌, ◌^◌, ◌∙◌, ◌∷◌}
use Rattle.std.proofs.Common.{◌≡◌}
use Rattle.std.specs.Int.{from_be_bytes, w16}
use Rattle.std.specs.List.{find, starts_with}
use Rattle.std.specs.Str.{bytes_eq}
use Rattle.std.proofs.lemmas.Bool.{and_from, and_parts}
use Rattle.std.proofs.lemmas.Bool.Decides.{Decides-eqb}
use Rattle.std.proofs.lemmas.Slice.Eq.{bytes_eq-Decides, starts_is}
use Rattle.std.proofs.lemmas.Nat.{from_be_bytes-to_be_bytes_2, from_be_bytes-to_be_bytes_4}
use Rattle.std.proofs.lemmas.Nat.{from_be_bytes-to_be_bytes_8}
use Rattle.std.proofs.lemmas.List.{drop_at, length-take, take_at}
use specs.declared.frame.StatusWord.{StatusWord}
use specs.declared.frame.ReplyFrame.{ReplyFrame}
use specs.declared.frame.AckFrame.{AckFrame}
use specs.Frame.{Challenge, Name}
use specs.Spelling.{ack_bytes, challenge_head, ChallengeFits, counted, IsVersion, name_head}
use specs.Spelling.{NameFits, reply_bytes, SpellsAck, SpellsChallenge, SpellsName, SpellsReply}
use specs.Spelling.{SpellsStatus, status_bytes, version_bytes, version_of}
use specs.Reading.{ack_frame, ack_in, behind_counted, challenge_frame, challenge_in, counted_in}
use specs.Reading.{name_frame, name_in, reply_frame, reply_in, status_of, words}

-- ---- tests

-- what a test guards is given only where it holds
guarded : {A : Type 0} (test : Bool) (x y : A) → cond test (Some x) None ≡ Some y
    → (test ≡ true) × (x ≡ y)
guarded true x y e = (refl, cc e)
guarded false x y e = absurd (cc e)

-- what was found passes the test
pub found_passes : {A : Type 0} (test : A → Bool) (xs : List A) (x : A) → find test xs ≡ Some x
    → test x ≡ true
found_passes test [] x e = absurd (cc e)
found_passes test (y ∷ ys) x e = grind (arith, found_passes test ys x)

begins_true : (body front rest : List ℕ) → body ≡ front ++ rest → starts_with eqb body front ≡ true
begins_true body front rest e =
    (starts_is Decides-eqb body front (starts_with eqb body front) refl).1 rest e

begins_so : (body front : List ℕ) → starts_with eqb body front ≡ true
    → body ≡ front ++ drop (length front) body
begins_so body front e = (starts_is Decides-eqb body front (starts_with eqb body front) refl).0 e

-- ---- numbers

pub counted_in-counted : (name extra : List ℕ) → length name < 2 ^ 16
    → counted_in (counted w16 name ++ extra) ≡ name
counted_in-counted name extra fits = ap (λ n. take n (name ++ extra))
    (from_be_bytes-to_be_bytes_2 (length name) fits) ∙ take_at name extra (length name) refl

counted_in_fits : (bytes rest : List ℕ) → bytes ≡ counted w16 (counted_in bytes) ++ rest
    → length (counted_in bytes) < 2 ^ 16
counted_in_fits bytes rest e =
    let short : from_be_bytes w16 (take 2 bytes) < 2 ^ 16 = rw e (omega arith) in
    omega (arith, length-take (from_be_bytes w16 (take 2 bytes)) (drop 2 bytes))

-- ---- what stands behind a name

behind_counted-counted : (name extra : List ℕ) → length name < 2 ^ 16
    → behind_counted (counted w16 name ++ extra) ≡ extra
behind_counted-counted name extra fits = ap (λ n. drop n (name ++ extra))
    (from_be_bytes-to_be_bytes_2 (length name) fits) ∙ drop_at name extra (length name) refl

behind_is : (bytes rest : List ℕ) → bytes ≡ counted w16 (counted_in bytes) ++ rest
    → behind_counted bytes ≡ rest
behind_is bytes rest e = ap behind_counted e
    ∙ behind_counted-counted (counted_in bytes) rest (counted_in_fits bytes rest e)

-- any bytes say a version
says_version : (extra : List ℕ) → IsVersion (version_of extra)
says_version extra = grind arith

-- the bytes that say a version are read as that one
pub version_read : (version : ℕ) → IsVersion version → version ≡ version_of (version_bytes version)
version_read version is = grind arith

-- ---- a name frame

name_in-name_head : (f : Name) (extra : List ℕ) → NameFits f → f.version ≡ version_of extra
    → name_in (name_head f ++ extra) ≡ f
name_in-name_head f extra fits said =
    λ i. record {
      flags = from_be_bytes-to_be_bytes_8 f.flags fits.flags i;
      creation = from_be_bytes-to_be_bytes_4 f.creation fits.creation i;
      name = counted_in-counted f.name extra fits.length i;
      version = (ap version_of (behind_counted-counted f.name extra fits.length) ∙ sym said) i;
    }

name_in_fits : (body rest : List ℕ) → body ≡ name_head (name_in body) ++ rest
    → NameFits (name_in body)
name_in_fits body rest e = record {
  flags = rw e (omega arith);
  creation = rw e (omega arith);
  length = counted_in_fits (drop 13 body) rest (ap (drop 13) e);
  version = says_version (behind_counted (drop 13 body));
}

pub name_frame-spelled : (body : List ℕ) (f : Name) → SpellsName body f → name_frame body ≡ Some f
unfolding name_frame
name_frame-spelled body f spells =
    let same : name_in body ≡ f = ap name_in spells.bytes ∙ name_in-name_head f spells.extra
    spells.fits spells.version in
    let begins : starts_with eqb body (name_head (name_in body)) ≡ true =
    subst (λ g. starts_with eqb body (name_head g) ≡ true) (sym same)
    (begins_true body (name_head f) spells.extra spells.bytes) in
    λ i. cond (begins i) (Some (same i)) None

pub SpellsName-read : (body : List ℕ) (f : Name) → name_frame body ≡ Some f → SpellsName body f
unfolding name_frame
SpellsName-read body f read =
    let found = guarded (starts_with eqb body (name_head (name_in body))) (name_in body) f read in
    let bytes = begins_so body (name_head (name_in body)) found.0 in
    let rest = drop (length (name_head (name_in body))) body in
    subst (SpellsName body) found.1
    (record {
      fits = name_in_fits body rest bytes;
      extra = rest;
      bytes = bytes;
      version = ap version_of (behind_is (drop 13 body) rest (ap (drop 13) bytes));
    })

-- ---- a status frame

pub status_of-spelled : (body : List ℕ) (status : StatusWord) → SpellsStatus body status
    → status_of body ≡ Some status
unfolding status_of
status_of-spelled body status spells = rw spells.bytes (grind arith)

pub SpellsStatus-read : (body : List ℕ) (status : StatusWord) → status_of body ≡ Some status
    → SpellsStatus body status
unfolding status_of
SpellsStatus-read body status read =
    record {
      bytes = sym ((bytes_eq-Decides (status_bytes status) body).0
          (found_passes (λ w. bytes_eq (status_bytes w) body) words status read));
    }

-- ---- a challenge frame

challenge_in-challenge_head : (f : Challenge) (extra : List ℕ) → ChallengeFits f
    → f.version ≡ version_of extra → challenge_in (challenge_head f ++ extra) ≡ f
challenge_in-challenge_head f extra fits said =
    λ i. record {
      flags = from_be_bytes-to_be_bytes_8 f.flags fits.flags i;
      challenge = from_be_bytes-to_be_bytes_4 f.challenge fits.challenge i;
      creation = from_be_bytes-to_be_bytes_4 f.creation fits.creation i;
      name = counted_in-counted f.name extra fits.length i;
      version = (ap version_of (behind_counted-counted f.name extra fits.length) ∙ sym said) i;
    }

challenge_in_fits : (body rest : List ℕ) → body ≡ challenge_head (challenge_in body) ++ rest
    → ChallengeFits (challenge_in body)
challenge_in_fits body rest e = record {
  flags = rw e (omega arith);
  challenge = rw e (omega arith);
  creation = rw e (omega arith);
  length = counted_in_fits (drop 17 body) rest (ap (drop 17) e);
  version = says_version (behind_counted (drop 17 body));
}

pub challenge_frame-spelled : (body : List ℕ) (f : Challenge) → SpellsChallenge body f
    → challenge_frame body ≡ Some f
unfolding challenge_frame
challenge_frame-spelled body f spells =
    let same : challenge_in body ≡ f = ap challenge_in spells.bytes ∙ challenge_in-challenge_head f
    spells.extra spells.fits spells.version in
    let begins : starts_with eqb body (challenge_head (challenge_in body)) ≡ true =
    subst (λ g. starts_with eqb body (challenge_head g) ≡ true) (sym same)
    (begins_true body (challenge_head f) spells.extra spells.bytes) in
    λ i. cond (begins i) (Some (same i)) None

pub SpellsChallenge-read : (body : List ℕ) (f : Challenge) → challenge_frame body ≡ Some f
    → SpellsChallenge body f
unfolding challenge_frame
SpellsChallenge-read body f read =
    let found = guarded (starts_with eqb body (challenge_head (challenge_in body)))
    (challenge_in body) f read in
    let bytes = begins_so body (challenge_head (challenge_in body)) found.0 in
    let rest = drop (length (challenge_head (challenge_in body))) body in
    subst (SpellsChallenge body) found.1
    (record {
      fits = challenge_in_fits body rest bytes;
      extra = rest;
      bytes = bytes;
      version = ap version_of (behind_is (drop 17 body) rest (ap (drop 17) bytes));
    })

-- ---- a reply

reply_in-spelled : (body : List ℕ) (f : ReplyFrame) → SpellsReply body f → reply_in body ≡ f
reply_in-spelled body f spells = λ i. record {
  challenge = (ap (λ b. (reply_in b).challenge) spells.bytes ∙ from_be_bytes-to_be_bytes_4
      f.challenge spells.fits.challenge) i;
  digest = drop 5 (spells.bytes i);
}

pub reply_frame-spelled : (body : List ℕ) (f : ReplyFrame) → SpellsReply body f
    → reply_frame body ≡ Some f
unfolding reply_frame
reply_frame-spelled body f spells =
    let same = reply_in-spelled body f spells in
    let bytes : bytes_eq (reply_bytes (reply_in body)) body ≡ true = (bytes_eq-Decides _ body).1
    (ap reply_bytes same ∙ sym spells.bytes) in
    let long : eqb (length (reply_in body).digest) 16 ≡ true =
    (Decides-eqb _ 16).1 (ap (λ g. length g.digest) same ∙ spells.fits.digest) in
    λ i. cond (and_from _ _ bytes long i) (Some (same i)) None

pub SpellsReply-read : (body : List ℕ) (f : ReplyFrame) → reply_frame body ≡ Some f
    → SpellsReply body f
unfolding reply_frame
SpellsReply-read body f read =
    let found = guarded (bytes_eq (reply_bytes (reply_in body)) body && eqb
    (length (reply_in body).digest) 16) (reply_in body) f read in
    let tests = and_parts _ _ found.0 in
    let bytes = sym ((bytes_eq-Decides (reply_bytes (reply_in body)) body).0 tests.0) in
    let challenge : (reply_in body).challenge < 2 ^ 32 = rw bytes (omega arith) in
    subst (SpellsReply body) found.1
    (record {
      fits = record { challenge = challenge; digest = (Decides-eqb _ 16).0 tests.1 };
      bytes = bytes;
    })

-- ---- an acknowledgement

pub ack_frame-spelled : (body : List ℕ) (f : AckFrame) → SpellsAck body f → ack_frame body ≡ Some f
unfolding ack_frame
ack_frame-spelled body f spells = let same : ack_in body ≡ f =
    λ i. record { digest = drop 1 (spells.bytes i) } in rw same
    (grind (arith, bytes_eq-Decides (ack_bytes f) body, Decides-eqb (length f.digest) 16))

pub SpellsAck-read : (body : List ℕ) (f : AckFrame) → ack_frame body ≡ Some f → SpellsAck body f
unfolding ack_frame
SpellsAck-read body f read =
    let found = guarded (bytes_eq (ack_bytes (ack_in body)) body && eqb
    (length (ack_in body).digest) 16) (ack_in body) f read in
    let tests = and_parts _ _ found.0 in
    let bytes = sym ((bytes_eq-Decides (ack_bytes (ack_in body)) body).0 tests.0) in
    subst (SpellsAck body) found.1
    (record { fits = record { digest = (Decides-eqb _ 16).0 tests.1 }; bytes = bytes })
