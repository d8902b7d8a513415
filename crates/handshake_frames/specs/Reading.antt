-- Readers of frames that compute. A body spells at most one frame of a kind; its numbers stand at
-- fixed places.
use Rattle.std.specs.Prelude.{ℕ, ◌==◌, ◌&&◌, List, [], ◌∷◌, Option, Some, None, if◌then◌else◌, length, take, drop, slice_range, find, nat_eq, bytes_eq}
use Rattle.std.specs.Int.{w16, w32, w64, from_be_bytes}
use Rattle.std.specs.List.{starts_with}
use Rattle.handshake_frames.specs.declared.frame.StatusWord.{StatusWord}
use Rattle.handshake_frames.specs.declared.frame.StatusWord.TheVariants as word
use Rattle.handshake_frames.specs.declared.frame.ReplyFrame.{ReplyFrame}
use Rattle.handshake_frames.specs.declared.frame.AckFrame.{AckFrame}
use Rattle.handshake_frames.specs.Frame.{Name, Challenge}
use Rattle.handshake_frames.specs.Spelling.{version_of, name_head, status_bytes, challenge_head, reply_bytes, ack_bytes}

-- the name behind its length of 2 bytes
abbrev pub counted_in : List ℕ → List ℕ
counted_in bytes = take (from_be_bytes w16 (take 2 bytes)) (drop 2 bytes)

-- the bytes behind that name
abbrev pub behind_counted : List ℕ → List ℕ
behind_counted bytes = drop (from_be_bytes w16 (take 2 bytes)) (drop 2 bytes)

-- the only name frame that the body can spell
abbrev pub name_in : List ℕ → Name
name_in body = record {
  flags = from_be_bytes w64 (slice_range body 1 9);
  creation = from_be_bytes w32 (slice_range body 9 13);
  name = counted_in (drop 13 body);
  version = version_of (behind_counted (drop 13 body));
}

-- the name frame that the body spells: the body begins with its bytes up to the name
unfoldable pub name_frame : List ℕ → Option Name
name_frame body = if starts_with nat_eq body (name_head (name_in body)) then Some (name_in body)
    else None

-- the words of a status frame
abbrev pub words : List StatusWord
words = word.Ok ∷ word.OkSimultaneous ∷ word.Nok ∷ word.NotAllowed ∷ word.Alive ∷ word.True
    ∷ word.False ∷ []

-- the word of the status frame that the body spells: the body is its bytes
unfoldable pub status_of : List ℕ → Option StatusWord
status_of body = find (λ status. bytes_eq (status_bytes status) body) words

-- the only challenge frame that the body can spell
abbrev pub challenge_in : List ℕ → Challenge
challenge_in body = record {
  flags = from_be_bytes w64 (slice_range body 1 9);
  challenge = from_be_bytes w32 (slice_range body 9 13);
  creation = from_be_bytes w32 (slice_range body 13 17);
  name = counted_in (drop 17 body);
  version = version_of (behind_counted (drop 17 body));
}

-- the challenge frame that the body spells: the body begins with its bytes up to the name
unfoldable pub challenge_frame : List ℕ → Option Challenge
challenge_frame body = if starts_with nat_eq body (challenge_head (challenge_in body)) then Some
    (challenge_in body) else None

-- the only reply that the body can spell
abbrev pub reply_in : List ℕ → ReplyFrame
reply_in body = record {
  challenge = from_be_bytes w32 (slice_range body 1 5);
  digest = drop 5 body;
}

-- the reply that the body spells: the body is its bytes, and its digest has 16
unfoldable pub reply_frame : List ℕ → Option ReplyFrame
reply_frame body = if bytes_eq (reply_bytes (reply_in body)) body
    && (length (reply_in body).digest == 16) then Some (reply_in body) else None

-- the only acknowledgement that the body can spell
abbrev pub ack_in : List ℕ → AckFrame
ack_in body = record { digest = drop 1 body }

-- the acknowledgement that the body spells: the body is its bytes, and its digest has 16
unfoldable pub ack_frame : List ℕ → Option AckFrame
ack_frame body = if bytes_eq (ack_bytes (ack_in body)) body
    && (length (ack_in body).digest == 16) then Some (ack_in body) else None
