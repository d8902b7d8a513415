-- Ticks and bodies of a stream, and its rest, however it is cut.
use Rattle.link_frames.proofs
use proofs.Words.{All, All-append, All-cons, All-head, All-nil, All-replicate, All-tail, ap}
use proofs.Words.{append-nil, append_assoc, AreFed, arith, BeginsTooLong, bodies_of, Call}
use proofs.Words.{ComesTooLong, counted, drop, drop_at, filter, filter-append, FitsLength, flat_map}
use proofs.Words.{flat_map-append, from_be_bytes, from_be_bytes-to_be_bytes_4, is_body, IsFed}
use proofs.Words.{IsPartial, IsRest, length, List, max_body, None, Option, option_to_list, refl}
use proofs.Words.{replicate, Some, Splits, SplitsLink, stream_of, subst, suc, sym, take}
use proofs.Words.{take-append-drop, ticks, to_be_bytes, w32, zero, ℕ, [], ◌++◌, ◌+◌, ◌<◌, ◌^◌, ◌∙◌}
use proofs.Words.{◌∷◌, ◌≡◌, ◌≢◌, ◌≤◌}
use Rattle.std.proofs.Math.Seq.{take-length}
use Rattle.handshake_frames.proofs.StreamLemmas.{IsPartial-empty, length-counted, one_reading}
use Rattle.handshake_frames.proofs.StreamLemmas.{Reads}

reads_32 : Reads w32
reads_32 = record { wide = omega arith; back = from_be_bytes-to_be_bytes_4 }

-- ---- ticks

-- a tick behind ticks is one more
pub ticks_more : (n : ℕ) (later : List ℕ)
    → ticks n ++ (0 ∷ 0 ∷ 0 ∷ 0 ∷ later) ≡ ticks (suc n) ++ later
ticks_more zero later = refl
ticks_more (suc n) later = ap (λ (xs : List ℕ). 0 ∷ 0 ∷ 0 ∷ 0 ∷ xs) (ticks_more n later)

tick_frames : ℕ → List (List ℕ)
tick_frames n = replicate n []

ticks_are_frames : (n : ℕ) → flat_map (counted w32) (tick_frames n) ≡ ticks n
unfolding tick_frames
ticks_are_frames zero = refl
ticks_are_frames (suc n) = ap (λ (xs : List ℕ). 0 ∷ 0 ∷ 0 ∷ 0 ∷ xs) (ticks_are_frames n)

ticks_are_no_bodies : (n : ℕ) → filter is_body (tick_frames n) ≡ []
unfolding tick_frames
ticks_are_no_bodies zero = refl
ticks_are_no_bodies (suc n) = ticks_are_no_bodies n

-- ---- a length above the limit

abbrev IsTickless : List ℕ → Type 0
IsTickless xs = (later : List ℕ) → xs ≢ 0 ∷ 0 ∷ 0 ∷ 0 ∷ later

-- what stands behind all ticks is one
behind_ticks : (n k : ℕ) (xs ys : List ℕ) → IsTickless xs → IsTickless ys
    → ticks n ++ xs ≡ ticks k ++ ys → xs ≡ ys
behind_ticks zero zero xs ys tickless free same = same
behind_ticks zero (suc k) xs ys tickless free same = absurd (tickless (ticks k ++ ys) same)
behind_ticks (suc n) zero xs ys tickless free same = absurd (free (ticks n ++ xs) (sym same))
behind_ticks (suc n) (suc k) xs ys tickless free same = behind_ticks n k xs ys tickless free
    (ap (drop 4) same)

-- the length at the front is one
one_length : (a b : ℕ) (xs ys : List ℕ) → a < 2 ^ 32 → b < 2 ^ 32
    → to_be_bytes w32 a ++ xs ≡ to_be_bytes w32 b ++ ys → a ≡ b
one_length a b xs ys fits others same = sym (from_be_bytes-to_be_bytes_4 a fits)
    ∙ ap (λ bytes. from_be_bytes w32 (take 4 bytes)) same ∙ from_be_bytes-to_be_bytes_4 b others

tickless_length : (n : ℕ) (xs : List ℕ) → 0 < n → n < 2 ^ 32 → IsTickless (to_be_bytes w32 n ++ xs)
tickless_length n xs some fits later same = let none : n ≡ 0 = one_length n 0 xs later fits
    (omega arith) same in omega arith

tickless_rest : (rest : List ℕ) → IsPartial w32 rest → IsTickless rest
tickless_rest rest partial later same = partial [] later (omega arith) same

too_long_is_tickless : (bytes : List ℕ) → BeginsTooLong bytes → IsTickless bytes
too_long_is_tickless bytes long later same = tickless_length long.long long.later (omega arith)
    long.fits later (sym long.begins ∙ same)

-- a length within the limit is none above it
short_length : (n : ℕ) (xs : List ℕ) → n ≤ max_body → ¬ BeginsTooLong (to_be_bytes w32 n ++ xs)
short_length n xs fits long = let same : n ≡ long.long = one_length n long.long xs long.later
    (omega arith) long.fits long.begins in omega arith

-- where bytes without a tick or a length above the limit stand behind ticks, none comes
not_too_long : (rest piece bytes : List ℕ) (n : ℕ) → rest ++ piece ≡ ticks n ++ bytes
    → IsTickless bytes → ¬ BeginsTooLong bytes → ¬ ComesTooLong rest piece
not_too_long rest piece bytes n split free short long =
    short (subst BeginsTooLong
    (sym (behind_ticks n long.skipped bytes long.bytes free
    (too_long_is_tickless long.bytes long.begins) (sym split ∙ long.behind))) long.begins)

-- nor where the first length that is none of a tick is within the limit
pub length_not_too_long : (rest piece behind : List ℕ) (n len : ℕ)
    → rest ++ piece ≡ ticks n ++ (to_be_bytes w32 len ++ behind) → 0 < len → len ≤ max_body
    → ¬ ComesTooLong rest piece
length_not_too_long rest piece behind n len split some fits = not_too_long rest piece _ n split
    (tickless_length len behind some (omega arith)) (short_length len behind fits)

-- where a reader is fed, no length above the limit came before
pub fed_not_too_long : (rest piece : List ℕ) (used : ℕ) (body : Option (List ℕ)) (new : List ℕ)
    → IsFed rest piece used body new → ¬ ComesTooLong rest piece
fed_not_too_long rest piece used (Some body) new fed = let later = drop used piece in
    let split : rest ++ piece ≡ ticks fed.skipped ++ (to_be_bytes w32 (length body)
    ++ (body ++ later)) = ap (λ xs. rest ++ xs) (sym (take-append-drop used piece)) ∙ sym
    (append_assoc rest (take used piece) later) ∙ ap (λ xs. xs ++ later) fed.whole
    ∙ simp append_assoc in not_too_long rest piece _ fed.skipped split
    (tickless_length (length body) (body ++ later) fed.some (omega arith))
    (short_length (length body) (body ++ later) fed.fits)
fed_not_too_long rest piece used None new fed = not_too_long rest piece new fed.skipped fed.kept
    (tickless_rest new fed.left.partial) fed.left.short

-- ---- a stream

pub IsRest-empty : IsRest []
IsRest-empty =
    record {
      partial = IsPartial-empty w32 reads_32;
      short = λ too_long. absurd (cc too_long.begins);
    }

-- more frames behind the rest of a stream
more_frames : (stream more : List ℕ) (frames news : List (List ℕ)) (rest new : List ℕ)
    → Splits w32 stream frames rest → All (FitsLength w32) news
    → rest ++ more ≡ flat_map (counted w32) news ++ new → IsPartial w32 new
    → Splits w32 (stream ++ more) (frames ++ news) new
more_frames stream more frames news rest new so_far fit whole partial = record {
  fit = All-append (FitsLength w32) frames news so_far.fit fit;
  whole = simp (so_far.whole, flat_map-append, append_assoc, whole);
  partial = partial;
}

abbrev IsShort : List ℕ → Type 0
IsShort frame = length frame ≤ max_body

ticks_are_short : (n : ℕ) → All IsShort (tick_frames n)
unfolding tick_frames
ticks_are_short n = All-replicate IsShort n [] (omega arith)

fits_from_short : (frames : List (List ℕ)) → All IsShort frames → All (FitsLength w32) frames
fits_from_short frames all k d inside = let short = all k d inside in omega arith

body_is_body : (body : List ℕ) → 0 < length body → filter is_body (body ∷ []) ≡ body ∷ []
body_is_body [] some = absurd (omega arith)
body_is_body (byte ∷ bytes) some = refl

-- one call carries the reading of a stream on
pub goes_on : (stream : List ℕ) (bodies : List (List ℕ)) (rest piece : List ℕ) (used : ℕ)
    (body : Option (List ℕ)) (new : List ℕ) → SplitsLink stream bodies rest
    → IsFed rest piece used body new
    → SplitsLink (stream ++ take used piece) (bodies ++ option_to_list body) new
goes_on stream bodies rest piece used (Some body) new so_far fed =
    let idle = tick_frames fed.skipped in
    let news = idle ++ body ∷ [] in
    let short : All IsShort news = All-append IsShort idle (body ∷ []) (ticks_are_short fed.skipped)
    (All-cons IsShort body [] fed.fits (All-nil IsShort)) in
    let whole : rest ++ take used piece ≡ flat_map (counted w32) news ++ new =
    simp (fed.whole, fed.empty, flat_map-append, ticks_are_frames, append-nil) in
    record {
      frames = so_far.frames ++ news;
      splits = more_frames stream (take used piece) so_far.frames news rest new so_far.splits
          (fits_from_short news short) whole (rw fed.empty IsRest-empty.partial);
      given = simp (so_far.given, filter-append, ticks_are_no_bodies, body_is_body body fed.some);
      within = All-append IsShort so_far.frames news so_far.within short;
      short = rw fed.empty IsRest-empty.short;
    }
goes_on stream bodies rest piece used None new so_far fed =
    let idle = tick_frames fed.skipped in
    let short = ticks_are_short fed.skipped in
    let whole : rest ++ take used piece ≡ flat_map (counted w32) idle ++ new =
    simp (fed.whole, take-length, ticks_are_frames, fed.kept) in
    record {
      frames = so_far.frames ++ idle;
      splits = more_frames stream (take used piece) so_far.frames idle rest new so_far.splits
          (fits_from_short idle short) whole fed.left.partial;
      given = simp (so_far.given, filter-append, ticks_are_no_bodies, append-nil);
      within = All-append IsShort so_far.frames idle so_far.within short;
      short = fed.left.short;
    }

-- so do calls in turn
pub go_on : (calls : List Call) (stream : List ℕ) (bodies : List (List ℕ)) (rest new : List ℕ)
    → SplitsLink stream bodies rest → AreFed rest calls new
    → SplitsLink (stream ++ stream_of calls) (bodies ++ bodies_of calls) new
go_on [] stream bodies rest new so_far fed = rw (append-nil stream, append-nil bodies, fed) so_far
go_on (call ∷ calls) stream bodies rest new so_far fed =
    let next = goes_on stream bodies rest call.piece call.used call.body fed.0 so_far fed.1 in
    rw (
      ← append_assoc stream (take call.used call.piece) (stream_of calls),
      ← append_assoc bodies (option_to_list call.body) (bodies_of calls),
    ) (go_on calls (stream ++ take call.used call.piece) (bodies ++ option_to_list call.body) fed.0
    new next fed.2)

-- nothing was read of a stream without bytes
empty_stream : SplitsLink [] [] []
empty_stream = record {
  frames = [];
  splits = record { fit = All-nil (FitsLength w32); whole = refl; partial = IsRest-empty.partial };
  given = refl;
  within = All-nil IsShort;
  short = IsRest-empty.short;
}

-- what calls on a new reader make of a stream
pub read_from_empty : (calls : List Call) (rest : List ℕ) → AreFed [] calls rest
    → SplitsLink (stream_of calls) (bodies_of calls) rest
read_from_empty calls rest fed = go_on calls [] [] [] rest empty_stream fed

-- a stream is read in one way alone
pub one_link_reading : (stream : List ℕ) (bodies others : List (List ℕ)) (rest last : List ℕ)
    → SplitsLink stream bodies rest → SplitsLink stream others last
    → (bodies ≡ others) × (rest ≡ last)
one_link_reading stream bodies others rest last a b =
    let same = one_reading w32 reads_32 stream a.frames b.frames rest last a.splits b.splits in
    (a.given ∙ ap (filter is_body) same.0 ∙ sym b.given, same.1)

-- ---- a stream with a length above the limit

BeginsTooLong-append : (bytes later : List ℕ) → BeginsTooLong bytes → BeginsTooLong (bytes ++ later)
BeginsTooLong-append bytes later long = record {
  long = long.long;
  later = long.later ++ later;
  above = long.above;
  fits = long.fits;
  begins = ap (λ xs. xs ++ later) long.begins ∙ append_assoc (to_be_bytes w32 long.long) long.later
      later;
}

-- behind frames of one length stand the same bytes
behind_frames : (frame other later more : List ℕ) → IsShort frame → IsShort other
    → counted w32 frame ++ later ≡ counted w32 other ++ more → later ≡ more
behind_frames frame other later more short shorter same =
    let lengths : length frame ≡ length other = one_length (length frame) (length other)
    (frame ++ later) (other ++ more) (omega arith) (omega arith)
    (sym (append_assoc (to_be_bytes w32 (length frame)) frame later) ∙ same
    ∙ append_assoc (to_be_bytes w32 (length other)) other more) in
    sym (drop_at (counted w32 frame) later (4 + length frame) (length-counted w32 frame))
    ∙ ap (drop (4 + length frame)) same ∙ drop_at (counted w32 other) more (4 + length frame)
    (length-counted w32 other ∙ ap (λ n. 4 + n) (sym lengths))

-- bytes with a length above the limit behind whole frames have no other reading
ahead : (frames others : List (List ℕ)) (bytes rest : List ℕ) → All IsShort frames
    → All IsShort others → BeginsTooLong bytes → IsRest rest
    → flat_map (counted w32) frames ++ bytes ≢ flat_map (counted w32) others ++ rest
ahead [] [] bytes rest short shorter long left same = left.short (subst BeginsTooLong same long)
ahead [] (other ∷ others) bytes rest short shorter long left same = let first = All-head IsShort
    other others shorter in let lengths : long.long ≡ length other =
    one_length long.long (length other) long.later _ long.fits (omega arith)
    (sym long.begins ∙ same ∙ append_assoc (counted w32 other) _ rest
    ∙ append_assoc (to_be_bytes w32 (length other)) other _) in absurd (omega arith)
ahead (frame ∷ frames) [] bytes rest short shorter long left same =
    let first = All-head IsShort frame frames short in
    left.partial frame (flat_map (counted w32) frames ++ bytes) (omega arith)
    (sym same ∙ append_assoc (counted w32 frame) _ bytes)
ahead (frame ∷ frames) (other ∷ others) bytes rest short shorter long left same =
    ahead frames others bytes rest (All-tail IsShort frame frames short)
    (All-tail IsShort other others shorter) long left (behind_frames frame other
    _ _ (All-head IsShort frame frames short) (All-head IsShort other others shorter)
    (sym (append_assoc (counted w32 frame) _ bytes) ∙ same ∙ append_assoc (counted w32 other)
    _ rest))

-- a stream with a length above the limit, where a reader met it, is read by none
pub too_long_for_all : (stream piece later : List ℕ) (bodies others : List (List ℕ)) (rest
    last : List ℕ) → SplitsLink stream bodies rest → ComesTooLong rest piece
    → ¬ SplitsLink (stream ++ piece ++ later) others last
too_long_for_all stream piece later bodies others rest last so_far comes other =
    let idle = tick_frames comes.skipped in
    let met : stream ++ piece ≡ flat_map (counted w32) (so_far.frames ++ idle) ++ comes.bytes =
    simp (so_far.splits.whole, flat_map-append, ticks_are_frames, append_assoc, comes.behind) in
    ahead (so_far.frames ++ idle) other.frames (comes.bytes ++ later) last
    (All-append IsShort so_far.frames idle so_far.within (ticks_are_short comes.skipped))
    other.within (BeginsTooLong-append comes.bytes later comes.begins)
    (record { partial = other.splits.partial; short = other.short })
    (sym (append_assoc _ comes.bytes later) ∙ ap (λ xs. xs ++ later) (sym met) ∙ other.splits.whole)
