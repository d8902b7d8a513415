-- The bodies of a stream and its rest, for a length of any width that is read as it was written.
use Rattle.handshake_frames.specs
use Rattle.std.proofs.Common.{ap, append-nil, append_assoc, arith, length, length-append, List}
use Rattle.std.proofs.Common.{None, Option, refl, Some, suc, sym, take, zero, ℕ, [], ◌++◌, ◌+◌, ◌<◌}
use Rattle.std.proofs.Common.{◌^◌, ◌∙◌, ◌∷◌, ◌≡◌}
use Rattle.std.specs.Int.{byte_len, bytes_high_first, from_be_bytes, to_be_bytes, w16, Width}
use Rattle.std.specs.List.{flat_map}
use Rattle.std.specs.Option.{option_to_list}
use Rattle.std.proofs.Math.Seq.{take-length}
use Rattle.std.proofs.lemmas.Grind.{flat_map-append}
use Rattle.std.proofs.lemmas.Nat.{from_be_bytes-to_be_bytes_2}
use Rattle.std.proofs.lemmas.List.{append_cancel_left, take_at}
use Rattle.std.proofs.lemmas.List.Elements.{All-append, All-cons, All-nil, All-tail}
use specs.Spelling.{counted}
use specs.Stream.{AreFed, bodies_of, Call, FitsLength, IsFed, IsPartial, Splits, stream_of}

length-bytes_high_first : (k n : ℕ) → length (bytes_high_first k n) ≡ k
length-bytes_high_first zero n = refl
length-bytes_high_first (suc k) n = ap suc (length-bytes_high_first k n)

pub length-counted : (w : Width) (body : List ℕ)
    → length (counted w body) ≡ byte_len w + length body
length-counted w body = length-append (to_be_bytes w (length body)) body ∙ ap (λ n. n + length body)
    (length-bytes_high_first (byte_len w) (length body))

-- ---- a stream

-- a width at which each length is read as it was written
pub record Reads (w : Width) : Type 0 where
  pub wide : 0 < byte_len w
  pub back : (n : ℕ) → n < 256 ^ byte_len w → from_be_bytes w (to_be_bytes w n) ≡ n

pub reads_16 : Reads w16
reads_16 = record { wide = omega arith; back = from_be_bytes-to_be_bytes_2 }

pub IsPartial-empty : (w : Width) → Reads w → IsPartial w []
IsPartial-empty w reads body later fits whole = let sum : 0 ≡ length (counted w body) + length
    later = ap length whole ∙ length-append (counted w body) later in
    omega (arith, length-counted w body)

fronts_agree : (xs ys us vs : List ℕ) → length xs ≡ length ys → xs ++ us ≡ ys ++ vs → xs ≡ ys
fronts_agree xs ys us vs long same = sym (take_at xs us (length xs) refl) ∙ ap (take (length xs))
    same ∙ take_at ys vs (length xs) (sym long)

-- the first body of a stream is one
first_body : (w : Width) → Reads w → (body other later more : List ℕ) → FitsLength w body
    → FitsLength w other → counted w body ++ later ≡ counted w other ++ more
    → (body ≡ other) × (later ≡ more)
first_body w reads body other later more fits others same =
    let lengths : to_be_bytes w (length body) ≡ to_be_bytes w (length other) =
    fronts_agree _ _ (body ++ later) (other ++ more) (length-bytes_high_first (byte_len w)
    (length body) ∙ sym (length-bytes_high_first (byte_len w) (length other)))
    (sym (append_assoc _ body later) ∙ same ∙ append_assoc _ other more) in
    let long : length body ≡ length other = sym (reads.back (length body) fits)
    ∙ ap (from_be_bytes w) lengths ∙ reads.back (length other) others in
    let bodies : counted w body ≡ counted w other = fronts_agree _ _ later more
    (length-counted w body ∙ ap (λ n. byte_len w + n) long ∙ sym (length-counted w other)) same in (
      append_cancel_left (to_be_bytes w (length other)) body other
          (ap (λ n. to_be_bytes w n ++ body) (sym long) ∙ bodies),
      append_cancel_left (counted w other) later more (ap (λ xs. xs ++ later) (sym bodies) ∙ same),
    )

-- a stream is read in one way alone
pub one_reading : (w : Width) → Reads w
    → (stream : List ℕ) (bodies others : List (List ℕ)) (rest last : List ℕ)
    → Splits w stream bodies rest → Splits w stream others last → (bodies ≡ others) × (rest ≡ last)
one_reading w reads stream [] [] rest last a b = (refl, cc)
one_reading w reads stream [] (other ∷ others) rest last a b =
    absurd (a.partial other (flat_map (counted w) others ++ last) (b.fit 0 other (omega arith))
    (sym a.whole ∙ b.whole ∙ append_assoc (counted w other) _ last))
one_reading w reads stream (body ∷ bodies) [] rest last a b =
    absurd (b.partial body (flat_map (counted w) bodies ++ rest) (a.fit 0 body (omega arith))
    (sym b.whole ∙ a.whole ∙ append_assoc (counted w body) _ rest))
one_reading w reads stream (body ∷ bodies) (other ∷ others) rest last a b =
    let first = first_body w reads body other (flat_map (counted w) bodies ++ rest)
    (flat_map (counted w) others ++ last) (a.fit 0 body (omega arith))
    (b.fit 0 other (omega arith)) (sym (append_assoc (counted w body) _ rest) ∙ sym a.whole
    ∙ b.whole ∙ append_assoc (counted w other) _ last) in
    let later = one_reading w reads (flat_map (counted w) others ++ last) bodies others rest last
    (record {
      fit = All-tail (FitsLength w) body bodies a.fit;
      whole = sym first.1;
      partial = a.partial;
    })
    (record
    { fit = All-tail (FitsLength w) other others b.fit; whole = refl; partial = b.partial }) in
    (λ i. first.0 i ∷ later.0 i, later.1)

-- one call carries the reading of a stream on
pub goes_on : (w : Width) → Reads w
    → (stream : List ℕ) (bodies : List (List ℕ)) (rest piece : List ℕ) (used : ℕ) (body : Option
    (List ℕ)) (new : List ℕ) → Splits w stream bodies rest → IsFed w rest piece used body new
    → Splits w (stream ++ take used piece) (bodies ++ option_to_list body) new
goes_on w reads stream bodies rest piece used (Some body) new so_far fed = record {
  fit = All-append (FitsLength w) bodies (body ∷ []) so_far.fit
      (All-cons (FitsLength w) body [] fed.fits (All-nil (FitsLength w)));
  whole = simp (so_far.whole, fed.empty, flat_map-append, append-nil, append_assoc, fed.whole);
  partial = rw fed.empty (IsPartial-empty w reads);
}
goes_on w reads stream bodies rest piece used None new so_far fed = record {
  fit = rw (append-nil bodies) so_far.fit;
  whole = simp (so_far.whole, fed.kept, fed.whole, take-length, append-nil, append_assoc);
  partial = fed.partial;
}

-- so do calls in turn
pub go_on : (w : Width) → Reads w → (calls : List Call) (stream : List ℕ) (bodies : List (List ℕ))
    (rest new : List ℕ) → Splits w stream bodies rest → AreFed w rest calls new
    → Splits w (stream ++ stream_of calls) (bodies ++ bodies_of calls) new
go_on w reads [] stream bodies rest new so_far fed = rw (append-nil stream, append-nil bodies, fed)
    so_far
go_on w reads (call ∷ calls) stream bodies rest new so_far fed =
    let next = goes_on w reads stream bodies rest call.piece call.used call.body fed.0 so_far
    fed.1 in
    rw (
      ← append_assoc stream (take call.used call.piece) (stream_of calls),
      ← append_assoc bodies (option_to_list call.body) (bodies_of calls),
    ) (go_on w reads calls (stream ++ take call.used call.piece)
    (bodies ++ option_to_list call.body) fed.0 new next fed.2)

-- what calls on a new reader make of a stream
pub read_from_empty : (w : Width) → Reads w → (calls : List Call) (rest : List ℕ)
    → AreFed w [] calls rest → Splits w (stream_of calls) (bodies_of calls) rest
read_from_empty w reads calls rest fed =
    go_on w reads calls [] [] [] rest
    (record { fit = All-nil (FitsLength w); whole = refl; partial = IsPartial-empty w reads }) fed
