-- What a call makes of what a reader holds.
use Rattle.link_frames.proofs
use Rattle.link_frames.specs
use proofs.Words.{ap, append_assoc, arith, ComesTooLong, length, List, max_body, refl, sym, take}
use proofs.Words.{ticks, to_be_bytes, w32, ℕ, [], ◌++◌, ◌+◌, ◌-◌, ◌<◌, ◌∙◌, ◌≡◌, ◌≤◌}
use proofs.LinkLemmas.{length_not_too_long}
use Rattle.std.proofs.Math.Seq.{take-length}
use Rattle.handshake_frames.proofs.HeldLemmas.{same_len, used_behind}
use Rattle.handshake_frames.specs.BodySoFar.{Adds, BodySoFar, bytes_so_far, whole_len}
use specs.Held.{held_bytes, IsHeld, Takes}
use specs.declared.held.Held.{Held}
use specs.declared.held.Held.TheVariants.{Body, Length}

-- a body goes on
pub body_goes_on : (old new : BodySoFar) (piece : List ℕ) (used : ℕ) → IsHeld (Body old)
    → Adds old piece used new → Takes (Body old) piece used (Body new)
body_goes_on old new piece used held adds =
    let long : whole_len new ≡ whole_len old = same_len old new piece used adds in
    record {
      within = adds.within;
      skipped = 0;
      bytes = append_assoc (to_be_bytes w32 (whole_len old)) old.bytes (take used piece)
          ∙ cc (long, adds.bytes);
      fits = rw long held.fits;
      onward = λ none. omega (arith, none, adds.missing, held.unfinished);
      all = adds.all;
    }

-- a body begins behind its length
pub body_begins : (old : Held) (piece behind : List ℕ) (n len used : ℕ) (so_far : BodySoFar)
    → held_bytes old ++ piece ≡ ticks n ++ (to_be_bytes w32 len ++ behind)
    → length behind < length piece → 0 < len → len ≤ max_body
    → Adds (record { bytes = []; missing = len }) behind used so_far
    → Takes old piece (length piece - length behind + used) (Body so_far)
body_begins old piece behind n len used so_far found last some fits adds =
    let front = ticks n ++ to_be_bytes w32 len in
    let whole : held_bytes old ++ piece ≡ front ++ behind =
    found ∙ sym (append_assoc (ticks n) (to_be_bytes w32 len) behind) in
    let long : whole_len so_far ≡ len =
    omega (arith, same_len (record { bytes = []; missing = len }) so_far behind used adds) in
    record {
      within = omega (arith, last, adds.within);
      skipped = n;
      bytes = used_behind (held_bytes old) piece front behind used whole (omega (arith, last)) ∙
          append_assoc (ticks n) (to_be_bytes w32 len) (take used behind) ∙ cc (long, adds.bytes);
      fits = (omega (arith, long, some), omega (arith, long, fits));
      onward = λ none. absurd (omega (arith, none, last));
      all = λ missing. omega (arith, last, adds.all missing);
    }

-- bytes of a length are held
pub length_goes_on : (bytes rest piece : List ℕ) (n : ℕ) → bytes ++ piece ≡ ticks n ++ rest
    → length rest < 4 → Takes (Length bytes) piece (length piece) (Length rest)
length_goes_on bytes rest piece n found few = record {
  within = omega arith;
  skipped = n;
  bytes = ap (λ xs. bytes ++ xs) (take-length piece) ∙ found;
  fits = few;
  onward = λ none. tt;
  all = λ unfinished. refl;
}

-- no length that is too long comes in a body
pub body_not_too_long : (so_far : BodySoFar) (piece : List ℕ) → IsHeld (Body so_far)
    → ¬ ComesTooLong (bytes_so_far w32 so_far) piece
body_not_too_long so_far piece held =
    length_not_too_long (bytes_so_far w32 so_far) piece (so_far.bytes ++ piece) 0 (whole_len so_far)
    (append_assoc (to_be_bytes w32 (whole_len so_far)) so_far.bytes piece) held.fits.0 held.fits.1
