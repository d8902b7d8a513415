-- What a call makes of what a reader holds.
use Rattle.handshake_frames.specs
use Rattle.std.proofs.Common.{ap, arith, length, length-append, List, None, Option, Some, sym, take}
use Rattle.std.proofs.Common.{ℕ, [], ◌++◌, ◌+◌, ◌-◌, ◌<◌, ◌^◌, ◌∙◌, ◌≡◌, ◌≤◌}
use Rattle.std.specs.Int.{to_be_bytes, w16}
use Rattle.std.specs.Option.{option_to_list}
use Rattle.std.proofs.Math.Seq.{take-append-add}
use Rattle.std.proofs.lemmas.List.{length-take}
use specs.BodySoFar.{Adds, BodySoFar, whole_len}
use specs.Held.{Takes}
use specs.declared.held.Held.TheVariants.{Body, Length}

-- a body stays as long as its length says
pub same_len : (old new : BodySoFar) (piece : List ℕ) (used : ℕ) → Adds old piece used new
    → whole_len new ≡ whole_len old
same_len old new piece used adds =
    omega (
      arith,
      adds.missing,
      adds.within,
      ap length adds.bytes,
      length-append old.bytes
          (take used piece),
      length-take used piece,
    )

-- what is used of a piece behind its front is used of the piece
pub used_behind : (held piece front behind : List ℕ) (used : ℕ) → held ++ piece ≡ front ++ behind
    → length behind ≤ length piece
    → held ++ take (length piece - length behind + used) piece ≡ front ++ take used behind
used_behind held piece front behind used whole within =
    let k = length piece - length behind + used in
    let lengths : length held + length piece ≡ length front + length behind =
    sym (length-append held piece) ∙ ap length whole ∙ length-append front behind in
    let sum : length held + k ≡ length front + used = omega (arith, lengths, within) in
    sym (take-append-add held piece k) ∙ ap (λ j. take j (held ++ piece)) sum
    ∙ ap (take (length front + used)) whole ∙ take-append-add front behind used

-- one byte of a length at most is held, so the piece has another
shorter : (first : Option ℕ) (piece behind : List ℕ) (len : ℕ)
    → option_to_list first ++ piece ≡ to_be_bytes w16 len ++ behind → length behind < length piece
shorter None piece behind len found = omega (arith, ap length found)
shorter (Some byte) piece behind len found = omega (arith, ap length found)

-- a body begins behind its length
pub body_begins : (first : Option ℕ) (piece behind : List ℕ) (len used : ℕ) (so_far : BodySoFar)
    → option_to_list first ++ piece ≡ to_be_bytes w16 len ++ behind → len < 2 ^ 16
    → Adds (record { bytes = []; missing = len }) behind used so_far
    → Takes (Length first) piece (length piece - length behind + used) (Body so_far)
body_begins first piece behind len used so_far found fits adds =
    let long : whole_len so_far ≡ len =
    omega (arith, same_len (record { bytes = []; missing = len }) so_far behind used adds) in
    let last = shorter first piece behind len found in
    record {
      within = omega (arith, last, adds.within);
      bytes = sym (used_behind (option_to_list first) piece (to_be_bytes w16 len) behind used found
          (omega (arith, last)) ∙ cc (long, adds.bytes));
      fits = omega (arith, long, fits);
      onward = λ none. absurd (omega (arith, none, last));
      all = λ missing. omega (arith, last, adds.all missing);
    }
