use Rattle.link_frames.proofs
use proofs.Words.{ap, arith, length, length-append, suc, ticks, to_be_bytes, w32, ◌++◌, ◌+◌, ◌∙◌}
use proofs.Words.{◌≡◌}
use proofs.LinkLemmas.{ticks_more}
use Rattle.link_frames.proofs.front.length_at.Goals.{In-Some}
use Rattle.link_frames.proofs.front.length_at.Goals as goal

-- the 4 bytes of a length stand before what is behind it
lengths : (c : In-Some)
    → length c.loop-len.front.now + length c.loop-len.rest.now ≡ 4 + length c.in-Some.behind.now
lengths c = omega (
  arith,
  ap length c.in-Some.ensures.found,
  length-append c.loop-len.front.now c.loop-len.rest.now,
)

pub loop-len-preserved : goal.loop-len-preserved
loop-len-preserved c = let kept = c.loop-len.invariant in let none : c.in-Some.len ≡ 0 =
    omega (arith, c.if-len-gt0.false) in let long =
    lengths (goal.at.loop-len-preserved c).In-Some in
    record {
      few = omega arith;
      within = omega arith;
      read = (
        suc kept.read.0,
        kept.read.1 ∙ ap (λ rest. ticks kept.read.0 ++ rest)
            (c.in-Some.ensures.found ∙ ap (λ n. to_be_bytes w32 n ++ c.in-Some.behind.now) none)
            ∙ ticks_more kept.read.0 c.in-Some.behind.now,
      );
    }

pub returns-then-len-gt0-clause-onward : goal.returns-then-len-gt0-clause-onward
returns-then-len-gt0-clause-onward c = let long =
    lengths (goal.at.returns-then-len-gt0-clause-onward c).In-Some in
    omega (arith, c.loop-len.invariant.few, c.loop-len.invariant.within)
