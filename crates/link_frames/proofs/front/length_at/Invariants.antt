use Rattle.link_frames.proofs.Words.{length, ticks, ℕ, ◌++◌, ◌+◌, ◌<◌, ◌≡◌, ◌≤◌}
use Rattle.link_frames.proofs.front.length_at.Given as goal

abbrev pub invariant-loop-len : goal.invariant-loop-len
invariant-loop-len l = record {
  few : length l.front < 4;
  within : length l.rest ≤ length l.piece;
  read : (n : ℕ) × (l.held ++ l.piece ≡ ticks n ++ (l.front ++ l.rest));
}

abbrev pub decreases-loop-len : goal.decreases-loop-len
decreases-loop-len l = length l.front + length l.rest
