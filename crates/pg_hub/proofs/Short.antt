-- Lines that are too short to name many processes.
use Rattle.std.proofs.Common.{arith, length, List, ℕ, ◌/◌, ◌<◌, ◌==◌, ◌≡◌}
use Rattle.std.proofs.lemmas.List.Sums.{count_by-le-length}
use Rattle.dist_types.specs.Listing.{max_rows}
use Rattle.pg_hub.specs.Brake.{named_in}

-- each stands behind a space of its own
pub short_names : (line : List ℕ) → length line < max_rows → named_in line / max_rows ≡ 0
short_names line short = omega (arith, count_by-le-length (λ b. b == 32) line)
