use Rattle.external_terms.proofs
use proofs.Words.{length, List, ℕ, ◌*◌, ◌++◌, ◌+◌, ◌^◌, ◌≡◌, ◌≤◌}
use proofs.TermLemmas.{Same}
use Rattle.external_terms.proofs.skipping.skip_terms.Given as goal

abbrev pub invariant-loop-due : goal.invariant-loop-due
invariant-loop-due l = record {
  same : Same l.due l.rest l.count l.bytes;
  used : (front : List ℕ) × (l.bytes ≡ front ++ l.rest) × (l.due ≤ l.count + 2 ^ 41 * length front);
}

abbrev pub decreases-loop-due : goal.decreases-loop-due
decreases-loop-due l = length l.rest
