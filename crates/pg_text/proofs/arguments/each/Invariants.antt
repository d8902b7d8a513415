use Rattle.pg_text.specs
use Rattle.std.proofs.Common.{length, ◌++◌, ◌≡◌}
use Rattle.std.specs.Option.{option_map}
use specs.Arguments.{each}
use specs.WordsLeft.{words_left}
use Rattle.pg_text.proofs.arguments.each.Given as goal

-- what all words say is what was read so far, and what the others say
abbrev pub invariant-loop-word : goal.invariant-loop-word
invariant-loop-word g l = each g.A.Argument.read (words_left l.fn.words) ≡ option_map
    (λ later. l.items.items ++ later) (each g.A.Argument.read (words_left l.rest))

abbrev pub decreases-loop-word : goal.decreases-loop-word
decreases-loop-word g l = length (words_left l.rest)
