use Rattle.std.proofs.Common.{length, map, ◌++◌, ◌≡◌}
use Rattle.json.specs.Token.{string}
use Rattle.pg_answers.specs.Words.{words_left}
use Rattle.pg_answers.proofs.objects.put_words.Given as goal

-- all values are those that were written so far, and the words that are left
abbrev pub invariant-loop-left : goal.invariant-loop-left
invariant-loop-left l = (l.writer.before ≡ l.fn.writer.before)
    × (l.writer.tokens ++ map string (words_left l.left)
    ≡ l.fn.writer.tokens ++ map string (words_left l.fn.rest))

abbrev pub decreases-loop-left : goal.decreases-loop-left
decreases-loop-left l = length (words_left l.left)
