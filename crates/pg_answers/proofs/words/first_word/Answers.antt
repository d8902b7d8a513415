use Rattle.std.proofs.Common.{ap, arith, drop, length, length-drop, rules, sym, take}
use Rattle.std.proofs.Common.{take-append-drop, take_all, ◌++◌, ◌+◌, ◌-◌, ◌∙◌, ◌∷◌, ◌≡◌}
use Rattle.std.proofs.lemmas.List.{drop_more}
use Rattle.pg_answers.specs.Words.{words_of}
use Rattle.pg_answers.proofs.WordLemmas.{words_plain, words_space}
use Rattle.pg_answers.proofs.words.first_word.Goals as goal

pub returns-then-byte-eq32 : goal.returns-then-byte-eq32
returns-then-byte-eq32 c =
    let line = c.args.line.now in
    let i = c.loop-i.i in
    let behind : drop i line ≡ 32 ∷ drop (i + 1) line = drop_more line i 0 (search rules)
    ∙ ap (λ b. b ∷ drop (i + 1) line) (search rules) in
    let parts : line ≡ take i line ++ 32 ∷ drop (i + 1) line = sym (take-append-drop i line)
    ∙ ap (λ l. take i line ++ l) behind in
    let rest : take (length line - (i + 1)) (drop (i + 1) line) ≡ drop (i + 1) line =
    search (rules, take_all, length-drop, rules, length-drop) in
    rw rest (ap words_of parts ∙ words_space (take i line) _ c.loop-i.invariant)

pub returns : goal.returns
returns c =
    let whole : take c.loop-i.i c.args.line.now ≡ c.args.line.now = search (arith, take_all) in
    words_plain c.args.line.now (rw whole at c.loop-i.invariant)
