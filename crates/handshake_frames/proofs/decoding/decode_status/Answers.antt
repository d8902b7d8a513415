use Rattle.handshake_frames.proofs
use Rattle.handshake_frames.specs
use Rattle.std.proofs.Common.{refl, rules, tests, ◌∙◌, ◌≡◌}
use Rattle.std.specs.Str.{bytes_eq}
use Rattle.std.proofs.lemmas.Iterator.{YieldsList-from_slice}
use Rattle.std.proofs.lemmas.Iterator.Search.{find_from_yields_List}
use specs.declared.frame.StatusWord.{StatusWord}
use specs.Spelling.{status_bytes}
use specs.Reading.{status_of, words}
use proofs.FoundFrames.{reads_same}
use proofs.ReadingLemmas.{status_of-spelled}
use proofs.decoding.decode_status.Goals as goal

-- what is found is what the reader that computes gives
word_found : (c : goal.After-ok_or) → c.copied.result ≡ status_of c.args.body.now
unfolding status_of
word_found c =
    let test = λ (w : StatusWord). bytes_eq (status_bytes w) c.args.body.now in
    c.copied.ensures ∙ find_from_yields_List test _ _ c.find-word.result c.find-word.ensures.ran
    (YieldsList-from_slice words cc) (λ x b q k. search (rules, tests))

pub returns-clause-only : goal.returns-clause-only
returns-clause-only c = λ word spelled.
    rw (c.ok_or.ensures.value, word_found c ∙ status_of-spelled _ word spelled) refl

pub returns-clause-value : goal.returns-clause-value
returns-clause-value c = rw c.ok_or.ensures.value
    (reads_same (status_of c.args.body.now) c.copied.result _ (word_found c))
