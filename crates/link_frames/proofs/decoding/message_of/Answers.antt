use Rattle.link_frames.proofs
use proofs.Words.{rules, text_bytes, ◌++◌, ◌∷◌}
use proofs.ReadingLemmas.{one_message}
use Rattle.link_frames.proofs.decoding.message_of.Goals as goal

pub returns-in_ok-rows_at-in-83-clause-only : goal.returns-in_ok-rows_at-in-83-clause-only
returns-in_ok-rows_at-in-83-clause-only c = λ m spelled.
    one_message (c.args.kind ∷ text_bytes c.args.scope ++ c.args.rest.now) _ m (search rules)
    spelled

pub returns-in_ok-some_rows_at-in-74-clause-only : goal.returns-in_ok-some_rows_at-in-74-clause-only
returns-in_ok-some_rows_at-in-74-clause-only c = λ m spelled.
    one_message (c.args.kind ∷ text_bytes c.args.scope ++ c.args.rest.now) _ m (search rules)
    spelled

pub returns-in_ok-some_rows_at-in-76-clause-only : goal.returns-in_ok-some_rows_at-in-76-clause-only
returns-in_ok-some_rows_at-in-76-clause-only c = λ m spelled.
    one_message (c.args.kind ∷ text_bytes c.args.scope ++ c.args.rest.now) _ m (search rules)
    spelled
