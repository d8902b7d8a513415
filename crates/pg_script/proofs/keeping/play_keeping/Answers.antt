use Rattle.pg_script.specs.Transcript.{met_left, met_text, met_usually}
use Rattle.pg_script.proofs.Played.{if_known, played_part, played_start}
use Rattle.pg_script.proofs.keeping.play_keeping.Goals as goal

pub returns-in-Ok-clause-text : goal.returns-in-Ok-clause-text
returns-in-Ok-clause-text g c = λ good. c.keep_all.ensures.text c.args.opening c.in-Ok.ensures.ok

-- no memory for the node
pub returns-in-Err-OutOfMemory-clause-text : goal.returns-in-Err-OutOfMemory-clause-text
returns-in-Err-OutOfMemory-clause-text g c =
    λ good. if_known (g.R.Read.remaining c.args.reader.now)
    (λ script tells. played_part
    (played_start met_usually met_text (met_left c.args.keep) c.args.opening script
    (g.W.Write.contents c.args.writer.now)))
