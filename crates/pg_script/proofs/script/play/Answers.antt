use Rattle.std.proofs.Common.{false}
use Rattle.pg_script.specs.Transcript.{line_left, line_text}
use Rattle.pg_script.proofs.Played.{if_known, played_part, played_start}
use Rattle.pg_script.proofs.script.play.Goals as goal

pub returns-in-Ok-clause-text : goal.returns-in-Ok-clause-text
returns-in-Ok-clause-text g c = λ good. c.play_lines.ensures.text c.args.opening
    c.in-Ok.ensures.ok

-- no memory for the node
pub returns-in-Err-OutOfMemory-clause-text : goal.returns-in-Err-OutOfMemory-clause-text
returns-in-Err-OutOfMemory-clause-text g c =
    λ good. if_known (g.R.Read.remaining c.args.reader.now)
    (λ script tells. played_part
    (played_start false line_text line_left c.args.opening script
    (g.W.Write.contents c.args.writer.now)))
