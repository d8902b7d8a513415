use Rattle.std.proofs.lemmas.Option.{IfSome_then}
use Rattle.pg_script.proofs.Kept.{keeps_begin}
use Rattle.pg_script.proofs.keeping.keep_all.Goals as goal

-- an entry could not be kept
pub returns-then-is_err-clause-text : goal.returns-then-is_err-clause-text
returns-then-is_err-clause-text g c = λ o opened. IfSome_then (g.R.Read.remaining c.args.reader.now)
    (c.keep_lines-played.ensures.text o opened)
    (λ script kept. keeps_begin c.args.keep o script (g.W.Write.contents c.args.writer.now)
    (g.W.Write.contents c.keep_lines-played.new.writer) c.keep_lines-played.result kept)
