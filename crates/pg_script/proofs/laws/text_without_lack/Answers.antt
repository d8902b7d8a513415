use Rattle.pg_script.proofs.StepLemmas.{text-unlacking}
use Rattle.pg_script.proofs.laws.text_without_lack.Goals as goal

pub returns : goal.returns
returns c = text-unlacking
