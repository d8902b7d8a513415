use Rattle.external_terms.proofs
use proofs.Words.{length, rules, ◌<◌}
use proofs.CutLemmas.{long_cut}
use Rattle.external_terms.proofs.piece.behind_bytes.Goals as goal

pub returns-in_default-clause-refused : goal.returns-in_default-clause-refused
returns-in_default-clause-refused c = let short : length c.args.bytes.now < c.args.len = search
    rules in
    long_cut c.args.len c.args.bytes.now short
