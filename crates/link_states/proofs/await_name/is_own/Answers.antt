use Rattle.std.proofs.Common.{arith, subst, sym}
use Rattle.std.proofs.lemmas.Slice.Eq.{bytes_eq-Decides}
use Rattle.dist_types.specs.Text.{IsNodeName}
use Rattle.dist_types.proofs.LimitLemmas.{names_compute}
use Rattle.link_states.proofs.await_name.is_own.Goals as goal

-- the name is the own one, which is within the limits
pub returns-clause-name : goal.returns-clause-name
returns-clause-name c is =
    let own = c.own.result.now in
    let same = (bytes_eq-Decides c.args.name.now own).0
    (grind (arith, c.eq.ensures, c.as_bytes.ensures.value, c.own.ensures, is)) in
    (names_compute c.args.name.now).1 (subst IsNodeName (sym same) c.as_bytes.ensures.limits)
