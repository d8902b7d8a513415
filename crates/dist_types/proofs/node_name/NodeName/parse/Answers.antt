use Rattle.dist_types.proofs
use Rattle.std.proofs.Common.{rules}
use proofs.LimitLemmas.{names_compute, refused_name, tells_no_name}
use Rattle.dist_types.specs.declared.fault.TextFault.TheVariants as faults
use proofs.node_name.NodeName.parse.Goals as goal

pub returns-in_err-check_bytes-clause-tested : goal.returns-in_err-check_bytes-clause-tested
returns-in_err-check_bytes-clause-tested c = tells_no_name c.args.bytes.now c.from_residual.result
    (search rules) (search rules)

pub returns-then-not-has_inner_at-clause-tested : goal.returns-then-not-has_inner_at-clause-tested
returns-then-not-has_inner_at-clause-tested c = refused_name faults.BadAt c.args.bytes.now
    (search rules)

pub returns-clause-tested : goal.returns-clause-tested
returns-clause-tested c = (names_compute c.args.bytes.now).1 (search rules)
