use Rattle.otp_edge.proofs.Words.{arith}
use Rattle.otp_edge.proofs.process.pid_term.Goals as goal

pub returns-clause-fits : goal.returns-clause-fits
returns-clause-fits c =
    let name = c.as_bytes.ensures.limits in
    let same = c.as_bytes.ensures.value in
    let long = name.text.not_long in
    record {
      node = rw same (omega arith);
      id = omega arith;
      serial = omega arith;
      creation = omega (arith, c.creation_of.ensures.limits);
    }

pub returns-clause-limits : goal.returns-clause-limits
returns-clause-limits c = record {
  node = c.as_bytes.ensures.limits;
  creation = omega (arith, c.creation_of.ensures.value, c.creation_of.ensures.limits);
  number = omega arith;
}
