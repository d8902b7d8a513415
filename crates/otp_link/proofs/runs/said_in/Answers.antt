use Rattle.otp_link.proofs.runs.said_in.Goals as goal

pub returns-in_default-clause-only : goal.returns-in_default-clause-only
returns-in_default-clause-only c flags says =
    let said = rw c.if-is_challenge.true at says in c.in_default.ensures.only said.0 said.1

pub returns-in_default-decode_name-clause-only : goal.returns-in_default-decode_name-clause-only
returns-in_default-decode_name-clause-only c flags says =
    let said = rw c.if-is_challenge.false at says in
    c.in_default-decode_name.ensures.only said.0 said.1

pub returns-in_default-clause-only_bare : goal.returns-in_default-clause-only_bare
returns-in_default-clause-only_bare c bare =
    let said = rw c.if-is_challenge.true at bare in c.in_default.ensures.only said.0 said.1

pub returns-in_default-decode_name-clause-only_bare
    : goal.returns-in_default-decode_name-clause-only_bare
returns-in_default-decode_name-clause-only_bare c bare =
    let said = rw c.if-is_challenge.false at bare in
    c.in_default-decode_name.ensures.only said.0 said.1
