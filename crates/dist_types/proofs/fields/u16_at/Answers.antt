use Rattle.dist_types.proofs
use Rattle.std.proofs.Common.{arith, rules}
use Rattle.std.proofs.lemmas.Nat.{be_bytes_2}
use proofs.FieldLemmas.{front_is_bytes, parts_are}
use proofs.fields.u16_at.Goals as goal

pub returns-clause-found : goal.returns-clause-found
returns-clause-found c =
    let cases = c.in_ok-front.ensures.cases in
    parts_are 2 _ _ _ _ cases.0 cases.1 (be_bytes_2 c.in_ok-front.front.now _ (search rules)
    (front_is_bytes 2 c.args.bytes.now _ cases.0 (λ i. omega (arith, c.type_inv.bytes i)))
    c.from_be_bytes.ensures)
