use Rattle.otp_edge.proofs
use Rattle.otp_edge.specs
use proofs.Words.{ap, IsList, List, listed, StandsFirst, sym, ℕ, ◌≡◌}
use Rattle.std.specs.Prelude.{IfErr}
use Rattle.external_terms.specs.Terms.{SpellsTerm}
use specs.Fault.{IsFaultOf}
use specs.PgMessages.{AreGroups, Groups, groups_bytes, groups_of, numbers, rows_left, terms}
use proofs.FirstLemmas.{groups_lack, numbers_first, terms_first}
use proofs.LackLemmas.{lack_of, of_same}
use proofs.SaidLemmas.{ok_so}
use Rattle.otp_edge.proofs.groups.left_at.Goals as goal

pub returns-in_ok-rows_of_numbers-in-Some-clause-found
    : goal.returns-in_ok-rows_of_numbers-in-Some-clause-found
returns-in_ok-rows_of_numbers-in-Some-clause-found c = let some = c.in-Some in (
  numbers some.numbers.now,
  c.in_ok-rows_of_numbers-in-Some.ensures.ok,
  numbers_first c.args.bytes.now some.numbers.now some.rest.now some.ensures.fits
      some.ensures.found some.ensures.only,
)

pub returns-in_err-rows_of_numbers-in-Some-clause-only
    : goal.returns-in_err-rows_of_numbers-in-Some-clause-only
returns-in_err-rows_of_numbers-in-Some-clause-only c = λ gs rest are whole.
    let some = c.in-Some in
    let first = numbers_first c.args.bytes.now some.numbers.now some.rest.now some.ensures.fits
    some.ensures.found some.ensures.only in
    lack_of _ c.from_residual.result _ c.from_residual.ensures.1 (of_same _ _ _
    (ap (λ g. rows_left c.args.pids.now (groups_of g)) (sym (first.only gs rest are whole).0))
    c.in_err-rows_of_numbers-in-Some.ensures.refused)

pub returns-in-None-clause-found : goal.returns-in-None-clause-found
returns-in-None-clause-found c = ok_so c.terms_at.result
    (λ read. (gs : List (List ℕ)) × (read.0.items ≡ rows_left c.args.pids.now gs)
    × StandsFirst (listed (λ g. g)) (IsList SpellsTerm) c.args.bytes.now gs read.1.now)
    (λ read. (gs : Groups) × (read.0.items ≡ rows_left c.args.pids.now (groups_of gs))
    × StandsFirst groups_bytes AreGroups c.args.bytes.now gs read.1.now)
    c.terms_at.ensures.found
    (λ read found. (
      terms found.0,
      found.1,
      terms_first c.args.bytes.now found.0 read.1.now found.2,
    ))

pub returns-in-None-clause-only : goal.returns-in-None-clause-only
returns-in-None-clause-only c = groups_lack c.args.bytes.now
    (λ gs. IfErr c.terms_at.result (IsFaultOf (rows_left c.args.pids.now (groups_of gs))))
    c.in-None.ensures.only c.terms_at.ensures.only
