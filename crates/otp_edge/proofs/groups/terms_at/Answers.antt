use Rattle.otp_edge.proofs
use proofs.Words.{flat_map, length, List, sym, ℕ, ◌++◌, ◌∙◌}
use Rattle.external_terms.specs.Values.{nil_bytes}
use Rattle.external_terms.specs.Terms.{SpellsTerm}
use proofs.ListLemmas.{all_read, inner_of, list_first, list_parts, none_inside}
use proofs.LackLemmas.{lack_of}
use Rattle.otp_edge.proofs.groups.terms_at.Goals as goal

abbrev spell : List ℕ → List ℕ
spell g = g

pub returns-in_default-clause-only : goal.returns-in_default-clause-only
returns-in_default-clause-only c = λ gs rest are whole.
    absurd (c.in_default.ensures.only (length gs) (flat_map spell gs) rest are.few
    (none_inside spell gs) (whole ∙ list_parts spell gs rest))

pub returns-in_err-rows-clause-only : goal.returns-in_err-rows-clause-only
returns-in_err-rows-clause-only c = λ gs rest are whole.
    let inside = inner_of spell SpellsTerm c.args.bytes.now c.in-Some.count
    c.in-Some.rest.now c.in-Some.ensures.only gs rest are whole in
    lack_of _ c.from_residual.result _ c.from_residual.ensures.1
    (c.in_err-rows.ensures.only gs (nil_bytes ++ rest) (sym inside.0) are.each inside.1)

pub returns-in_default-after_nil-clause-only : goal.returns-in_default-after_nil-clause-only
returns-in_default-after_nil-clause-only c = λ gs rest are whole.
    let inside = inner_of spell SpellsTerm c.args.bytes.now c.in-Some.count
    c.in-Some.rest.now c.in-Some.ensures.only gs rest are whole in
    let found = c.in_ok-rows.ensures.found in
    let all = all_read spell SpellsTerm c.in-Some.rest.now found.0 c.in_ok-rows.rest.now
    found.3 gs (nil_bytes ++ rest) (found.2 ∙ inside.0) are.each inside.1 in
    absurd (c.in_default-after_nil.ensures.only rest all.1)

pub returns-clause-found : goal.returns-clause-found
returns-clause-found c =
    let found = c.in_ok-rows.ensures.found in (
      found.0,
      found.1,
      list_first spell SpellsTerm c.args.bytes.now c.in-Some.count c.in-Some.rest.now found.0
          c.in_ok-rows.rest.now c.in-Some-after_nil.rest.now c.in-Some.ensures.fits
          c.in-Some.ensures.found c.in-Some.ensures.only found.2 found.3
          c.in-Some-after_nil.ensures.found,
    )
