use Rattle.otp_edge.proofs
use proofs.Words.{ap, append-nil, arith, length_push, List, refl, ℕ, [], ◌++◌, ◌+◌, ◌∙◌, ◌∷◌}
use Rattle.std.proofs.lemmas.Grind.{flat_map-append}
use Rattle.external_terms.specs.Terms.{SpellsTerm}
use Rattle.otp_edge.specs.PgMessages.{rows_in}
use proofs.ListLemmas.{left_bytes, none_read, one_more}
use proofs.LackLemmas.{lack_of, of_all, of_none}
use Rattle.otp_edge.proofs.groups.rows_at.Goals as goal

abbrev spell : List ℕ → List ℕ
spell g = g

pub loop-init : goal.loop-init
loop-init c = ([], c.new-rows.ensures.items, refl, none_read spell SpellsTerm c.args.bytes.now)

pub returns-in_err-group-clause-only : goal.returns-in_err-group-clause-only
returns-in_err-group-clause-only c = λ gs later long each whole.
    let kept = c.loop.invariant in
    let next = left_bytes spell SpellsTerm c.args.bytes.now kept.0 c.loop.rest.now kept.3 gs
    later (omega (arith, kept.2)) each whole in
    lack_of _ c.from_residual.result _ c.from_residual.ensures.1 (of_none _ _
    (c.in_err-group.ensures.only next.0 next.2.0 next.1 next.2.1) c.in_err-group.ensures.refused)

pub loop-preserved : goal.loop-preserved
loop-preserved c =
    let kept = c.loop.invariant in
    let group = c.in_ok-group.group.now in (
      kept.0 ++ group ∷ [],
      c.in_ok-push_rows.ensures.ok ∙ ap (λ l. l ++ rows_in group c.args.pids.now) kept.1
          ∙ simp (flat_map-append, append-nil),
      length_push kept.0 group ∙ ap (λ n. n + 1) kept.2,
      one_more spell SpellsTerm c.args.bytes.now kept.0 c.loop.rest.now kept.3 group _
          c.in_ok-group.ensures.found _ refl,
    )

pub returns-in_err-push_rows-clause-only : goal.returns-in_err-push_rows-clause-only
returns-in_err-push_rows-clause-only c = λ gs later long each whole.
    let passed = c.from_residual-in_err-push_rows in
    let kept = c.loop.invariant in
    let next = left_bytes spell SpellsTerm c.args.bytes.now kept.0 c.loop.rest.now kept.3 gs
    later (omega (arith, kept.2)) each whole in
    let same = c.in_ok-group.ensures.found.only next.0 next.2.0 next.1 next.2.1 in
    lack_of _ passed.result _ passed.ensures.1 (of_all (λ g. rows_in g c.args.pids.now) kept.0 _ gs
    c.in_ok-group.group.now next.0 c.loop.rows.items _ kept.1 same.0 next.2.2
    c.in_err-push_rows.ensures.refused)
