use Rattle.otp_edge.proofs
use proofs.Words.{ap, append-nil, arith, length_push, refl, [], ◌++◌, ◌+◌, ◌∙◌, ◌∷◌}
use Rattle.std.proofs.lemmas.Grind.{flat_map-append}
use Rattle.otp_edge.specs.PgMessages.{IsStated, rows_in, stated_bytes}
use proofs.ListLemmas.{left_bytes, none_read, one_more}
use proofs.LackLemmas.{lack_of, of_all}
use Rattle.otp_edge.proofs.stated.entries_at.Goals as goal

pub loop-init : goal.loop-init
loop-init c = ([], c.new-rows.ensures.items, refl, none_read stated_bytes IsStated c.args.bytes.now)

pub returns-in_err-rest-clause-only : goal.returns-in_err-rest-clause-only
returns-in_err-rest-clause-only c = λ ss later long each whole.
    let kept = c.loop.invariant in
    let next = left_bytes stated_bytes IsStated c.args.bytes.now kept.0 c.loop.rest.now kept.3 ss
    later (omega (arith, kept.2)) each whole in
    lack_of _ c.from_residual.result _ c.from_residual.ensures.1
    (of_all (λ s. rows_in s.group s.pids) kept.0 _ ss next.0 next.0 c.loop.rows.items _ kept.1 refl
    next.2.2 (c.in_err-rest.ensures.only next.0 next.2.0 next.1 next.2.1))

pub loop-preserved : goal.loop-preserved
loop-preserved c =
    let kept = c.loop.invariant in
    let found = c.in_ok-rest.ensures.found in (
      kept.0 ++ found.0 ∷ [],
      found.1 ∙ ap (λ l. l ++ rows_in (found.0).group (found.0).pids) kept.1
          ∙ simp (flat_map-append, append-nil),
      length_push kept.0 found.0 ∙ ap (λ n. n + 1) kept.2,
      one_more stated_bytes IsStated c.args.bytes.now kept.0 c.loop.rest.now kept.3 found.0 _
          found.2 _ refl,
    )
