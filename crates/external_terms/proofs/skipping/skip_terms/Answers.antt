use Rattle.external_terms.proofs
use proofs.Words.{arith, IsHead, IsTermFault, rules, SpellsTerms, subst, suc, sym, ◌-◌, ◌<◌, ◌^◌}
use proofs.Words.{◌∙◌, ◌≡◌}
use proofs.TermLemmas.{all_skipped, fault_not_found, goes_on, head_fault, head_has_bytes, one_end}
use proofs.TermLemmas.{Same, skip_parts, used_more}
use Rattle.external_terms.proofs.skipping.skip_terms.Goals as goal

pub returns-in_err-inside-clause-refused : goal.returns-in_err-inside-clause-refused
returns-in_err-inside-clause-refused c =
    let left = c.loop-due.due - 1 in
    let one : c.loop-due.due ≡ suc (c.loop-due.due - 1) = omega (arith, c.loop-due-test.true) in
    let fault : IsTermFault c.in_err-inside.field-0.0 (SpellsTerms c.args.count) c.args.bytes.now =
    head_fault c.in_err-inside.field-0.0 c.args.count left c.args.bytes.now c.loop-due.rest.now
    (subst (λ n. Same n c.loop-due.rest.now c.args.count c.args.bytes.now) one
    c.loop-due.invariant.same)
    c.in_err-inside.ensures.refused in
    search (rules, fault)

pub returns-in_err-inside-clause-only : goal.returns-in_err-inside-clause-only
returns-in_err-inside-clause-only c = λ terms rest spelled is.
    let left = c.loop-due.due - 1 in
    let one : c.loop-due.due ≡ suc (c.loop-due.due - 1) = omega (arith, c.loop-due-test.true) in
    let fault : IsTermFault c.in_err-inside.field-0.0 (SpellsTerms c.args.count) c.args.bytes.now =
    head_fault c.in_err-inside.field-0.0 c.args.count left c.args.bytes.now c.loop-due.rest.now
    (subst (λ n. Same n c.loop-due.rest.now c.args.count c.args.bytes.now) one
    c.loop-due.invariant.same)
    c.in_err-inside.ensures.refused in
    absurd (fault_not_found c.args.count c.args.bytes.now terms rest c.in_err-inside.field-0.0 fault
    spelled is)

pub loop-due-preserved : goal.loop-due-preserved
loop-due-preserved c =
    let head = c.in_ok-inside.ensures.found in
    let kept = c.loop-due.invariant in
    let left = c.loop-due.due - 1 in
    let one : c.loop-due.due ≡ suc (c.loop-due.due - 1) = omega (arith, c.loop-due-test.true) in
    let inside : c.from.result ≡ c.in_ok-inside.inside = c.from.ensures in
    record {
      same = goes_on c.args.count c.loop-due.due left c.from.result c.args.bytes.now
          c.loop-due.rest.now head.0
          c.in_ok-inside.behind.now (subst (IsHead head.0) (sym inside) head.1) head.2 one
          kept.same;
      used = used_more c.args.count c.loop-due.due left c.from.result c.args.bytes.now kept.used.0
          c.loop-due.rest.now
          head.0 c.in_ok-inside.behind.now kept.used.1 head.2 kept.used.2 one
          (subst (λ n. n < 2 ^ 41) (sym inside) c.in_ok-inside.ensures.few)
          (head_has_bytes head.0 c.in_ok-inside.inside head.1);
    }

pub returns-clause-found : goal.returns-clause-found
returns-clause-found c =
    let begins = all_skipped c.args.count c.loop-due.due c.args.bytes.now c.loop-due.rest.now
    (omega (arith, c.loop-due-test.false)) c.loop-due.invariant.same in
    skip_parts c.args.count c.args.bytes.now c.loop-due.rest.now c.split_at.result.0.now
    c.split_at.result.1.now _ begins
    (omega arith) c.split_at.ensures.front c.split_at.ensures.back

pub returns-clause-only : goal.returns-clause-only
returns-clause-only c = λ terms rest spelled is.
    let found = returns-clause-found c in
    one_end c.args.count c.split_at.result.0.now terms c.split_at.result.1.now rest found.0 spelled
    (sym found.1 ∙ is)
