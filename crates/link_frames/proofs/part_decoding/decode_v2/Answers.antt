use Rattle.link_frames.proofs
use proofs.Words.{ap, drop, Err, rules, sym, ◌∙◌, ◌≡◌}
use proofs.PartLemmas.{answers_as_read2, spelled_scope2}
use Rattle.link_frames.specs.declared.fault.MessageFault.TheVariants as faults
use Rattle.link_frames.proofs.part_decoding.decode_v2.Goals as goal

pub returns-in_default-clause-value : goal.returns-in_default-clause-value
returns-in_default-clause-value c = answers_as_read2 c.args.body.now (Err faults.BadFrame) tt
    (λ m spelled. search rules)

pub returns-in_err-scope-clause-only : goal.returns-in_err-scope-clause-only
returns-in_err-scope-clause-only c = λ m spelled.
    let scope = spelled_scope2 c.args.body.now m spelled in
    let fault : c.in_err-scope.field-0.0 ≡ faults.OutOfMemory = c.in_err-scope.ensures.only scope.0
    scope.2.0 scope.1 (sym (ap (drop 1) c.in-Some.ensures.cases.0) ∙ scope.2.1) in
    search (rules, fault)

pub returns-in_err-scope-clause-value : goal.returns-in_err-scope-clause-value
returns-in_err-scope-clause-value c = answers_as_read2 c.args.body.now _ (search rules)
    (returns-in_err-scope-clause-only c)

pub returns-clause-value : goal.returns-clause-value
returns-clause-value c = answers_as_read2 c.args.body.now _ (search rules)
    (λ m spelled. search rules)
