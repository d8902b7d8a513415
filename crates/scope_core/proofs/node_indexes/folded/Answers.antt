use Rattle.scope_core.proofs
use proofs.Words.{refl, subst, sym}
use proofs.Copies.{Folds, folds_all, folds_next, name_run}
use proofs.node_indexes.folded.Goals as goal

pub loop-first-init : goal.loop-first-init
loop-first-init c = subst (Folds c.args.names.now c.args.names.now) (sym c.in_ok-all.ensures.items)
    (record { ascends = c.requires; rises = tt; below = tt; held = λ k g. refl })

pub loop-first-preserved : goal.loop-first-preserved
loop-first-preserved c =
    let rest = c.loop-first.rest.now in
    let run = c.split_at.result.0.now in
    let others = c.split_at.result.1.now in
    let first = c.in-Some.first.now in
    let named = name_run first c.run_under.result rest run others c.in-Some.ensures.value
    c.loop-first.invariant.ascends c.run_under.ensures.run c.run_under.ensures.bound
    c.run_under.ensures.end c.split_at.ensures.front c.split_at.ensures.back
    c.split_at.ensures.by_index.0 in
    subst (Folds c.args.names.now others) (sym c.in_ok-push.ensures.items)
    (folds_next first.0 c.args.names.now rest run others c.loop-first.all.items
    c.in_ok-names_in.field-0 named c.in_ok-names_in.ensures c.loop-first.invariant)

pub returns : goal.returns
returns c = record {
  rises = c.loop-first.invariant.rises;
  held = folds_all c.args.names.now c.loop-first.rest.now c.loop-first.all.items
      c.in_default.ensures.value c.loop-first.invariant;
}
