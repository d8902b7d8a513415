use Rattle.scope_core.proofs
use proofs.Words
use Words.{ap, append-nil, append_assoc, arith, change_unless_empty, subst, sym, [], ◌++◌, ◌∙◌, ◌≡◌}
use proofs.Told.{pids, rises_back, Run, run_at, some_run, Told, told_next, told_none}
use Rattle.scope_core.proofs.changes.changes_of.Goals.{After-split_at-in-Some}
use proofs.changes.changes_of.Goals as goal

-- those that leave the lowest group, and those that leave the others
gone : (c : After-split_at-in-Some)
    → Run c.in-Some.group.now c.loop-group.left.now c.split_at.result.0.now c.split_at.result.1.now
gone c =
    let run = c.run_of in
    let parts = c.split_at in
    run_at c.in-Some.group.now run.result c.loop-group.left.now parts.result.0.now
    parts.result.1.now
    c.loop-group.invariant.left c.in-Some.ensures.gone run.ensures.run run.ensures.bound
    run.ensures.end parts.ensures.front parts.ensures.back parts.ensures.by_index.0

-- and those that join them
joined : (c : After-split_at-in-Some)
    → Run c.in-Some.group.now c.loop-group.more.now c.split_at-in-Some.result.0.now
    c.split_at-in-Some.result.1.now
joined c =
    let run = c.run_of-in-Some in
    let parts = c.split_at-in-Some in
    run_at c.in-Some.group.now run.result c.loop-group.more.now parts.result.0.now
    parts.result.1.now
    c.loop-group.invariant.more c.in-Some.ensures.joined run.ensures.run run.ensures.bound
    run.ensures.end parts.ensures.front parts.ensures.back parts.ensures.by_index.0

pub loop-group-smaller : goal.loop-group-smaller
loop-group-smaller c =
    let g = c.in-Some.group.now in
    let one = c.split_at in
    let two = c.split_at-in-Some in
    let at = (goal.at.loop-group-smaller c).After-split_at-in-Some in
    let some =
    some_run g c.loop-group.left.now c.loop-group.more.now one.result.0.now one.result.1.now
    two.result.0.now two.result.1.now (gone at) (joined at) c.in-Some.ensures.some in
    omega arith

pub loop-group-preserved : goal.loop-group-preserved
loop-group-preserved c =
    let g = c.in-Some.group.now in
    let xs = c.split_at.result.0.now in
    let cs = c.split_at.result.1.now in
    let ys = c.split_at-in-Some.result.0.now in
    let ds = c.split_at-in-Some.result.1.now in
    let was = c.loop-group.changes.items in
    let one = change_unless_empty g (pids xs) (pids ys) in
    let at = (goal.at.loop-group-preserved c).After-split_at-in-Some in
    let pushed : c.push_change.new.changes.items ≡ was ++ one = grind arith in
    record {
      left = rises_back xs cs (gone at).rises;
      more = rises_back ys ds (joined at).rises;
      told = λ rest told. subst (Told c.args.gone.now c.args.joined.now)
          (sym (ap (λ ks. ks ++ rest) pushed ∙ append_assoc was one rest))
          (c.loop-group.invariant.told (one ++ rest)
          (told_next g c.loop-group.left.now c.loop-group.more.now xs cs ys ds (gone at) (joined at)
          rest told));
    }

pub returns : goal.returns
returns c =
    let none = told_none c.loop-group.left.now c.loop-group.more.now c.in_default.ensures.none.0
    c.in_default.ensures.none.1 in
    (subst (Told c.args.gone.now c.args.joined.now) (append-nil c.loop-group.changes.items)
    (c.loop-group.invariant.told [] none)).tells
