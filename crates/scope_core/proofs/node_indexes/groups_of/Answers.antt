use Rattle.scope_core.proofs
use proofs.Words.{ap, append-nil, append_assoc, arith, false, found, is_gt, key_cmp, subst, sym}
use proofs.Words.{text_cmp, [], ◌++◌, ◌∙◌, ◌∷◌, ◌≡◌}
use proofs.Told.{itself, none_below_first, rises_back, rises_front, Run, run_at}
use proofs.Making.{first_above, Indexes, indexes_next, indexes_none}
use Rattle.scope_core.proofs.node_indexes.groups_of.Goals.{After-split_at}
use proofs.node_indexes.groups_of.Goals as goal

-- the rows of the first group, and those behind them
run : (c : After-split_at)
    → Run c.in_ok-group.group c.loop-first.rest.now c.split_at.result.0.now c.split_at.result.1.now
run c =
    let g = c.in_ok-group.group in
    let rest = c.loop-first.rest.now in
    let first = c.in-Some.first.now in
    let low : is_gt (text_cmp g first.row.group) ≡ false = grind (arith, itself) in
    let none =
    none_below_first g rest first c.in-Some.ensures.value low c.loop-first.invariant.rises in
    run_at g c.run_of.result rest c.split_at.result.0.now c.split_at.result.1.now
    c.loop-first.invariant.rises none
    c.run_of.ensures.run c.run_of.ensures.bound c.run_of.ensures.end c.split_at.ensures.front
    c.split_at.ensures.back c.split_at.ensures.by_index.0

pub members_of-requires : goal.members_of-requires
members_of-requires c = rises_front c.split_at.result.0.now c.split_at.result.1.now
    (run (goal.at.members_of-requires c).After-split_at).rises

pub loop-first-preserved : goal.loop-first-preserved
loop-first-preserved c =
    let g = c.in_ok-group.group in
    let rest = c.loop-first.rest.now in
    let first = c.in-Some.first.now in
    let xs = c.split_at.result.0.now in
    let cs = c.split_at.result.1.now in
    let m = c.in_ok-members_of.field-0 in
    let was = c.loop-first.groups.items in
    let parts = run (goal.at.loop-first-preserved c).After-split_at in
    let above = first_above g rest first c.in-Some.ensures.value c.in_ok-group.ensures in
    let pushed : c.push.new.self.items ≡ was ++ (g, m) ∷ [] = grind arith in
    record {
      rises = rises_back xs cs parts.rises;
      indexes = λ tail indexes. subst (Indexes c.args.rows.now)
          (sym (ap (λ es. es ++ tail) pushed ∙ append_assoc was ((g, m) ∷ []) tail))
          (c.loop-first.invariant.indexes ((g, m) ∷ tail)
          (indexes_next g rest xs cs above parts m c.in_ok-members_of.ensures tail indexes));
    }

pub returns : goal.returns
returns c = λ node own g k.
    let groups = c.loop-first.groups.items in
    let none = indexes_none c.loop-first.rest.now c.in_default.ensures.value in
    let all = rw (append-nil groups) at (c.loop-first.invariant.indexes [] none) in
    ap (λ o. found key_cmp o k) (c.in_ok-map.ensures.found all.apart g) ∙ all.looked node own g k
