use Rattle.node_core.proofs
use proofs.Words.{all_frames, append-nil, AreExits, arith, cond, exit_frames, is_empty, IsOwnScope}
use proofs.Words.{local_total, not, subst, sym, take, take_all, take_more, vec_len, [], ◌++◌, ◌∙◌}
use proofs.Words.{◌∷◌, ◌≡◌, ◌≤◌}
use proofs.Exited.{exits_on}
use proofs.Partings.{none_by}
use Rattle.scope_core.proofs.Outcomes.{on_err}
use proofs.KeptOn.{each_at}
use proofs.OwnLimits.{limit_again}
use proofs.Told.{prepared_bare}
use proofs.telling.prepare_exit.Goals as goal

pub exit_one-requires : goal.exit_one-requires
exit_one-requires c =
    let one = each_at (IsOwnScope c.args.pid.now.node c.args.links.now.items) c.args.scopes.now
    c.loop-running.running-index c.running-item.result c.requires c.loop-running-test.true in
    let here = subst (IsOwnScope c.args.pid.now.node c.args.links.now.items)
    (sym c.running-item.is) one in
    record {
      own = here.own;
      few = subst (λ n. local_total c.running-item.result.table ≤ n)
          (sym (limit_again c.running-item.result.told.items c.args.links.now.items
          c.loop-running.links.items
          (prepared_bare (all_frames (take c.loop-running.running-index c.args.scopes.now)
          c.loop-running.invariant.all) c.args.links.now.items c.loop-running.links.items
          c.loop-running.invariant.links)))
          here.few;
    }

pub returns-in_err-groups-clause-same : goal.returns-in_err-groups-clause-same
returns-in_err-groups-clause-same c =
    on_err _ (c.in_err-groups.ensures.same
    ∙ prepared_bare (all_frames (take c.loop-running.running-index c.args.scopes.now)
    c.loop-running.invariant.all) c.args.links.now.items c.loop-running.links.items
    c.loop-running.invariant.links)

pub returns-in_err-try_clone-clause-same : goal.returns-in_err-try_clone-clause-same
returns-in_err-try_clone-clause-same c = on_err _ (
    prepared_bare (exit_frames c.running-item.result c.in_ok-groups.groups.items)
    c.loop-running.links.items c.exit_one.new.links.items c.in_ok-groups.ensures.told
    ∙ prepared_bare (all_frames (take c.loop-running.running-index c.args.scopes.now)
    c.loop-running.invariant.all) c.args.links.now.items c.loop-running.links.items
    c.loop-running.invariant.links)

pub returns-in_err-push-clause-same : goal.returns-in_err-push-clause-same
returns-in_err-push-clause-same c = on_err _ (
    prepared_bare (exit_frames c.running-item.result c.in_ok-groups.groups.items)
    c.loop-running.links.items c.exit_one.new.links.items c.in_ok-groups.ensures.told
    ∙ prepared_bare (all_frames (take c.loop-running.running-index c.args.scopes.now)
    c.loop-running.invariant.all) c.args.links.now.items c.loop-running.links.items
    c.loop-running.invariant.links)

pub loop-running-preserved : goal.loop-running-preserved
loop-running-preserved c =
    let more = take_more c.args.scopes.now c.loop-running.running-index c.running-item.result
    c.loop-running-test.true in
    let groups = c.in_ok-groups.groups.items in
    let none = sym (none_by groups (vec_len c.in_ok-groups.groups)
    (omega (arith, c.in_ok-groups.groups.ok))) ∙ sym c.is_empty.ensures in
    let grown : c.if-not-is_empty.changes.items
    ≡ c.loop-running.changes.items ++ cond (not (is_empty groups))
    (record { scope = c.running-item.result.scope; groups = groups } ∷ []) [] =
    grind (arith, none, append-nil c.loop-running.changes.items, c.if-not-is_empty.branch) in
    rw (more, ← c.running-item.is)
    (exits_on c.args.pid.now (take c.loop-running.running-index c.args.scopes.now)
    c.running-item.result c.args.links.now.items c.loop-running.links.items
    c.exit_one.new.links.items
    c.loop-running.changes.items c.if-not-is_empty.changes.items groups c.loop-running.invariant
    c.in_ok-groups.ensures.groups c.in_ok-groups.ensures.told grown)

pub returns-clause-told : goal.returns-clause-told
returns-clause-told c =
    subst (λ rs. AreExits c.args.pid.now rs c.args.links.now.items c.loop-running.links.items
    c.loop-running.changes.items) (take_all _ _ c.loop-running-test.false) c.loop-running.invariant
