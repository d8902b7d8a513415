use Rattle.node_core.proofs
use proofs.Words.{ap, arith, Bool, false, history, is_full, Kept, length, Opening, refl, sym}
use proofs.Words.{◌+◌, ◌<◌, ◌^◌, ◌∙◌, ◌≡◌}
use Rattle.policy_audit.specs.Log.{Log}
use Rattle.policy_audit.proofs.Losses.{made_audited}
use Rattle.node_core.specs.Core.{IsCore}
use proofs.StepAnswers.{core_count, core_keeps, core_limit, core_so, core_space, its_history}
use proofs.StepAnswers.{not_full, step_so, unentered_step}
use proofs.Searched.{scopes_ascend}
use Rattle.node_core.proofs.node.NodeCore.step.Goals.{In_default}
use Rattle.node_core.proofs.node.NodeCore.step.Goals as goal

roomy : {o : Opening} {audit : Log} {kept : Kept} {room : Bool} → IsCore o audit kept
    → IsCore o (record {
      limit = audit.limit;
      entries = audit.entries;
      forgotten = audit.forgotten;
      has_room = room;
    }) kept
roomy core = record {
  within = core.within;
  legal = core.legal;
  had = core.had;
  reach = core.reach;
  follows = core.follows;
}

-- room leaves the entries as they are
core : (c : In_default)
    → IsCore c.self.inside.kept.opening c.make_room.new.self c.self.inside.kept
core c = rw c.in_default.ensures.ok.1 (roomy c.self.invariant)

-- so the history stays, which isn't full
same : (c : In_default)
    → history c.self.inside.kept.opening c.self.inside.audit.entries
    ≡ history c.self.inside.kept.opening c.make_room.new.self.entries
same c = ap (λ a. history c.self.inside.kept.opening a.entries) (sym c.in_default.ensures.ok.1)

space : (c : In_default)
    → is_full (history c.self.inside.kept.opening c.make_room.new.self.entries) ≡ false
space c =
    not_full c.self.inside.audit (history c.self.inside.kept.opening c.make_room.new.self.entries)
    (core_count c.self.invariant (same c)) (core_limit c.self.invariant (same c))
    c.in_default.ensures.ok.0

pub returns-in-Err-clause-stepped : goal.returns-in-Err-clause-stepped
returns-in-Err-clause-stepped c =
    let now = its_history c.self.view_is in
    rw c.from.ensures
    (unentered_step _ (core_count c.self.invariant now) (core_limit c.self.invariant now)
    (ap (λ a. history c.self.inside.kept.opening a.entries) c.in-Err.ensures.same ∙ now)
    c.args.seat c.args.event c.in-Err.fault c.in-Err.ensures.refused)

pub returns-in-Err-clause-forgotten : goal.returns-in-Err-clause-forgotten
returns-in-Err-clause-forgotten c =
    ap (λ a. a.forgotten) c.in-Err.ensures.same ∙ ap (λ node. node.forgotten) c.self.view_is

-- so the next number fits its type
fits : (c : In_default) → length c.make_room.new.self.entries + 1 < 2 ^ 32
fits c = core_space (core c) refl (space c)

pub overflow_cast-number : goal.overflow_cast-number
overflow_cast-number c =
    let fits = fits (goal.at.overflow_cast-number c).In_default in
    let is = c.len.ensures in
    omega arith

pub overflow_add-number : goal.overflow_add-number
overflow_add-number c =
    let fits = fits (goal.at.overflow_add-number c).In_default in
    let is = c.len.ensures in
    omega arith

pub shared-event-requires : goal.shared-event-requires
shared-event-requires c = scopes_ascend c.self.invariant.follows

pub answer-answered-requires : goal.answer-answered-requires
answer-answered-requires c =
    let entered = (goal.at.answer-answered-requires c).In_default in (
      record {
        called = record { keeps = core_keeps (core entered); space = space entered };
        seat_is = refl;
        number_is = ap (λ n. n + 1) (c.len.ensures ∙ sym (core_count (core entered) refl));
      },
      (
        sym (made_audited c.self.inside.kept.opening c.make_room.new.self.entries
            (core entered).legal),
        (core entered).reach,
      ),
    )

pub invariant_of-self-2 : goal.invariant_of-self-2
invariant_of-self-2 c =
    let entered = (goal.at.invariant_of-self-2 c).In_default in
    core_so c.self.inside.kept.opening _ (core entered).legal c.args.seat c.shared-event.result
    c.answer-answered.new.self
    c.answer-answered.result c.answer-answered.ensures c.enter.ensures.entries
    (c.enter.ensures.limit.0 ∙ ap (λ a. a.limit) c.in_default.ensures.ok.1
    ∙ c.self.invariant.within)
    (rw c.enter.ensures.limit.1 (core entered).had)
    (rw c.enter.ensures.limit.1 (core entered).reach)

pub returns-clause-stepped : goal.returns-clause-stepped
returns-clause-stepped c =
    let entered = (goal.at.returns-clause-stepped c).In_default in
    step_so c.self.inside.kept.opening _ (core entered).legal c.args.seat c.shared-event.result
    c.answer-answered.new.self
    c.answer-answered.result c.answer-answered.ensures c.enter.ensures.entries
    (space entered) (sym (same entered) ∙ its_history c.self.view_is) c.shared-event.ensures
    c.enter.ensures.reply

pub returns-clause-forgotten : goal.returns-clause-forgotten
returns-clause-forgotten c =
    c.enter.ensures.limit.1 ∙ ap (λ a. a.forgotten) c.in_default.ensures.ok.1
    ∙ ap (λ node. node.forgotten) c.self.view_is
