-- What an answered call adds to its pass.
use Rattle.node_threads.specs
use Rattle.std.proofs.Common.{ap, append-nil, append_assoc, arith, Bool, cond, Err, false, inl, inr}
use Rattle.std.proofs.Common.{List, Ok, refl, Result, Some, subst, sym, true, ℕ, []}
use Rattle.std.proofs.Common.{◌&&◌, ◌++◌, ◌∙◌, ◌∷◌, ◌≡◌, ◌≢◌, ◌⊎◌}
use Rattle.policy_audit.specs.declared.event.Event.{Event}
use Rattle.policy_audit.specs.declared.event.Event.TheVariants.{Frame, Lost}
use Rattle.policy_audit.specs.declared.reply.Reply.{Reply}
use Rattle.policy_audit.specs.declared.rule.Rule.{Rule}
use Rattle.policy_audit.specs.declared.rule.Rule.TheVariants.{EntriesFull}
use Rattle.policy_audit.specs.declared.entry.Verdict.{Verdict}
use Rattle.policy_audit.specs.History.{History}
use Rattle.policy_audit.specs.Sides.{Awaited, AwaitName, awaits}
use Rattle.policy_audit.specs.Checks.{Check, checks, first_broken, frame_checks}
use Rattle.policy_audit.specs.Policy.{is_full, judged, next_number}
use Rattle.node_core.specs.declared.fault.CoreFault.TheVariants.{OutOfMemory, Refused}
use specs.declared.fault.CallFault.{CallFault}
use specs.declared.fault.CallFault.TheVariants.{Core, StrangePass}
use specs.declared.ends.ReadEnd.{ReadEnd}
use specs.declared.pass.Call.{Call}
use specs.Applied.{Called, with_call}
use specs.Calls.{Gains, is_up_answer, is_up_reply, Record}
use specs.Ends.{end_of, read_end_after}
use specs.Entered.{EndsAt, Enters, is_entered, verdict_in}
use specs.Reading.{Gave}
use specs.declared.retreat.RetreatStep.{RetreatStep}
use specs.Retreat.{GivesUp, Leaves, step_after}
use Rattle.policy_audit.specs.declared.event.Event.TheVariants as event
use Rattle.policy_audit.specs.declared.entry.Verdict.TheVariants as verdicts
use specs.declared.ends.ReadEnd.TheVariants as ends
use specs.declared.retreat.RetreatStep.TheVariants as steps

-- where it let none go meanwhile
gains_still : (p p' : Record) (more : List Call) →
    p' ≡ record { seat = p.seat; calls = p.calls ++ more; gone = p.gone } → Gains p more p'
gains_still p p' more is =
    let same : p.gone ≡ p'.gone = sym (ap (λ (q : Record). q.gone) is) in
    is ∙ ap (λ n. record { seat = p.seat; calls = p.calls ++ more; gone = n }) same

pub gains_none : (p p' : Record) → p' ≡ p → Gains p [] p'
gains_none p p' is =
    gains_still p p' [] (is ∙ ap (λ cs. record { seat = p.seat; calls = cs; gone = p.gone })
    (sym (append-nil p.calls)))

pub gains_more : (p mid p' : Record) (xs ys : List Call) → Gains p xs mid → Gains mid ys p' →
    Gains p (xs ++ ys) p'
gains_more p mid p' xs ys first then =
    then
    ∙ ap (λ (q : Record). record { seat = q.seat; calls = q.calls ++ ys; gone = p'.gone }) first
    ∙ ap (λ cs. record { seat = p.seat; calls = cs; gone = p'.gone }) (append_assoc p.calls xs ys)

-- and then has let calls go
pub gains_lighter : (p mid p' : Record) (xs : List Call) → Gains p xs mid → Gains mid [] p' →
    Gains p xs p'
gains_lighter p mid p' xs first then =
    subst (λ cs. Gains p cs p') (append-nil xs) (gains_more p mid p' xs [] first then)

-- the pass has gained a call of this event, with this verdict
abbrev pub Adds : Record → Event → Verdict → Record → Type 0
Adds p e v p' = (c : Call) × (c.event ≡ e) × (c.verdict ≡ v) × Gains p (c ∷ []) p'

-- none of the checks has the rule EntriesFull
abbrev all_entered : List Check → Bool
all_entered [] = true
all_entered (c ∷ cs) = is_entered c.rule && all_entered cs

-- a verdict that isn't a refusal by EntriesFull
abbrev is_entry : Verdict → Bool
is_entry (verdicts.Accepted reply) = true
is_entry (verdicts.Refused rule) = is_entered rule

module _ (h : History) (seat : ℕ) where
  frame_entered : (l : ℕ) (body : List ℕ) (a : Awaited) →
      all_entered (frame_checks h l body a) ≡ true
  frame_entered l body AwaitName = grind arith
  frame_entered l body a = grind arith

  checks_entered : (e : Event) → all_entered (checks h seat e) ≡ true
  checks_entered (event.Frame l body) = grind (arith, frame_entered l body (awaits l h.entries))
  checks_entered e = refl

  judged_entered : (e : Event) (cs : List Check) → all_entered cs ≡ true →
      is_entry (judged h seat e (first_broken cs)) ≡ true
  judged_entered e [] q = refl
  judged_entered e (c ∷ cs) q = grind (arith, judged_entered e cs, q)

-- the rule that makes no entry
no_entry : (rule : Rule) → is_entered rule ≡ false → rule ≡ EntriesFull
no_entry EntriesFull q = refl
no_entry rule q = cc

module _ (p p' : Record) (e : Event) where
  -- what an answer adds whose verdict is the policy's: a call, unless the audit was full
  answered : (h : History) (v : Verdict) (b : Bool) →
      v ≡ cond b (verdicts.Refused EntriesFull) (judged h p.seat e
      (first_broken (checks h p.seat e))) →
      p' ≡ cond b p (with_call p (next_number h) e v) →
      ((p' ≡ p) × (is_entry v ≡ false)) ⊎ (Adds p e v p' × (is_entry v ≡ true))
  answered h v true policy is = inl (is, ap is_entry policy)
  answered h v false policy is = inr (
    (
      record { number = next_number h; event = e; verdict = v },
      refl,
      refl,
      gains_still p p' (record { number = next_number h; event = e; verdict = v } ∷ []) is,
    ),
    ap is_entry policy ∙ judged_entered h p.seat e (checks h p.seat e) (checks_entered h p.seat e),
  )

  -- an accepted event is an entry
  pub accepted : (reply : Reply) → Called p e (Ok reply) p' → Adds p e (verdicts.Accepted reply) p'
  accepted reply called =
      let v = verdicts.Accepted reply in
      let h = called.0.history in
      elim (answered h v (is_full h) called.4.policy called.4.pass_is) [
        | inl full ↦ let wrong : true ≡ false = full.1 in cc
        | inr a ↦ a.0
      ]

  -- a refused one is, too, unless the audit was full
  refused_entry : (rule : Rule) → Called p e (Err (Core (Refused rule))) p' →
      ((p' ≡ p) × (is_entered rule ≡ false))
      ⊎ (Adds p e (verdicts.Refused rule) p' × (is_entered rule ≡ true))
  refused_entry rule called =
      let h = called.0.history in
      answered h (verdicts.Refused rule) (is_full h) called.4.policy called.4.pass_is

  pub refused : (rule : Rule) → Called p e (Err (Core (Refused rule))) p' →
      ((p' ≡ p) × (rule ≡ EntriesFull)) ⊎ Adds p e (verdicts.Refused rule) p'
  refused rule called = elim (refused_entry rule called) [
    | inl full ↦ inl (full.0, no_entry rule full.1)
    | inr a ↦ inr a.0
  ]

  -- want of memory leaves the pass
  pub unheard : Called p e (Err (Core OutOfMemory)) p' → p' ≡ p
  unheard called = called.4.2.pass_is

  -- so does a pass of another node
  pub strange : Called p e (Err StrangePass) p' → p' ≡ p
  strange called = called.4.1.pass_is

  -- what any answer tells of the pass
  pub enters : (answer : Result Reply CallFault) → Called p e answer p' →
      (more : List Call) × Enters p e answer more p'
  enters (Ok reply) called =
      let a = accepted reply called in
      (a.0 ∷ [], record { called = called; entry = (a.0, refl, a.1, a.2); gains = a.3 })
  enters (Err StrangePass) called =
      ([], record { called = called; entry = refl; gains = gains_none p p' (strange called) })
  enters (Err (Core OutOfMemory)) called =
      ([], record { called = called; entry = refl; gains = gains_none p p' (unheard called) })
  enters (Err (Core (Refused rule))) called = elim (refused_entry rule called) [
    | inl full ↦
        ([], record { called = called; entry = rw full.1 refl; gains = gains_none p p' full.0 })
    | inr a ↦
        let c = a.0.0 in (
          c ∷ [],
          record { called = called; entry = rw a.1 (c, refl, a.0.1, a.0.2); gains = a.0.3 },
        )
  ]

-- the entry of a fault is a refusal
pub fault_refuses : (fault : CallFault) (v : Verdict) → verdict_in (Err fault) ≡ Some v →
    (rule : Rule) × (v ≡ verdicts.Refused rule)
fault_refuses StrangePass v q = cc
fault_refuses (Core OutOfMemory) v q = cc
fault_refuses (Core (Refused rule)) v q = (rule, grind arith)

-- one call without a reply
pub ends_at : {e : Event} {fault : CallFault} {p : Record} {more : List Call} {p' : Record} →
    Enters p e (Err fault) more p' → EndsAt e fault p more p'
ends_at {p} {more} enters = record {
  earlier = [];
  mid = p;
  last = more;
  calls_are = refl;
  before = gains_none p p refl;
  enters = enters;
}

-- what comes after earlier calls
pub ends_then : {e : Event} {fault : CallFault} {mid p' : Record} {ys : List Call} (p : Record)
    (xs : List Call) → Gains p xs mid → EndsAt e fault mid ys p' → EndsAt e fault p (xs ++ ys) p'
ends_then {mid} p xs gains ends = record {
  earlier = xs ++ ends.earlier;
  mid = ends.mid;
  last = ends.last;
  calls_are = ap (λ cs. xs ++ cs) ends.calls_are ∙ sym (append_assoc xs ends.earlier ends.last);
  before = gains_more p mid ends.mid xs ends.earlier gains ends.before;
  enters = ends.enters;
}

-- ---- a frame

module _ (link : ℕ) (body : List ℕ) (done : Bool) (p p' : Record) where
  pub gave_reply : (reply : Reply) (up : Bool) → up ≡ is_up_reply reply →
      Called p (Frame link body) (Ok reply) p' → Gave link body done p (Ok up) p'
  gave_reply reply up is called =
      let a = accepted p p' (Frame link body) reply called in
      (a.0, a.1, ap is_up_answer a.2 ∙ sym is, a.3)

  pub gave_end : (fault : CallFault) (stop : ReadEnd) → end_of fault done ≡ Some stop →
      Called p (Frame link body) (Err fault) p' → Gave link body done p (Err stop) p'
  gave_end fault stop is called =
      let all = enters p p' (Frame link body) (Err fault) called in (fault, all.0, all.1, is)

-- where a Lost isn't called again it is the last, whatever was wanting before
last_step : (tries : ℕ) (answer : Result Reply CallFault) → step_after tries answer ≢ steps.Again →
    step_after tries answer ≡ step_after 63 answer
last_step tries (Err (Core OutOfMemory)) other = grind (arith, other)
last_step tries (Err (Core (Refused EntriesFull))) other = refl
last_step tries (Err (Core (Refused rule))) other = refl
last_step tries (Err StrangePass) other = refl
last_step tries (Ok reply) other = refl

-- the last Lost
pub gives_up : (link : ℕ) (p p' : Record) (tries : ℕ) (answer : Result Reply CallFault)
    (step : RetreatStep) → Called p (Lost link) answer p' → step ≡ step_after tries answer →
    step ≢ steps.Again → (lost : List Call) × GivesUp link p lost step p'
gives_up link p p' tries answer step called is other =
    let all = enters p p' (Lost link) answer called in
    let last = last_step tries answer (subst (λ s. s ≢ steps.Again) is other) in
    (all.0, record { answer = answer; enters = all.1; step_is = is ∙ last })

-- what a worker that leaves its link adds
pub leaves_gains : (link : ℕ) (b : Bool) (p : Record) (lost : List Call) (step : RetreatStep)
    (p' : Record) → Leaves link b p lost step p' → Gains p lost p'
leaves_gains link true p lost step p' leaves = leaves.enters.gains
leaves_gains link false p lost step p' leaves = rw leaves.0 (gains_none p p' leaves.2)

-- a reader that tells that the bytes have ended has stopped at their end
pub stop_closed : (step : RetreatStep) (stop : ReadEnd) → read_end_after step stop ≡ ends.Closed →
    stop ≡ ends.Closed
stop_closed steps.Stuck stop q = cc
stop_closed steps.Full stop q = cc
stop_closed steps.Again stop q = q
stop_closed steps.Settled stop q = q
