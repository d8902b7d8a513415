use Rattle.node_threads.specs
use Rattle.std.proofs.Common.{ap, arith, Bool, IsTrue, sym, ◌↔◌, ◌∙◌, ◌≡◌}
use Rattle.std.proofs.lemmas.Grind.{common_steps}
use Rattle.policy_audit.specs.declared.entry.Entry.{Entry}
use specs.declared.pass.Call.{Call}
use specs.Calls.{call_of}
use Rattle.node_threads.proofs.close.is_call_of.Goals.{else-call-entry, then-call-entry}
use Rattle.node_threads.proofs.close.is_call_of.Goals as goal

-- a call is that of the entry where number, event and verdict are the same
call_by_parts : (call : Call) (e : Entry) → call.number ≡ e.number → call.event ≡ e.event
    → call.verdict ≡ e.verdict → call ≡ call_of e
call_by_parts call e n v w = λ i. record { number = n i; event = v i; verdict = w i }

by_verdict : (same : Bool) (call : Call) (e : Entry) → call.number ≡ e.number → call.event ≡ e.event
    → (IsTrue same ↔ (call.verdict ≡ e.verdict)) → (IsTrue same ↔ (call ≡ call_of e))
by_verdict same call e n v told =
    (λ t. call_by_parts call e n v (told.0 t), λ is. told.1 (ap (λ (c : Call). c.verdict) is))

pub returns-then-eq : goal.returns-then-eq
returns-then-eq c =
    let call = c.args.call.now in
    let e = c.args.entry.now in
    let verdicts : IsTrue c.eq-then-eq.result ↔ (call.verdict ≡ e.verdict) =
    rw c.eq-then-eq.ensures (c.equal_values.ensures.verdicts call.verdict e.verdict) in
    elim c.if-call-entry.branch [
      | then-call-entry w ↦
          let events : IsTrue w.eq.result ↔ (call.event ≡ e.event) =
          rw w.eq.ensures (c.equal_values.ensures.events call.event e.event) in
          by_verdict c.eq-then-eq.result call e w.if-call-entry.true
          (events.0 (sym w.value-is ∙ c.if-eq.true)) verdicts
      | else-call-entry w ↦ grind (arith, common_steps)
    ]
