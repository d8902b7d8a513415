-- What a node's step says of its answer.
use Rattle.pg_world.proofs
use proofs.Words.{Accepted, ap, arith, Bool, checks, cond, entry_of, Err, Event, false}
use proofs.Words.{first_broken, History, is_full, is_kept, judged, None, not, Ok, refl, Refused}
use proofs.Words.{Reply, Some, sym, true, waiting, with_entry, ℕ, ◌≡◌}
use Rattle.node_core.specs.Step.{IsStepped}
use Rattle.policy_audit.specs.declared.event.Event.TheVariants as event
use Rattle.policy_audit.specs.declared.reply.Reply.TheVariants as reply
use Rattle.policy_audit.specs.declared.rule.Rule.TheVariants as rule
use Rattle.node_core.specs.declared.fault.CoreFault.TheVariants as core_fault

-- a full audit refuses every event, and nothing is entered
pub full_step : (h : History) (seat : ℕ) (e : Event) → is_full h ≡ true
    → IsStepped h seat e h (Err (core_fault.Refused rule.EntriesFull))
unfolding IsStepped
full_step h seat e full = (
  ap (λ b. cond b (Refused rule.EntriesFull) (judged h seat e (first_broken (checks h seat e))))
      full,
  sym (ap (λ b. cond b h (with_entry h (entry_of h seat e))) full),
)

-- where the audit isn't full, memory may be wanting
pub memory_step : (h : History) (seat : ℕ) (e : Event) → is_full h ≡ false
    → IsStepped h seat e h (Err core_fault.OutOfMemory)
unfolding IsStepped
memory_step h seat e space = (space, refl)

module _ (h : History) (seat l : ℕ) (r : Reply) where
  by : (full kept : Bool)
      → cond full (Refused rule.EntriesFull) (judged h seat (event.Take l)
      (cond (not kept) (Some rule.NoSuchLink) None)) ≡ Accepted r
      → (kept ≡ true) × (r ≡ reply.Out (waiting h l))
  by full kept e = grind arith

  -- a Take hands over what waits for a link that is kept
  pub taken : (new : History) → IsStepped h seat (event.Take l) new (Ok r)
      → (is_kept h l ≡ true) × (r ≡ reply.Out (waiting h l))
  unfolding IsStepped
  taken new t = by (is_full h) (is_kept h l) t.0
