-- What monitors that follow the policy say of its answers.
use Rattle.group_monitors.proofs
use proofs.Words.{ap, arith, audit_of, audited, Entry, FollowsPolicy, HasSeen, History, IsSome}
use proofs.Words.{length, List, Monitor, monitor, monitor_of, None, option_map, refl, Some, sym}
use proofs.Words.{target, Update, updates, updates_behind, ℕ, ◌∙◌, ◌≡◌, ◌≤◌}
use Rattle.policy_audit.specs.Checks.{checks, first_broken}
use proofs.Fetched.{answered, seen_all}
use Rattle.policy_audit.specs.declared.event.Event.TheVariants as event
use Rattle.policy_audit.specs.declared.rule.Rule.TheVariants as rule

module _ (h : History) (ms : List (ℕ × Monitor)) (f : FollowsPolicy (audit_of h) ms)
    (seat k : ℕ) where
  -- a monitor of the seat is one of the policy
  is_one : (m : Monitor) → monitor_of ms seat k ≡ Some m
      → monitor (audit_of h) seat k ≡ Some (target m)
  is_one m at = sym (f.found seat k) ∙ ap (option_map target) at

  -- what it is told is the policy's answer
  pub follows_answer : (m : Monitor) → monitor_of ms seat k ≡ Some m
      → updates (audit_of h) seat k ≡ updates_behind (audited h.entries) m
  follows_answer m at = answered (audit_of h) seat k m (is_one m at) (f.places seat k m at)

  -- it has seen no more entries than there are
  pub follows_seen : HasSeen (monitor_of ms seat k) (audited h.entries)
  follows_seen = let seen = λ (m : Monitor) (at : monitor_of ms seat k ≡ Some m). seen_all seat k
      m.place (audited h.entries) (f.places seat k m at) in grind arith

  -- nor than there are later
  pub follows_seen_later : (later : List Entry) → length (audited h.entries) ≤ length later
      → HasSeen (monitor_of ms seat k) later
  follows_seen_later later more = grind (arith, follows_seen)

  -- whether an Updates and a Demonitor of it are refused
  pub follows_refused : monitor_of ms seat k ≡ None
      → (first_broken (checks h seat (event.Updates k)) ≡ Some rule.NoMonitor)
      × (first_broken (checks h seat (event.Demonitor k)) ≡ Some rule.NoMonitor)
  follows_refused none = let none_there : monitor (audit_of h) seat k ≡ None = sym (f.found seat k)
      ∙ ap (option_map target) none in rw none_there (refl, refl)

  pub follows_checked : IsSome (monitor_of ms seat k)
      → (first_broken (checks h seat (event.Updates k)) ≡ None)
      × (first_broken (checks h seat (event.Demonitor k)) ≡ None)
  follows_checked some = grind (arith, is_one)

  -- what is told where there is such a monitor
  pub follows_told : (us : List Update)
      → option_map (updates_behind (audited h.entries)) (monitor_of ms seat k) ≡ Some us
      → (first_broken (checks h seat (event.Updates k)) ≡ None) × (updates (audit_of h) seat k ≡ us)
  follows_told us told = grind (arith, follows_checked, follows_answer)
