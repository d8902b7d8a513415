-- What an event with which links may end changes by itself: of peers' rows none, but in a scope
-- that stops; and no monitors, but those of that scope.
use Rattle.node_core.proofs
use proofs.Words.{Accepted, ap, arith, audit_of, Change, cond, Entry, Event, false, follows_dropped}
use proofs.Words.{History, IsPlayed, IsStep, just, List, listed, Pid, refl, Reply, same, same_sym}
use proofs.Words.{stopped_lists, subst, sym, ℕ, ◌∙◌, ◌≡◌}
use Rattle.group_monitors.specs.declared.monitor.Monitor.{Monitor}
use Rattle.group_monitors.specs.Follows.{concerns_monitors, FollowsPolicy}
use Rattle.group_monitors.specs.Monitors.{without_scope}
use Rattle.policy_audit.proofs.RowsAfter.{started_rows, stopped_rows}
use proofs.Entered.{audit_next, made}
use proofs.LostChanges.{LeavesPeers}
use proofs.SlowLinks.{audit_with, monitors_still}

module _ (h : History) (seat : ℕ) where
  abbrev done : Event → List Change → Entry
  done ev cs = made h seat ev (Accepted Reply.Done) cs

  -- ---- rows

  module _ (cs : List Change) where
    pub exit_leaves : (q : Pid) → LeavesPeers h (just h (done (Event.Exit q) cs)) (λ u. false)
    exit_leaves q = record {
      peers = λ u f p far. grind (arith, far);
      others = λ u f p none. stopped_lists (just h (done (Event.Exit q) cs)) u f p none;
    }

    pub join_leaves : (s g : List ℕ) (ps : List Pid)
        → LeavesPeers h (just h (done (Event.Join s g ps) cs)) (λ u. false)
    join_leaves s g ps = record {
      peers = λ u f p far. grind (arith, far);
      others = λ u f p none. stopped_lists (just h (done (Event.Join s g ps) cs)) u f p none;
    }

    pub leave_leaves : (s g : List ℕ) (ps : List Pid)
        → LeavesPeers h (just h (done (Event.Leave s g ps) cs)) (λ u. false)
    leave_leaves s g ps = record {
      peers = λ u f p far. grind (arith, far);
      others = λ u f p none. stopped_lists (just h (done (Event.Leave s g ps) cs)) u f p none;
    }

    module _ (played : IsPlayed h) (s : List ℕ) where
      pub start_leaves : IsStep h (done (Event.StartScope s) cs)
          → LeavesPeers h (just h (done (Event.StartScope s) cs)) (λ u. false)
      start_leaves its =
          let same_rows = started_rows h played (done (Event.StartScope s) cs) its refl s refl in
          record {
            peers = λ u f p far. same_rows u f p;
            others = λ u f p none. same_rows u f p ∙ stopped_lists h u f p none;
          }

      pub stop_leaves : IsStep h (done (Event.StopScope s) cs)
          → LeavesPeers h (just h (done (Event.StopScope s) cs)) (λ u. same s u)
      stop_leaves its =
          let rows = stopped_rows h played (done (Event.StopScope s) cs) its refl s refl in
          record {
            peers = λ u f p far. rows u f p ∙ ap (λ b. cond b 0 (listed h u f p)) (same_sym u s);
            others = λ u f p none. rows u f p
                ∙ ap (cond (same u s) 0) (stopped_lists h u f p none) ∙ (grind arith);
          }

  -- ---- monitors

  module _ (ms : List (ℕ × Monitor)) (t : FollowsPolicy (audit_of h) ms) where
    pub monitors_stay : (ev : Event) → concerns_monitors ev ≡ false
        → (cs : List Change) → FollowsPolicy (audit_of (just h (done ev cs))) ms
    monitors_stay ev quiet cs = monitors_still h seat ev (Accepted Reply.Done) cs ms t quiet

    pub monitors_drop : (s : List ℕ) (cs : List Change)
        → FollowsPolicy (audit_of (just h (done (Event.StopScope s) cs))) (without_scope s ms)
    monitors_drop s cs =
        subst (λ k. FollowsPolicy k (without_scope s ms))
        (sym (audit_with h seat (Event.StopScope s) (Accepted Reply.Done) cs))
        (follows_dropped (audit_of h) (done (Event.StopScope s) cs) ms (audit_next h) t refl s refl)
