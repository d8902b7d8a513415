-- What monitors have still to be told stays kept.
use Rattle.group_monitors.proofs
use proofs.Words.{ap, arith, cases_lt, Entry, FollowsPolicy, History, inl, inr, IsDistinct-tail}
use proofs.Words.{IsNumbered, keys_of, length, List, Monitor, monitor_of, nat_eq, nat_tests, None}
use proofs.Words.{Option, option_map, refl, Some, sym, Target, target, true, ℕ, [], ◌∙◌, ◌∷◌, ◌≡◌}
use proofs.Words.{◌≤◌, ◌⊎◌}
use proofs.Found.{later_found}
use Rattle.std.specs.Bool.{nat_le}
use Rattle.std.specs.List.{list_all}
use Rattle.policy_audit.specs.History.{is_accepted, present}
use Rattle.policy_audit.specs.Monitors.{monitor_in, watched}
use Rattle.group_monitors.specs.Follows.{Reaches}
use proofs.Fetched.{last_before, last_once}

-- the monitor was there before the entry, or is made by it
came : (seat k : ℕ) (t : Target) (e : Entry) (es : List Entry)
    → monitor_in seat k (present (e ∷ es)) ≡ Some t
    → (monitor_in seat k (present es) ≡ Some t)
    ⊎ ((is_accepted e.verdict ≡ true) × (e.number ≡ k) × (watched e.event ≡ Some t))
came seat k t e es at = grind arith

pub reach_start : Reaches 0 []
reach_start seat k place t is last = omega arith

-- one more entry leaves it so
pub reach_after : (e : Entry) (es : List Entry) (forgotten : ℕ) → forgotten ≤ length es
    → Reaches forgotten es → Reaches forgotten (e ∷ es)
reach_after e es forgotten few reach seat k place t is last = elim (cases_lt (length es) place) [
  | inl beyond ↦ omega (arith, beyond, few)
  | inr le ↦
      let was = last_before seat k place e es last le in
      elim (came seat k t e es is) [
        | inl before ↦ reach seat k place t before was.0
        | inr made ↦ absurd (grind (arith, nat_tests, was.1, made.0, made.1))
      ]
]

found_target : {t : Target} (found : Option Monitor) → option_map target found ≡ Some t
    → (m : Monitor) × (found ≡ Some m)
found_target None is = absurd (grind (arith, is))
found_target (Some m) is = (m, refl)

module _ (forgotten : ℕ) where
  place_behind : (ms : List (ℕ × Monitor)) (seat k : ℕ) (m : Monitor)
      → monitor_of ms seat k ≡ Some m
      → list_all (λ m. nat_le forgotten m.1.place) ms ≡ true → forgotten ≤ m.place
  place_behind [] seat k m at all = absurd (grind (arith, at))
  place_behind (n ∷ ms) seat k m at all = grind (arith, nat_tests, place_behind ms seat k m)

  all_behind : (ms : List (ℕ × Monitor)) → IsNumbered ms
      → ((seat k : ℕ) (m : Monitor) → monitor_of ms seat k ≡ Some m → forgotten ≤ m.place)
      → list_all (λ m. nat_le forgotten m.1.place) ms ≡ true
  all_behind [] apart each = refl
  all_behind (n ∷ ms) apart each =
      let first : forgotten ≤ n.1.place = each n.1.seat n.0 n.1 (grind (arith, nat_tests)) in
      let later = all_behind ms (IsDistinct-tail nat_eq n.0 (keys_of ms) apart)
      (λ seat k m at. each seat k m (later_found seat k m n ms apart at)) in
      grind (arith, nat_tests, first, later)

module _ (h : History) (ms : List (ℕ × Monitor)) (follows : FollowsPolicy h ms)
    (forgotten : ℕ) where
  -- so each monitor that the node has is told from kept entries
  pub reach_found : Reaches forgotten h.entries
      → (seat k : ℕ) (m : Monitor) → monitor_of ms seat k ≡ Some m → forgotten ≤ m.place
  reach_found reach seat k m at =
      reach seat k m.place (target m)
      (sym (follows.found seat k) ∙ ap (option_map target) at) (follows.places seat k m at)

  -- and where each monitor is told from kept entries, so is each that the policy says
  pub reach_all : list_all (λ m. nat_le forgotten m.1.place) ms ≡ true → Reaches forgotten h.entries
  reach_all all seat k place t is last =
      let found = found_target (monitor_of ms seat k) (follows.found seat k ∙ is) in
      let behind = place_behind forgotten ms seat k found.0 found.1 all in
      let once = last_once seat k found.0.place place h.entries
      (follows.places seat k found.0 found.1) last in
      omega (arith, behind, once)

  -- and only there
  pub reach_only : Reaches forgotten h.entries
      → list_all (λ m. nat_le forgotten m.1.place) ms ≡ true
  reach_only reach = all_behind forgotten ms follows.numbered (reach_found reach)
