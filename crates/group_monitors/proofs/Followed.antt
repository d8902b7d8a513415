-- Each entry leaves the monitors as the policy says.
use Rattle.group_monitors.proofs
use proofs.Words.{all_append, ap, arith, Bool, concerns_monitors, cond, Decides-eqb, Entry, Event}
use proofs.Words.{false, FollowsPolicy, History, inl, inr, is_accepted, is_fetch, is_restart}
use proofs.Words.{IsFree, IsLastFetch, IsNumbered, IsTrue, just, length, List, Moment, Monitor}
use proofs.Words.{monitor, monitor_after, monitor_of, nat_eq, nat_tests, None, none-some, Opening}
use proofs.Words.{Option, option_map, past, refl, Some, suc, sym, Target, target, true, with_place}
use proofs.Words.{without, without_scope, ℕ, [], ◌&&◌, ◌++◌, ◌+◌, ◌==◌, ◌∙◌, ◌∷◌, ◌≡◌, ◌≤◌, ◌⊎◌}
use Rattle.std.proofs.lemmas.Map.Made.{IsDistinct-keys_filter}
use Rattle.policy_audit.proofs.Lists.{filter_all}
use proofs.Found.{at_most, AtMost, found_added, found_dropped, found_moved, found_removed}
use proofs.Found.{free_not_found, greater_free, moved_at_most, none_found, none_numbered}
use proofs.Found.{numbered_last, numbers_stay, one_more}
use proofs.Fetched.{becomes_last, stays_last}
use Rattle.policy_audit.specs.declared.event.Event.TheVariants as event

-- an Updates of the seat's monitor k
abbrev is_update : ℕ → ℕ → ℕ → Event → Bool
is_update seat k own ev = elim ev [ event.Updates n ↦ n == k && own == seat | _ ↦ false ]

-- what an accepted event is to a monitor that it doesn't concern
abbrev LetsBe : Event → Type 0
LetsBe ev =
    (is_restart ev ≡ false) × ((seat k own : ℕ) → is_update seat k own ev ≡ false)
    × ((seat k number own : ℕ) (es : List Entry) (before : Option Target)
    → monitor_after seat k (record { number = number; seat = own; event = ev; before = es }) before
    ≡ cond (number == k && own == seat) None before)

lets_be : (ev : Event) → concerns_monitors ev ≡ false → LetsBe ev
lets_be ev other =
    (grind arith, λ seat k own. grind arith, λ seat k number own es before. grind arith)

-- before the first entry there is none
pub follows_start : (o : Opening) → FollowsPolicy (past o []) []
follows_start o =
    record {
      found = λ seat k. refl;
      places = λ seat k m at. absurd (none-some m at);
      numbered = none_numbered;
      past = tt;
    }

-- ---- what follows from it

module _ (h : History) (ms : List (ℕ × Monitor)) (f : FollowsPolicy h ms) where
  -- no monitor has the next number
  pub follows_free : IsFree (length h.entries + 1) ms
  follows_free = greater_free (length h.entries) (length h.entries + 1) ms (omega arith) f.past

module _ (h : History) (e : Entry) (ms : List (ℕ × Monitor))
    (number : e.number ≡ length h.entries + 1) (f : FollowsPolicy h ms) where
  -- the moment of the entry
  abbrev this : Moment
  this = record { number = e.number; seat = e.seat; event = e.event; before = h.entries }

  -- no seat had a monitor of the entry's number
  none_before : (seat k : ℕ) → (e.number == k) ≡ true → monitor h seat k ≡ None
  none_before seat k is =
      let next : k ≡ length h.entries + 1 = sym ((Decides-eqb e.number k).0 is) ∙ number in
      sym (f.found seat k)
      ∙ ap (option_map target) (ap (monitor_of ms seat) next
      ∙ none_found seat (length h.entries + 1) ms
      (free_not_found (length h.entries + 1) ms (follows_free h ms f)))

  -- so it is no fetch of the monitors so far, unless it is an Updates of one
  no_fetch : (seat k : ℕ) → k ≤ length h.entries → is_update seat k e.seat e.event ≡ false
      → is_fetch seat k e ≡ false
  no_fetch seat k le other = grind (arith, nat_tests)

  -- a monitor is at the place of its last fetch where the entry is that, and where it is none of a
  -- monitor so far
  last_place : (seat k : ℕ) (m : Monitor)
      → (IsTrue (is_fetch seat k e) × (m.place ≡ length h.entries + 1)) ⊎
      ((is_update seat k e.seat e.event ≡ false) × (monitor_of ms seat k ≡ Some m))
      → IsLastFetch seat k m.place (e ∷ h.entries)
  last_place seat k m (inl this) = rw this.1 (becomes_last seat k e h.entries this.0)
  last_place seat k m (inr was) =
      stays_last seat k m.place e h.entries (f.places seat k m was.1)
      (no_fetch seat k (at_most (length h.entries) ms seat k m f.past was.1) was.0)

  -- the monitors that are left, where the entry is a fetch of none
  left : (ks : List (ℕ × Monitor))
      → ((seat k : ℕ) → option_map target (monitor_of ks seat k) ≡ monitor (just h e) seat k)
      → ((seat k : ℕ) (m : Monitor) → monitor_of ks seat k ≡ Some m → monitor_of ms seat k ≡ Some m)
      → ((seat k : ℕ) → k ≤ length h.entries → is_fetch seat k e ≡ false) → IsNumbered ks
      → AtMost (length h.entries) ks → FollowsPolicy (just h e) ks
  left ks found from other numbered behind = record {
    found = found;
    places = λ seat k m at. let was = from seat k m at in
        stays_last seat k m.place e h.entries (f.places seat k m was)
        (other seat k (at_most (length h.entries) ms seat k m f.past was));
    numbered = numbered;
    past = one_more (length h.entries) ks behind;
  }

  -- an entry that is refused
  refused : is_accepted e.verdict ≡ false → FollowsPolicy (just h e) ms
  refused denied = left ms (λ seat k. grind (arith, f.found seat k)) (λ seat k m at. at)
      (λ seat k le. grind arith) f.numbered f.past

  module _ (accepted : is_accepted e.verdict ≡ true) where
    -- what an accepted event other than Restart makes of a monitor
    made : (seat k : ℕ) → is_restart e.event ≡ false
        → monitor (just h e) seat k ≡ monitor_after seat k this (monitor h seat k)
    made seat k goes_on = grind arith

    -- the same for an event of this kind
    made_by : (ev : Event) → e.event ≡ ev → is_restart ev ≡ false → (seat k : ℕ)
        → monitor (just h e) seat k ≡ monitor_after seat k
        (record { number = e.number; seat = e.seat; event = ev; before = h.entries })
        (monitor h seat k)
    made_by ev is goes_on seat k = grind arith

    -- one that makes no monitor leaves them all
    as_before : (seat k : ℕ)
        → cond (e.number == k && e.seat == seat) None (monitor h seat k) ≡ monitor h seat k
    as_before seat k = grind (arith, none_before seat k)

    -- an accepted event of another kind
    unconcerned : concerns_monitors e.event ≡ false → FollowsPolicy (just h e) ms
    unconcerned other =
        let plain = lets_be e.event other in
        left ms
        (λ seat k. f.found seat k ∙ sym (made seat k plain.0 ∙ plain.2 seat k e.number e.seat
        h.entries (monitor h seat k) ∙ as_before seat k))
        (λ seat k m at. at)
        (λ seat k le. no_fetch seat k le (plain.1 seat k e.seat))
        f.numbered f.past

    -- it is a fetch of the monitor of its own number
    own_fetch : (seat k : ℕ) → (e.number == k) ≡ true → IsTrue (is_fetch seat k e)
    own_fetch seat k is = grind arith

    -- ---- a new monitor

    module _ (s : List ℕ) (g : Option (List ℕ)) where
      abbrev new_one : Monitor
      new_one = record { seat = e.seat; scope = s; group = g; place = length h.entries + 1 }

      abbrev with_new : List (ℕ × Monitor)
      with_new = ms ++ (length h.entries + 1, new_one) ∷ []

      -- which monitor a seat has then
      one_of : (seat k : ℕ) → monitor_of with_new seat k ≡ cond (e.number == k && e.seat == seat)
          (Some new_one) (monitor_of ms seat k)
      one_of seat k =
          grind (
            arith,
            nat_tests,
            found_added ms (length h.entries + 1) new_one (follows_free h ms f) seat k,
          )

      -- so the monitors with the new one are the policy's
      added : ((seat k : ℕ) → monitor (just h e) seat k ≡ cond (e.number == k && e.seat
          == seat) (Some (record { scope = s; group = g })) (monitor h seat k))
          → ((seat k : ℕ) → is_update seat k e.seat e.event ≡ false)
          → FollowsPolicy (just h e) with_new
      added makes other =
          record {
            found = λ seat k. grind (arith, one_of seat k, makes seat k, f.found seat k);
            places = λ seat k m at. last_place seat k m
                (grind (arith, one_of seat k, other seat k, own_fetch seat k));
            numbered = numbered_last (length h.entries) (length h.entries + 1) new_one ms
                (omega arith) f.past f.numbered;
            past = all_append (λ m. m.0 ≤ suc (length h.entries)) ms
                ((length h.entries + 1, new_one) ∷ []) (one_more (length h.entries) ms f.past)
                (omega arith, tt);
          }

    pub follows_group : (s g : List ℕ) → e.event ≡ event.Monitor s g
        → FollowsPolicy (just h e) (with_new s (Some g))
    follows_group s g is = added s (Some g) (made_by (event.Monitor s g) is refl)
        (λ seat k. ap (is_update seat k e.seat) is)

    pub follows_scope : (s : List ℕ) → e.event ≡ event.MonitorScope s
        → FollowsPolicy (just h e) (with_new s None)
    follows_scope s is = added s None (made_by (event.MonitorScope s) is refl)
        (λ seat k. ap (is_update seat k e.seat) is)

    -- ---- one monitor less

    pub follows_removed : (n : ℕ) → e.event ≡ event.Demonitor n
        → FollowsPolicy (just h e) (without e.seat n ms)
    follows_removed n is = left (without e.seat n ms)
        (λ seat k. grind (
          arith,
          nat_tests,
          found_removed ms e.seat n seat k,
          f.found seat k,
          made_by (event.Demonitor n) is refl seat k,
        )) (λ seat k m at. grind (arith, found_removed ms e.seat n seat k))
        (λ seat k le. no_fetch seat k le (grind arith))
        (IsDistinct-keys_filter nat_eq _ ms f.numbered) (filter_all _ _ ms f.past)

    -- ---- all of a scope

    pub follows_dropped : (s : List ℕ) → e.event ≡ event.StopScope s
        → FollowsPolicy (just h e) (without_scope s ms)
    follows_dropped s is =
        left (without_scope s ms)
        (λ seat k. grind (
          arith,
          found_dropped ms s f.numbered seat k,
          f.found seat k,
          made_by (event.StopScope s) is refl seat k,
        )) (λ seat k m at. grind (arith, found_dropped ms s f.numbered seat k))
        (λ seat k le. no_fetch seat k le (grind arith))
        (IsDistinct-keys_filter nat_eq _ ms f.numbered) (filter_all _ _ ms f.past)

    -- ---- a fetch

    pub follows_moved : (n : ℕ) → e.event ≡ event.Updates n
        → FollowsPolicy (just h e) (with_place e.seat n (length (e ∷ h.entries)) ms)
    follows_moved n is =
        record {
          found = λ seat k.
              grind (
                arith,
                found_moved ms e.seat n (length (e ∷ h.entries)) seat k,
                f.found seat k,
                made_by (event.Updates n) is refl seat k,
                as_before seat k,
              );
          places = λ seat k m at. last_place seat k m
              (grind (arith, nat_tests, found_moved ms e.seat n (length (e ∷ h.entries)) seat k));
          numbered = rw (numbers_stay e.seat n (length (e ∷ h.entries)) ms) f.numbered;
          past = one_more (length h.entries)
              _ (moved_at_most (length h.entries) e.seat n (length (e ∷ h.entries)) ms f.past);
        }

  -- ---- all other entries

  pub follows_other : (is_accepted e.verdict && concerns_monitors e.event) ≡ false
      → FollowsPolicy (just h e) ms
  follows_other quiet = by (is_accepted e.verdict) refl
    where
      by : (b : Bool) → is_accepted e.verdict ≡ b → FollowsPolicy (just h e) ms
      by true is = unconcerned is (sym (ap (λ b. b && concerns_monitors e.event) is) ∙ quiet)
      by false is = refused is

-- a restart leaves none
pub follows_cleared : (h : History) (e : Entry) → is_accepted e.verdict ≡ true
    → e.event ≡ event.Restart → FollowsPolicy (just h e) []
follows_cleared h e accepted is =
    record {
      found = λ seat k. grind arith;
      places = λ seat k m at. absurd (none-some m at);
      numbered = none_numbered;
      past = tt;
    }
