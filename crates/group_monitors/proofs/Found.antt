-- Which monitor a seat has under a number, by a look-up and once monitors are added, taken away and
-- moved; and the numbers themselves.
use Rattle.group_monitors.proofs
use proofs.Words.{AllByRecursion, arith, at_place, cond, false, IsDistinct, IsDistinct-cons}
use proofs.Words.{IsDistinct-head, IsDistinct-tail, IsFree, IsNumbered, keys_of, List, lookup}
use proofs.Words.{Monitor, monitor_of, nat_eq, nat_tests, None, option_and_then, option_map, past}
use proofs.Words.{refl, remove_entry, same, set_value, Some, suc, with_place, without}
use proofs.Words.{without_scope, ℕ, [], ◌&&◌, ◌++◌, ◌<◌, ◌==◌, ◌∷◌, ◌≡◌, ◌≢◌, ◌≤◌}
use Rattle.std.specs.Cmp.{nat_eq_equiv}
use Rattle.std.proofs.lemmas.Map.{none_passes_from_lookup, NonePasses}
use Rattle.std.proofs.lemmas.Map.Entries.{none_past_head}

-- no seat has a number that no monitor has
nobodys : (seat n : ℕ) (ms : List (ℕ × Monitor)) → NonePasses (nat_eq n) ms
    → monitor_of ms seat n ≡ None
nobodys seat n [] none = refl
nobodys seat n (m ∷ ms) none = grind (arith, nobodys seat n ms none.1)

-- and all stay where it is taken away
all_stay : (seat n : ℕ) (ms : List (ℕ × Monitor)) → NonePasses (nat_eq n) ms
    → without seat n ms ≡ ms
all_stay seat n [] none = refl
all_stay seat n (m ∷ ms) none = grind (arith, all_stay seat n ms none.1)

-- and where it is moved
all_rest : (seat n p : ℕ) (ms : List (ℕ × Monitor)) → NonePasses (nat_eq n) ms
    → with_place seat n p ms ≡ ms
all_rest seat n p [] none = refl
all_rest seat n p (m ∷ ms) none = grind (arith, all_rest seat n p ms none.1)

-- where none is found the seat has none
pub none_found : (seat n : ℕ) (ms : List (ℕ × Monitor)) → lookup (nat_eq n) ms ≡ None
    → monitor_of ms seat n ≡ None
none_found seat n ms none = nobodys seat n ms (none_passes_from_lookup (nat_eq n) ms none)

-- a free number isn't found
pub free_not_found : (n : ℕ) (ms : List (ℕ × Monitor)) → IsFree n ms → lookup (nat_eq n) ms ≡ None
free_not_found n [] free = refl
free_not_found n (m ∷ ms) free = grind (arith, free_not_found n ms)

-- one that is found behind another is found with it
pub later_found : (seat n : ℕ) (x : Monitor) (m : ℕ × Monitor) (ms : List (ℕ × Monitor))
    → IsNumbered (m ∷ ms) → monitor_of ms seat n ≡ Some x → monitor_of (m ∷ ms) seat n ≡ Some x
later_found seat n x m ms apart at =
    grind (arith, at, nobodys seat n ms, none_past_head nat_eq_equiv n m ms apart)

-- one that is found is the seat's where it has that seat
pub own_found : (seat n : ℕ) (x : Monitor) (ms : List (ℕ × Monitor)) → lookup (nat_eq n) ms ≡ Some x
    → x.seat ≡ seat → monitor_of ms seat n ≡ Some x
own_found seat n x [] at own = at
own_found seat n x (m ∷ ms) at own = grind (arith, own_found seat n x ms)

-- and else the seat has none
pub other_found : (seat n : ℕ) (x : Monitor) (ms : List (ℕ × Monitor))
    → IsDistinct nat_eq (keys_of ms) → lookup (nat_eq n) ms ≡ Some x
    → x.seat ≢ seat → monitor_of ms seat n ≡ None
other_found seat n x [] apart at other = refl
other_found seat n x (m ∷ ms) apart at other =
    grind (
      arith,
      other_found seat n x ms (IsDistinct-tail nat_eq m.0 (keys_of ms) apart),
      nobodys seat n ms,
      none_past_head nat_eq_equiv n m ms apart,
    )

-- what is the first of its number, and the seat's, is the seat's monitor: so it alone is taken away
pub taken_away : (seat n : ℕ) (x : Monitor) (ms : List (ℕ × Monitor))
    → IsDistinct nat_eq (keys_of ms) → monitor_of ms seat n ≡ Some x
    → remove_entry (nat_eq n) ms ≡ without seat n ms
taken_away seat n x [] apart at = refl
taken_away seat n x (m ∷ ms) apart at =
    grind (
      arith,
      taken_away seat n x ms (IsDistinct-tail nat_eq m.0 (keys_of ms) apart),
      nobodys seat n ms,
      all_stay seat n ms,
      none_past_head nat_eq_equiv n m ms apart,
    )

-- and it alone is moved
pub moved : (seat n p : ℕ) (x : Monitor) (ms : List (ℕ × Monitor)) → IsDistinct nat_eq (keys_of ms)
    → monitor_of ms seat n ≡ Some x
    → set_value (nat_eq n) ms (record x { place = p }) ≡ with_place seat n p ms
moved seat n p x [] apart at = refl
moved seat n p x (m ∷ ms) apart at =
    grind (
      arith,
      moved seat n p x ms (IsDistinct-tail nat_eq m.0 (keys_of ms) apart),
      nobodys seat n ms,
      all_rest seat n p ms,
      none_past_head nat_eq_equiv n m ms apart,
    )

pub found_added : (ms : List (ℕ × Monitor)) (n : ℕ) (m : Monitor) → IsFree n ms
    → (seat k : ℕ) → monitor_of (ms ++ (n, m) ∷ []) seat k ≡ cond (k == n && m.seat == seat) (Some
    m) (monitor_of ms seat k)
found_added [] n m free seat k = refl
found_added (first ∷ ms) n m free seat k = grind (arith, nat_tests, found_added ms n m)

pub found_removed : (ms : List (ℕ × Monitor)) (own n : ℕ) (seat k : ℕ)
    → monitor_of (without own n ms) seat k ≡ cond (k == n && own == seat) None
    (monitor_of ms seat k)
found_removed [] own n seat k = grind arith
found_removed (m ∷ ms) own n seat k = grind (arith, nat_tests, found_removed ms own n seat k)

pub found_moved : (ms : List (ℕ × Monitor)) (own n place : ℕ) (seat k : ℕ)
    → monitor_of (with_place own n place ms) seat k ≡ cond (k == n && own == seat)
    (option_map (at_place place) (monitor_of ms seat k)) (monitor_of ms seat k)
found_moved [] own n place seat k = grind arith
found_moved (m ∷ ms) own n place seat k =
    grind (arith, nat_tests, found_moved ms own n place seat k)

pub found_dropped : (ms : List (ℕ × Monitor)) (s : List ℕ) → IsNumbered ms
    → (seat k : ℕ) → monitor_of (without_scope s ms) seat k ≡ option_and_then (λ m.
    cond (same m.scope s) None (Some m)) (monitor_of ms seat k)
found_dropped [] s numbered seat k = refl
found_dropped (m ∷ ms) s numbered seat k =
    grind (
      arith,
      found_dropped ms s (IsDistinct-tail nat_eq m.0 (keys_of ms) numbered) seat k,
      nobodys seat k ms,
      none_past_head nat_eq_equiv k m ms numbered,
    )

-- no two of none are the same
pub none_numbered : IsNumbered []
unfolding IsDistinct
none_numbered = tt

-- the numbers are at most j
abbrev pub AtMost : ℕ → List (ℕ × Monitor) → Type 0
AtMost j ms = AllByRecursion (λ m. m.0 ≤ j) ms

-- at most j is at most one more
pub one_more : (j : ℕ) (ms : List (ℕ × Monitor)) → AtMost j ms → AtMost (suc j) ms
one_more j [] past = tt
one_more j (m ∷ ms) past = (let le = past.0 in omega arith, one_more j ms past.1)

-- a seat's monitor has such a number
pub at_most : (j : ℕ) (ms : List (ℕ × Monitor)) (seat k : ℕ) (m : Monitor) → AtMost j ms
    → monitor_of ms seat k ≡ Some m → k ≤ j
at_most j [] seat k m past at = absurd (cc)
at_most j (x ∷ ms) seat k m past at = grind (arith, nat_tests, past.0, at_most j ms seat k m past.1)

-- a greater number is free
pub greater_free : (j n : ℕ) (ms : List (ℕ × Monitor)) → j < n → AtMost j ms → IsFree n ms
greater_free j n [] lt past = refl
greater_free j n (m ∷ ms) lt past = grind (arith, nat_tests, past.0, greater_free j n ms lt past.1)

-- with a greater number behind them no two are the same
pub numbered_last : (j n : ℕ) (x : Monitor) (ms : List (ℕ × Monitor)) → j < n → AtMost j ms
    → IsNumbered ms → IsNumbered (ms ++ (n, x) ∷ [])
numbered_last j n x [] lt past numbered = IsDistinct-cons nat_eq n [] tt numbered
numbered_last j n x (m ∷ ms) lt past numbered =
    IsDistinct-cons nat_eq m.0 (keys_of (ms ++ (n, x) ∷ []))
    (apart ms (IsDistinct-head nat_eq m.0 (keys_of ms) numbered))
    (numbered_last j n x ms lt past.1 (IsDistinct-tail nat_eq m.0 (keys_of ms) numbered))
  where
    apart : (ms : List (ℕ × Monitor)) → AllByRecursion (λ k. nat_eq m.0 k ≡ false) (keys_of ms)
        → AllByRecursion (λ k. nat_eq m.0 k ≡ false) (keys_of (ms ++ (n, x) ∷ []))
    apart [] all = (grind (arith, nat_tests, past.0), tt)
    apart (y ∷ ms) all = (all.0, apart ms all.1)

-- a move leaves all numbers
pub numbers_stay : (own n place : ℕ) (ms : List (ℕ × Monitor))
    → keys_of (with_place own n place ms) ≡ keys_of ms
numbers_stay own n place [] = refl
numbers_stay own n place (m ∷ ms) = grind (arith, numbers_stay own n place ms)

-- so they are at most j again
pub moved_at_most : (j own n place : ℕ) (ms : List (ℕ × Monitor)) → AtMost j ms
    → AtMost j (with_place own n place ms)
moved_at_most j own n place [] past = tt
moved_at_most j own n place (m ∷ ms) past = grind (arith, past, moved_at_most j own n place ms)
