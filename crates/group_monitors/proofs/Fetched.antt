-- The entries behind the last fetch are those that the policy looks back over.
use Rattle.group_monitors.proofs
use Rattle.std.proofs.Common.{slice_get, subst, suc, zero}
use proofs.Words.{all_append, AllByRecursion, ap, append-nil, arith, cases_lt, drop, drop-append-le}
use proofs.Words.{drop_all, Entry, entry_at, false, flat_map, flat_map-append, get_or-append_seam}
use proofs.Words.{get_or_append_left, History, inl, inr, is_fetch, IsLastFetch, IsTrue, later_than}
use proofs.Words.{length, length-append, length-reverse, List, Monitor, monitor, nat_tests}
use proofs.Words.{option_map_or, refl, reverse, reverse-append, slice_get-get_or, slice_get_within}
use proofs.Words.{Some, sym, Target, target, updates, updates_behind, updates_of, updates_since, ℕ}
use proofs.Words.{[], ◌++◌, ◌+◌, ◌-◌, ◌<◌, ◌∙◌, ◌∷◌, ◌≡◌, ◌≤◌}

-- one more entry is the last one behind a place within the others
one_later : (place : ℕ) (e : Entry) (es : List Entry) → place ≤ length es
    → later_than place (e ∷ es) ≡ later_than place es ++ e ∷ []
one_later place e es within = ap (drop place) (reverse-append (e ∷ []) es) ∙ drop-append-le place
    (reverse es) (e ∷ []) (omega (arith, length-reverse es))

-- and none is behind the place of the last
none_later : (place : ℕ) (es : List Entry) → length es ≤ place → later_than place es ≡ []
none_later place es beyond = drop_all place (reverse es) (omega (arith, length-reverse es))

last_of_two : (P : Entry → Type 0) (xs : List Entry) (e : Entry) → AllByRecursion P (xs ++ e ∷ [])
    → AllByRecursion P xs × P e
last_of_two P [] e all = (tt, all.0)
last_of_two P (x ∷ xs) e all = let rest = last_of_two P xs e all.1 in ((all.0, rest.0), rest.1)

-- an entry stands within the audit, under a number from 1
within : (place : ℕ) (es : List Entry) (f : Entry) → entry_at place es ≡ Some f
    → (0 < place) × (place ≤ length es)
within place es f at =
    grind (arith, nat_tests, slice_get_within (reverse es) (place - 1) f, length-reverse es)

-- the entry at a place within the others stays there
pub entry_stays : (place : ℕ) (e : Entry) (es : List Entry) → 0 < place → place ≤ length es
    → entry_at place (e ∷ es) ≡ entry_at place es
entry_stays place e es some le = rw (reverse-append (e ∷ []) es) (
    grind (
      arith,
      nat_tests,
      length-reverse es,
      length-append (reverse es) (e ∷ []),
      slice_get-get_or (reverse es ++ e ∷ []) (place - 1) e,
      slice_get-get_or (reverse es) (place - 1) e,
      get_or_append_left (reverse es) (e ∷ []) e (place - 1),
    ))

-- and the newest stands under the number of all
pub entry_new : (e : Entry) (es : List Entry) → entry_at (length es + 1) (e ∷ es) ≡ Some e
entry_new e es = rw (reverse-append (e ∷ []) es) (
    grind (
      arith,
      nat_tests,
      length-reverse es,
      length-append (reverse es) (e ∷ []),
      slice_get-get_or (reverse es ++ e ∷ []) (length es) e,
      get_or-append_seam (reverse es) e [] e,
    ))

get_later : (xs : List Entry) (n i : ℕ) → slice_get (drop n xs) i ≡ slice_get xs (n + i)
get_later xs zero i = grind arith
get_later [] (suc n) i = grind arith
get_later (x ∷ xs) (suc n) i = grind (arith, get_later xs n i)

all_at : (P : Entry → Type 0) (xs : List Entry) (i : ℕ) (x : Entry) → AllByRecursion P xs
    → slice_get xs i ≡ Some x → P x
all_at P [] i x all at = absurd cc
all_at P (y ∷ ys) zero x all at = subst P (cc at) all.0
all_at P (y ∷ ys) (suc i) x all at = all_at P ys i x all.1 at

module _ (seat k : ℕ) where
  pub seen_all : (place : ℕ) (es : List Entry) → IsLastFetch seat k place es → place ≤ length es
  seen_all place es last = (within place es last.fetch.0 last.fetch.1).1

  -- an entry that isn't a fetch leaves the last one
  pub stays_last : (place : ℕ) (e : Entry) (es : List Entry) → IsLastFetch seat k place es
      → is_fetch seat k e ≡ false → IsLastFetch seat k place (e ∷ es)
  stays_last place e es last other =
      let at = within place es last.fetch.0 last.fetch.1 in
      record {
        fetch = (last.fetch.0, entry_stays place e es at.0 at.1 ∙ last.fetch.1, last.fetch.2);
        later = rw (one_later place e es at.1) (all_append (λ e. is_fetch seat k e ≡ false)
            (later_than place es) (e ∷ []) last.later (other, tt));
      }

  -- and a fetch is the last one
  pub becomes_last : (e : Entry) (es : List Entry) → IsTrue (is_fetch seat k e)
      → IsLastFetch seat k (length es + 1) (e ∷ es)
  becomes_last e es this =
      record {
        fetch = (e, entry_new e es, this);
        later = rw (none_later (length es + 1) (e ∷ es) (omega arith)) tt;
      }

  -- the last fetch of some entries with one more is that one, or the last of the others
  pub last_before : (place : ℕ) (e : Entry) (es : List Entry) → IsLastFetch seat k place (e ∷ es)
      → place ≤ length es → IsLastFetch seat k place es × (is_fetch seat k e ≡ false)
  last_before place e es last le =
      let at = within place (e ∷ es) last.fetch.0 last.fetch.1 in
      let later = last_of_two (λ e. is_fetch seat k e ≡ false) (later_than place es) e
      (rw (one_later place e es le) at last.later) in (
        record {
          fetch = (last.fetch.0, sym (entry_stays place e es at.0 le) ∙ last.fetch.1, last.fetch.2);
          later = later.0;
        },
        later.1,
      )

  -- no later place is one
  pub last_once : (a b : ℕ) (es : List Entry) → IsLastFetch seat k a es → IsLastFetch seat k b es
      → a ≤ b
  last_once a b es x y = elim (cases_lt b a) [
    | inl less ↦
        let at = within a es x.fetch.0 x.fetch.1 in
        let there : slice_get (later_than b es) (a - 1 - b) ≡ Some x.fetch.0 =
        grind (arith, nat_tests, x.fetch.1, get_later (reverse es) b (a - 1 - b)) in
        absurd (grind (
          arith,
          x.fetch.2,
          all_at (λ e. is_fetch seat k e ≡ false) (later_than b es)
              (a - 1 - b) x.fetch.0 y.later there,
        ))
    | inr le ↦ le
  ]

  -- so the policy looks back over the entries behind the place
  pub since : (place : ℕ) (t : Target) (es : List Entry) → IsLastFetch seat k place es
      → updates_since seat k t es ≡ flat_map (λ e. updates_of t e.change) (later_than place es)
  since place t [] last =
      sym (ap (flat_map (λ e. updates_of t e.change)) (drop_all place [] (omega arith)))
  since place t (e ∷ es) last = elim (cases_lt (length es) place) [
    | inl beyond ↦ let at = within place (e ∷ es) last.fetch.0 last.fetch.1 in
        let this : IsTrue (is_fetch seat k e) = grind (arith, beyond, entry_new e es) in
        rw (this, none_later place (e ∷ es) (omega (arith, beyond))) refl
    | inr le ↦ let was = last_before place e es last le in
        rw
        (was.1, one_later place e es le, flat_map-append, append-nil, since place t es was.0) refl
  ]

pub answered : (h : History) (seat k : ℕ) (m : Monitor) → monitor h seat k ≡ Some (target m)
    → IsLastFetch seat k m.place h.entries → updates h seat k ≡ updates_behind h.entries m
answered h seat k m is last = ap (λ t. option_map_or (λ t. updates_since seat k t h.entries) t [])
    is ∙ since seat k m.place (target m) h.entries last
