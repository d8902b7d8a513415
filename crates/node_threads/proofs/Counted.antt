-- Counts beside an audit that gains an entry.
use Rattle.node_threads.specs
use Rattle.std.proofs.Common.{ap, arith, Bool, cond, false, get_or, inl, inr, length, List, refl}
use Rattle.std.proofs.Common.{replicate, slice_index, slice_set, subst, suc, sym, true, zero, ℕ, []}
use Rattle.std.proofs.Common.{◌+◌, ◌<◌, ◌∙◌, ◌∷◌, ◌≡◌, ◌≤◌}
use Rattle.std.specs.List.{AllByRecursion}
use Rattle.std.proofs.lemmas.Grind.{get_or-set_at}
use Rattle.std.proofs.lemmas.List.{get_or-set_other, get_or_default, length-set}
use Rattle.std.proofs.lemmas.List.Sums.{count_by-le-length, length-filter}
use Rattle.std.proofs.lemmas.Bool.Decides.{eqb_tells}
use Rattle.policy_audit.specs.declared.entry.Entry.{Entry}
use Rattle.policy_audit.specs.declared.event.Event.{Event}
use Rattle.policy_audit.specs.History.{audited, entered, History, is_entered, just}
use Rattle.policy_audit.specs.History.{lose}
use Rattle.policy_audit.specs.Owed.{slow_links, with_entry}
use Rattle.policy_audit.specs.Policy.{after, entry_of, is_full, IsLegal, next_number}
use specs.Calls.{entries_of, of}
use specs.Room.{AreCounted, IsSound, one_more, Room}
use specs.Applied.{room_after}

-- what comes with an entry is none of the audit
audited_lose : (ls : List ℕ) (es : List Entry) → audited (lose ls es) ≡ audited es
audited_lose [] es = refl
audited_lose (l ∷ ls) es = audited_lose ls es

-- so the audit has the entry alone more
audited_with : (h : History) (e : Entry) → is_entered e ≡ true
    → audited (with_entry h e).entries ≡ e ∷ audited h.entries
audited_with h e numbered =
    grind (arith, audited_lose (slow_links (just h e)) (e ∷ h.entries))

-- the audit after an event has its entry, unless it was full
pub audited_after : (h new : History) (seat : ℕ) (e : Event) → is_full h ≡ false
    → new ≡ after h seat e → audited new.entries ≡ entry_of h seat e ∷ audited h.entries
audited_after h new seat e free is = ap (λ (x : History). audited x.entries) is
    ∙ ap (λ (b : Bool). audited (cond b h (with_entry h (entry_of h seat e))).entries) free
    ∙ audited_with h (entry_of h seat e) (grind arith)

-- the length of the audit
pub audited_length : (es : List Entry) → length (audited es) ≡ entered es
audited_length [] = refl
audited_length (e ∷ es) = grind (arith, audited_length es)

-- and the number of the entry that came last
pub number_after : (h new : History) (seat : ℕ) (e : Event) → is_full h ≡ false
    → new ≡ after h seat e → entered new.entries ≡ next_number h
number_after h new seat e free is =
    let more = ap (λ (es : List Entry). length es) (audited_after h new seat e free is) in
    omega (arith, more, audited_length new.entries, audited_length h.entries)

-- a seat has no more entries than there are
pub entries_of_le : (seat : ℕ) (es : List Entry) → entries_of seat es ≤ length es
entries_of_le seat es = rw (length-filter (of seat) es) (count_by-le-length (of seat) es)

-- an entry counts for its own seat
one_count : (counts : List ℕ) (es : List Entry) (e : Entry) (seat : ℕ) → e.seat < length counts
    → slice_index counts e.seat ≡ entries_of e.seat es
    → slice_index counts seat ≡ entries_of seat es
    → slice_index (one_more e.seat counts) seat ≡ entries_of seat (e ∷ es)
one_count counts es e seat inside mine its =
    elim (eqb_tells e.seat seat) [
      | inl t ↦ rw (get_or-set_at counts e.seat seat (slice_index counts e.seat + 1) 0 (sym t.1)
          inside) (grind (arith, t.0, mine, ap (λ k. entries_of k es) t.1))
      | inr f ↦ rw (get_or-set_other counts e.seat seat (slice_index counts e.seat + 1) 0
          (λ q. f.1 (sym q))) (grind (arith, f.0, its))
    ]

-- counts stay right when a seat's count moves with its entry
pub AreCounted_entered : (counts : List ℕ) (es : List Entry) (e : Entry) → e.seat < length counts
    → AreCounted counts es → AreCounted (one_more e.seat counts) (e ∷ es)
AreCounted_entered counts es e inside counted =
    let same : length (one_more e.seat counts) ≡ length counts =
    length-set counts e.seat (slice_index counts e.seat + 1) in
    record {
      seated = subst (λ (n : ℕ). AllByRecursion (λ (x : Entry). x.seat < n) (e ∷ es)) (sym same)
          (inside, counted.seated);
      each = λ seat below. one_count counts es e seat inside (counted.each e.seat inside)
          (counted.each seat (subst (λ (n : ℕ). seat < n) same below));
    }

zero_at : (n seat : ℕ) → slice_index (replicate n 0) seat ≡ 0
zero_at zero seat = refl
zero_at (suc n) zero = refl
zero_at (suc n) (suc seat) = zero_at n seat

-- no entries are counted by zeros
pub AreCounted_none : (n : ℕ) → AreCounted (replicate n 0) []
AreCounted_none n = record { seated = tt; each = λ seat below. zero_at n seat }

-- ---- a room after an event

abbrev pub room : History → List ℕ → ℕ → Room
room h counts forgotten = record { history = h; counts = counts; forgotten = forgotten }

module _ (h new : History) (counts : List ℕ) (f g seat v : ℕ) (e : Event) (free : is_full h ≡ false)
    (is : new ≡ after h seat e) (within : seat < length counts)
    (value : v ≡ get_or counts seat v) where
  moved : slice_set counts seat (v + 1) ≡ one_more seat counts
  moved = ap (λ (n : ℕ). slice_set counts seat (n + 1))
      (value ∙ sym (get_or_default counts seat 0 v within))

  pub room_moved : g ≡ f
      → room new (slice_set counts seat (v + 1)) g ≡ room_after (room h counts f) seat e
  room_moved same = rw (moved, is, free, same) refl

  pub sound_moved : IsLegal new → IsSound (room h counts f)
      → IsSound (room new (slice_set counts seat (v + 1)) g)
  sound_moved legal sound =
      let same = length-set counts seat (slice_index counts seat + 1) in
      subst (λ (ns : List ℕ). IsSound (room new ns g)) (sym moved) (record {
        legal = legal;
        counted = subst (AreCounted (one_more seat counts))
            (sym (audited_after h new seat e free is))
            (AreCounted_entered counts (audited h.entries) (entry_of h seat e) within
            sound.counted);
        some = omega (arith, same, sound.some);
        few = omega (arith, same, sound.few);
      })
