-- Passes whose calls are compared with the entries of their seats.
use Rattle.node_threads.specs
use Rattle.std.proofs.Common.{ap, arith, get_or, inl, inr, length, List, map}
use Rattle.std.proofs.Common.{refl, reverse, set, subst, suc, sym, take, zero, ℕ, [], ◌++◌}
use Rattle.std.proofs.Common.{◌+◌, ◌<◌, ◌∙◌, ◌∷◌, ◌≡◌, ◌≢◌, ◌≤◌}
use Rattle.std.specs.List.{All, AllByRecursion, filter}
use Rattle.std.specs.Borrow.{Bor}
use Rattle.std.proofs.lemmas.Bool.{eq-eqb, eqb-true}
use Rattle.std.proofs.lemmas.Bool.Decides.{eqb_tells}
use Rattle.std.proofs.lemmas.Grind.{get_or-set_at}
use Rattle.std.proofs.lemmas.List.{get_or-map, get_or-set_other, get_or-take, length-map}
use Rattle.std.proofs.lemmas.List.{length-take-le, map-set, reverse-append, reverse-reverse}
use Rattle.std.proofs.lemmas.List.Elements.{All-append, All-cons, All-more, All-nil}
use Rattle.std.proofs.lemmas.List.Elements.{recursion_from_All}
use Rattle.policy_audit.specs.declared.entry.Entry.{Entry}
use Rattle.policy_audit.specs.History.{audited}
use specs.declared.pass.Call.{Call}
use specs.Applied.{Fits}
use specs.Calls.{call_of, kept_calls, of, Record}
use specs.Room.{Room}
use specs.Closing.{Agree, AreLast, AreOwn, at_seat, HaveEach, HaveOne, IsOwn, kept_entries}
use specs.Closing.{MadeLast, passes_of, Precede}

abbrev Calls : Type 0
Calls = Bor (List Call)

abbrev Lists : Type 0
Lists = List Calls

abbrev calls_in : Calls → List Call
calls_in calls = calls.now

abbrev calls_made : ℕ → List Entry → List Call
calls_made seat es = map call_of (filter (of seat) es)

-- the pass keeps the calls that stand in the table for its seat
abbrev pub StandsIn : Lists → Record → Type 0
StandsIn lists p = at_seat p.seat lists ≡ kept_calls p

-- ---- a table of lists

-- what is read of a place stands there for its seat
pub at_read : (lists : Lists) (seat : ℕ) (d : Calls) → seat < length lists →
    at_seat seat lists ≡ (get_or lists seat d).now
at_read lists seat d below = get_or-map calls_in lists seat d [] below

-- what is put in for a seat stands there
pub put_here : (lists : Lists) (seat s : ℕ) (new : Calls) → s ≡ seat → seat < length lists →
    at_seat s (set lists seat new) ≡ new.now
put_here lists seat s new is below =
    let within = subst (λ (n : ℕ). seat < n) (sym (length-map lists calls_in)) below in
    rw (map-set calls_in lists seat new)
    (get_or-set_at (map calls_in lists) seat s new.now [] is within)

-- and for another seat what stood there
pub put_elsewhere : (lists : Lists) (seat s : ℕ) (new : Calls) → s ≢ seat →
    at_seat s (set lists seat new) ≡ at_seat s lists
put_elsewhere lists seat s new other =
    rw (map-set calls_in lists seat new)
    (get_or-set_other (map calls_in lists) seat s new.now [] other)

-- ---- passes of a seat

-- what holds of all passes holds of one of the seat, where there is one
some_pass : (P : Record → Type 0) (seat : ℕ) (ps : List Record) → 1 ≤ passes_of seat ps →
    AllByRecursion P ps → (p : Record) × (p.seat ≡ seat) × P p
some_pass P seat [] has all = absurd (omega (arith, has))
some_pass P seat (p ∷ ps) has all = elim (eqb_tells p.seat seat) [
  | inl t ↦ (p, t.1, all.0)
  | inr f ↦ some_pass P seat ps (grind (arith, f.0)) all.1
]

-- a pass of the seat is counted
one_pass : (seat : ℕ) (ps : List Record) (i : ℕ) (d : Record) → i < length ps →
    (get_or ps i d).seat ≡ seat → 1 ≤ passes_of seat ps
one_pass seat [] i d below is = absurd (omega (arith, below))
one_pass seat (p ∷ ps) zero d below is = grind (arith, eq-eqb p.seat seat is)
one_pass seat (p ∷ ps) (suc i) d below is =
    grind (arith, one_pass seat ps i d (omega (arith, below)) is)

-- and so are two
two_passes : (seat : ℕ) (ps : List Record) (k i : ℕ) (d e : Record) → k < i → i < length ps →
    (get_or ps k e).seat ≡ seat → (get_or ps i d).seat ≡ seat → 2 ≤ passes_of seat ps
two_passes seat [] k i d e before below first second = absurd (omega (arith, below))
two_passes seat (p ∷ ps) k zero d e before below first second = absurd (omega (arith, before))
two_passes seat (p ∷ ps) zero (suc i) d e before below first second = grind (
  arith,
  one_pass seat ps i d (omega (arith, below)) second,
  eq-eqb p.seat seat first,
)
two_passes seat (p ∷ ps) (suc k) (suc i) d e before below first second = grind (
  arith,
  two_passes seat ps k i d e (omega (arith, before)) (omega (arith, below)) first second,
)

-- ---- the calls of each seat's pass

module _ (seats : ℕ) (ps : List Record) (i : ℕ) (p : Record) (below : i < length ps)
    (here : get_or ps i p ≡ p) (one : HaveOne seats ps) (inside : p.seat < seats) where
  -- no pass before has the seat of this one
  apart : (k : ℕ) (e : Record) → k < i → (get_or ps k e).seat ≢ p.seat
  apart k e before = λ is.
      let mine = ap (λ (r : Record). r.seat) here in
      let two = two_passes p.seat ps k i p e before below is mine in
      absurd (omega (arith, two, one p.seat inside))

  -- so its calls are put in beside those of the passes before
  pub stand_in_more : (lists : Lists) (new : Calls) → seats ≤ length lists → new.now ≡ kept_calls p
      →
      All (StandsIn lists) (take i ps) → All (StandsIn (set lists p.seat new)) (take (i + 1) ps)
  stand_in_more lists new long is stand =
      let others : All (StandsIn (set lists p.seat new)) (take i ps) = λ k e before.
      let earlier : k < i = omega (arith, before, length-take-le i ps (omega (arith, below))) in
      let same = ap (λ (r : Record). r.seat) (get_or-take i ps k e earlier) in
      let seat = (get_or (take i ps) k e).seat in
      let other = λ (q : seat ≡ p.seat). apart k e earlier (sym same ∙ q) in
      put_elsewhere lists p.seat seat new other ∙ stand k e before in
      let put : StandsIn (set lists p.seat new) p =
      put_here lists p.seat p.seat new refl (omega (arith, inside, long)) ∙ is in
      let mine = subst (StandsIn (set lists p.seat new)) (sym here) put in
      All-more (StandsIn (set lists p.seat new)) ps i p below others mine

module _ (room : Room) (ps : List Record) (lists : Lists) (stand : All (StandsIn lists) ps) where
  abbrev kept : List Entry
  kept = kept_entries room.forgotten (audited room.history.entries)

  -- passes that fit are their seats' where what stands for each seat are the last calls of its
  -- entries
  pub own_from_last : All (Fits room) ps → AreLast (length room.counts) lists kept → AreOwn room ps
  own_from_last fit last = λ k d below. record {
    fits = fit k d below;
    last = subst (λ (cs : List Call). MadeLast (get_or ps k d).seat cs kept) (stand k d below)
        (last (get_or ps k d).seat (fit k d below).seat);
  }

  abbrev IsBoth : Record → Type 0
  IsBoth p = StandsIn lists p × IsOwn room p

  pub last_from_own : HaveEach (length room.counts) ps → AreOwn room ps →
      AreLast (length room.counts) lists kept
  last_from_own each own = λ seat below.
      let both = recursion_from_All IsBoth ps (λ k d within. (stand k d within, own k d within)) in
      let one = some_pass IsBoth seat ps (each seat below) both in
      subst (λ (s : ℕ). MadeLast s (at_seat s lists) kept) one.1
      (subst (λ (cs : List Call). MadeLast one.0.seat cs kept) (sym one.2.0) one.2.1.last)

-- ---- an entry more

module _ (P : Entry → Type 0) where
  all_turned : (es : List Entry) → AllByRecursion P es → All P (reverse es)
  all_turned [] all = All-nil P
  all_turned (e ∷ es) all =
      let last = All-cons P e [] all.0 (All-nil P) in
      subst (All P) (sym (reverse-append (e ∷ []) es))
      (All-append P (reverse es) (e ∷ []) (all_turned es all.1) last)

  -- what holds of all entries holds of them in the other order
  pub all_reversed : (es : List Entry) → AllByRecursion P es → AllByRecursion P (reverse es)
  all_reversed es all = recursion_from_All P (reverse es) (all_turned es all)

-- the calls that made the entries of a seat, where one entry is before them
calls_own : (seat : ℕ) (e : Entry) (es : List Entry) → e.seat ≡ seat →
    calls_made seat (e ∷ es) ≡ call_of e ∷ calls_made seat es
calls_own seat e es is = grind (arith, eq-eqb e.seat seat is)

calls_other : (seat : ℕ) (e : Entry) (es : List Entry) → e.seat ≢ seat →
    calls_made seat (e ∷ es) ≡ calls_made seat es
calls_other seat e es other = grind (arith, eqb-true e.seat seat)

-- ---- the last calls, one entry back

reverse-push : (calls : List Call) (c : Call) → reverse (calls ++ c ∷ []) ≡ c ∷ reverse calls
reverse-push calls c = reverse-append calls (c ∷ [])

reverse-cons : (c : Call) (calls : List Call) → reverse (c ∷ calls) ≡ reverse calls ++ c ∷ []
reverse-cons c calls = reverse-append (c ∷ []) calls

module _ (calls : List Call) (e : Entry) (more : List Call) where
  -- if they agree with the entry's, it is the last of these, or there are none
  pub precede_some : Agree (reverse calls) (call_of e ∷ more) →
      (earlier : List Call) × Precede calls e earlier
  precede_some agree = by (reverse calls) (sym (reverse-reverse calls)) agree
    where
      by : (back : List Call) → calls ≡ reverse back → Agree back (call_of e ∷ more) →
          (earlier : List Call) × Precede calls e earlier
      by [] is agree = ([], inl (is, refl))
      by (c ∷ back) is agree =
          let last = ap (λ (x : Call). reverse back ++ x ∷ []) agree.0 in
          (reverse back, inr (is ∙ reverse-cons c back ∙ last))

  pub agree_before : (earlier : List Call) → Precede calls e earlier →
      Agree (reverse calls) (call_of e ∷ more) → Agree (reverse earlier) more
  agree_before earlier (inl none) agree =
      subst (λ (cs : List Call). Agree (reverse cs) more) (sym none.1) tt
  agree_before earlier (inr last) agree = (subst (λ cs. Agree cs (call_of e ∷ more))
      (ap reverse last ∙ reverse-push earlier (call_of e)) agree).1

  pub agree_with : (earlier : List Call) → Precede calls e earlier →
      Agree (reverse earlier) more → Agree (reverse calls) (call_of e ∷ more)
  agree_with earlier (inl none) agree =
      subst (λ (cs : List Call). Agree (reverse cs) (call_of e ∷ more)) (sym none.0) tt
  agree_with earlier (inr last) agree = subst (λ cs. Agree cs (call_of e ∷ more))
      (sym (ap reverse last ∙ reverse-push earlier (call_of e))) (refl, agree)

module _ (seats : ℕ) (lists : Lists) (e : Entry) (es : List Entry) (inside : e.seat < seats) where
  -- the last call of an entry's seat has to be that of the entry, where there is one
  pub precede_last : AreLast seats lists (e ∷ es) →
      (earlier : List Call) × Precede (at_seat e.seat lists) e earlier
  precede_last last = precede_some (at_seat e.seat lists) e (calls_made e.seat es)
      (rw (calls_own e.seat e es refl) at (last e.seat inside))

  module _ (earlier : Calls) (long : seats ≤ length lists)
      (precede : Precede (at_seat e.seat lists) e earlier.now) where
    here : (seat : ℕ) → e.seat ≡ seat → at_seat seat (set lists e.seat earlier) ≡ earlier.now
    here seat is = put_here lists e.seat seat earlier (sym is) (omega (arith, inside, long))

    there : (seat : ℕ) → e.seat ≢ seat →
        at_seat seat (set lists e.seat earlier) ≡ at_seat seat lists
    there seat other = put_elsewhere lists e.seat seat earlier (λ q. other (sym q))

    before_of : (seat : ℕ) → e.seat ≡ seat → Precede (at_seat seat lists) e earlier.now
    before_of seat is = subst (λ (s : ℕ). Precede (at_seat s lists) e earlier.now) is precede

    -- then the earlier ones are those of the entries before
    pub last_before : AreLast seats lists (e ∷ es) → AreLast seats (set lists e.seat earlier) es
    last_before last = λ seat below. elim (eqb_tells e.seat seat) [
      | inl t ↦ subst (λ cs. MadeLast seat cs es) (sym (here seat t.1))
          (agree_before (at_seat seat lists) e (calls_made seat es) earlier.now (before_of seat t.1)
          (rw (calls_own seat e es t.1) at (last seat below)))
      | inr f ↦ subst (λ cs. MadeLast seat cs es) (sym (there seat f.1))
          (rw (calls_other seat e es f.1) at (last seat below))
    ]

    pub before_last : AreLast seats (set lists e.seat earlier) es → AreLast seats lists (e ∷ es)
    before_last last = λ seat below. elim (eqb_tells e.seat seat) [
      | inl t ↦ rw (calls_own seat e es t.1)
          (agree_with (at_seat seat lists) e (calls_made seat es) earlier.now (before_of seat t.1)
          (subst (λ cs. MadeLast seat cs es) (here seat t.1) (last seat below)))
      | inr f ↦ rw (calls_other seat e es f.1)
          (subst (λ cs. MadeLast seat cs es) (there seat f.1) (last seat below))
    ]

-- where there are no entries, there is nothing to agree on
pub agree_none : (calls : List Call) → Agree calls []
agree_none [] = tt
agree_none (c ∷ calls) = tt

pub last_of_none : (seats : ℕ) (lists : Lists) → AreLast seats lists []
last_of_none seats lists = λ seat below. agree_none (reverse (at_seat seat lists))

-- ---- a call before which there are others

pub precede_one : (calls earlier : List Call) (c : Call) (e : Entry) →
    calls ≡ earlier ++ c ∷ [] → c ≡ call_of e → Precede calls e earlier
precede_one calls earlier c e is last =
    inr (is ∙ ap (λ (x : Call). earlier ++ x ∷ []) last)

-- a last call that isn't that of the entry
pub precede_none : (calls earlier others : List Call) (c : Call) (e : Entry) →
    calls ≡ earlier ++ c ∷ [] → c ≢ call_of e → Precede calls e others → ⊥
precede_none calls earlier others c e is other (inl none) =
    cc (reverse-push earlier c, none.0)
precede_none calls earlier others c e is other (inr last) =
    other (cc (reverse-push earlier c, reverse-push others (call_of e)))
