-- What a seat has fetched of its monitor, with what it is still to fetch, is what all entries
-- behind the monitor's own tell.
use Rattle.group_monitors.proofs
use proofs.Words.{answer, ap, append-nil, append_assoc, arith, audit_of, cond, counted, entered}
use proofs.Words.{Entry, entry_at, Event, false, fetched, fetched_by, flat_map, group_updates}
use proofs.Words.{GroupChange, History, history, inl, inr, is_accepted, is_empty, is_watched}
use proofs.Words.{IsDifference, IsLegal, IsLegalIn, IsNext, IsStep, IsTrue, just, later_than}
use proofs.Words.{length, length-append, List, listed, may_tell, mentions, monitor, monitor_in}
use proofs.Words.{next_number, None, none-some, Opening, option_map, option_map_or, past, Pid}
use proofs.Words.{present, refl, reverse, same_decides, same_pid_decides, Some, subst, sym, Target}
use proofs.Words.{true, updates, updates_in, updates_of, updates_since, watched, with_entry, ℕ, []}
use proofs.Words.{◌++◌, ◌+◌, ◌==◌, ◌∙◌, ◌∷◌, ◌≡◌, ◌⊎◌}
use Rattle.policy_audit.specs.declared.reply.Reply.{Reply}
use Rattle.policy_audit.specs.declared.entry.Verdict.{Verdict}
use Rattle.policy_audit.specs.declared.entry.Verdict.TheVariants.{Accepted, Refused}
use Rattle.policy_audit.specs.declared.rule.Rule.{Rule}
use Rattle.policy_audit.specs.Effects.{is_quiet, leaves_rows}
use Rattle.policy_audit.specs.History.{lose}
use Rattle.policy_audit.specs.Owed.{slow_links}
use Rattle.std.specs.Prelude.{not, ◌||◌}
use proofs.Differences.{further, told, told_last}
use proofs.Fetched.{entry_new, entry_stays}
use Rattle.policy_audit.specs.declared.event.Event.TheVariants as event

-- a refused entry has no losses
refused_alone : (h : History) (e : Entry) (r : Rule) → e.verdict ≡ Refused r
    → with_entry h e ≡ just h e
refused_alone h e r is = ap (λ v. cond (is_accepted v)
    (past h.opening (lose (slow_links (just h e)) (e ∷ h.entries))) (just h e)) is

-- what the policy's laws say: an entry that concerns no row leaves all listings, and the history of
-- an audit has its entries
pub record Laws : Type 0 where
  pub alone : (o : Opening) (es : List Entry) → IsLegalIn o es → (e : Entry)
      → IsNext (history o es) e → IsTrue (leaves_rows e) → (s g : List ℕ) (p : Pid)
      → listed (with_entry (history o es) e) s g p ≡ listed (history o es) s g p
  pub audit : (o : Opening) (es : List Entry) → IsLegalIn o es → audit_of (history o es) ≡ past o es
  pub sized : (o : Opening) (es : List Entry) → IsLegalIn o es
      → entered (history o es).entries ≡ length es

-- one that concerns no row may owe no message
quiet_tells : (o : Opening) (es : List Entry) (ev : Event) → is_quiet ev ≡ true
    → may_tell o es ev ≡ false
quiet_tells o es ev q = grind arith

-- it has no losses, as it is refused or may owe none
pub no_losses : ((h : History) → IsLegal h → (e : Entry) → IsStep h e
    → may_tell h.opening h.entries e.event ≡ false
    → with_entry h e ≡ just h e) → (h : History) → IsLegal h → (e : Entry) → IsStep h e
    → IsTrue (leaves_rows e) → with_entry h e ≡ just h e
no_losses silent h legal e made quiet = by e.verdict refl
  where
    by : (v : Verdict) → e.verdict ≡ v → with_entry h e ≡ just h e
    by (Refused r) is = refused_alone h e r is
    by (Accepted r) is = silent h legal e made (quiet_tells h.opening h.entries e.event
        (sym (ap (λ v. not (is_accepted v) || is_quiet e.event) is) ∙ quiet))

nobody : (ps : List Pid) → ((p : Pid) → mentions p ps ≡ 0) → is_empty ps ≡ true
nobody [] none = refl
nobody (q ∷ ps) none = grind (arith, none q, (same_pid_decides q q).1 refl)

-- where all is listed as before there is no change
no_change : (before after : List ℕ → Pid → ℕ) (cs : List GroupChange)
    → ((g : List ℕ) (p : Pid) → after g p ≡ before g p) → IsDifference before after cs → cs ≡ []
no_change before after [] alike is = refl
no_change before after (c ∷ cs) alike is = let own = (same_decides c.group c.group).1 refl in
    let left = nobody c.left (λ p. grind (arith, own, is.left c.group p, alike c.group p)) in
    let joined = nobody c.joined (λ p. grind (arith, own, is.joined c.group p, alike c.group p)) in
    absurd (grind arith)

-- an accepted event is answered as the policy does
pub answered : (h : History) (e : Entry) → IsNext h e → is_accepted e.verdict ≡ true
    → e.verdict ≡ Accepted (answer h e.seat e.event)
answered h e next accepted = grind (arith, next.verdict)

-- the own entry of the seat's monitor k, with those before it and those behind it
pub record IsMade (seat k : ℕ) (t : Target) (o : Opening) (es : List Entry) : Type 0 where
  pub own : Entry
  pub before : List Entry
  pub later : List Entry
  pub all : es ≡ later ++ own ∷ before
  pub legal : IsLegalIn o before
  pub next : IsNext (history o before) own
  pub place : own.number ≡ length before + 1
  pub number : own.number ≡ k
  pub at : entry_at k es ≡ Some own
  pub accepted : is_accepted own.verdict ≡ true
  pub watches : watched own.event ≡ Some t
  pub parts : flat_map (fetched_by seat k) (reverse later) ++ updates_since seat k t es ≡ flat_map
      (λ e. updates_of t e.change) (reverse later)

-- an Updates, and an entry that makes a monitor, concern no row
fetch_leaves : (e : Entry) (n : ℕ) → e.event ≡ event.Updates n → IsTrue (leaves_rows e)
fetch_leaves e n is = grind arith

watch_leaves : (e : Entry) (t : Target) → watched e.event ≡ Some t → IsTrue (leaves_rows e)
watch_leaves e t is = grind arith

module _ (laws : Laws) (seat k : ℕ) (t : Target) where
  -- a later entry has another number
  other_number : (e : Entry) (es : List Entry) (n : ℕ) → e.number ≡ length es + 1
      → length es ≡ n + (k + 0) → (e.number == k) ≡ false
  other_number e es n is size = grind arith

  -- the own entry has told nothing
  own_parts : (e : Entry) (es : List Entry) → is_accepted e.verdict ≡ true → e.number ≡ k
      → flat_map (fetched_by seat k) (reverse []) ++ updates_since seat k t (e ∷ es)
      ≡ flat_map (λ (e : Entry). updates_of t e.change) (reverse [])
  own_parts e es accepted is = grind arith

  -- a fetch tells what was to be fetched, and changes nothing
  fetch : (o : Opening) (es : List Entry) (e : Entry) (n : ℕ) → IsLegalIn o es
      → IsNext (history o es) e → monitor (past o es) seat k ≡ Some t
      → is_accepted e.verdict ≡ true → e.event ≡ event.Updates n → n ≡ k → e.seat ≡ seat
      → (updates_in e.verdict ≡ updates_since seat k t es) × (updates_of t e.change ≡ [])
  fetch o es e n legal next at accepted is this own = (
    ap updates_in (answered (history o es) e next accepted
        ∙ ap (λ ev. Accepted (answer (history o es) e.seat ev)) is)
        ∙ (λ i. updates (laws.audit o es legal i) (own i) (this i))
        ∙ ap (λ m. option_map_or (λ t. updates_since seat k t es) m []) at,
    ap (flat_map (λ c. cond (is_watched t.group c) (group_updates c) []))
        (no_change _ _ _ (laws.alone o es legal e next (fetch_leaves e n is) t.scope)
        (next.change.groups t.scope)),
  )

  -- so a further entry is told of by what was to be fetched and what is to be fetched then
  one_more : (es : List Entry) (e : Entry) → ((n : ℕ) → is_accepted e.verdict ≡ true
      → e.event ≡ event.Updates n → n ≡ k → e.seat ≡ seat
      → (updates_in e.verdict ≡ updates_since seat k t es) × (updates_of t e.change ≡ []))
      → (e.number == k) ≡ false
      → fetched_by seat k e ++ updates_since seat k t (e ∷ es) ≡ updates_since seat k t es
      ++ updates_of t e.change
  one_more es e fetches other = grind (arith, fetches, append-nil)

  -- the monitor was there before the entry, or is made by it
  came : (e : Entry) (es : List Entry) → monitor_in seat k (present (e ∷ es)) ≡ Some t
      → (monitor_in seat k (present es) ≡ Some t) ⊎ ((is_accepted e.verdict ≡ true) × (e.number ≡ k)
      × (watched e.event ≡ Some t))
  came e es at = grind arith

  -- the entry's number is its place
  numbered : (o : Opening) (es : List Entry) (e : Entry) → IsLegalIn o es → IsNext (history o es) e
      → e.number ≡ length es + 1
  numbered o es e legal next = next.number ∙ ap (λ n. n + 1) (laws.sized o es legal)

  made : (o : Opening) (es : List Entry) → IsLegalIn o es → monitor_in seat k (present es) ≡ Some t
      → IsMade seat k t o es
  made o [] legal at = absurd (none-some t at)
  made o (e ∷ es) legal at =
      elim (came e es at) [
        | inl was ↦ let m = made o es legal.1 was in let number : length es + 1 ≡ e.number =
            sym (numbered o es e legal.1 legal.0) in
            let size : length es ≡ length m.later + (k + 0) = ap length m.all
            ∙ (let own = m.place in let number = m.number in
            let n = length-append m.later (m.own ∷ m.before) in omega (arith, own)) in
            record {
              own = m.own;
              before = m.before;
              later = e ∷ m.later;
              all = ap (λ l. e ∷ l) m.all;
              legal = m.legal;
              next = m.next;
              place = m.place;
              number = m.number;
              accepted = m.accepted;
              watches = m.watches;
              at = entry_stays k e es (let own = m.place in let number = m.number in
                  omega (arith, own)) (omega arith) ∙ m.at;
              parts =
                  rw (
                    told_last (fetched_by seat k) e m.later,
                    told_last (λ e. updates_of t e.change) e m.later,
                    append_assoc,
                    one_more es e (λ n. fetch o es e n legal.1 legal.0 was)
                        (other_number e es _ (numbered o es e legal.1 legal.0) size),
                    ← m.parts,
                  ) (sym (append_assoc _ (updates_since seat k t es) (updates_of t e.change)));
            }
        | inr new ↦ record {
          own = e;
          before = es;
          later = [];
          all = refl;
          legal = legal.1;
          next = legal.0;
          place = numbered o es e legal.1 legal.0;
          number = new.1;
          accepted = new.0;
          watches = new.2;
          at = ap (λ n. entry_at n (e ∷ es)) (sym new.1 ∙ numbered o es e legal.1 legal.0)
              ∙ entry_new e es;
          parts = own_parts e es new.0 new.1;
        }
      ]

  module _ (o : Opening) (es : List Entry) (legal : IsLegalIn o es)
      (at : monitor (past o es) seat k ≡ Some t) where
    pub its : IsMade seat k t o es
    its = made o es legal at

    -- the policy before the own entry
    abbrev pub then : History
    then = history o its.before

    place : k ≡ length (its.own ∷ its.before)
    place = sym its.number ∙ its.place ∙ (omega arith)

    -- all that was and is to be fetched
    pub whole : fetched seat k es ++ updates (past o es) seat k ≡ flat_map
        (λ e. updates_of t e.change) (later_than k es)
    whole =
        let behind : later_than k es ≡ reverse its.later =
        (λ i. later_than (place i) (its.all i)) ∙ further its.later (its.own ∷ its.before) in
        rw behind (ap (λ m. flat_map (fetched_by seat k) (reverse its.later) ++ option_map_or
        (λ t. updates_since seat k t es) m []) at ∙ its.parts)

    -- what all entries behind the own one tell
    all_told : (g : List ℕ) → (t.group ≡ Some g) ⊎ (t.group ≡ None) → (p : Pid)
        → counted g p (flat_map (λ e. updates_of t e.change) (later_than k es))
        (listed (history o (its.own ∷ its.before)) t.scope g p) ≡ Some
        (listed (history o es) t.scope g p)
    all_told g watches p =
        subst (λ xs. counted g p (flat_map (λ e. updates_of t e.change) (later_than k xs))
        (listed (history o (its.own ∷ its.before)) t.scope g p) ≡ Some
        (listed (history o xs) t.scope g p)) (sym its.all)
        (told o its.later (its.own ∷ its.before) (subst (IsLegalIn o) its.all legal)
        (record { seat = seat; scope = t.scope; group = t.group; place = k }) place g watches p)

    -- leads from the contents before the monitor's own entry to those of now
    pub counts : (g : List ℕ) → (t.group ≡ Some g) ⊎ (t.group ≡ None) → (p : Pid)
        → counted g p (fetched seat k es ++ updates (past o es) seat k)
        (listed then t.scope g p) ≡ Some (listed (history o es) t.scope g p)
    counts g watches p =
        rw (
          whole,
          sym (laws.alone o its.before its.legal its.own its.next
              (watch_leaves its.own t its.watches) t.scope g p),
        ) (all_told g watches p)

    -- which the monitor was answered
    pub first_told : (ev : Event) (r : ℕ → Reply) → its.own.event ≡ ev
        → answer then its.own.seat ev ≡ r (next_number then)
        → option_map (λ e. e.verdict) (entry_at k es) ≡ Some (Accepted (r k))
    first_told ev r is tells =
        ap (option_map (λ e. e.verdict)) its.at
        ∙ ap Some (answered then its.own its.next its.accepted
        ∙ ap Accepted (ap (answer then its.own.seat) is ∙ tells
        ∙ ap r (sym its.next.number ∙ its.number)))

pub of_group : (s g : List ℕ) (ev : Event)
    → watched ev ≡ Some (record { scope = s; group = Some g }) → ev ≡ event.Monitor s g
of_group s g ev is = grind arith

pub of_scope : (s : List ℕ) (ev : Event) → watched ev ≡ Some (record { scope = s; group = None })
    → ev ≡ event.MonitorScope s
of_scope s ev is = grind arith
