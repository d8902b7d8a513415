-- A refused entry leaves all as it was.
use Rattle.policy_audit.proofs
use proofs.Words.{Accepted, ap, append-nil, arith, audit_of, audited, Bool, cond, Entry, Event}
use proofs.Words.{false, frame_of, groups_in, History, is_accepted, is_entered, IsAsOpen, IsChange}
use proofs.Words.{IsNext, IsUntouched, just, List, listed, monitor, None, option_map_or, past}
use proofs.Words.{refl, Refused, Rule, sym, Target, true, updates, updates_since, Verdict}
use proofs.Words.{with_entry, ℕ, [], ◌∷◌, ◌≡◌}
use proofs.Accepted.{lie}
use proofs.Walked.{but}
use proofs.Effects.{rows_left}
use proofs.ChangeLemmas.{no_change}
use proofs.OneDifference.{one_group_difference}

module _ (h : History) (e : Entry) (r : Rule) where
  abbrev fr : Event → Entry
  fr ev = but e ev (Refused r)

  abbrev kk : Event → History
  kk ev = just h (fr ev)

  none_moved : (ev : Event) → IsChange h (kk ev) e.change → (s : List ℕ) → groups_in s e.change ≡ []
  none_moved ev c s =
      one_group_difference (listed h s) (listed (kk ev) s) (groups_in s e.change) [] (c.groups s)
      ((no_change h (kk ev) (λ t g p. sym (rows_left h e ev (Refused r) refl t g p))).groups s)

  nothing_told : (ev : Event) → IsChange h (kk ev) e.change → (seat n : ℕ) (t : Target)
      (es : List Entry) → updates_since seat n t (fr ev ∷ es) ≡ updates_since seat n t es
  nothing_told ev c seat n t es = grind (arith, none_moved ev c t.scope, append-nil)

  -- the audit has one entry more, or the same ones
  audit_after : (P : List Entry → Type 0) (ev : Event) → P (fr ev ∷ audited h.entries)
      → P (audited h.entries) → P (audited (kk ev).entries)
  audit_after P ev more same = by (is_entered (fr ev))
    where
      by : (b : Bool) → P (cond b (fr ev ∷ audited h.entries) (audited h.entries))
      by true = more
      by false = same

  none_to_tell : (ev : Event) → IsChange h (kk ev) e.change → (seat n : ℕ) (es : List Entry)
      → updates (past h.opening (fr ev ∷ es)) seat n ≡ updates (past h.opening es) seat n
  none_to_tell ev c seat n es =
      ap (λ f. option_map_or f (monitor (past h.opening es) seat n) [])
      (λ i t. nothing_told ev c seat n t es i)

  refused_leaves : (ev : Event) → IsChange h (kk ev) e.change → IsUntouched h (kk ev)
  refused_leaves ev c = record {
    opening = refl;
    creation = refl;
    cookies = λ n. refl;
    allow_list = refl;
    scopes = refl;
    spawned = refl;
    living = refl;
    lives = λ p. refl;
    links = refl;
    same_link = λ l. grind arith;
    up = λ l. grind arith;
    present = λ n. refl;
    heard = λ l s. grind arith;
    told = λ l s. grind arith;
    own = λ s g p. refl;
    listed = λ s g p. rows_left h e ev (Refused r) refl s g p;
    monitors = λ seat n. refl;
    updates = λ seat n. none_to_tell ev c seat n h.entries;
    audited_monitors = λ seat n.
        audit_after (λ es. monitor (past h.opening es) seat n ≡ monitor (audit_of h) seat n) ev
        refl refl;
    audited_updates = λ seat n.
        audit_after (λ es. updates (past h.opening es) seat n ≡ updates (audit_of h) seat n) ev
        (none_to_tell ev c seat n (audited h.entries)) refl;
  }

pub entry_leaves : (h : History) (e : Entry) → IsNext h e → is_accepted e.verdict ≡ false
    → IsUntouched h (with_entry h e)
entry_leaves h e next q = by e.verdict q next.change
  where
    by : (v : Verdict) → is_accepted v ≡ false
        → IsChange h (with_entry h (but e e.event v)) e.change
        → IsUntouched h (with_entry h (but e e.event v))
    by (Accepted r) q c = lie q
    by (Refused r) q c = refused_leaves h e r e.event c

-- no frame of link l: it is open as before, and nothing new waits for it
pub others_left : (h : History) (e : Entry) (l : ℕ) → is_accepted e.verdict ≡ false
    → frame_of l h.entries e.event ≡ None → IsAsOpen l h (just h e)
others_left h e l q f = grind (arith, append-nil)
