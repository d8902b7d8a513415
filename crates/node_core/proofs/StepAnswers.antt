-- What a step answers, from what it enters.
use Rattle.node_core.proofs
use Rattle.node_core.specs
use proofs.Words.{Accepted, after, Answered, Answers, ap, arith, Bool, Call, Change, CoreFault}
use proofs.Words.{entered, Entry, entry_of, Err, Event, false, Follows, History, history, is_full}
use proofs.Words.{is_local, IsLegal, IsLegalIn, IsNext, Keeps, Kept, length, List, lt-ltb, ltb-true}
use proofs.Words.{nat_le, next_is, Ok, Opening, parts, Pid, refl, Refused, Reply, Result, Rule}
use proofs.Words.{same, subst, suc, sym, true, Verdict, verdict, with_entry, ℕ, [], ◌&&◌, ◌+◌, ◌<◌}
use proofs.Words.{◌==◌, ◌^◌, ◌∙◌, ◌∷◌, ◌≡◌, ◌≤◌}
use Rattle.std.proofs.lemmas.Bool.Decides.{leb_tells}
use Rattle.policy_audit.specs.Log.{IsAuditFault, Log}
use Rattle.policy_audit.specs.declared.audit.AuditFault.{AuditFault}
use Rattle.group_monitors.specs.Follows.{Reaches}
use Rattle.group_monitors.proofs.Reached.{reach_after}
use Rattle.policy_audit.proofs.ScopeChanges.{next_is_after}
use Rattle.policy_audit.proofs.Losses.{history_opening, legal_next, made_entered, made_legal}
use Rattle.policy_audit.proofs.Losses.{next_entered, same_opening}
use proofs.Entered.{seen}
use specs.Unentered.{unentered}
use specs.Core.{IsCore}
use specs.Recorded.{Recorded}
use specs.Step.{IsStepped, made, one_more, reply_of}

-- ---- a node with these entries

-- of a node's value the history
pub its_history : {x y : Recorded} → x ≡ y → x.history ≡ y.history
its_history is = ap (λ node. node.history) is

-- its history has as many entries as its audit, and its opening
pub core_keeps : {audit : Log} {kept : Kept} → IsCore kept.opening audit kept
    → Keeps (history kept.opening audit.entries) kept
core_keeps {audit} {kept} core = record {
  opening = sym (history_opening kept.opening audit.entries);
  legal = made_legal kept.opening audit.entries core.legal;
  follows = core.follows;
}

module _ {o : Opening} {audit : Log} {kept : Kept} (core : IsCore o audit kept)
    {now : History} (is : history o audit.entries ≡ now) where
  abbrev es : List Entry
  es = audit.entries

  pub core_count : entered now.entries ≡ length es
  core_count = ap (λ h. entered h.entries) (sym is) ∙ made_entered o es core.legal

  pub core_opening : now.opening ≡ o
  core_opening = ap (λ h. h.opening) (sym is) ∙ history_opening o es

  pub core_limit : audit.limit ≡ now.opening.entries
  core_limit = core.within ∙ ap (λ x. x.entries) (sym core_opening)

  pub core_full : nat_le o.entries (length es) ≡ is_full now
  core_full = rw (core_count, ap (λ x. x.entries) core_opening)
      (grind (arith, leb_tells o.entries (length es), leb_tells (suc (length es)) o.entries))

  -- so the next number fits its type
  pub core_space : is_full now ≡ false → length es + 1 < 2 ^ 32
  core_space room =
      let less : entered now.entries < now.opening.entries = grind (arith, ltb-true) in
      let fits = (seen is core.follows).sound.fits in
      let many = core_count in
      omega arith

  pub core_local : (p : Pid)
      → (same p.node o.name && p.creation == kept.admission.creation) ≡ is_local now p
  core_local p =
      λ i. same p.node (sym core_opening i).name
      && p.creation == (seen is core.follows).admission.creation i

-- ---- an event that is answered

module _ (o : Opening) (es : List Entry) (legal : IsLegalIn o es) (seat : ℕ) (e : Event) where
  abbrev h : History
  h = history o es

  abbrev call : Call
  call = record { past = h; seat = seat }

  -- the entries then, as the policy makes them
  abbrev entries_then : Result Answered CoreFault → List Entry
  entries_then (Ok a) = made h seat e (Accepted a.reply) a.changes.items ∷ es
  entries_then (Err (CoreFault.Refused r)) = made h seat e (Refused r) [] ∷ es
  entries_then (Err CoreFault.OutOfMemory) = es

  opening_is : (kept : Kept) (answered : Result Answered CoreFault) → Answers call e kept answered
      → kept.opening ≡ o
  unfolding Answers
  opening_is kept (Ok a) t =
      t.1.1.opening ∙ same_opening h (made h seat e (Accepted a.reply) a.changes.items)
      ∙ history_opening o es
  opening_is kept (Err (CoreFault.Refused r)) t = t.1.opening ∙ history_opening o es
  opening_is kept (Err CoreFault.OutOfMemory) t = t.opening ∙ history_opening o es

  number_is : length es + 1 ≡ entered h.entries + 1
  number_is = ap (λ n. n + 1) (sym (made_entered o es legal))

  entries_are : (kept : Kept) (answered : Result Answered CoreFault) → Answers call e kept answered
      → one_more es seat e answered ≡ entries_then answered
  unfolding Answers
  entries_are kept (Ok a) t = grind (arith, number_is, t.0)
  entries_are kept (Err (CoreFault.Refused r)) t = grind (arith, number_is)
  entries_are kept (Err CoreFault.OutOfMemory) t = refl

  legal_then : (kept : Kept) (answered : Result Answered CoreFault) → Answers call e kept answered
      → IsLegalIn o (entries_then answered)
  unfolding Answers
  legal_then kept (Ok a) t = (t.1.0, legal)
  legal_then kept (Err (CoreFault.Refused r)) t = (t.0, legal)
  legal_then kept (Err CoreFault.OutOfMemory) t = legal

  had_then : (answered : Result Answered CoreFault) {forgotten : ℕ} → forgotten ≤ length es
      → forgotten ≤ length (entries_then answered)
  had_then (Ok a) had = omega arith
  had_then (Err (CoreFault.Refused r)) had = omega arith
  had_then (Err CoreFault.OutOfMemory) had = had

  -- what monitors have still to be told stays kept
  reach_then : (answered : Result Answered CoreFault) {forgotten : ℕ} → forgotten ≤ length es
      → Reaches forgotten es → Reaches forgotten (entries_then answered)
  reach_then (Ok a) {forgotten} had reach =
      reach_after (made h seat e (Accepted a.reply) a.changes.items) es forgotten had reach
  reach_then (Err (CoreFault.Refused r)) {forgotten} had reach =
      reach_after (made h seat e (Refused r) []) es forgotten had reach
  reach_then (Err CoreFault.OutOfMemory) had reach = reach

  follows_then : (kept : Kept) (answered : Result Answered CoreFault) → Answers call e kept answered
      → Follows (history o (entries_then answered)) (parts kept)
  unfolding Answers
  follows_then kept (Ok a) t = t.1.1.follows
  follows_then kept (Err (CoreFault.Refused r)) t = t.1.follows
  follows_then kept (Err CoreFault.OutOfMemory) t = t.follows

  -- an entry of the event that is the policy's next makes the policy's history
  next_step : (v : Verdict) (cs : List Change) → IsNext h (made h seat e v cs)
      → (verdict h seat e ≡ v) × (with_entry h (made h seat e v cs) ≡ after h seat e)
  next_step v cs next = (sym next.verdict, next_is_after h (made h seat e v cs) next)

  step_then : is_full h ≡ false → (kept : Kept) (answered : Result Answered CoreFault)
      → Answers call e kept answered
      → IsStepped h seat e (history o (entries_then answered)) (reply_of answered)
  unfolding Answers IsStepped
  step_then space kept (Ok a) t = next_step (Accepted a.reply) a.changes.items t.1.0
  step_then space kept (Err (CoreFault.Refused r)) t = next_step (Refused r) [] t.0
  step_then space kept (Err CoreFault.OutOfMemory) t = (space, refl)

  -- the same of what a step has in hand
  module _ (kept : Kept) (answered : Result Answered CoreFault) (t : Answers call e kept answered)
      {entries : List Entry} (pushed : entries ≡ one_more es seat e answered) where
    in_hand : (P : Opening → List Entry → Type 0) → P o (entries_then answered)
        → P kept.opening entries
    in_hand P = subst (λ (x : Opening × List Entry). P x.0 x.1)
        (λ i. (sym (opening_is kept answered t) i, sym (pushed ∙ entries_are kept answered t) i))

    pub step_so : is_full h ≡ false → {now : History} → h ≡ now → {ev : Event} → e ≡ ev
        → {result : Result Reply CoreFault} → result ≡ reply_of answered
        → IsStepped now seat ev (history kept.opening entries) result
    step_so space {now} before {ev} event {result} is =
        rw (is, ← event, ← before)
        (in_hand (λ x xs. IsStepped h seat e (history x xs) (reply_of answered))
        (step_then space kept answered t))

    pub core_so : {limit forgotten : ℕ} {room : Bool} → limit ≡ o.entries
        → forgotten ≤ length es → Reaches forgotten es
        → IsCore kept.opening
        (record { limit = limit; entries = entries; forgotten = forgotten; has_room = room }) kept
    core_so {limit} {forgotten} within had reach = record {
      within = within ∙ ap (λ x. x.entries) (sym (opening_is kept answered t));
      legal = in_hand IsLegalIn (legal_then kept answered t);
      had = in_hand (λ x xs. forgotten ≤ length xs) (had_then answered had);
      reach = in_hand (λ x xs. Reaches forgotten xs)
          (reach_then answered had reach);
      follows =
          in_hand (λ x xs. Follows (history x xs) (parts kept)) (follows_then kept answered t);
    }

-- ---- nothing is entered

-- for want of memory
pub unstepped : (old new : History) (seat : ℕ) (e : Event) → is_full old ≡ false → new ≡ old
    → IsStepped old seat e new (Err CoreFault.OutOfMemory)
unfolding IsStepped
unstepped old new seat e space same = (space, same)

-- where the audit is full
pub full_step : (old : History) (seat : ℕ) (e : Event) → is_full old ≡ true
    → IsStepped old seat e old (Err (CoreFault.Refused Rule.EntriesFull))
unfolding IsStepped
full_step old seat e full = (rw full refl, rw full refl)

-- an audit that takes one entry more is that of a history that isn't full
pub not_full : (log : Log) (h : History) → entered h.entries ≡ length log.entries
    → log.limit ≡ h.opening.entries
    → length log.entries < log.limit → is_full h ≡ false
not_full log h entries limit less = grind (arith, entries, limit, less, lt-ltb)

-- where the audit has no room
pub unentered_step : (log : Log) {old new : History} → entered old.entries ≡ length log.entries
    → log.limit ≡ old.opening.entries → new ≡ old → (seat : ℕ) (e : Event) (fault : AuditFault)
    → IsAuditFault fault log → IsStepped old seat e new (Err (unentered fault))
unentered_step log {old} {new} entries limit same seat e AuditFault.EntriesFull full =
    subst (λ h. IsStepped old seat e h (Err (CoreFault.Refused Rule.EntriesFull))) (sym same)
    (full_step old seat e (grind (arith, entries, limit, full, lt-ltb, ltb-true)))
unentered_step log {old} {new} entries limit same seat e AuditFault.OutOfMemory wanting =
    unstepped old new seat e (not_full log old entries limit wanting.0) same

-- ---- what a step leaves of a history

module _ (old new : History) (seat : ℕ) (e : Event) where
  -- what holds before and after the event holds of what a step leaves
  leaves : (P : History → Type 0) → P old → P (after old seat e) → (result : Result Reply CoreFault)
      → IsStepped old seat e new result → P new
  unfolding IsStepped
  leaves P was now (Ok reply) t = subst P (sym t.1) now
  leaves P was now (Err (CoreFault.Refused rule)) t = subst P (sym t.1) now
  leaves P was now (Err CoreFault.OutOfMemory) t = subst P (sym t.1) was

  then : (P : History → Type 0) → P old
      → (is_full old ≡ false → P (with_entry old (entry_of old seat e))) → P (after old seat e)
  then P was now = grind arith

  pub stepped_legal : (result : Result Reply CoreFault) → IsLegal old
      → IsStepped old seat e new result → IsLegal new
  stepped_legal result legal t = leaves IsLegal legal (then IsLegal legal one) result t
    where
      one : is_full old ≡ false → IsLegal (with_entry old (entry_of old seat e))
      one q = let next = next_is old seat e q in
          (legal_next old (entry_of old seat e) (next_entered old (entry_of old seat e) next)).1
          (next, legal)

  pub stepped_opening : (result : Result Reply CoreFault) → IsStepped old seat e new result
      → new.opening ≡ old.opening
  stepped_opening result t =
      leaves (λ h. h.opening ≡ old.opening) refl
      (then (λ h. h.opening ≡ old.opening) refl (λ q. same_opening old (entry_of old seat e)))
      result t
