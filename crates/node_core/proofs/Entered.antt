-- A history with one entry more: what the policy says of it, and what is kept then.
use Rattle.node_core.proofs
use proofs.Words.{Accepted, admission_words, AdmissionFollows, AdmissionRules, answer, ap, arith}
use proofs.Words.{audit_of, audited, Change, checks, cond, entered, Entry, eqb-true, Event, events}
use proofs.Words.{false, first_broken, Follows, follows_other, History, how_many, is_accepted}
use proofs.Words.{is_entered, is_full, is_restart, is_spawn, IsAlone, IsChange, IsNumbered, IsSound}
use proofs.Words.{IsStep, judged, judgement, just, KeptLink, length, link_words, LinksFollow, List}
use proofs.Words.{lt-ltb, ltb-true, next_number, None, not, Option, Parts, process_words}
use proofs.Words.{ProcessesFollow, refl, Refused, Reply, Rule, Running, scope_words, ScopesFollow}
use proofs.Words.{Some, Spawned, subst, suc, sym, true, Verdict, verdict, ℕ, [], ◌&&◌, ◌+◌, ◌<◌}
use proofs.Words.{◌∙◌, ◌∷◌, ◌≡◌, ◌≤◌}
use Rattle.group_monitors.specs.Follows.{concerns_monitors, FollowsPolicy}
pub use Rattle.node_core.specs.Step.{made}

module _ (h : History) (seat : ℕ) (ev : Event) (space : is_full h ≡ false) where
  judge : (o : Option Rule) → first_broken (checks h seat ev) ≡ o
      → verdict h seat ev ≡ judged h seat ev o
  judge o found = rw space (ap (judged h seat ev) found)

  pub accepted_now : (r : Reply) → first_broken (checks h seat ev) ≡ None → answer h seat ev ≡ r
      → Accepted r ≡ verdict h seat ev
  accepted_now r none is = ap Accepted (sym is) ∙ sym (judge None none)

  pub refused_now : (r : Rule) → first_broken (checks h seat ev) ≡ Some r
      → Refused r ≡ verdict h seat ev
  refused_now r found = sym (judge (Some r) found)

  pub space_is : entered h.entries < h.opening.entries
  space_is = grind (arith, ltb-true)

  pub answered_now : (v : Verdict) (cs : List Change) → v ≡ verdict h seat ev
      → IsStep h (made h seat ev v cs)
  answered_now v cs is = record {
    number = by ev;
    judged = rw space at is;
  }
    where
      by : (x : Event) → IsNumbered h (next_number h) x
      by (Event.Lost l) = λ q. refl
      by x = refl

  pub next_now : (v : Verdict) (cs : List Change) → v ≡ verdict h seat ev
      → IsChange h (just h (made h seat ev v cs)) cs → IsAlone h (made h seat ev v cs)
  next_now v cs is changes = record {
    room = space_is;
    number = refl;
    verdict = is;
    change = changes;
  }

  -- an accepted event is the next entry, where its changes follow from its being made
  pub accepted_next : (r : Reply) (cs : List Change) → first_broken (checks h seat ev) ≡ None
      → answer h seat ev ≡ r
      → (IsStep h (made h seat ev (Accepted r) cs)
      → IsChange h (just h (made h seat ev (Accepted r) cs)) cs)
      → IsAlone h (made h seat ev (Accepted r) cs)
  accepted_next r cs holds is changes =
      let now = accepted_now r holds is in
      next_now (Accepted r) cs now (changes (answered_now (Accepted r) cs now))

pub answered_by : {h : History} {e : Entry} → IsAlone h e → IsStep h e
answered_by {h} {e} next = record {
  number = by e.event;
  judged =
      next.verdict ∙ ap (λ b. cond b (Refused Rule.EntriesFull) (judgement h e.seat e.event))
      (ap not (lt-ltb (entered h.entries) h.opening.entries next.room));
}
  where
    by : (ev : Event) → IsNumbered h e.number ev
    by (Event.Lost l) = λ q. next.number
    by ev = next.number

-- at most one more was spawned
spawned_more : (e : Entry) (es : List Entry)
    → how_many is_spawn (events (e ∷ es)) ≤ suc (how_many is_spawn (events es))
spawned_more e es = grind (arith, is_restart e.event, is_spawn e.event)

-- an entry with the next number is one of the audit
pub real : (h : History) (e : Entry) → IsAlone h e → is_entered e ≡ true
real h e next = grind (arith, next.number, eqb-true e.number 0)

pub one_entered : (h : History) (e : Entry) → IsAlone h e
    → entered (e ∷ h.entries) ≡ suc (entered h.entries)
one_entered h e next = grind (arith, real h e next)

pub sound_now : (h : History) (e : Entry) → IsSound h → IsAlone h e → IsSound (just h e)
sound_now h e sound next = record {
  played = (answered_by next, sound.played);
  fits = sound.fits;
  few = let space = next.room in let one = one_entered h e next in omega arith;
  few_spawned = let more = spawned_more e h.entries in let so_far = sound.few_spawned in
      let one = one_entered h e next in omega arith;
  links = sound.links;
}

-- the audit has as many entries as are counted
pub audit_size : (es : List Entry) → length (audited es) ≡ entered es
audit_size [] = refl
audit_size (e ∷ es) = grind (arith, audit_size es)

pub audit_more : (h : History) (e : Entry) → IsAlone h e → audit_of (just h e) ≡ just (audit_of h) e
audit_more h e next =
    ap (λ b. record {
      opening = h.opening;
      entries = cond b (e ∷ audited h.entries) (audited h.entries);
    }) (real h e next)

-- so the next number is by the audit alone
pub audit_next : (h : History) → next_number h ≡ length (audited h.entries) + 1
audit_next h = ap (λ n. n + 1) (sym (audit_size h.entries))

-- all that is kept follows the next entry, where no monitor is concerned
pub step_follows : {h : History} {parts : Parts} {e : Entry} → Follows h parts → IsAlone h e
    → (is_accepted e.verdict && concerns_monitors e.event) ≡ false
    → {a : AdmissionRules} {p : Spawned} {rs : List Running} {ks : List KeptLink}
    → AdmissionFollows (admission_words (just h e)) a → ProcessesFollow (process_words (just h e)) p
    → ScopesFollow (scope_words (just h e)) rs → LinksFollow (link_words (just h e)) ks
    → Follows (just h e) (record parts { admission = a; processes = p; scopes = rs; links = ks })
step_follows {h} {parts} {e} t next calm a p s l = record {
  sound = sound_now h e t.sound next;
  admission = a;
  processes = p;
  scopes = s;
  links = l;
  monitors =
      subst (λ k. FollowsPolicy k parts.monitors) (sym (audit_more h e next))
      (follows_other (audit_of h) e parts.monitors (next.number ∙ audit_next h) t.monitors calm);
}

-- what follows the history that was opened follows the one that was given
pub seen : {h now : History} {parts : Parts} → h ≡ now → Follows h parts → Follows now parts
seen {h} {now} {parts} is = subst (λ k. Follows k parts) is
