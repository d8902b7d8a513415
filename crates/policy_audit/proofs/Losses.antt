-- The losses of slow links, which come with an entry.
use Rattle.policy_audit.proofs
use proofs.Words.{Accepted, always, ap, append-nil, arith, audited, awaits, Bool, Check, checks}
use proofs.Words.{cond, entered, Entry, eqb-true, Event, false, filter, first_broken, frame_checks}
use proofs.Words.{frame_taken, History, history, is_accepted, is_empty, is_entered, is_local}
use proofs.Words.{is_open, is_running, is_slow, is_whole, IsLegal, IsLegalIn, IsNext, IsPlayed}
use proofs.Words.{IsPlayedIn, IsStep, judged, judgement, just, length, links, List, list_all}
use proofs.Words.{listed, listed_by, lose, loss, lt-ltb, ltb-true, max_waiting, Message2}
use proofs.Words.{message_checks, nat_lt, None, not, Opening, Option, option_map_or, own, past, Pid}
use proofs.Words.{present_link, refl, refusal_owes, Refused, Rule, slow_links, Some, subst, sym}
use proofs.Words.{true, Verdict, waiting, waiting_in, whole, with_entry, ℕ, [], ◌&&◌, ◌↔◌}
use proofs.Words.{◌∙◌, ◌∷◌, ◌≡◌, ◌≤◌}
use proofs.Finished.{whole_awaits}
use proofs.Walked.{open_opened}
use proofs.Accepted.{lie}
use proofs.KeptLinks.{Falls, links_fall, opened_linked}
use proofs.KeptNumbers.{falls_left}
use proofs.LostWords.{is_one, left_link, lost_audited, lost_listed, lost_open, lost_waiting}

-- ---- losses of different links are steps of a history

module _ (o : Opening) where
  lost_step : (es : List Entry) (l : ℕ) → is_open l es ≡ true → IsStep (past o es) (loss l)
  lost_step es l opens = record { number = λ q. lie q; judged = grind (arith, opens) }

  one_of_less : (l : ℕ) (ls : List ℕ) → list_all (λ y. nat_lt y l) ls ≡ true → is_one l ls ≡ false
  one_of_less l [] a = refl
  one_of_less l (k ∷ ks) a = grind (arith, one_of_less l ks, eqb-true k l, ltb-true k l)

  pub losses_played : (es : List Entry) → IsPlayedIn o es → (ls : List ℕ) → Falls ls
      → list_all (λ l. is_open l es) ls ≡ true → IsPlayedIn o (lose ls es)
  losses_played es legal [] f a = legal
  losses_played es legal (l ∷ ls) f a =
      let one = one_of_less l ls f.0 in
      let opens : is_open l (lose ls es) ≡ true = grind (arith, lost_open es ls l, one) in
      (lost_step (lose ls es) l opens, losses_played es legal ls f.1 (grind arith))

-- ---- a history that the policy makes

slow_open : (o : Opening) (es : List Entry) (ls : List ℕ)
    → list_all (λ l. is_open l es) (filter (is_slow o es) ls) ≡ true
slow_open o es [] = refl
slow_open o es (l ∷ ls) = grind (arith, slow_open o es ls)

-- an entry and its losses are steps of a history
pub entry_played : (h : History) (e : Entry) → IsPlayed (just h e) → IsPlayed (with_entry h e)
entry_played h e legal = by (is_accepted e.verdict)
  where
    k : History
    k = just h e

    by : (b : Bool) → IsPlayed (cond b (past h.opening (lose (slow_links k) (e ∷ h.entries))) k)
    by false = legal
    by true =
        losses_played h.opening (e ∷ h.entries) legal (slow_links k)
        (falls_left (is_slow h.opening (e ∷ h.entries)) (links (e ∷ h.entries))
        (links_fall k legal)) (slow_open h.opening (e ∷ h.entries) (links (e ∷ h.entries)))

-- an entry that the policy makes is a step
pub next_step : (h : History) (e : Entry) → IsNext h e → IsStep h e
next_step h e next = grind (arith, lt-ltb)

pub made_played : (o : Opening) (es : List Entry) → IsLegalIn o es → IsPlayed (history o es)
made_played o [] legal = tt
made_played o (e ∷ es) legal =
    entry_played (history o es) e (next_step (history o es) e legal.0, made_played o es legal.1)

pub legal_played : (h : History) → IsLegal h → IsPlayed h
legal_played h legal = grind (arith, made_played)

-- ---- one entry more

-- what stands behind the newest entry
abbrev behind : List Entry → List Entry
behind [] = []
behind (e ∷ es) = cond (is_entered e) es (behind es)

behind_losses : (e : Entry) (es : List Entry) → is_entered e ≡ true → (ls : List ℕ)
    → behind (lose ls (e ∷ es)) ≡ es
behind_losses e es real [] = ap (λ b. cond b es (behind es)) real
behind_losses e es real (l ∷ ls) = behind_losses e es real ls

module _ (h : History) (e : Entry) where
  by_verdict : (P : History → Type 0)
      → P (past h.opening (lose (slow_links (just h e)) (e ∷ h.entries))) → P (just h e)
      → P (with_entry h e)
  by_verdict P accepts refuses = grind arith

  pub same_opening : (with_entry h e).opening ≡ h.opening
  same_opening = by_verdict (λ k. k.opening ≡ h.opening) refl refl

  one_more : is_entered e ≡ true → audited (e ∷ h.entries) ≡ e ∷ audited h.entries
  one_more real = ap (λ b. cond b (e ∷ audited h.entries) (audited h.entries)) real

  pub audited_more : is_entered e ≡ true → audited (with_entry h e).entries ≡ e ∷ audited h.entries
  audited_more real =
      by_verdict (λ k. audited k.entries ≡ e ∷ audited h.entries)
      (lost_audited (e ∷ h.entries) (slow_links (just h e)) ∙ one_more real) (one_more real)

  behind_is : is_entered e ≡ true → behind (with_entry h e).entries ≡ h.entries
  behind_is real = grind (arith, behind_losses)

pub history_opening : (o : Opening) (es : List Entry) → (history o es).opening ≡ o
history_opening o [] = refl
history_opening o (e ∷ es) = same_opening (history o es) e ∙ history_opening o es

pub legal_next : (h : History) (e : Entry) → is_entered e ≡ true
    → IsLegal (with_entry h e) ↔ (IsNext h e × IsLegal h)
legal_next h e real = (there, back)
  where
    raw : List Entry
    raw = audited h.entries

    k : History
    k = with_entry h e

    there : IsLegal k → IsNext h e × IsLegal h
    there legal =
        let all : IsLegalIn h.opening (e ∷ raw) =
        subst (λ (x : Opening × List Entry). IsLegalIn x.0 x.1)
        (λ i. (same_opening h e i, audited_more h e real i)) legal.entries in
        let is : k ≡ with_entry (history h.opening raw) e =
        legal.whole ∙ (λ i. history (same_opening h e i) (audited_more h e real i)) in
        let tail : h.entries ≡ (history h.opening raw).entries =
        sym (behind_is h e real) ∙ ap (λ x. behind x.entries) is
        ∙ behind_is (history h.opening raw) e real in
        let whole : h ≡ history h.opening raw =
        (λ i. past (sym (history_opening h.opening raw) i) (tail i)) in
        (subst (λ x. IsNext x e) (sym whole) all.0, record { entries = all.1; whole = whole })

    back : IsNext h e × IsLegal h → IsLegal k
    back both = grind (arith, same_opening, audited_more)

-- ---- the entries of an audit

-- what the policy makes of an event is an entry of the audit
pub next_entered : (h : History) (e : Entry) → IsNext h e → is_entered e ≡ true
next_entered h e next = grind (arith, next.number, eqb-true e.number 0)

-- the history of an audit has the entries of that audit
pub made_audited : (o : Opening) (es : List Entry) → IsLegalIn o es
    → audited (history o es).entries ≡ es
made_audited o [] legal = refl
made_audited o (e ∷ es) legal = grind (arith, audited_more, next_entered, made_audited o es legal.1)

-- there are as many as are counted
pub entered_length : (es : List Entry) → entered es ≡ length (audited es)
entered_length [] = refl
entered_length (e ∷ es) = grind (arith, entered_length es)

pub made_entered : (o : Opening) (es : List Entry) → IsLegalIn o es
    → entered (history o es).entries ≡ length es
made_entered o es legal =
    entered_length (history o es).entries ∙ ap length (made_audited o es legal)

-- no more than the audit has room for
made_room : (o : Opening) (es : List Entry) → IsLegalIn o es → length es ≤ o.entries
made_room o [] legal = omega arith
made_room o (e ∷ es) legal = grind (arith, history_opening, made_entered)

pub legal_room : (h : History) → IsLegal h → entered h.entries ≤ h.opening.entries
legal_room h legal = grind (arith, made_room, entered_length)

-- it is a history that the policy makes
pub made_legal : (o : Opening) (es : List Entry) → IsLegalIn o es → IsLegal (history o es)
made_legal o es legal = grind (arith, history_opening, made_audited)

-- ---- few frames wait

pub one_filtered : (test : ℕ → Bool) (l : ℕ) (ls : List ℕ)
    → is_one l (filter test ls) ≡ (test l && is_one l ls)
one_filtered test l [] = grind arith
one_filtered test l (k ∷ ks) = grind (arith, one_filtered test l ks, eqb-true k l)

-- a slow link is one of those that are lost
pub slow_is_one : (k : History) (l : ℕ) → is_one l (slow_links k) ≡ is_slow k.opening k.entries l
slow_is_one k l =
    one_filtered (is_slow k.opening k.entries) l (links k.entries)
    ∙ grind (arith, opened_linked l k.entries, open_opened l k.entries)

-- ---- no link of such a history is slow

module _ (h : History) (l : ℕ) where
  -- where the rules of a list are owed nothing, so is the first that is broken
  first_silent : (cs : List Check) → list_all (λ c. is_empty (refusal_owes c.rule)) cs ≡ true
      → (r : Rule) → first_broken cs ≡ Some r → refusal_owes r ≡ []
  first_silent [] all r q = cc
  first_silent (c ∷ cs) all r q = grind (arith, q, first_silent cs)

  -- a message that is refused owes nothing
  refused_message : (x : Option Message2) (r : Rule)
      → first_broken (option_map_or (message_checks h l) x (always Rule.BadFrame)) ≡ Some r
      → refusal_owes r ≡ []
  refused_message None r q = grind arith
  refused_message (Some (Message2.Discover s)) r q = grind arith
  refused_message (Some (Message2.Part kind s number last rows)) r q =
      first_silent (message_checks h l (Message2.Part kind s number last rows)) (grind arith) r q
  refused_message (Some (Message2.Down s)) r q = grind arith

  refused_up : (seat : ℕ) (body : List ℕ) (r : Rule) → is_open l h.entries ≡ true
      → is_whole l h.entries ≡ true → Refused r ≡ judgement h seat (Event.Frame l body)
      → refusal_owes r ≡ []
  refused_up seat body r opens whole q =
      refused_message (frame_taken h.opening l h.entries body) r
      (trade (rule_of (first_broken (checks h seat (Event.Frame l body))) q)
      (ap (λ b. first_broken
      (cond b (frame_checks h l body (awaits l h.entries)) (always Rule.NoSuchLink))) opens
      ∙ ap (λ a. first_broken (frame_checks h l body a))
      (whole_awaits _ _ whole)))
    where
      rule_of : (x : Option Rule) → Refused r ≡ judged h seat (Event.Frame l body) x → x ≡ Some r
      rule_of None q = grind arith
      rule_of (Some s) q = grind arith

      trade : {x y : Option Rule} → x ≡ Some r → x ≡ y → y ≡ Some r
      trade p e = sym e ∙ p

  -- a refused entry makes no link slow
  refused_few : (e : Entry) (r : Rule) → e.verdict ≡ Refused r → IsStep h e
      → is_slow h.opening h.entries l ≡ false → is_slow h.opening (e ∷ h.entries) l ≡ false
  refused_few e r refuses made few = grind (arith, eqb-true, refused_up, append-nil)

-- after an entry and its losses no link is slow
pub few_next : (h : History) (e : Entry) → IsStep h e
    → ((l : ℕ) → is_slow h.opening h.entries l ≡ false) → (l : ℕ)
    → is_slow (with_entry h e).opening (with_entry h e).entries l ≡ false
few_next h e made few l = by (is_accepted e.verdict) refl
  where
    k : History
    k = just h e

    lost_all : (b : Bool) → is_one l (slow_links (just h e)) ≡ b
        → is_slow h.opening (lose (slow_links (just h e)) (e ∷ h.entries)) l ≡ false
    lost_all true here = grind (arith, lost_open (e ∷ h.entries) (slow_links (just h e)) l, here)
    lost_all false here =
        let opens = lost_open (e ∷ h.entries) (slow_links (just h e)) l in
        let waits = lost_waiting (e ∷ h.entries) h.opening (slow_links (just h e)) l in
        let quick = sym (slow_is_one (just h e) l) ∙ here in
        (λ i. (opens ∙ ap (λ b. not b && is_open l (e ∷ h.entries)) here) i
        && nat_lt max_waiting
        (length ((waits
        ∙ ap (λ b. cond b [] (waiting_in h.opening l (e ∷ h.entries))) here) i))) ∙ quick

    refuses_by : (v : Verdict) → is_accepted v ≡ false → (r : Rule) × (v ≡ Refused r)
    refuses_by (Accepted r) q = lie q
    refuses_by (Refused r) q = (r, refl)

    by : (b : Bool) → is_accepted e.verdict ≡ b
        → is_slow
        (cond b (past h.opening (lose (slow_links (just h e)) (e ∷ h.entries))) (just h e)).opening
        (cond b (past h.opening (lose (slow_links (just h e)) (e ∷ h.entries)))
        (just h e)).entries l ≡ false
    by true q = lost_all (is_one l (slow_links (just h e))) refl
    by false q = (let it = refuses_by e.verdict q in refused_few h l e it.0 it.1 made (few l))

pub made_few : (o : Opening) (es : List Entry) → IsLegalIn o es → (l : ℕ)
    → is_slow (history o es).opening (history o es).entries l ≡ false
made_few o [] legal l = refl
made_few o (e ∷ es) legal l = grind (arith, few_next, next_step, made_few o es legal.1)

pub legal_few : (h : History) → IsLegal h → (l : ℕ) → is_slow h.opening h.entries l ≡ false
legal_few h legal l = grind (arith, made_few)

-- at most so many frames wait for an open link
pub few_wait : (h : History) → IsLegal h → (l : ℕ) → is_open l h.entries ≡ true
    → length (waiting h l) ≤ max_waiting
few_wait h legal l opens =
    (let few : nat_lt max_waiting (length (waiting h l))
    ≡ false = grind (arith, legal_few h legal l, opens) in grind (arith, few, lt-ltb))

-- ---- which rows go

pub lost_rows_gone : (o : Opening) (es : List Entry) (ls s g : List ℕ) (p : Pid)
    → listed (past o (lose ls es)) s g p
    ≡ cond (not (is_local (past o es) p)
    && option_map_or (λ k. is_one k ls) (present_link p.node es) false) 0 (listed (past o es) s g p)
lost_rows_gone o es ls s g p =
    lost_listed es o ls s g p
    ∙ by (present_link p.node es) (is_local (past o es) p) (is_running (past o es) s)
  where
    by : (x : Option ℕ) (a r : Bool)
        → cond a (own (past o es) s g p)
        (cond r (option_map_or (listed_by (past o es) s g p) (left_link es ls x) 0) 0)
        ≡ cond (not a && option_map_or (λ k. is_one k ls) x false) 0
        (cond a (own (past o es) s g p)
        (cond r (option_map_or (listed_by (past o es) s g p) x 0) 0))
    by None a r = grind arith
    by (Some l) a r = grind arith

-- ---- an entry with no losses

pub lost_with : (h : History) (e : Entry) → is_accepted e.verdict ≡ true
    → (with_entry h e).entries ≡ lose (slow_links (just h e)) (just h e).entries
lost_with h e accepts = grind arith

pub slow_both : (h : History) (l : ℕ)
    → (is_one l (slow_links h) ≡ true) ↔ (is_slow h.opening h.entries l ≡ true)
slow_both h l = (λ q. sym (slow_is_one h l) ∙ q, λ q. slow_is_one h l ∙ q)

pub alone : (h : History) (e : Entry) → slow_links (just h e) ≡ [] → with_entry h e ≡ just h e
alone h e none = grind arith
