-- What an entry does to the words of the policy, and what it leaves alone.
use Rattle.policy_audit.proofs
use proofs.Words.{Accepted, arith, checks, cond, Entry, Event, false, first_broken, History}
use proofs.Words.{is_accepted, is_running, IsSameLink, IsStep, judgement, just, leaves_rows}
use proofs.Words.{List, listed, mentions, None, own, Pid, refl, Refused, Reply, same, same_decides}
use proofs.Words.{same_pid, subst, sym, true, Verdict, ℕ, ◌&&◌, ◌+◌, ◌-◌, ◌==◌, ◌∷◌, ◌≡◌}
use proofs.Accepted.{accepted, lie}
use proofs.Walked.{but}

-- ---- entries that change no listing

module _ (h : History) (e : Entry) where
  pub rows_left : (ev : Event) (v : Verdict) → leaves_rows (but e ev v) ≡ true
      → (s g : List ℕ) (p : Pid) → listed (just h (but e ev v)) s g p ≡ listed h s g p
  rows_left (Event.Frame k body) (Refused r) q s g p = grind arith
  rows_left ev (Refused r) q s g p = refl
  rows_left Event.Restart (Accepted r) q s g p = lie (sym q)
  rows_left ev (Accepted r) q s g p = grind arith

-- ---- the same, of an entry that is given by its event

pub entry_rows : (h : History) (e : Entry) → leaves_rows e ≡ true → (s g : List ℕ) (p : Pid)
    → listed (just h e) s g p ≡ listed h s g p
entry_rows h e q s g p = rows_left h e e.event e.verdict q s g p

pub entry_link : (es : List Entry) (e : Entry) (k l : ℕ) (body : List ℕ)
    → e.event ≡ Event.Frame k body → (k == l) ≡ false → IsSameLink l es (e ∷ es)
entry_link es e k l body q another = grind arith

-- where a fact holds of each accepted entry of an event, it holds of this one
pub by_accepted : (e : Entry) (ev : Event) (P : Entry → Type 0) → e.event ≡ ev
    → is_accepted e.verdict ≡ true → ((r : Reply) → P (but e ev (Accepted r))) → P e
by_accepted e ev P q a each = subst (λ x. P (but e x e.verdict)) (sym q) (by e.verdict a)
  where
    by : (v : Verdict) → is_accepted v ≡ true → P (but e ev v)
    by (Accepted r) a = each r
    by (Refused r) a = lie (sym a)

module _ (h : History) (e : Entry) (s g : List ℕ) (ps : List Pid) where
  pub entry_joined : e.event ≡ Event.Join s g ps → is_accepted e.verdict ≡ true
      → is_running h s ≡ true → (t f : List ℕ) (p : Pid)
      → own (just h e) t f p
      ≡ cond (same s t && same g f) (own h t f p + mentions p ps) (own h t f p)
  entry_joined q a up t f p = grind (arith, same_decides s t)

  pub entry_left : e.event ≡ Event.Leave s g ps → is_accepted e.verdict ≡ true
      → (t f : List ℕ) (p : Pid)
      → own (just h e) t f p
      ≡ cond (same s t && same g f) (own h t f p - mentions p ps) (own h t f p)
  entry_left q a t f p = grind arith

pub entry_exited : (h : History) (e : Entry) (q : Pid) → e.event ≡ Event.Exit q
    → is_accepted e.verdict ≡ true → (t f : List ℕ) (p : Pid)
    → own (just h e) t f p ≡ cond (same_pid q p) 0 (own h t f p)
entry_exited h e q same_event a t f p = grind arith

-- where a fact holds of each entry that accepts an event as the policy does, it holds of this one
pub by_made : (h : History) (e : Entry) (ev : Event) (P : Entry → Type 0) → IsStep h e
    → is_accepted e.verdict ≡ true → e.event ≡ ev
    → ((r : Reply) → Accepted r ≡ judgement h e.seat ev → P (but e ev (Accepted r))) → P e
by_made h e ev P made a q each =
    by_accepted e ev (λ x. x.verdict ≡ judgement h x.seat x.event → P x) q a each made.judged

-- an event that is accepted breaks no rule
pub breaks_none : (h : History) (e : Entry) (ev : Event) → IsStep h e → is_accepted e.verdict ≡ true
    → e.event ≡ ev → first_broken (checks h e.seat ev) ≡ None
breaks_none h e ev made a q = grind (arith, accepted)
