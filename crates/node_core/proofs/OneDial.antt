-- One own dial to a peer is unfinished at a time.
use Rattle.node_core.proofs
use proofs.Words.{Accepted, accepted, all_hold, and_parts, ap, arith, Bool, dial_checks, Entry}
use proofs.Words.{eqb-true, Event, false, first_broken, History, is_dialling, is_open}
use proofs.Words.{is_unfinished_dial, IsPlayed, IsPlayedIn, judgement, lie, links, List, None, not}
use proofs.Words.{opened, Opening, past, refl, Reply, same_decides, some_of, sym, taken, true}
use proofs.Words.{unbroken, Verdict, ℕ, [], ◌&&◌, ◌==◌, ◌∙◌, ◌∷◌, ◌≡◌}
use proofs.Found.{not_so}
use Rattle.policy_audit.proofs.Walked.{but, open_opened}
use Rattle.policy_audit.proofs.Finished.{whole_kept}
use Rattle.policy_audit.proofs.KeptLinks.{opened_linked}

-- the link is an own dial to n that is unfinished
abbrev pub dials : List ℕ → List Entry → ℕ → Bool
dials n es l = is_open l es && is_unfinished_dial n l es

module _ (n : List ℕ) (es : List Entry) (e : Entry) (l : ℕ) where
  -- the entry opens no dial of this number
  abbrev pub is_new : Event → Verdict → Bool
  is_new (Event.Dial m c) (Accepted r) = e.number == l
  is_new ev v = false

  pub older_dial : (ev : Event) (v : Verdict) → is_new ev v ≡ false
      → dials n (but e ev v ∷ es) l ≡ true → dials n es l ≡ true
  older_dial (Event.Frame k body) (Accepted r) old q =
      grind (arith, whole_kept (record { body = body; before = es }) (opened l es) (taken l es))
  older_dial ev v old q = grind arith

  -- a new dial is to its peer
  pub its_peer : (m : List ℕ) (c : ℕ) (r : Reply) → (e.number == l) ≡ true
      → dials n (but e (Event.Dial m c) (Accepted r) ∷ es) l ≡ true → m ≡ n
  its_peer m c r new q = grind (arith, same_decides m n)

-- a dial that is unfinished is known
pub is_known_dial : (n : List ℕ) (es : List Entry) (l : ℕ) → dials n es l ≡ true
    → is_dialling n es ≡ true
is_known_dial n es l here =
    some_of (dials n es) l (links es) here (sym (opened_linked l es)
    ∙ open_opened l es (and_parts (is_open l es) (is_unfinished_dial n l es) here).0)

module _ (o : Opening) (n : List ℕ) where
  module _ (es : List Entry) (e : Entry) (l j : ℕ)
      (so_far : dials n es l ≡ true → dials n es j ≡ true → l ≡ j) where
    -- where one is unfinished, a second is refused
    no_second : (m : List ℕ) → first_broken (dial_checks (past o es) m) ≡ None → m ≡ n → (k : ℕ)
        → dials n es k ≡ false
    no_second m holds is k =
        not_so (dials n es k)
        (λ here. lie
        (sym (unbroken (not (is_dialling m es))
        (all_hold (dial_checks (past o es) m) holds).1.1.1.0) ∙ ap (λ x. not (is_dialling x es)) is
        ∙ ap not (is_known_dial n es k here)))

    by_event : (ev : Event) (v : Verdict) → v ≡ judgement (past o es) e.seat ev
        → dials n (but e ev v ∷ es) l ≡ true → dials n (but e ev v ∷ es) j ≡ true → l ≡ j
    by_event (Event.Dial m c) (Accepted r) is p q =
        let refused = no_second m (accepted (past o es) e.seat (Event.Dial m c) r is).0 in
        grind (
          arith,
          eqb-true e.number l,
          eqb-true e.number j,
          so_far,
          older_dial n es e l (Event.Dial m c) (Accepted r),
          older_dial n es e j (Event.Dial m c) (Accepted r),
          its_peer n es e l m c r,
          its_peer n es e j m c r,
          refused,
        )
    by_event ev v is p q =
        so_far (older_dial n es e l ev v refl p) (older_dial n es e j ev v refl q)

  one_in : (es : List Entry) → IsPlayedIn o es → (l j : ℕ) → dials n es l ≡ true
      → dials n es j ≡ true → l ≡ j
  one_in [] legal l j p q = lie (sym p)
  one_in (e ∷ es) legal l j p q =
      by_event es e l j (one_in es legal.1 l j) e.event e.verdict legal.0.judged p q

pub one_dial : (h : History) → IsPlayed h → (n : List ℕ) (l j : ℕ) → dials n h.entries l ≡ true
    → dials n h.entries j ≡ true → l ≡ j
one_dial h legal n l j p q = one_in h.opening n h.entries legal l j p q
