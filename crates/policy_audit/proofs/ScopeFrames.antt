-- Which frames the events of scopes and processes owe to links; and the links after an opening and
-- a Restart.
use Rattle.policy_audit.proofs
use proofs.Walked.{but, fresh}
use proofs.KeptLinks.{unopened_waiting, unowed}
use proofs.Words.{Accepted, append-nil, arith, Bool, Entry, eq-eqb, Event, false, filter, flat_map}
use proofs.Words.{History, if_told, if_visible, is_accepted, is_kept, is_open, IsPlayed, IsStep}
use proofs.Words.{judgement, just, List, listing, local_rows, map, mentions, Message, min}
use proofs.Words.{OutFrame, owed, own, own_name_frame, Pid, pid_cmp, refl, Reply, row}
use proofs.Words.{running_scopes, same_pid, tells, true, waiting, ℕ, [], ◌++◌}
use proofs.Words.{◌∷◌, ◌≡◌}
use proofs.Effects.{by_made}
use proofs.KeptNumbers.{kept_numbers}
use proofs.LinkFrames.{IsLinkNow}
use proofs.LinksLeft.{links_left, numbers_left}

-- the event is of a scope or a process, and is told to links
abbrev pub is_told : Event → Bool
is_told (Event.StartScope s) = true
is_told (Event.StopScope s) = true
is_told (Event.Exit p) = true
is_told (Event.Join s g ps) = true
is_told (Event.Leave s g ps) = true
is_told ev = false

-- the rows of a process that ended, scope by scope
abbrev pub exit_frames : History → Pid → ℕ → List OutFrame
exit_frames h p l =
    flat_map (λ s. if_told h l s (Message.Leave s)
    (filter (λ w. same_pid w.pid p) (local_rows h s))) (running_scopes h)

module _ (h : History) (e : Entry) (made : IsStep h e) (yes : is_accepted e.verdict ≡ true) where
  abbrev k : History
  k = just h e

  -- it ends no link, and what it owes waits behind the rest; to a link that isn't open nothing is
  -- owed
  told_links : (ev : Event) → e.event ≡ ev → is_told ev ≡ true → (more : ℕ → List OutFrame)
      → ((r : Reply) (l : ℕ) → owed h l e.number ev (Accepted r) ≡ more l) → (l : ℕ)
      → IsLinkNow k l (is_open l h.entries) (waiting h l ++ more l) (is_kept h l)
  told_links ev is tells more owes l =
      by_made h e ev
      (λ x. IsLinkNow (just h x) l (is_open l h.entries) (waiting h l ++ more l) (is_kept h l)) made
      yes is (λ r q. by ev tells r q (owes r l))
    where
      by : (ev : Event) → is_told ev ≡ true → (r : Reply) → Accepted r ≡ judgement h e.seat ev
          → owed h l e.number ev (Accepted r) ≡ more l
          → IsLinkNow (just h (but e ev (Accepted r))) l (is_open l h.entries)
          (waiting h l ++ more l) (is_kept h l)
      by ev t r q m = grind (arith, unowed, append-nil)

  pub started_links : (s : List ℕ) → e.event ≡ Event.StartScope s → (l : ℕ)
      → IsLinkNow k l (is_open l h.entries) (waiting h l ++ if_visible h l (Message.Discover s))
      (is_kept h l)
  started_links s is l = grind (arith, told_links)

  pub stopped_links : (s : List ℕ) → e.event ≡ Event.StopScope s → (l : ℕ)
      → IsLinkNow k l (is_open l h.entries) (waiting h l ++ if_visible h l (Message.Down s))
      (is_kept h l)
  stopped_links s is l = grind (arith, told_links)

  pub exited_links : (p : Pid) → e.event ≡ Event.Exit p → (l : ℕ)
      → IsLinkNow k l (is_open l h.entries) (waiting h l ++ exit_frames h p l) (is_kept h l)
  exited_links p is l = told_links (Event.Exit p) is refl (λ j. exit_frames h p j) (λ r j. refl) l

  pub joined_links : (s g : List ℕ) (ps : List Pid) → e.event ≡ Event.Join s g ps → (l : ℕ)
      → IsLinkNow k l (is_open l h.entries)
      (waiting h l ++ if_told h l s (Message.Join s)
      (map (row g) (listing pid_cmp (λ p. mentions p ps) ps))) (is_kept h l)
  joined_links s g ps is l = grind (arith, told_links)

  pub left_links : (s g : List ℕ) (ps : List Pid) → e.event ≡ Event.Leave s g ps → (l : ℕ)
      → IsLinkNow k l (is_open l h.entries)
      (waiting h l ++ if_told h l s (Message.Leave s)
      (map (row g) (listing pid_cmp (λ p. min (mentions p ps) (own h s g p)) ps))) (is_kept h l)
  left_links s g ps is l = grind (arith, told_links)

  -- the same links are kept after all of these
  pub told_numbers : is_told e.event ≡ true → ((l : ℕ) → is_kept k l ≡ is_kept h l)
      → kept_numbers k ≡ kept_numbers h
  told_numbers tells each = numbers_left h k (links_left h.entries e (grind arith)) each

  -- ---- a new link

  module _ (legal : IsPlayed h) where
    none_yet : waiting h e.number ≡ []
    none_yet =
        unopened_waiting _ _ legal e.number (fresh _ _ legal e made)

    pub opened_waiting : (c : ℕ) → e.event ≡ Event.Opened c → waiting k e.number ≡ []
    opened_waiting c is = grind (arith, none_yet)

    -- to an own dial the own Name is owed
    pub dialled_waiting : (n : List ℕ) (c : ℕ) → e.event ≡ Event.Dial n c
        → waiting k e.number ≡ own_name_frame h ∷ []
    dialled_waiting n c is = grind (arith, none_yet, eq-eqb e.number e.number)
