-- Which own processes live, after each Spawn, Exit and Restart.
use Rattle.policy_audit.proofs
use proofs.Words.{Accepted, and_parts, ap, arith, Bool, cond, creation, Entry, eq-eqb}
use proofs.Words.{eqb-false, eqb-true, Event, events, false, History, how_many, is_accepted}
use proofs.Words.{is_exit, is_exit_of, is_local, IsPlayed, IsPlayedIn, IsStep, judgement}
use proofs.Words.{just, le-leb, leb-true, List, list_any, lives, nat_eq, nat_le, not, Opening, past}
use proofs.Words.{Pid, refl, same_decides, same_pid_decides, so_far, spawned, suc, true, Verdict}
use proofs.Words.{ℕ, [], ◌&&◌, ◌+◌, ◌<◌, ◌∷◌, ◌≡◌}
use proofs.Accepted.{accepted, all_hold, unbroken}
use proofs.Walked.{but}
use proofs.UpLinks.{and_both}
use proofs.Effects.{breaks_none}

-- the own process of that number
abbrev pub own_pid : History → ℕ → Pid
own_pid h n = record { node = h.opening.name; creation = creation h; number = n }

-- an own process is known by its number
pub is_own_pid : (h : History) (p : Pid) → is_local h p ≡ true → p ≡ own_pid h p.number
is_own_pid h p local = grind (arith, same_decides, and_parts, eqb-true)

pub lives_of : (h : History) (p : Pid) → is_local h p ≡ true
    → lives h p ≡ lives h (own_pid h p.number)
lives_of h p local = ap (lives h) (is_own_pid h p local)

-- the node's own processes are local
own_local : (h : History) (n : ℕ) → is_local h (own_pid h n) ≡ true
own_local h n = grind (arith, and_both, same_decides, eq-eqb)

-- only a process that was spawned has ended
unended : (o : Opening) (es : List Entry) → IsPlayedIn o es → (p : Pid)
    → spawned (past o es) < p.number → list_any (is_exit_of p) (events es) ≡ false
unended o [] legal p above = refl
unended o (e ∷ es) legal p above =
    by_event e.event e.verdict legal.0.judged (unended o es legal.1 p) above
  where
    by_event : (ev : Event) (v : Verdict) → v ≡ judgement (past o es) e.seat ev
        → (spawned (past o es) < p.number → list_any (is_exit_of p) (events es) ≡ false)
        → spawned (past o (but e ev v ∷ es)) < p.number
        → list_any (is_exit_of p) (events (but e ev v ∷ es)) ≡ false
    by_event (Event.Exit x) (Accepted r) q so_far b =
        grind (arith, unbroken, all_hold, accepted, same_pid_decides, leb-true)
    by_event ev v _ so_far b = grind arith

-- whether a process lives, by its parts
abbrev alive : Bool → ℕ → ℕ → Bool → Bool
alive local number born ended = local && nat_le 1 number && nat_le number born && not ended

-- one process more
born_more : (local ended : Bool) (n born : ℕ) → local ≡ true → (born < n → ended ≡ false)
    → alive local n (suc born) ended ≡ cond (nat_eq (born + 1) n) true (alive local n born ended)
born_more local ended n born is never =
    grind (arith, is, never, eqb-true, eqb-false, le-leb, leb-true)

module _ (h : History) (e : Entry) (made : IsStep h e) (yes : is_accepted e.verdict ≡ true) where
  abbrev k : History
  k = just h e

  -- ---- a Spawn

  pub lives_spawned : IsPlayed h → e.event ≡ Event.Spawn → (n : ℕ)
      → lives k (own_pid h n) ≡ cond (nat_eq (spawned h + 1) n) true (lives h (own_pid h n))
  lives_spawned legal is n =
      grind (arith, own_local h n, unended h.opening h.entries legal (own_pid h n), born_more)

  -- ---- an Exit

  module _ (p : Pid) (is : e.event ≡ Event.Exit p) where
    pub exited_local : is_local h p ≡ true
    exited_local = grind (arith, unbroken, all_hold, breaks_none)

    pub spawned_exited : spawned k ≡ spawned h
    spawned_exited = grind arith

    pub exits_more : how_many is_exit (events k.entries) ≡ suc (how_many is_exit (events h.entries))
    exits_more = grind arith

    pub lives_exited : (n : ℕ)
        → lives k (own_pid h n) ≡ cond (nat_eq p.number n) false (lives h (own_pid h n))
    lives_exited n = grind (arith, exited_local)

  -- ---- a Restart

  pub lives_restarted : e.event ≡ Event.Restart → (p : Pid) → lives k p ≡ false
  lives_restarted is p = grind (arith, leb-true)
