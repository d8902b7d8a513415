-- The processes of a node after those that were spawned.
use Rattle.node_core.proofs
use proofs.Words.{Accepted, and_parts, answer, arith, cond, creation, Event, false, History}
use proofs.Words.{is_number, IsPlayed, IsStep, leb-false, leb-true, length, List, lives, living}
use proofs.Words.{lt-ltb, nat_eq, nat_le, nat_lt, own_pid, process_words, ProcessesFollow, refl}
use proofs.Words.{Reply, Spawned, spawned, sym, true, ℕ, [], ◌+◌, ◌∙◌, ◌≡◌}
use Rattle.policy_audit.proofs.LivesNow.{lives_spawned}
use proofs.Entered.{made}
use proofs.Calm.{answered}
use proofs.Found.{not_so}

module _ (h : History) (p : Spawned) (t : ProcessesFollow (process_words h) p) where
  -- where there is room among those that live, one more may be spawned
  pub pids_fit : nat_le 65536 (length p.live) ≡ false → nat_lt (living h) 65536 ≡ true
  pids_fit q = lt-ltb (living h) 65536 (let few = leb-false 65536 (length p.live) q in
      let count = t.count in omega arith)

  pub pids_full : nat_le 65536 (length p.live) ≡ true → nat_lt (living h) 65536 ≡ false
  pids_full q = let many = leb-true 65536 (length p.live) q in let count = t.count in
      grind (arith, many, count)

  -- the next process doesn't live yet
  pub next_is_new : is_number (p.spawned + 1) p.live ≡ false
  next_is_new = t.live (p.spawned + 1) ∙ not_so (lives h (own_pid h (p.spawned + 1))) (λ q.
      let born = (and_parts _ (nat_le (p.spawned + 1) (spawned h)) (and_parts _ _ q).0).1 in
      let within = leb-true (p.spawned + 1) (spawned h) born in
      let is = t.spawned in
      omega arith)

  pub spawned_follow : (seat : ℕ) (r : Reply) (q : Spawned) → IsPlayed h
      → IsStep h (made h seat Event.Spawn (Accepted r) []) → q.spawned ≡ p.spawned + 1
      → ((n : ℕ) → is_number n q.live ≡ cond (nat_eq (p.spawned + 1) n) true (is_number n p.live))
      → length q.live ≡ length p.live + 1
      → ProcessesFollow (process_words (answered h seat Event.Spawn r)) q
  spawned_follow seat r q legal its more live count = record {
    spawned = let is = t.spawned in omega arith;
    live = λ n. grind (
      arith,
      live n,
      t.spawned,
      t.live n,
      lives_spawned h (made h seat Event.Spawn (Accepted r) []) its refl legal refl n,
    );
    count = let was = t.count in omega arith;
  }

-- the next process, as the policy names it
pub spawn_answer : (h : History) (seat : ℕ) (name : List ℕ) (made_by number : ℕ)
    → name ≡ h.opening.name → made_by ≡ creation h → number ≡ spawned h
    → answer h seat Event.Spawn
    ≡ Reply.Pid (record { node = name; creation = made_by; number = number + 1 })
spawn_answer h seat name made_by number a b c =
    sym (λ i. Reply.Pid (record { node = a i; creation = b i; number = c i + 1 }))
