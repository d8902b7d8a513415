-- The processes of a node are those that were spawned and live.
use Rattle.std.specs.Prelude.{◌≡◌, ℕ, ◌+◌, Bool, length}
use Rattle.dist_types.specs.Listing.{how_many}
use Rattle.policy_audit.specs.History.{History, events, creation}
use Rattle.policy_audit.specs.Own.{spawned, is_exit, lives}
use Rattle.node_core.specs.Processes.{Spawned}
use Rattle.node_core.specs.ScopeFacts.{is_number}

-- what the policy's words say of the node's processes
pub record ProcessWords : Type 0 where
  pub spawned : ℕ
  pub exited : ℕ
  pub lives : ℕ → Bool

-- these words after a history
abbrev pub process_words : History → ProcessWords
process_words h = record {
  spawned = spawned h;
  exited = how_many is_exit (events h.entries);
  lives = λ n. lives h (record { node = h.opening.name; creation = creation h; number = n });
}

-- how many were spawned, and the numbers of those that live
pub record ProcessesFollow (w : ProcessWords) (p : Spawned) : Type 0 where
  pub spawned : p.spawned ≡ w.spawned
  pub live : (n : ℕ) → is_number n p.live ≡ w.lives n
  pub count : length p.live + w.exited ≡ w.spawned
