-- What a script is played on.
use Rattle.std.specs.Prelude.{◌≡◌, ◌<◌, ◌-◌, ◌⊎◌, ℕ, [], max, min}
use Rattle.handshake_frames.specs.Spelling.{IsVersion}
use Rattle.policy_audit.specs.declared.opening.Opening.{Opening}
use Rattle.policy_audit.specs.History.{History, past, entered}

-- a node that has seen this, the seat that asks, and how many of the oldest entries were handed out
pub record Playing : Type 0 where
  pub history : History
  pub seat : ℕ
  pub forgotten : ℕ

-- a node that has seen nothing, asked by seat 0
abbrev pub opened_with : Opening → Playing
opened_with o = record { history = past o []; seat = 0; forgotten = 0 }

-- a node may open so: its audit has room for an entry, and its version of link messages is 1 or 2
abbrev pub MayOpen : Opening → Type 0
MayOpen o = (0 < o.entries) × IsVersion o.links

-- no node opens so: its audit would have no entry, or its version is another one
abbrev pub IsBadOpening : Opening → Type 0
IsBadOpening o = (o.entries ≡ 0) ⊎ (IsVersion o.links → ⊥)

-- n entries are handed out, or as many as leave `keep` of them, unless more were handed out before
abbrev pub forgotten_to : ℕ → ℕ → Playing → Playing
forgotten_to keep n p =
    record p { forgotten = max p.forgotten (min n (entered p.history.entries - keep)) }
