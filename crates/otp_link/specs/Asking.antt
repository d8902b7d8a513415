-- When a stock node is asked for its rows again: times are milliseconds from the begin of a link.
use Rattle.std.specs.Prelude.{◌≡◌, ◌⊎◌, ℕ, ◌+◌, ◌-◌, ◌*◌, ◌/◌, min, nat_le, nat_lt, Bool, true}
use Rattle.std.specs.Prelude.{false, cond, not, ◌&&◌, List, [], Option, Some, None, is_some}
use Rattle.std.specs.Prelude.{flat_map}
use Rattle.std.specs.Duration.{as_nanos}
use Rattle.std.specs.declared.time.Duration.{Duration}
use Rattle.otp_edge.specs.Endings.{asking_again}
use Rattle.otp_edge.specs.declared.edge_state.Edge.{Edge}
use Rattle.otp_link.specs.declared.asking.Healing.{Healing}
use Rattle.otp_link.specs.declared.link.OtpLink.{OtpLink}

abbrev pub millis : Duration → ℕ
millis time = as_nanos time / 1000000

-- the time has been set, and has come
abbrev pub has_come : Option ℕ → ℕ → Bool
has_come None now = false
has_come (Some time) now = nat_le time now

-- it isn't to be asked yet
abbrev pub IsFresh : Healing → Type 0
IsFresh healing = (healing.due ≡ None) × (healing.asked ≡ None) × (healing.seek ≡ None)

-- the pause before a question: a second, or twice the last one, up to thirty seconds, where it is
-- less than a minute since a question
abbrev pub next_pause : Option ℕ → ℕ → ℕ → ℕ
next_pause None last now = 1000
next_pause (Some asked) last now = cond (nat_lt (now - asked) 60000) (min (2 * last) 30000) 1000

-- a question is due behind that pause, unless one is already
abbrev pub lacks_at : Healing → Option ℕ → ℕ → Healing
lacks_at healing (Some due) now = healing
lacks_at healing None now =
    let pause = next_pause healing.asked healing.pause now in
    record healing { due = Some (now + pause); pause = pause }

-- a question is due since rows lack, or all stays
abbrev pub MayLack : Healing → Healing → ℕ → Type 0
MayLack before after now = (after ≡ before) ⊎ (after ≡ lacks_at before before.due now)

-- all rows are asked for: no question is due any more
abbrev pub asked_at : Healing → ℕ → Healing
asked_at healing now = record healing { due = None; asked = Some now }

-- scopes that weren't shown yet are asked for each three seconds
abbrev pub next_seek : Option ℕ → ℕ → Option ℕ
next_seek None now = Some (now + 3000)
next_seek (Some seek) now = Some (cond (nat_le seek now) (now + 3000) seek)

abbrev pub sought_at : Healing → ℕ → Healing
sought_at healing now = record healing { seek = next_seek healing.seek now }

-- ---- of a link

-- both ends have said their last frame of the handshake, and the edge has begun
abbrev pub is_up : OtpLink → Bool
is_up link = (link.sends_bodies && link.takes_bodies) && is_some link.edge

-- for which rows the peer is asked: for all, where a question is due; for those of scopes that
-- weren't shown yet, over a hidden link; or for none
abbrev pub asked_for : OtpLink → ℕ → Option Bool
asked_for link now = cond (not (is_up link)) None
    (cond (has_come link.healing.due now) (Some true)
    (cond (not link.kind.is_visible && has_come link.healing.seek now) (Some false) None))

-- the bodies that ask for them
abbrev pub asking : Option Edge → Option Bool → List ℕ
asking None rows = []
asking (Some edge) None = []
asking (Some edge) (Some all) = flat_map (asking_again all) edge.scopes.items

-- when it is asked then
abbrev pub healing_behind : OtpLink → ℕ → Healing
healing_behind link now = cond (not (is_up link)) link.healing
    (cond (has_come link.healing.due now) (asked_at link.healing now)
    (cond link.kind.is_visible link.healing (sought_at link.healing now)))
