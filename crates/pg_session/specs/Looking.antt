-- What a telling makes of the monitors of a seat.
use Rattle.std.specs.Prelude.{◌≡◌, ◌⊎◌, ◌≤◌, ℕ, false, not, List, map}
use Rattle.std.specs.List.{filter, list_any}
use Rattle.policy_audit.specs.History.{entered}
use Rattle.node_threads.specs.Room.{IsSound, Room}
use Rattle.pg_session.specs.declared.watch.Watch.{Watch}
use Rattle.pg_session.specs.Calls.{Seat}
use Rattle.pg_session.specs.Notices.{has_gone}
use Rattle.pg_session.specs.Seen.{seen_of, unseen}
use Rattle.pg_session.specs.Watching.{AllAsked, aged, as_begun, noted}

-- all entries were looked at that a node has had since the last look, as far as it keeps them
pub record HasLooked (seat seat' : Seat) : Type 0 where
  pub room : Room
  pub sound : IsSound room
  pub had : room.forgotten ≤ entered room.history.entries
  pub watches : seat'.watches ≡ map (noted (unseen seat.seen room.history room.forgotten))
      seat.watches
  pub seen : seat'.seen ≡ seen_of room.history
  -- whoever the connection takes for up then is up
  pub up : list_any (has_gone room.history) seat'.known.peers ≡ false

-- then each monitor that is due was asked, or that wasn't for so long, and those that are over went
pub record AreTold (stale : ℕ) (seat seat' : Seat) : Type 0 where
  pub mid : Seat
  pub looked : HasLooked seat mid
  pub all : List Watch
  pub asked : AllAsked seat.pass (map (aged stale) mid.watches) mid.seen.entries seat'.pass all
  pub left : seat'.watches ≡ filter (λ w. not w.is_over) all
  pub seen : seat'.seen ≡ mid.seen
  pub known : seat'.known ≡ mid.known

-- a telling that broke off: it has looked or not, and each monitor is there still
pub record IsBroken (seat seat' : Seat) : Type 0 where
  pub monitors : map as_begun seat'.watches ≡ map as_begun seat.watches
  pub seen : (seat'.seen ≡ seat.seen)
      ⊎ ((mid : Seat) × HasLooked seat mid × (seat'.seen ≡ mid.seen))
