-- Counts of rows, one for each.
use Rattle.std.proofs.Common.{ap, false, length, List, subst, sym, true, ℕ, ◌∙◌, ◌≡◌}
use Rattle.std.specs.Prelude.{cond, get_or, map, replicate}
use Rattle.std.proofs.lemmas.List.{get_or-map, get_or-replicate, length-map, length-replicate}
use Rattle.dist_types.specs.declared.row.Row.{Row}
use Rattle.node_net.specs.Listings.{IsListing, listing}
use Rattle.node_threads.specs.Room.{IsSound, Room}
use Rattle.otp_link.specs.Counted.{AreCounts}
use Rattle.policy_audit.specs.History.{History}
use Rattle.policy_audit.specs.Listed.{listed}
use Rattle.policy_audit.specs.Own.{is_running}

-- the counts of the table of a scope that runs
pub counted : {room : Room} (h : History) (scope : List ℕ) (table : Row → ℕ) (rows : List Row)
    (counts : List ℕ) → IsSound room → h ≡ room.history → is_running h scope ≡ true
    → ((row : Row) → table row ≡ listed h scope row.group row.pid)
    → counts ≡ map table rows → AreCounts (IsListing scope) rows counts
counted {room = room} h scope table rows counts sound same runs lists is =
    subst (AreCounts (IsListing scope) rows) (sym is) (
      listing h scope,
      (room, sound, ap (λ k. listing k scope) same),
      (
        length-map rows table,
        λ place d below.
            get_or-map table rows place d 0 below ∙ lists (get_or rows place d)
            ∙ sym (ap (λ b. cond b (listed h scope (get_or rows place d).group
            (get_or rows place d).pid) 0) runs),
      ),
    )

-- of a scope that doesn't run nothing is listed
pub none_counted : {room : Room} (h : History) (scope : List ℕ) (rows : List Row)
    (counts : List ℕ) → IsSound room → h ≡ room.history → is_running h scope ≡ false
    → counts ≡ replicate (length rows) 0 → AreCounts (IsListing scope) rows counts
none_counted {room = room} h scope rows counts sound same stopped is =
    subst (AreCounts (IsListing scope) rows) (sym is) (
      listing h scope,
      (room, sound, ap (λ k. listing k scope) same),
      (
        length-replicate (length rows) 0,
        λ place d below.
            get_or-replicate (length rows) place 0 0 below
            ∙ sym (ap (λ b. cond b (listed h scope (get_or rows place d).group
            (get_or rows place d).pid) 0) stopped),
      ),
    )
