-- The contents of scopes as lists, ascending.
use Rattle.std.specs.Prelude.{ℕ, cond, not, List, [], ◌++◌, Option, Some, map}
use Rattle.std.specs.List.{flat_map, filter}
use Rattle.dist_types.specs.declared.pid.Pid.{Pid}
use Rattle.dist_types.specs.declared.row.Row.{Row}
use Rattle.dist_types.specs.Order.{text_cmp, pid_cmp}
use Rattle.dist_types.specs.Listing.{same, ascending, listing}
use Rattle.dist_types.specs.Difference.{is_empty}
use Rattle.link_frames.specs.declared.part.Message2.{Message2}
use Rattle.link_frames.specs.declared.part.Message2.TheVariants as frames
use Rattle.policy_audit.specs.declared.event.Event.{Event}
use Rattle.policy_audit.specs.declared.event.Event.TheVariants as event
use Rattle.policy_audit.specs.declared.reply.GroupPids.{GroupPids}
use Rattle.policy_audit.specs.History.{History, events}
use Rattle.policy_audit.specs.Own.{own}
use Rattle.policy_audit.specs.Hearing.{message_taken}
use Rattle.policy_audit.specs.Listed.{listed}

-- the row of g and p
abbrev pub row : List ℕ → Pid → Row
row g p = record { group = g; pid = p }

-- the rows of s that a part may bring
abbrev pub rows_in_part : List ℕ → Option Message2 → List Row
rows_in_part s (Some (frames.Part kind t number last rows)) = cond (same t s) rows []
rows_in_part s m = []

-- the rows of s that an event may bring, whatever the version of its link
abbrev pub rows_named : List ℕ → Event → List Row
rows_named s (event.Join t g ps) = cond (same t s) (map (row g) ps) []
rows_named s (event.Frame l body) =
    rows_in_part s (message_taken 1 body) ++ rows_in_part s (message_taken 2 body)
rows_named s e = []

-- the groups of s that these events name
abbrev pub groups_named : List ℕ → List Event → List (List ℕ)
groups_named s es = map (λ r. r.group) (flat_map (rows_named s) es)

-- the processes that these events name in g of s
abbrev pub pids_named : List ℕ → List ℕ → List Event → List Pid
pids_named s g es = map (λ r. r.pid) (filter (λ r. same r.group g) (flat_map (rows_named s) es))

-- each process as often as it is listed, ascending
abbrev pub members : History → List ℕ → List ℕ → List Pid
members h s g = listing pid_cmp (listed h s g) (pids_named s g (events h.entries))

-- each own process as often as it is joined, ascending
abbrev pub local_members : History → List ℕ → List ℕ → List Pid
local_members h s g = listing pid_cmp (own h s g) (pids_named s g (events h.entries))

-- the groups with members, ascending
abbrev pub groups : History → List ℕ → List (List ℕ)
groups h s = filter (λ g. not (is_empty (members h s g)))
    (ascending text_cmp (groups_named s (events h.entries)))

-- the groups with own members, ascending
abbrev pub local_groups : History → List ℕ → List (List ℕ)
local_groups h s = filter (λ g. not (is_empty (local_members h s g)))
    (ascending text_cmp (groups_named s (events h.entries)))

-- all own rows of s, ascending
abbrev pub local_rows : History → List ℕ → List Row
local_rows h s = flat_map (λ g. map (row g) (local_members h s g)) (local_groups h s)

-- the groups of s with their members
abbrev pub contents : History → List ℕ → List GroupPids
contents h s = map (λ g. record { group = g; pids = members h s g }) (groups h s)
