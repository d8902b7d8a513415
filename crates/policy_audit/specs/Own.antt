-- Scopes, processes and the rows of the node's own processes (Kernel manual, `pg`).
use Rattle.std.specs.Prelude.{ℕ, ◌+◌, ◌-◌, Bool, true, false, cond, ◌&&◌, not, nat_le, ◌==◌, List, [], ◌∷◌, Option, Some, None}
use Rattle.std.specs.List.{list_any, filter, flat_map}
use Rattle.std.specs.Option.{unwrap_or}
use Rattle.dist_types.specs.declared.pid.Pid.{Pid}
use Rattle.dist_types.specs.Order.{text_cmp}
use Rattle.dist_types.specs.Listing.{same, same_pid, mentions, how_many, ascending}
use Rattle.policy_audit.specs.declared.event.Event.{Event}
use Rattle.policy_audit.specs.declared.event.Event.TheVariants as event
use Rattle.policy_audit.specs.History.{History, events, creation, first_of}

-- whether an event starts or stops s
abbrev pub starts : List ℕ → Event → Option Bool
starts s (event.StartScope t) = cond (same t s) (Some true) None
starts s (event.StopScope t) = cond (same t s) (Some false) None
starts s e = None

-- s runs: the last start or stop of it is a start
abbrev pub is_running : History → List ℕ → Bool
is_running h s = unwrap_or (first_of (starts s) (events h.entries)) false

-- the scope that an event starts
abbrev pub scopes_started : Event → List (List ℕ)
scopes_started (event.StartScope s) = s ∷ []
scopes_started e = []

-- the scopes that run, ascending
abbrev pub running_scopes : History → List (List ℕ)
running_scopes h = filter (is_running h)
    (ascending text_cmp (flat_map scopes_started (events h.entries)))

-- a new process
abbrev pub is_spawn : Event → Bool
is_spawn event.Spawn = true
is_spawn e = false

-- the end of a process
abbrev pub is_exit : Event → Bool
is_exit (event.Exit p) = true
is_exit e = false

-- the end of p
abbrev pub is_exit_of : Pid → Event → Bool
is_exit_of p (event.Exit q) = same_pid q p
is_exit_of p e = false

-- how many processes were spawned
abbrev pub spawned : History → ℕ
spawned h = how_many is_spawn (events h.entries)

-- how many processes live
abbrev pub living : History → ℕ
living h = spawned h - how_many is_exit (events h.entries)

-- p has the node's name and its creation
abbrev pub is_local : History → Pid → Bool
is_local h p = same p.node h.opening.name && p.creation == creation h

-- p lives: it was spawned, and did not exit
abbrev pub lives : History → Pid → Bool
lives h p = is_local h p && nat_le 1 p.number && nat_le p.number (spawned h)
    && not (list_any (is_exit_of p) (events h.entries))

-- how often p is joined to g in s: read through these events, the newest first
abbrev pub joined : List ℕ → List ℕ → Pid → List Event → ℕ
joined s g p [] = 0
joined s g p (event.Join t f ps ∷ es) =
    cond (same t s && same f g) (joined s g p es + mentions p ps) (joined s g p es)
joined s g p (event.Leave t f ps ∷ es) =
    cond (same t s && same f g) (joined s g p es - mentions p ps) (joined s g p es)
joined s g p (event.Exit q ∷ es) = cond (same_pid q p) 0 (joined s g p es)
joined s g p (event.StartScope t ∷ es) = cond (same t s) 0 (joined s g p es)
joined s g p (e ∷ es) = joined s g p es

-- the own rows: how often p is joined to g, where s runs
abbrev pub own : History → List ℕ → List ℕ → Pid → ℕ
own h s g p = cond (is_running h s) (joined s g p (events h.entries)) 0
