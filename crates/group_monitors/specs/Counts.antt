-- What updates make of a group, as a multiset: how often each process is in it.
use Rattle.std.specs.Prelude.{◌≡◌, ℕ, ◌+◌, ◌-◌, ◌⊎◌, nat_lt, cond, List, [], ◌∷◌, Option, Some}
use Rattle.std.specs.Prelude.{None}
use Rattle.std.specs.Option.{option_and_then}
use Rattle.dist_types.specs.declared.pid.Pid.{Pid}
use Rattle.dist_types.specs.Listing.{same, total, mentions}
use Rattle.policy_audit.specs.declared.reply.GroupPids.{GroupPids}
use Rattle.policy_audit.specs.declared.reply.Update.{Update}
use Rattle.group_monitors.specs.declared.monitor.Monitor.{Monitor}

-- n less m, where there are so many
abbrev pub less : ℕ → ℕ → Option ℕ
less n m = cond (nat_lt n m) None (Some (n - m))

-- how often p is in g after the update, where it was there n times
abbrev pub count_after : List ℕ → Pid → Update → ℕ → Option ℕ
count_after g p u n = cond (same u.group g)
    (cond u.leave (less n (mentions p u.pids)) (Some (n + mentions p u.pids))) (Some n)

-- the same after each of the updates in turn. None where one takes away what isn't there.
abbrev pub counted : List ℕ → Pid → List Update → ℕ → Option ℕ
counted g p [] n = Some n
counted g p (u ∷ us) n = option_and_then (counted g p us) (count_after g p u n)

-- how often p is in g by the groups of a scope with their processes
abbrev pub times_in : List ℕ → Pid → List GroupPids → ℕ
times_in g p groups = total (λ c. cond (same c.group g) (mentions p c.pids) 0) groups

-- the monitor is one of the group g, or of its scope
abbrev pub Watches : List ℕ → Monitor → Type 0
Watches g m = (m.group ≡ Some g) ⊎ (m.group ≡ None)
