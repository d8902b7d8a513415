-- How a scope is asked for at the peer, and how its process ends there.
use Rattle.std.specs.Prelude.{◌/◌, ◌%◌, ◌^◌, ℕ, List, [], ◌∷◌, ◌++◌, Option, Some, None, codes}
use Rattle.std.specs.Prelude.{Bool, cond, is_none, ◌||◌}
use Rattle.std.specs.Int.{w32, to_be_bytes}
use Rattle.std.specs.List.{flat_map}
use Rattle.dist_types.specs.declared.pid.Pid.{Pid}
use Rattle.external_terms.specs.Values.{atom_bytes, reference_bytes}
use Rattle.otp_edge.specs.Bodies.{control_bytes, framed, pass_through, version}
use Rattle.otp_edge.specs.PgMessages.{discover, pg_bytes}
use Rattle.otp_edge.specs.Processes.{pid_bytes}
use Rattle.otp_edge.specs.Sayings.{told_bytes}
use Rattle.otp_edge.specs.declared.open_scope.OpenScope.{OpenScope}
use Rattle.otp_edge.specs.declared.open_scope.Watcher.{Watcher}
use Rattle.otp_edge.specs.declared.scope_edge.Run.{Run}

-- a control message, with the bytes before it
abbrev pub alone : List ℕ → List ℕ
alone control = pass_through ∷ version ∷ [] ++ control

-- REG_SEND: `{6, Own, '', Scope}` and `{discover, Own}`, to the scope's name
abbrev pub sought_bytes : Pid → List ℕ → List ℕ
sought_bytes own scope =
    framed (alone (control_bytes 4 6 (pid_bytes own) (atom_bytes []) (atom_bytes scope))
    ++ version ∷ [] ++ pg_bytes (discover own))

-- the process of the peer's scope is asked, or the scope's name
abbrev pub asking : Pid → List ℕ → Option Pid → List ℕ
asking own scope None = sought_bytes own scope
asking own scope (Some other) = told_bytes other (discover own ∷ [])

abbrev pub asking_of : OpenScope → List ℕ
asking_of o = asking o.own o.scope o.seen.other

-- it is asked for again: where all are, or the process of the peer's scope isn't known
abbrev pub asking_again : Bool → OpenScope → List ℕ
asking_again all o = cond (all || is_none o.seen.other) (asking_of o) []

-- MONITOR_P_EXIT: `{21, Own, From, Reference, normal}`, to a process that watches
abbrev pub end_bytes : Pid → Watcher → List ℕ
end_bytes own w = framed (alone (control_bytes 5 21 (pid_bytes own) w.from.items
    (w.reference.items ++ atom_bytes (codes "normal"))))

-- the reference of a watch: its number in words of 18 bits
abbrev pub watch_bytes : Run → ℕ → List ℕ
watch_bytes run n = reference_bytes (record {
  count = 3;
  node = run.node;
  creation = run.creation;
  words = to_be_bytes w32 (n % 2 ^ 18) ++ (to_be_bytes w32 (n / 2 ^ 18) ++ to_be_bytes w32 1);
})

-- DEMONITOR_P: `{20, Own, Other, Reference}`, where the process of the peer's scope is known
abbrev pub unwatch_bytes : Run → Pid → ℕ → Option Pid → List ℕ
unwatch_bytes run own n None = []
unwatch_bytes run own n (Some other) =
    framed (alone (control_bytes 4 20 (pid_bytes own) (pid_bytes other) (watch_bytes run n)))

-- who watches is told, and the process of the scope watches no longer
abbrev pub ending_of : Run → OpenScope → List ℕ
ending_of run o = flat_map (end_bytes o.own) o.watchers.items
    ++ unwatch_bytes run o.own o.reference o.seen.other
