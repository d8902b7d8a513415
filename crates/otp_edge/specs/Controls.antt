-- Control messages of processes here that the peer is sent, each as a body behind its length.
use Rattle.std.specs.Prelude.{◌≡◌, ◌⊎◌, ⊤, ℕ, List, [], ◌++◌, codes}
use Rattle.dist_types.specs.declared.pid.Pid.{Pid}
use Rattle.external_terms.specs.Values.{atom_bytes}
use Rattle.otp_edge.specs.Bodies.{control_bytes, framed}
use Rattle.otp_edge.specs.Endings.{alone}
use Rattle.otp_edge.specs.Processes.{pid_bytes}
use Rattle.otp_edge.specs.declared.signal.Signal.{Signal}
use Rattle.otp_edge.specs.declared.signal.Signal.TheVariants as signals

-- MONITOR_P: `{19, Own, Other, Reference}`
abbrev pub monitor_bytes : Pid → Pid → List ℕ → List ℕ
monitor_bytes own other reference =
    framed (alone (control_bytes 4 19 (pid_bytes own) (pid_bytes other) reference))

-- MONITOR_P_EXIT: `{21, Process, From, Reference, noproc}`, to a process that watches
abbrev pub missing_bytes : List ℕ → List ℕ → List ℕ → List ℕ
missing_bytes process from reference = framed (alone (control_bytes 5 21 process from
    (reference ++ atom_bytes (codes "noproc"))))

-- EXIT: `{3, Process, To, noproc}`, to a process that ties itself to one
abbrev pub unlinked_bytes : List ℕ → List ℕ → List ℕ
unlinked_bytes process to =
    framed (alone (control_bytes 4 3 process to (atom_bytes (codes "noproc"))))

-- UNLINK_ID_ACK: `{36, Id, Process, To}`
abbrev pub untied_bytes : List ℕ → List ℕ → List ℕ → List ℕ
untied_bytes id process to = framed (alone (control_bytes 4 36 id process to))

-- what the peer is sent back for a signal of which nothing is handed in; of what is asked by a name
-- nothing is said
abbrev pub IsAnswer : Signal → List ℕ → Type 0
IsAnswer (signals.Monitor from to reference) out =
    (out ≡ []) ⊎ (out ≡ missing_bytes to.now from.now reference.now)
IsAnswer (signals.Link from to) out = out ≡ unlinked_bytes to.now from.now
IsAnswer (signals.Unlink id from to) out = out ≡ untied_bytes id.now to.now from.now
IsAnswer (signals.Asked name message) out = ⊤
IsAnswer signal out = out ≡ []
