-- Processes. A process of Erlang has an id and a serial of 32 bits each; here it has one number.
use Rattle.std.specs.Prelude.{ℕ, ◌/◌, ◌%◌, ◌^◌, ◌<◌, List}
use Rattle.dist_types.specs.Text.{IsNodeName}
use Rattle.dist_types.specs.declared.pid.Pid.{Pid}
use Rattle.external_terms.specs.Values.{Process, process_bytes}

-- each part is within its limits
pub record IsPid (pid : Pid) : Type 0 where
  pub node : IsNodeName pid.node
  pub creation : pid.creation < 2 ^ 32
  pub number : pid.number < 2 ^ 64

-- the serial is the upper half of the number, the id the lower
abbrev pub process_of : Pid → Process
process_of pid = record {
  node = pid.node;
  id = pid.number % 2 ^ 32;
  serial = pid.number / 2 ^ 32;
  creation = pid.creation;
}

-- how a process is spelled
abbrev pub pid_bytes : Pid → List ℕ
pid_bytes pid = process_bytes (process_of pid)
