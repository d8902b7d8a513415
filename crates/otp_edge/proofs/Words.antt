-- The words that the proofs of this crate cite, passed on from one place.
use Rattle.otp_edge.specs
pub use Rattle.std.specs.Prelude.{All, length, List, map, [], ◌∷◌, ◌≤◌}
pub use Rattle.std.proofs.Common.{ap, append-nil, append_assoc, arith, Bool, cond, drop, Err, false}
pub use Rattle.std.proofs.Common.{IsTrue, None, Ok, Option, refl, Result, rules, Some, subst, suc}
pub use Rattle.std.proofs.Common.{sym, take, true, zero, ℕ, ◌%◌, ◌*◌, ◌++◌, ◌+◌, ◌-◌, ◌/◌, ◌<◌}
pub use Rattle.std.proofs.Common.{◌==◌, ◌^◌, ◌∙◌, ◌≡◌, ◌≢◌}
pub use Rattle.std.specs.List.{flat_map}
pub use Rattle.std.proofs.lemmas.Bool.Decides.{Decides-eqb}
pub use Rattle.std.proofs.lemmas.List.{length_push, nil_from_length}
pub use Rattle.dist_types.specs.declared.pid.Pid.{Pid}
pub use Rattle.dist_types.specs.declared.row.Row.{Row}
pub use specs.Lists.{Front, IsList, list_front, listed, StandsFirst}
pub use specs.Processes.{IsPid, pid_bytes, process_of}
