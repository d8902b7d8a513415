-- What the process of the peer's scope is told of rows.
use Rattle.std.specs.Prelude.{◌≡◌, ◌+◌, ℕ, List, [], ◌∷◌, ◌++◌, map}
use Rattle.std.specs.List.{flat_map}
use Rattle.std.specs.List.Sorted.{IsPermutation}
use Rattle.dist_types.specs.declared.pid.Pid.{Pid}
use Rattle.dist_types.specs.declared.row.Row.{Row}
use Rattle.external_terms.specs.Values.{atom_bytes}
use Rattle.otp_edge.specs.Bodies.{control_bytes, framed, pass_through, version}
use Rattle.otp_edge.specs.Grouped.{IsGrouped}
use Rattle.otp_edge.specs.PgMessages.{PgMessage, sync, join, leave, many, terms, pg_bytes}
use Rattle.otp_edge.specs.Processes.{pid_bytes}
use Rattle.otp_edge.specs.Tallies.{times, IsCutTo}
use Rattle.otp_edge.specs.Telling.{stated_of, pids_of}
use Rattle.otp_edge.specs.declared.telling.Told.{Told}

-- SEND: `{2, '', To}`, before a message
abbrev pub sent_front : Pid → List ℕ
sent_front to = pass_through ∷ version ∷ [] ++ control_bytes 3 2 (atom_bytes []) (pid_bytes to) []
    ++ version ∷ []

-- messages of `pg` to a process, each as a body behind its length
abbrev pub told_bytes : Pid → List PgMessage → List ℕ
told_bytes to ms = flat_map (λ m. framed (sent_front to ++ pg_bytes m)) ms

-- one sync of all groups; a join or a leave for each
abbrev pub syncs : Pid → List Told → List PgMessage
syncs own ts = sync own (map stated_of ts) ∷ []

abbrev pub joins : Pid → List Told → List PgMessage
joins own ts = map (λ t. join own t.group.items (many (pids_of t.rows.now))) ts

abbrev pub leaves : Pid → List Told → List PgMessage
leaves own ts =
    map (λ t. leave own (many (pids_of t.rows.now)) (terms (t.group.items ∷ []))) ts

-- the rows that are told
abbrev pub rows_of : List Told → List Row
rows_of ts = flat_map (λ t. t.rows.now) ts

-- rows are told: gathered by group, and nothing else is
pub record AreTold (atoms : List (List ℕ)) (say : Pid → List Told → List PgMessage)
    (own other : Pid)
    (rows : List Row) (out : List ℕ) (all : List Row) : Type 0 where
  pub sorted : List Row
  pub groups : List Told
  pub same_rows : IsPermutation rows sorted
  pub grouped : IsGrouped atoms sorted groups
  pub bytes : out ≡ told_bytes other (say own groups)
  pub told : all ≡ rows_of groups

-- rows are told to have left: of those that are asked for, as often as they were told, and then
-- they weren't told any more
pub record AreLeft (atoms : List (List ℕ)) (own other : Pid) (rows : List Row) (out : List ℕ)
    (before now : List Row) : Type 0 where
  pub kept : List Row
  pub gone : List Row
  pub cut : IsCutTo rows kept (λ r. times r before)
  pub told : AreTold atoms leaves own other kept out gone
  pub rest : (r : Row) → times r now + times r gone ≡ times r before
