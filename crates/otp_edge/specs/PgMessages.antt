-- What the processes of a scope say to each other (Kernel manual, `pg`), as terms.
use Rattle.std.specs.Prelude.{◌≡◌, ℕ, ◌^◌, ◌<◌, List, [], ◌∷◌, ◌++◌, length, map, codes}
use Rattle.std.specs.List.{flat_map}
use Rattle.std.specs.Option.{option_map_or}
use Rattle.dist_types.specs.declared.pid.Pid.{Pid}
use Rattle.dist_types.specs.declared.row.Row.{Row}
use Rattle.external_terms.specs.Terms.{SpellsTerm}
use Rattle.external_terms.specs.Values.{atom_bytes, tuple_head, small_integer_bytes, numbers_bytes}
use Rattle.otp_edge.specs.Groups.{group_text}
use Rattle.otp_edge.specs.Lists.{listed, IsList}
use Rattle.otp_edge.specs.Processes.{IsPid, pid_bytes}

-- ---- the parts

-- the processes of a join or a leave: one alone, or a list of them
pub data Members : Type 0 where
  one : Pid → Members
  many : List Pid → Members

abbrev pub members_bytes : Members → List ℕ
members_bytes (one p) = pid_bytes p
members_bytes (many ps) = listed pid_bytes ps

abbrev pub members_of : Members → List Pid
members_of (one p) = p ∷ []
members_of (many ps) = ps

abbrev pub AreMembers : Members → Type 0
AreMembers (one p) = IsPid p
AreMembers (many ps) = IsList IsPid ps

-- the groups of a leave: a list of terms; one of numbers from 0 to 255 alone is a string of bytes
pub data Groups : Type 0 where
  terms : List (List ℕ) → Groups
  numbers : List ℕ → Groups

abbrev pub groups_bytes : Groups → List ℕ
groups_bytes (terms gs) = listed (λ g. g) gs
groups_bytes (numbers ns) = numbers_bytes ns

abbrev pub groups_of : Groups → List (List ℕ)
groups_of (terms gs) = gs
groups_of (numbers ns) = map small_integer_bytes ns

abbrev pub AreGroups : Groups → Type 0
AreGroups (terms gs) = IsList SpellsTerm gs
AreGroups (numbers ns) = length ns < 2 ^ 16

-- one group of a sync, with its processes, each as often as it joined
pub record Stated : Type 0 where
  pub group : List ℕ
  pub pids : List Pid

abbrev pub stated_bytes : Stated → List ℕ
stated_bytes s = tuple_head 2 ++ (s.group ++ listed pid_bytes s.pids)

pub record IsStated (s : Stated) : Type 0 where
  pub group : SpellsTerm s.group
  pub pids : IsList IsPid s.pids

-- ---- the messages

-- the scope's process that speaks stands first
pub data PgMessage : Type 0 where
  -- it runs, and asks for the receiver's members
  discover : Pid → PgMessage
  -- all its members
  sync : Pid → List Stated → PgMessage
  -- processes that joined a group
  join : Pid → List ℕ → Members → PgMessage
  -- processes that left groups
  leave : Pid → Members → Groups → PgMessage

-- a tuple of that many terms, of which the first is the atom of a text
abbrev pub headed : ℕ → List ℕ → List ℕ → List ℕ
headed arity text rest = tuple_head arity ++ (atom_bytes text ++ rest)

-- what stands behind the first word of a sync, a join and a leave
abbrev pub sync_inner : Pid → List Stated → List ℕ
sync_inner p ss = headed 3 (codes "sync") (pid_bytes p ++ listed stated_bytes ss)

abbrev pub join_inner : Pid → List ℕ → Members → List ℕ
join_inner p g ms = pid_bytes p ++ (g ++ members_bytes ms)

abbrev pub leave_inner : Pid → Members → Groups → List ℕ
leave_inner p ms gs = pid_bytes p ++ (members_bytes ms ++ groups_bytes gs)

abbrev pub pg_bytes : PgMessage → List ℕ
pg_bytes (discover p) = headed 2 (codes "discover") (pid_bytes p)
pg_bytes (sync p ss) = headed 2 (codes "$gen_cast") (sync_inner p ss)
pg_bytes (join p g ms) = headed 4 (codes "join") (join_inner p g ms)
pg_bytes (leave p ms gs) = headed 4 (codes "leave") (leave_inner p ms gs)

abbrev pub IsPgMessage : PgMessage → Type 0
IsPgMessage (discover p) = IsPid p
IsPgMessage (sync p ss) = IsPid p × IsList IsStated ss
IsPgMessage (join p g ms) = IsPid p × SpellsTerm g × AreMembers ms
IsPgMessage (leave p ms gs) = IsPid p × AreMembers ms × AreGroups gs

-- the bytes, without the byte 131 before a term, are the message
pub record SpellsPg (term : List ℕ) (m : PgMessage) : Type 0 where
  pub within : IsPgMessage m
  pub bytes : term ≡ pg_bytes m

-- ---- what they mean

-- the rows of processes in the group of a term; none where that group isn't carried
abbrev pub rows_of_text : List Pid → List ℕ → List Row
rows_of_text ps g = map (λ p. record { group = g; pid = p }) ps

unfoldable pub rows_in : List ℕ → List Pid → List Row
rows_in term ps = option_map_or (rows_of_text ps) (group_text term) []

abbrev pub rows_stated : List Stated → List Row
rows_stated ss = flat_map (λ s. rows_in s.group s.pids) ss

abbrev pub rows_left : List Pid → List (List ℕ) → List Row
rows_left ps gs = flat_map (λ g. rows_in g ps) gs

-- the rows that a message speaks of
abbrev pub rows_meant : PgMessage → List Row
rows_meant (discover p) = []
rows_meant (sync p ss) = rows_stated ss
rows_meant (join p g ms) = rows_in g (members_of ms)
rows_meant (leave p ms gs) = rows_left (members_of ms) (groups_of gs)
