-- What the peer is sent of a message that the node says: nothing, or what its scope is told.
use Rattle.std.specs.Prelude.{◌≡◌, ◌⊎◌, ◌+◌, ◌^◌, ◌<◌, ◌≤◌, ℕ, List, [], ◌∷◌, ◌++◌, set}
use Rattle.std.specs.Prelude.{get_or, length, map, Option, Some, None, true, false}
use Rattle.std.specs.List.Sorted.{IsPermutation}
use Rattle.dist_types.specs.declared.pid.Pid.{Pid}
use Rattle.dist_types.specs.declared.row.Row.{Row}
use Rattle.link_frames.specs.Parts.{Begun, SpellsMessage2, begun_after, completed}
use Rattle.link_frames.specs.Spelling.{SpellsMessage}
use Rattle.link_frames.specs.declared.message.Message.{Message}
use Rattle.link_frames.specs.declared.message.Message.TheVariants as messages
use Rattle.link_frames.specs.declared.part.Message2.{Message2}
use Rattle.link_frames.specs.declared.part.Message2.TheVariants as frames
use Rattle.link_frames.specs.declared.part.PartKind.{PartKind}
use Rattle.link_frames.specs.declared.part.PartKind.TheVariants as kinds
use Rattle.otp_edge.specs.Endings.{asking_of, ending_of}
use Rattle.otp_edge.specs.Grouped.{Keeps}
use Rattle.otp_edge.specs.Opens.{Open, open_of, with_seen, RunsNowhere}
use Rattle.otp_edge.specs.Sayings.{AreTold, AreLeft, syncs, joins}
use Rattle.otp_edge.specs.ScopeEdges.{seen_of, fresh, with_told, now_told, told_to}
use Rattle.otp_edge.specs.declared.edge_state.Edge.{Edge}
use Rattle.otp_edge.specs.declared.life.Life.{Life}
use Rattle.otp_edge.specs.declared.open_scope.OpenScope.{OpenScope}
use Rattle.otp_edge.specs.declared.scope_edge.Run.{Run}

-- ---- of one scope: what it was, what it is now, and what the peer's process is told

-- of all rows: nothing where that process isn't known
pub data TellsSync (atoms : List (List ℕ)) (rows : List Row) (o now : OpenScope) (out : List ℕ)
    : Type 0 where
  unknown : o.seen.other ≡ None → out ≡ [] → open_of now ≡ open_of o
      → TellsSync atoms rows o now out
  synced : (other : Pid) → o.seen.other ≡ Some other
      → AreTold atoms syncs o.own other rows out now.seen.told.items
      → open_of now ≡ with_seen (with_told now.seen.told.items (seen_of o.seen)) (open_of o)
      → TellsSync atoms rows o now out

-- of further rows: nothing where it wasn't told all
pub data TellsJoin (atoms : List (List ℕ)) (rows : List Row) (o now : OpenScope) (out : List ℕ)
    : Type 0 where
  unjoined : told_to (seen_of o.seen) ≡ None → out ≡ [] → open_of now ≡ open_of o
      → TellsJoin atoms rows o now out
  joined : (other : Pid) (more : List Row) → told_to (seen_of o.seen) ≡ Some other
      → AreTold atoms joins o.own other rows out more
      → open_of now ≡ with_seen (now_told (o.seen.told.items ++ more) (seen_of o.seen)) (open_of o)
      → TellsJoin atoms rows o now out

-- of rows that left: of those that it was told, and that didn't leave since
pub data TellsLeave (atoms : List (List ℕ)) (rows : List Row) (o now : OpenScope) (out : List ℕ)
    : Type 0 where
  unleft : told_to (seen_of o.seen) ≡ None → out ≡ [] → open_of now ≡ open_of o
      → TellsLeave atoms rows o now out
  left : (other : Pid) → told_to (seen_of o.seen) ≡ Some other
      → AreLeft atoms o.own other rows out o.seen.told.items now.seen.told.items
      → open_of now ≡ with_seen (now_told now.seen.told.items (seen_of o.seen)) (open_of o)
      → TellsLeave atoms rows o now out

-- these texts of groups were told as atoms until then
abbrev pub Tells : List (List ℕ) → PartKind → List Row → OpenScope → OpenScope → List ℕ → Type 0
Tells atoms kinds.Sync rows o now out = TellsSync atoms rows o now out
Tells atoms kinds.Join rows o now out = TellsJoin atoms rows o now out
Tells atoms kinds.Leave rows o now out = TellsLeave atoms rows o now out

-- a scope that has just started: its process is the next one, and nothing is known of the peer's
abbrev pub started : Run → ℕ → List ℕ → Open
started run processes scope = record {
  scope = scope;
  own = record { node = run.node; creation = run.creation; number = 2 ^ 63 + processes };
  seen = fresh None;
  reference = 0;
  watchers = [];
}

-- ---- of the scopes that run here: what they were, and what they are now

-- the scope of that name is one of them
pub record Runs (name : List ℕ) (o : OpenScope) (all : List OpenScope) : Type 0 where
  pub place : ℕ
  pub within : place < length all
  pub is : get_or all place o ≡ o
  pub named : o.scope ≡ name

-- rows are told of the scope of that name; the others stay
pub record IsTold (all after : List OpenScope) (atoms : List (List ℕ)) (kind : PartKind)
    (name : List ℕ) (rows : List Row) (out : List ℕ) : Type 0 where
  pub item : OpenScope
  pub now : OpenScope
  pub here : Runs name item all
  pub tells : Tells atoms kind rows item now out
  pub others : after ≡ set all here.place now

-- the scope of that name is asked for: it runs, or it starts, and the next process is another one
pub data IsSought (run : Run) (all after : List OpenScope) (processes later : ℕ)
    (name out : List ℕ) : Type 0 where
  runs : (item : OpenScope) → Runs name item all → out ≡ asking_of item → after ≡ all
      → later ≡ processes → IsSought run all after processes later name out
  starts : (item : OpenScope) → RunsNowhere name all → open_of item ≡ started run processes name
      → out ≡ asking_of item → after ≡ all ++ item ∷ [] → later ≡ processes + 1
      → IsSought run all after processes later name out

-- the scope of that name stopped; the others stay, in any order
pub record IsStopped (run : Run) (all after : List OpenScope) (name out : List ℕ) : Type 0 where
  pub item : OpenScope
  pub named : item.scope ≡ name
  pub bytes : out ≡ ending_of run item
  pub others : IsPermutation all (item ∷ after)

-- why nothing is told: no scope of that name runs here, or there are too many rows or scopes
abbrev pub IsDropped : List OpenScope → ℕ → Message → Type 0
IsDropped all processes (messages.Discover scope) =
    RunsNowhere scope all × ((64 ≤ length all) ⊎ (2 ^ 63 ≤ processes + 1))
IsDropped all processes (messages.Sync scope rows) = RunsNowhere scope all ⊎ (65536 < length rows)
IsDropped all processes (messages.Join scope rows) = RunsNowhere scope all ⊎ (65536 < length rows)
IsDropped all processes (messages.Leave scope rows) = RunsNowhere scope all ⊎ (65536 < length rows)
IsDropped all processes (messages.Down scope) = RunsNowhere scope all

-- what the scope of a message is told
abbrev pub IsToldOf : Run → List OpenScope → List OpenScope → ℕ → ℕ → List (List ℕ) → Message
    → List ℕ → Type 0
IsToldOf run all after processes later atoms (messages.Discover scope) out =
    IsSought run all after processes later scope out
IsToldOf run all after processes later atoms (messages.Sync scope rows) out =
    IsTold all after atoms kinds.Sync scope rows out
IsToldOf run all after processes later atoms (messages.Join scope rows) out =
    IsTold all after atoms kinds.Join scope rows out
IsToldOf run all after processes later atoms (messages.Leave scope rows) out =
    IsTold all after atoms kinds.Leave scope rows out
IsToldOf run all after processes later atoms (messages.Down scope) out =
    IsStopped run all after scope out

pub data Says (run : Run) (all after : List OpenScope) (processes later : ℕ)
    (atoms : List (List ℕ)) (m : Message) (out : List ℕ) : Type 0 where
  dropped : IsDropped all processes m → out ≡ [] → after ≡ all
      → Says run all after processes later atoms m out
  told : IsToldOf run all after processes later atoms m out
      → Says run all after processes later atoms m out

-- ---- of a link, before and behind what the node says

-- what the peer is sent of a message
abbrev pub IsSaid : Edge → Edge → Life → Life → Message → List ℕ → Type 0
IsSaid edge new life later m out = Says edge.own edge.scopes.items new.scopes.items life.processes
    later.processes later.atoms.items m out

-- no number is given back, and no text of an atom is forgotten
pub record GoesOn (life later : Life) : Type 0 where
  pub processes : life.processes ≤ later.processes
  pub atoms : Keeps life.atoms.items later.atoms.items

-- the same where there is one, and else nothing
abbrev pub IsSaidOnce : Edge → Edge → Life → Life → Option Message → List ℕ → Type 0
IsSaidOnce edge new life later None out = (out ≡ []) × (new.scopes.items ≡ edge.scopes.items)
IsSaidOnce edge new life later (Some m) out = IsSaid edge new life later m out

-- the parts that are kept behind a part, or another message
abbrev pub kept_after : Option Begun → Message2 → Option Begun
kept_after begun (frames.Part kind scope number last rows) =
    begun_after begun (frames.Part kind scope number last rows)
kept_after begun m = begun

-- what the peer is sent of a part: nothing until the last one comes
abbrev pub IsPartSaid : Edge → Edge → Life → Life → Message2 → List ℕ → Type 0
IsPartSaid edge new life later m out = IsSaidOnce edge new life later (completed edge.parts m) out
    × (new.parts ≡ kept_after edge.parts m)

-- what the peer is sent of a body of the node: of the message or the part that it spells
pub data IsBodySaid (edge new : Edge) (life later : Life) (body out : List ℕ) : Type 0 where
  whole : (m : Message) → edge.in_parts ≡ false → SpellsMessage body m
      → IsSaid edge new life later m out → new.parts ≡ edge.parts
      → IsBodySaid edge new life later body out
  part : (m : Message2) → edge.in_parts ≡ true → SpellsMessage2 body m
      → IsPartSaid edge new life later m out → IsBodySaid edge new life later body out

-- the body spells nothing
abbrev pub IsNoBody : Edge → List ℕ → Type 0
IsNoBody edge body = (edge.in_parts ≡ false → (m : Message) → SpellsMessage body m → ⊥)
    × (edge.in_parts ≡ true → (m : Message2) → SpellsMessage2 body m → ⊥)

-- a link stays what it is
abbrev pub IsSameLink : Edge → Edge → Type 0
IsSameLink edge new = (new.own ≡ edge.own) × (new.peer ≡ edge.peer)
    × (new.in_parts ≡ edge.in_parts)

-- what is known of each scope stays
abbrev pub KnowsTheSame : Edge → Edge → Type 0
KnowsTheSame edge new = map open_of new.scopes.items ≡ map open_of edge.scopes.items
