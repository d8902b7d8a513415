-- When passes are all that was done behind a lock.
use Rattle.std.specs.Prelude.{◌≡◌, ◌==◌, ◌⊎◌, ⊤, ℕ, ◌<◌, ◌≤◌, List, [], ◌∷◌, ◌++◌, length, map, reverse, slice_index_or}
use Rattle.std.specs.Borrow.{Bor}
use Rattle.std.specs.List.{filter, All}
use Rattle.policy_audit.specs.declared.entry.Entry.{Entry}
use Rattle.policy_audit.specs.History.{audited}
use Rattle.policy_audit.specs.Log.{later_than}
use Rattle.node_core.specs.Recorded.{Recorded}
use Rattle.node_threads.specs.declared.pass.Call.{Call}
use Rattle.node_threads.specs.declared.close.CloseRule.{CloseRule}
use Rattle.node_threads.specs.declared.close.CloseRule.TheVariants.{MissingPass, DoublePass, Mismatch}
use Rattle.node_threads.specs.Applied.{Fits}
use Rattle.node_threads.specs.Calls.{Record, kept_calls, of, call_of, calls_of}
use Rattle.node_threads.specs.Room.{Room, IsSound, room_of}

-- how many of the passes are of this seat
abbrev pub passes_of : ℕ → List Record → ℕ
passes_of seat ps = length (filter (λ p. p.seat == seat) ps)

-- each of the seats has a pass
abbrev pub HaveEach : ℕ → List Record → Type 0
HaveEach seats ps = (seat : ℕ) → seat < seats → 1 ≤ passes_of seat ps

-- one of them has none
abbrev pub LacksOne : ℕ → List Record → Type 0
LacksOne seats ps = (seat : ℕ) × (seat < seats) × (passes_of seat ps ≡ 0)

-- none of the seats has two passes
abbrev pub HaveOne : ℕ → List Record → Type 0
HaveOne seats ps = (seat : ℕ) → seat < seats → passes_of seat ps ≤ 1

-- one of them has two, or more
abbrev pub HasTwo : ℕ → List Record → Type 0
HasTwo seats ps = (seat : ℕ) × (seat < seats) × (2 ≤ passes_of seat ps)

-- one by one they are the same, as far as both lists go
abbrev pub Agree : {A : Type 0} → List A → List A → Type 0
Agree [] ys = ⊤
Agree (x ∷ xs) [] = ⊤
Agree (x ∷ xs) (y ∷ ys) = (x ≡ y) × Agree xs ys

-- the entries that an audit keeps which has handed out so many, the newest first
abbrev pub kept_entries : ℕ → List Entry → List Entry
kept_entries forgotten es = reverse (later_than forgotten es)

-- from the last one back, the calls made the entries of this seat, each one in turn, as far as both
-- are kept
abbrev pub MadeLast : ℕ → List Call → List Entry → Type 0
MadeLast seat calls kept = Agree (reverse calls) (map call_of (filter (of seat) kept))

-- the pass is of one of the seats, has made as many calls as its seat has entries, and those that
-- it keeps made the last of these, as far as the audit keeps them, each once and in their order
pub record IsOwn (room : Room) (p : Record) : Type 0 where
  pub fits : Fits room p
  pub last : MadeLast p.seat (kept_calls p)
      (kept_entries room.forgotten (audited room.history.entries))

-- each pass is such a one
abbrev pub AreOwn : Room → List Record → Type 0
AreOwn room ps = All (IsOwn room) ps

-- a pass that let no call go, and a room whose audit has all its entries
abbrev pub IsWhole : Room → Record → Type 0
IsWhole room p = (room.forgotten ≡ 0) × (p.gone ≡ 0)

-- the pass is of one of the seats, and its calls are that seat's entries, each once and in their
-- order
abbrev pub HasAll : Room → Record → Type 0
HasAll room p =
    (p.seat < length room.counts) × (p.calls ≡ calls_of p.seat (audited room.history.entries))

-- one pass for each seat, and each is its seat's
pub record IsSettled (room : Room) (ps : List Record) : Type 0 where
  pub one : (seat : ℕ) → seat < length room.counts → passes_of seat ps ≡ 1
  pub own : AreOwn room ps

-- why passes aren't: the first of these that holds
abbrev pub IsCloseFault : CloseRule → Room → List Record → Type 0
IsCloseFault MissingPass room ps = LacksOne (length room.counts) ps
IsCloseFault DoublePass room ps = HaveEach (length room.counts) ps × HasTwo (length room.counts) ps
IsCloseFault Mismatch room ps = HaveEach (length room.counts) ps × HaveOne (length room.counts) ps
    × (AreOwn room ps → ⊥)

-- the node and the passes are those of some room, which the passes settle
abbrev pub IsClosed : Recorded → List Record → Type 0
IsClosed node ps =
    (counts : List ℕ) × IsSound (room_of node counts) × IsSettled (room_of node counts) ps

-- there is a room for which that is why they don't
abbrev pub IsRefused : CloseRule → List Record → Type 0
IsRefused rule ps = (room : Room) × IsSound room × IsCloseFault rule room ps

-- ---- while an audit is gone over

-- what lists, one for each seat, have for this one
abbrev pub at_seat : ℕ → List (Bor (List Call)) → List Call
at_seat seat lists = slice_index_or (map (λ calls. calls.now) lists) seat []

-- for each seat they are the last calls that made these entries, which have the newest first
abbrev pub AreLast : ℕ → List (Bor (List Call)) → List Entry → Type 0
AreLast seats lists es = (seat : ℕ) → seat < seats → MadeLast seat (at_seat seat lists) es

-- the calls before that of the entry, which is the last of these; or there are none
abbrev pub Precede : List Call → Entry → List Call → Type 0
Precede calls e earlier = ((calls ≡ []) × (earlier ≡ [])) ⊎ (calls ≡ earlier ++ call_of e ∷ [])
