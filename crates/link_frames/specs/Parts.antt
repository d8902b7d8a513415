-- Messages whose rows come in parts, as links of version 2 carry them. A part counts only once the
-- last one has come. On a link of version 1 each message is one part: the first, and the last.
use Rattle.std.specs.Prelude.{◌≡◌, ⊤, ℕ, ◌+◌, ◌-◌, ◌^◌, ◌<◌, ◌≤◌, ◌==◌, Bool, true, false, cond, ◌&&◌, ◌||◌, List, [], ◌∷◌, ◌++◌, Option, Some, None, length, take, drop, zero, suc, ◌/◌, All, ◌⊎◌}
use Rattle.std.specs.Int.{w32, to_be_bytes}
use Rattle.std.specs.Option.{option_map_or, option_to_list}
use Rattle.dist_types.specs.Text.{IsText}
use Rattle.dist_types.specs.Listing.{max_rows, same}
use Rattle.dist_types.specs.declared.row.Row.{Row}
use Rattle.link_frames.specs.declared.message.Message.{Message}
use Rattle.link_frames.specs.declared.message.Message.TheVariants as messages
use Rattle.link_frames.specs.declared.part.PartKind.{PartKind}
use Rattle.link_frames.specs.declared.part.PartKind.TheVariants as kinds
use Rattle.link_frames.specs.declared.part.Message2.{Message2}
use Rattle.link_frames.specs.declared.part.Message2.TheVariants as frames
use Rattle.link_frames.specs.Spelling.{text_bytes, rows_bytes, IsRow, AreRows}

-- ---- the bodies

-- `S`, `J` or `L`
abbrev pub kind_byte : PartKind → ℕ
kind_byte kinds.Sync = 0x53
kind_byte kinds.Join = 0x4A
kind_byte kinds.Leave = 0x4C

-- 01 for the last part, 00 for another
abbrev pub last_byte : Bool → ℕ
last_byte true = 1
last_byte false = 0

-- the number of a part in 4 bytes, whether it is the last, and the rows behind their count
abbrev pub part_bytes : ℕ → Bool → List Row → List ℕ
part_bytes number last rows = to_be_bytes w32 number ++ (last_byte last ∷ rows_bytes rows)

-- the byte of the kind, the scope, and then the part, if the kind has rows
abbrev pub message2_bytes : Message2 → List ℕ
message2_bytes (frames.Discover scope) = 0x44 ∷ text_bytes scope
message2_bytes (frames.Part kind scope number last rows) = kind_byte kind ∷ text_bytes scope
    ++ part_bytes number last rows
message2_bytes (frames.Down scope) = 0x58 ∷ text_bytes scope

-- a part of a Join or a Leave has a row
abbrev pub HasSome : PartKind → List Row → Type 0
HasSome kinds.Sync rows = ⊤
HasSome kinds.Join rows = 0 < length rows
HasSome kinds.Leave rows = 0 < length rows

-- parts are counted from 1, and a part has at most 4,096 rows
pub record IsPart (kind : PartKind) (scope : List ℕ) (number : ℕ) (rows : List Row) : Type 0 where
  pub text : IsText scope
  pub from_one : 1 ≤ number
  pub fits : number < 2 ^ 32
  pub few : AreRows rows
  pub some : HasSome kind rows

-- the message is within the grammar
abbrev pub IsMessage2 : Message2 → Type 0
IsMessage2 (frames.Discover scope) = IsText scope
IsMessage2 (frames.Part kind scope number last rows) = IsPart kind scope number rows
IsMessage2 (frames.Down scope) = IsText scope

-- the body spells the message
pub record SpellsMessage2 (body : List ℕ) (m : Message2) : Type 0 where
  pub within : IsMessage2 m
  pub bytes : body ≡ message2_bytes m

-- the number and the count of the rows are within the grammar
abbrev pub HasSpelling2 : Message2 → Type 0
HasSpelling2 (frames.Part kind scope number last rows) = (1 ≤ number) × (length rows ≤ max_rows)
    × HasSome kind rows
HasSpelling2 m = ⊤

-- ---- a message in parts

-- the message of this kind with these rows
abbrev pub message_of : PartKind → List ℕ → List Row → Message
message_of kinds.Sync scope rows = messages.Sync scope rows
message_of kinds.Join scope rows = messages.Join scope rows
message_of kinds.Leave scope rows = messages.Leave scope rows

-- a message as one part
abbrev pub whole : Message → Message2
whole (messages.Discover scope) = frames.Discover scope
whole (messages.Sync scope rows) = frames.Part kinds.Sync scope 1 true rows
whole (messages.Join scope rows) = frames.Part kinds.Join scope 1 true rows
whole (messages.Leave scope rows) = frames.Part kinds.Leave scope 1 true rows
whole (messages.Down scope) = frames.Down scope

-- how many parts of 4,096 rows stand before the last one
abbrev pub before_last : List Row → ℕ
before_last rows = (length rows - 1) / max_rows

-- so many parts of 4,096 rows from this number on, and then the last
abbrev pub parts_from : PartKind → List ℕ → ℕ → ℕ → List Row → List Message2
parts_from kind scope number zero rows = frames.Part kind scope number true rows ∷ []
parts_from kind scope number (suc more) rows =
    frames.Part kind scope number false (take max_rows rows)
    ∷ parts_from kind scope (suc number) more (drop max_rows rows)

-- a message in parts: its rows in their order, 4,096 in each part but the last, which is shorter or
-- full
abbrev pub parts : Message → List Message2
parts (messages.Discover scope) = frames.Discover scope ∷ []
parts (messages.Sync scope rows) = parts_from kinds.Sync scope 1 (before_last rows) rows
parts (messages.Join scope rows) = parts_from kinds.Join scope 1 (before_last rows) rows
parts (messages.Leave scope rows) = parts_from kinds.Leave scope 1 (before_last rows) rows
parts (messages.Down scope) = frames.Down scope ∷ []

-- the message can be cut into parts: a Join and a Leave have a row
abbrev pub HasParts : Message → Type 0
HasParts (messages.Sync scope rows) = length rows < 2 ^ 32
HasParts (messages.Join scope rows) = (0 < length rows) × (length rows < 2 ^ 32)
HasParts (messages.Leave scope rows) = (0 < length rows) × (length rows < 2 ^ 32)
HasParts m = ⊤

-- scope and rows are within the limits of texts and numbers, however many the rows are
abbrev pub AreWritten : Message → Type 0
AreWritten (messages.Discover scope) = IsText scope
AreWritten (messages.Sync scope rows) = IsText scope × All IsRow rows
AreWritten (messages.Join scope rows) = IsText scope × All IsRow rows
AreWritten (messages.Leave scope rows) = IsText scope × All IsRow rows
AreWritten (messages.Down scope) = IsText scope

-- ---- parts that come

-- what is kept of a message of which parts have come, and not the last: its kind and its scope, the
-- number of its latest part, and the rows of all of them
pub record Begun : Type 0 where
  pub kind : PartKind
  pub scope : List ℕ
  pub number : ℕ
  pub rows : List Row

-- the part of this number is the one behind those that are kept
abbrev pub follows : PartKind → List ℕ → ℕ → Begun → Bool
follows kind scope number b = (kind_byte b.kind == kind_byte kind)
    && (same b.scope scope && (suc b.number == number))

-- the part may come: it is a first one, or it follows those that are kept
abbrev pub is_next : Option Begun → PartKind → List ℕ → ℕ → Bool
is_next begun kind scope number = (number == 1)
    || option_map_or (follows kind scope number) begun false

-- the rows of the parts before the part of this number: of a first one none, else those that are
-- kept, where it follows them
abbrev pub rows_before : Option Begun → PartKind → List ℕ → ℕ → List Row
rows_before begun kind scope number =
    cond (number == 1) [] (option_map_or (λ b. cond (follows kind scope number b) b.rows []) begun
    [])

-- the rows of all parts so far, with these of the part of that number
abbrev pub rows_so_far : Option Begun → PartKind → List ℕ → ℕ → List Row → List Row
rows_so_far begun kind scope number rows = rows_before begun kind scope number ++ rows

-- the message that this one completes: it is whole by itself, or a last part
abbrev pub completed : Option Begun → Message2 → Option Message
completed begun (frames.Discover scope) = Some (messages.Discover scope)
completed begun (frames.Part kind scope number last rows) =
    cond last (Some (message_of kind scope (rows_so_far begun kind scope number rows))) None
completed begun (frames.Down scope) = Some (messages.Down scope)

-- what is kept after it
abbrev pub begun_after : Option Begun → Message2 → Option Begun
begun_after begun (frames.Part kind scope number last rows) =
    cond last None (Some (record {
      kind = kind;
      scope = scope;
      number = number;
      rows = rows_so_far begun kind scope number rows;
    }))
begun_after begun m = None

-- the messages that these complete, in their order
abbrev pub completed_by : Option Begun → List Message2 → List Message
completed_by begun [] = []
completed_by begun (m ∷ ms) = option_to_list (completed begun m)
    ++ completed_by (begun_after begun m) ms

-- what is kept after all of them
abbrev pub begun_by : Option Begun → List Message2 → Option Begun
begun_by begun [] = begun
begun_by begun (m ∷ ms) = begun_by (begun_after begun m) ms

-- the message may come after those of which this is kept
abbrev pub may_come : Option Begun → Message2 → Bool
may_come begun (frames.Part kind scope number last rows) = is_next begun kind scope number
may_come begun m = true

-- each may come after those before it
abbrev pub MayCome : Option Begun → List Message2 → Type 0
MayCome begun [] = ⊤
MayCome begun (m ∷ ms) = (may_come begun m ≡ true) × MayCome (begun_after begun m) ms

-- ---- parts as one node sends them: nothing stands between the parts of a message

-- the message stands right behind those of which this is kept
abbrev pub comes_next : Option Begun → Message2 → Bool
comes_next None (frames.Part kind scope number last rows) = number == 1
comes_next None m = true
comes_next (Some b) (frames.Part kind scope number last rows) = follows kind scope number b
comes_next (Some b) m = false

-- each stands right behind those before it
abbrev pub AreInOrder : Option Begun → List Message2 → Type 0
AreInOrder begun [] = ⊤
AreInOrder begun (m ∷ ms) = (comes_next begun m ≡ true) × AreInOrder (begun_after begun m) ms

-- what one end keeps of all that came is nothing, or what all of it makes
abbrev pub KeepsOrNot : Option Begun → Option Begun → Type 0
KeepsOrNot kept all = (kept ≡ None) ⊎ (kept ≡ all)
