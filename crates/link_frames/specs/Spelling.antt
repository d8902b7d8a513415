-- Which bodies spell which messages. Numbers are big-endian, and nothing stands behind the last
-- field.
use Rattle.std.specs.Prelude.{◌≡◌, ⊤, ℕ, ◌^◌, ◌<◌, ◌≤◌, List, ◌∷◌, ◌++◌, length, All}
use Rattle.std.specs.Int.{w16, w32, w64, to_be_bytes}
use Rattle.std.specs.List.{flat_map}
use Rattle.dist_types.specs.Text.{IsText, IsNodeName}
use Rattle.dist_types.specs.Listing.{max_rows}
use Rattle.dist_types.specs.declared.row.Row.{Row}
use Rattle.handshake_frames.specs.Spelling.{counted}
use Rattle.link_frames.specs.declared.message.Message.{Message}
use Rattle.link_frames.specs.declared.message.Message.TheVariants as messages

-- a scope or a group behind its length in 1 byte
abbrev pub text_bytes : List ℕ → List ℕ
text_bytes text = length text ∷ text

-- the group, the name behind its length in 2 bytes, the creation in 4, and the number in 8
abbrev pub row_bytes : Row → List ℕ
row_bytes row = text_bytes row.group ++ counted w16 row.pid.node ++ to_be_bytes w32 row.pid.creation
    ++ to_be_bytes w64 row.pid.number

-- the count of the rows in 4 bytes, and the rows
abbrev pub rows_bytes : List Row → List ℕ
rows_bytes rows = to_be_bytes w32 (length rows) ++ flat_map row_bytes rows

-- the byte of the kind, `D`, `S`, `J`, `L` or `X`, the scope, and then the rows, if the kind has
-- them
abbrev pub message_bytes : Message → List ℕ
message_bytes (messages.Discover scope) = 0x44 ∷ text_bytes scope
message_bytes (messages.Sync scope rows) = 0x53 ∷ text_bytes scope ++ rows_bytes rows
message_bytes (messages.Join scope rows) = 0x4A ∷ text_bytes scope ++ rows_bytes rows
message_bytes (messages.Leave scope rows) = 0x4C ∷ text_bytes scope ++ rows_bytes rows
message_bytes (messages.Down scope) = 0x58 ∷ text_bytes scope

-- group and name are within the limits of texts, and each number fits its field
pub record IsRow (row : Row) : Type 0 where
  pub group : IsText row.group
  pub node : IsNodeName row.pid.node
  pub creation : row.pid.creation < 2 ^ 32
  pub number : row.pid.number < 2 ^ 64

-- no more rows than a message may bring, each within the limits
pub record AreRows (rows : List Row) : Type 0 where
  pub count : length rows ≤ max_rows
  pub each : All IsRow rows

-- the message is within the grammar; a Join and a Leave have a row
abbrev pub IsMessage : Message → Type 0
IsMessage (messages.Discover scope) = IsText scope
IsMessage (messages.Sync scope rows) = IsText scope × AreRows rows
IsMessage (messages.Join scope rows) = IsText scope × AreRows rows × (0 < length rows)
IsMessage (messages.Leave scope rows) = IsText scope × AreRows rows × (0 < length rows)
IsMessage (messages.Down scope) = IsText scope

-- the body spells the message
pub record SpellsMessage (body : List ℕ) (m : Message) : Type 0 where
  pub within : IsMessage m
  pub bytes : body ≡ message_bytes m

-- the count of the rows is within the grammar
abbrev pub HasSpelling : Message → Type 0
HasSpelling (messages.Sync scope rows) = length rows ≤ max_rows
HasSpelling (messages.Join scope rows) = (0 < length rows) × (length rows ≤ max_rows)
HasSpelling (messages.Leave scope rows) = (0 < length rows) × (length rows ≤ max_rows)
HasSpelling m = ⊤
