-- A reader of messages that computes. A body spells at most one message of a kind; its fields stand
-- one behind the other.
use Rattle.std.specs.Prelude.{ℕ, zero, suc, ◌^◌, Bool, cond, ◌&&◌, List, [], ◌∷◌, Option, length, take, drop, slice_range, find, nat_lt, nat_le, bytes_eq, get_or}
use Rattle.std.specs.Int.{w16, w32, w64, from_be_bytes}
use Rattle.std.specs.List.{list_all}
use Rattle.dist_types.specs.Text.{is_text, is_node_name}
use Rattle.dist_types.specs.Listing.{max_rows}
use Rattle.dist_types.specs.declared.row.Row.{Row}
use Rattle.handshake_frames.specs.Reading.{counted_in}
use Rattle.link_frames.specs.declared.message.Message.{Message}
use Rattle.link_frames.specs.declared.message.Message.TheVariants as messages
use Rattle.link_frames.specs.Spelling.{row_bytes, message_bytes}

-- the text behind its length of 1 byte
abbrev pub text_in : List ℕ → List ℕ
text_in bytes = take (get_or bytes 0 0) (drop 1 bytes)

-- what stands behind that text
abbrev pub behind_text : List ℕ → List ℕ
behind_text bytes = drop (get_or bytes 0 0) (drop 1 bytes)

-- what stands behind the name with its length of 2 bytes
abbrev pub behind_name : List ℕ → List ℕ
behind_name bytes = drop (from_be_bytes w16 (take 2 bytes)) (drop 2 bytes)

-- the only row that the bytes can begin with
abbrev pub row_in : List ℕ → Row
row_in bytes = record {
  group = text_in bytes;
  pid = record {
    node = counted_in (behind_text bytes);
    creation = from_be_bytes w32 (take 4 (behind_name (behind_text bytes)));
    number = from_be_bytes w64 (slice_range (behind_name (behind_text bytes)) 4 12);
  };
}

-- the only rows of that count that the bytes can be
abbrev pub rows_in : ℕ → List ℕ → List Row
rows_in zero bytes = []
rows_in (suc count) bytes = row_in bytes
    ∷ rows_in count (drop (length (row_bytes (row_in bytes))) bytes)

-- the only rows that can stand behind their count in 4 bytes, which is at most 4,096
abbrev pub counted_rows_in : List ℕ → List Row
counted_rows_in bytes = cond (nat_le (from_be_bytes w32 (take 4 bytes)) max_rows)
    (rows_in (from_be_bytes w32 (take 4 bytes)) (drop 4 bytes)) []

-- whether group and name are within the limits of texts, and each number fits its field
abbrev pub is_row : Row → Bool
is_row row = is_text row.group && is_node_name row.pid.node && nat_lt row.pid.creation (2 ^ 32)
    && nat_lt row.pid.number (2 ^ 64)

-- whether the rows are no more than a message may bring, each within the limits
abbrev pub are_rows : List Row → Bool
are_rows rows = nat_le (length rows) max_rows && list_all is_row rows

-- whether the message is within the grammar
abbrev pub is_message : Message → Bool
is_message (messages.Discover scope) = is_text scope
is_message (messages.Sync scope rows) = is_text scope && are_rows rows
is_message (messages.Join scope rows) = is_text scope && are_rows rows && nat_lt 0 (length rows)
is_message (messages.Leave scope rows) = is_text scope && are_rows rows && nat_lt 0 (length rows)
is_message (messages.Down scope) = is_text scope

-- the only message of each kind that the body can spell
abbrev pub messages_in : List ℕ → List Message
messages_in body =
    let scope = text_in (drop 1 body) in
    let rows = counted_rows_in (behind_text (drop 1 body)) in
    messages.Discover scope ∷ messages.Sync scope rows ∷ messages.Join scope rows
    ∷ messages.Leave scope rows ∷ messages.Down scope ∷ []

-- the message that the body spells: the body is its bytes, and it is within the grammar
unfoldable pub message : List ℕ → Option Message
message body = find (λ m. bytes_eq (message_bytes m) body && is_message m) (messages_in body)
