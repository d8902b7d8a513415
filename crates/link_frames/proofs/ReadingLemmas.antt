-- The reader gives a message exactly where the body spells it, and how long a spelling is.
use Rattle.link_frames.proofs
use proofs.Words.{All, All-head, All-tail, and_from, and_parts, ap, append_assoc}
use proofs.Words.{append_cancel_left, are_rows, AreRows, arith, behind_name, behind_text, Bool}
use proofs.Words.{cond, counted, counted_rows_in, Decides-and, Decides-by_and, drop, drop_at}
use proofs.Words.{flat_map, from_be_bytes, from_be_bytes-to_be_bytes_2, from_be_bytes-to_be_bytes_4}
use proofs.Words.{from_be_bytes-to_be_bytes_8, is_message, is_row, IsMessage, IsRow, IsTrue, length}
use proofs.Words.{length-append, List, list_all, max_body, max_rows, Message, message}
use proofs.Words.{message_bytes, messages_in, nat_le, nat_lt, refl, Row, row_bytes, row_in}
use proofs.Words.{rows_bytes, rows_in, rules, Some, SpellsMessage, suc, sym, take, take_all}
use proofs.Words.{take_at, text_bytes, text_in, to_be_bytes, true, w16, w32, w64, zero, ℕ, [], ◌&&◌}
use proofs.Words.{◌*◌, ◌++◌, ◌<◌, ◌^◌, ◌↔◌, ◌∙◌, ◌∷◌, ◌≡◌, ◌≤◌}
use Rattle.std.specs.Str.{bytes_eq}
use Rattle.std.proofs.lemmas.Slice.Eq.{bytes_eq-Decides}
use Rattle.dist_types.proofs.LimitLemmas.{names_compute, texts_compute}
use Rattle.handshake_frames.specs.Reading.{counted_in}
use Rattle.handshake_frames.proofs.ReadingLemmas.{counted_in-counted, found_passes}
use Rattle.link_frames.specs.declared.message.Message.TheVariants as messages

-- ---- the limits as tests

pub below : (m n : ℕ) → (nat_lt m n ≡ true) ↔ (m < n)
below m n = search rules

pub at_most : (m n : ℕ) → (nat_le m n ≡ true) ↔ (m ≤ n)
at_most m n = search rules

row_computes : (row : Row) → IsTrue (is_row row) ↔ IsRow row
row_computes row =
    let texts = Decides-and _ _ (texts_compute row.group) (names_compute row.pid.node) in
    let all = Decides-and _ _ (Decides-and _ _ texts (below row.pid.creation (2 ^ 32)))
    (below row.pid.number (2 ^ 64)) in (
      λ h. let is = all.0 h in
          record { group = is.0.0.0; node = is.0.0.1; creation = is.0.1; number = is.1 },
      λ is. all.1 (((is.group, is.node), is.creation), is.number),
    )

pub rows_compute : (rows : List Row) → IsTrue (are_rows rows) ↔ AreRows rows
rows_compute rows =
    let all = Decides-and _ _ (at_most (length rows) max_rows)
    (Decides-by_and is_row IsRow (list_all is_row) row_computes refl (λ _ _. refl) rows) in
    (λ h. record { count = (all.0 h).0; each = (all.0 h).1 }, λ are. all.1 (are.count, are.each))

listing_computes : (scope : List ℕ) (rows : List Row)
    → IsTrue (is_message (messages.Join scope rows)) ↔ IsMessage (messages.Join scope rows)
listing_computes scope rows =
    let all = Decides-and _ _ (Decides-and _ _ (texts_compute scope) (rows_compute rows))
    (below 0 (length rows)) in
    (λ h. let is = all.0 h in (is.0.0, is.0.1, is.1), λ is. all.1 ((is.0, is.1), is.2))

pub message_computes : (m : Message) → IsTrue (is_message m) ↔ IsMessage m
message_computes (messages.Discover scope) = texts_compute scope
message_computes (messages.Sync scope rows) = Decides-and _ _ (texts_compute scope)
    (rows_compute rows)
message_computes (messages.Join scope rows) = listing_computes scope rows
message_computes (messages.Leave scope rows) = listing_computes scope rows
message_computes (messages.Down scope) = texts_compute scope

-- ---- fields

pub text_in-text_bytes : (text rest : List ℕ) → text_in (text_bytes text ++ rest) ≡ text
text_in-text_bytes text rest = take_at text rest (length text) refl

pub behind_text-text_bytes : (text rest : List ℕ) → behind_text (text_bytes text ++ rest) ≡ rest
behind_text-text_bytes text rest = drop_at text rest (length text) refl

behind_name-counted : (name rest : List ℕ) → length name < 2 ^ 16
    → behind_name (counted w16 name ++ rest) ≡ rest
behind_name-counted name rest fits = ap (λ n. drop n (name ++ rest))
    (from_be_bytes-to_be_bytes_2 (length name) fits) ∙ drop_at name rest (length name) refl

-- ---- a row

-- the numbers of a row, and what stands behind them
abbrev pub behind_node : Row → List ℕ → List ℕ
behind_node row rest = to_be_bytes w32 row.pid.creation ++ (to_be_bytes w64 row.pid.number ++ rest)

pub row_parts : (row : Row) (rest : List ℕ)
    → row_bytes row ++ rest ≡ text_bytes row.group ++ (counted w16 row.pid.node ++ behind_node row
    rest)
row_parts row rest = simp append_assoc

pub row_in-row_bytes : (row : Row) (rest : List ℕ) → IsRow row
    → row_in (row_bytes row ++ rest) ≡ row
row_in-row_bytes row rest is =
    let short = is.node.text.not_long in
    let parts = row_parts row rest in
    let behind : behind_text (row_bytes row ++ rest) ≡ counted w16 row.pid.node ++ behind_node row
    rest = ap behind_text parts ∙ behind_text-text_bytes row.group _ in
    let numbers : behind_name (behind_text (row_bytes row ++ rest)) ≡ behind_node row rest =
    ap behind_name behind ∙ behind_name-counted row.pid.node _ (omega arith) in
    let group : text_in (row_bytes row ++ rest) ≡ row.group = ap text_in parts ∙ text_in-text_bytes
    row.group _ in
    let node : counted_in (behind_text (row_bytes row ++ rest)) ≡ row.pid.node =
    ap counted_in behind ∙ counted_in-counted row.pid.node _ (omega arith) in
    let creation : from_be_bytes w32 (take 4 (behind_name (behind_text (row_bytes row ++ rest))))
    ≡ row.pid.creation = ap (λ b. from_be_bytes w32 (take 4 b)) numbers
    ∙ from_be_bytes-to_be_bytes_4 row.pid.creation is.creation in
    let number : from_be_bytes w64
    (take 8 (drop 4 (behind_name (behind_text (row_bytes row ++ rest))))) ≡ row.pid.number =
    ap (λ b. from_be_bytes w64 (take 8 (drop 4 b))) numbers ∙ from_be_bytes-to_be_bytes_8
    row.pid.number is.number in
    λ i.
    record {
      group = group i;
      pid = record { node = node i; creation = creation i; number = number i };
    }

-- ---- rows

rows_in-flat_map : (rows : List Row) → All IsRow rows
    → rows_in (length rows) (flat_map row_bytes rows) ≡ rows
rows_in-flat_map [] all = refl
rows_in-flat_map (row ∷ rows) all =
    let bytes = row_bytes row ++ flat_map row_bytes rows in
    let first : row_in bytes ≡ row = row_in-row_bytes row (flat_map row_bytes rows)
    (All-head IsRow row rows all) in
    let later : drop (length (row_bytes (row_in bytes))) bytes ≡ flat_map row_bytes rows =
    ap (λ r. drop (length (row_bytes r)) bytes) first ∙ drop_at (row_bytes row)
    (flat_map row_bytes rows) _ refl in
    let others : rows_in (length rows) (drop (length (row_bytes (row_in bytes))) bytes) ≡ rows =
    ap (rows_in (length rows)) later ∙ rows_in-flat_map rows (All-tail IsRow row rows all) in
    λ i. first i ∷ others i

pub counted_rows_in-rows_bytes : (rows : List Row) → AreRows rows
    → counted_rows_in (rows_bytes rows) ≡ rows
counted_rows_in-rows_bytes rows are =
    let few = are.count in
    ap (λ n. cond (nat_le n max_rows) (rows_in n (flat_map row_bytes rows)) [])
    (from_be_bytes-to_be_bytes_4 (length rows) (omega arith))
    ∙ ap (λ b. cond b (rows_in (length rows) (flat_map row_bytes rows)) [])
    ((at_most (length rows) max_rows).1 few)
    ∙ rows_in-flat_map rows are.each

-- rows are known by their count and their bytes
pub same_rows : (rows others : List Row) → All IsRow rows → All IsRow others
    → length rows ≡ length others → flat_map row_bytes rows ≡ flat_map row_bytes others
    → rows ≡ others
same_rows rows others all were long same =
    sym (rows_in-flat_map rows all) ∙ ap (λ n. rows_in n (flat_map row_bytes rows)) long
    ∙ ap (rows_in (length others)) same ∙ rows_in-flat_map others were

-- rows that were read from the front of rows leave those behind them
pub rows_left : (front rows : List Row) (rest : List ℕ) → All IsRow front → All IsRow rows
    → length front ≤ length rows → flat_map row_bytes rows ≡ flat_map row_bytes front ++ rest
    → rest ≡ flat_map row_bytes (drop (length front) rows)
rows_left [] rows rest fronts all fewer same = sym same
rows_left (row ∷ front) [] rest fronts all fewer same = absurd (omega arith)
rows_left (row ∷ front) (other ∷ rows) rest fronts all fewer same =
    let parts : row_bytes other ++ flat_map row_bytes rows ≡ row_bytes row ++ (flat_map row_bytes
    front ++ rest) = same ∙ append_assoc (row_bytes row) (flat_map row_bytes front) rest in
    let first : row ≡ other = sym (row_in-row_bytes row _ (All-head IsRow row front fronts))
    ∙ ap row_in (sym parts) ∙ row_in-row_bytes other _ (All-head IsRow other rows all) in
    let later : flat_map row_bytes rows ≡ flat_map row_bytes front ++ rest =
    append_cancel_left (row_bytes other)
    _ _ (parts ∙ ap (λ r. row_bytes r ++ (flat_map row_bytes front ++ rest)) first) in
    rows_left front rows rest (All-tail IsRow row front fronts) (All-tail IsRow other rows all)
    (omega arith) later

-- a row stands at each place of rows
pub next_row : (n : ℕ) (rows : List Row) → All IsRow rows → n < length rows
    → (row : Row) × IsRow row × ((later : List Row) × (drop n rows ≡ row ∷ later))
next_row n [] all inside = absurd (omega arith)
next_row zero (row ∷ rows) all inside = (row, All-head IsRow row rows all, (rows, refl))
next_row (suc n) (row ∷ rows) all inside = next_row n rows (All-tail IsRow row rows all)
    (omega arith)

-- ---- a message

-- the test that the reader makes
abbrev spells : List ℕ → Message → Bool
spells body m = bytes_eq (message_bytes m) body && is_message m

spells_true : (m : Message) → IsMessage m → spells (message_bytes m) m ≡ true
spells_true m is = and_from _ _ ((bytes_eq-Decides (message_bytes m) (message_bytes m)).1 refl)
    ((message_computes m).1 is)

pub text_alone : (text : List ℕ) → text_in (text_bytes text) ≡ text
text_alone text = take_all (length text) text (omega arith)

listing_rows : (scope : List ℕ) (rows : List Row) → AreRows rows
    → counted_rows_in (behind_text (text_bytes scope ++ rows_bytes rows)) ≡ rows
listing_rows scope rows are = ap counted_rows_in (behind_text-text_bytes scope (rows_bytes rows))
    ∙ counted_rows_in-rows_bytes rows are

spelled_so : (m : Message) → IsMessage m → message (message_bytes m) ≡ Some m
unfolding message
spelled_so (messages.Discover scope) is =
    rw (text_alone scope, spells_true (messages.Discover scope) is)
spelled_so (messages.Sync scope rows) is =
    rw (
      text_in-text_bytes scope (rows_bytes rows),
      listing_rows scope rows is.1,
      spells_true (messages.Sync scope rows) is,
    )
spelled_so (messages.Join scope rows) is =
    rw (
      text_in-text_bytes scope (rows_bytes rows),
      listing_rows scope rows is.1,
      spells_true (messages.Join scope rows) is,
    )
spelled_so (messages.Leave scope rows) is =
    rw (
      text_in-text_bytes scope (rows_bytes rows),
      listing_rows scope rows is.1,
      spells_true (messages.Leave scope rows) is,
    )
spelled_so (messages.Down scope) is = rw (text_alone scope, spells_true (messages.Down scope) is)

pub message-spelled : (body : List ℕ) (m : Message) → SpellsMessage body m → message body ≡ Some m
message-spelled body m spelled = ap message spelled.bytes ∙ spelled_so m spelled.within

pub SpellsMessage-read : (body : List ℕ) (m : Message) → message body ≡ Some m
    → SpellsMessage body m
unfolding message
SpellsMessage-read body m read =
    let tests = and_parts _ _ (found_passes (spells body) (messages_in body) m read) in
    record {
      within = (message_computes m).0 tests.1;
      bytes = sym ((bytes_eq-Decides (message_bytes m) body).0 tests.0);
    }

-- a body spells at most one message
pub one_message : (body : List ℕ) (m n : Message) → SpellsMessage body m → SpellsMessage body n
    → m ≡ n
one_message body m n a b = cc (message-spelled body m a, message-spelled body n b)

-- a row has 15 bytes of numbers and lengths, and two texts
row_within : (r : Row) → IsRow r → length (row_bytes r) ≤ 525
row_within r is = grind (arith, length-append, is.group.not_long, is.node.text.not_long)

sum_within : (rows : List Row) → All IsRow rows
    → length (flat_map row_bytes rows) ≤ length rows * 525
sum_within [] each = omega arith
sum_within (r ∷ rows) each =
    grind (
      arith,
      length-append,
      row_within r (All-head IsRow r rows each),
      sum_within rows (All-tail IsRow r rows each),
    )

pub rows_within : (rows : List Row) → AreRows rows → length (rows_bytes rows) ≤ 2150404
rows_within rows are = grind (arith, sum_within rows are.each, are.count)

pub message_within : (m : Message) → IsMessage m → length (message_bytes m) ≤ max_body
message_within (messages.Discover s) is = grind (arith, is.not_long)
message_within (messages.Sync s rows) is =
    grind (arith, length-append, is.0.not_long, rows_within rows is.1)
message_within (messages.Join s rows) is =
    grind (arith, length-append, is.0.not_long, rows_within rows is.1)
message_within (messages.Leave s rows) is =
    grind (arith, length-append, is.0.not_long, rows_within rows is.1)
message_within (messages.Down s) is = grind (arith, is.not_long)
