-- What the parts of a message make of it where they come in their order.
use Rattle.link_frames.proofs
use Rattle.link_frames.specs
use Rattle.dist_types.specs.Listing.{max_rows}
use proofs.Words.{All, All-cons, All-nil, ap, append_assoc, arith, drop, false}
use proofs.Words.{IsRow, length, List, Message, None, Option, refl, Row, rules, Some, subst, suc}
use proofs.Words.{sym, take, take-append-drop, text_bytes, true, zero, ℕ, [], ◌++◌, ◌+◌}
use proofs.Words.{◌-◌, ◌<◌, ◌==◌, ◌^◌, ◌∙◌, ◌∷◌, ◌≡◌, ◌≤◌}
use Rattle.std.specs.Prelude.{map, ◌/◌}
use Rattle.std.proofs.lemmas.List.{length-drop, length-take-le}
use Rattle.std.proofs.lemmas.List.Elements.{All-drop, All-take}
use Rattle.dist_types.specs.Text.{IsText}
use specs.declared.part.PartKind.{PartKind}
use specs.declared.part.Message2.{Message2}
use specs.Parts.{AreWritten, before_last, Begun, completed_by}
use specs.Parts.{HasParts, HasSome, is_next, IsMessage2, IsPart, kind_byte, may_come}
use specs.Parts.{MayCome, message2_bytes, message_of, part_bytes, parts, parts_from, rows_before}
use specs.Parts.{rows_so_far, whole}
use specs.declared.message.Message.TheVariants as messages
use specs.declared.part.PartKind.TheVariants as kinds
use specs.declared.part.Message2.TheVariants as frames

-- what is kept of a message behind its part of that number
abbrev pub kept : PartKind → List ℕ → ℕ → List Row → Option Begun
kept kind scope number rows =
    Some (record { kind = kind; scope = scope; number = number; rows = rows })

-- ---- version 1

-- a message that is whole by itself
pub whole_completes : (m : Message) (b : Option Begun) (later : List Message2)
    → completed_by b (whole m ∷ later) ≡ m ∷ completed_by None later
whole_completes (messages.Discover s) b later = refl
whole_completes (messages.Sync s rows) b later = refl
whole_completes (messages.Join s rows) b later = refl
whole_completes (messages.Leave s rows) b later = refl
whole_completes (messages.Down s) b later = refl

pub whole_may_come : (m : Message) (b : Option Begun) → may_come b (whole m) ≡ true
whole_may_come (messages.Discover s) b = refl
whole_may_come (messages.Sync s rows) b = refl
whole_may_come (messages.Join s rows) b = refl
whole_may_come (messages.Leave s rows) b = refl
whole_may_come (messages.Down s) b = refl

-- ---- version 2

not_first : (n : ℕ) → (suc (suc n) == 1) ≡ false
not_first n = search rules

before_later : (kind : PartKind) (scope : List ℕ) (number : ℕ) (before : List Row)
    → rows_before (kept kind scope (suc number) before) kind scope (suc (suc number)) ≡ before
before_later kind scope number before = search (rules, not_first number)

-- behind the first part all that is kept stands before the part's rows
pub so_far_later : (kind : PartKind) (scope : List ℕ) (number : ℕ) (before rows : List Row)
    → rows_so_far (kept kind scope (suc number) before) kind scope (suc (suc number)) rows ≡ before
    ++ rows
so_far_later kind scope number before rows =
    ap (λ xs. xs ++ rows) (before_later kind scope number before)

-- the parts behind the first complete the message with the rows of all
later_parts : (kind : PartKind) (scope : List ℕ) (number more : ℕ) (before rows : List Row)
    (later : List Message2)
    → completed_by (kept kind scope (suc number) before) (parts_from kind scope (suc (suc number))
    more rows ++ later) ≡ message_of kind scope (before ++ rows) ∷ completed_by None later
later_parts kind scope number zero before rows later =
    ap (λ all. message_of kind scope all ∷ completed_by None later)
    (so_far_later kind scope number before rows)
later_parts kind scope number (suc more) before rows later =
    ap (λ all. completed_by (kept kind scope (suc (suc number)) all)
    (parts_from kind scope (suc (suc (suc number))) more (drop max_rows rows) ++ later))
    (so_far_later kind scope number before (take max_rows rows))
    ∙ later_parts kind scope (suc number) more (before ++ take max_rows rows) (drop max_rows rows)
    later
    ∙ ap (λ all. message_of kind scope all ∷ completed_by None later)
    (append_assoc before (take max_rows rows) (drop max_rows rows) ∙ ap (λ all. before ++ all)
    (take-append-drop max_rows rows))

-- so do all parts
all_parts : (kind : PartKind) (scope : List ℕ) (more : ℕ) (rows : List Row) (b : Option Begun)
    (later : List Message2)
    → completed_by b (parts_from kind scope 1 more rows ++ later) ≡ message_of kind scope
    rows ∷ completed_by None later
all_parts kind scope zero rows b later = refl
all_parts kind scope (suc more) rows b later =
    later_parts kind scope 0 more (take max_rows rows) (drop max_rows rows) later
    ∙ ap (λ all. message_of kind scope all ∷ completed_by None later)
    (take-append-drop max_rows rows)

-- the parts of a message complete just that message, whatever was kept before
pub parts_complete : (m : Message) (b : Option Begun) (later : List Message2)
    → completed_by b (parts m ++ later) ≡ m ∷ completed_by None later
parts_complete (messages.Discover s) b later = refl
parts_complete (messages.Sync s rows) b later = all_parts kinds.Sync s (before_last rows) rows b
    later
parts_complete (messages.Join s rows) b later = all_parts kinds.Join s (before_last rows) rows b
    later
parts_complete (messages.Leave s rows) b later = all_parts kinds.Leave s (before_last rows) rows b
    later
parts_complete (messages.Down s) b later = refl

-- ---- each may come

follows_itself : (kind : PartKind) (scope : List ℕ) (number : ℕ) (rows : List Row)
    → is_next (kept kind scope (suc number) rows) kind scope (suc (suc number)) ≡ true
follows_itself kind scope number rows = search rules

later_come : (kind : PartKind) (scope : List ℕ) (number more : ℕ) (before rows : List Row)
    → MayCome (kept kind scope (suc number) before)
    (parts_from kind scope (suc (suc number)) more rows)
later_come kind scope number zero before rows = (follows_itself kind scope number before, tt)
later_come kind scope number (suc more) before rows = (
  follows_itself kind scope number before,
  subst (λ all. MayCome (kept kind scope (suc (suc number)) all)
      (parts_from kind scope (suc (suc (suc number))) more (drop max_rows rows)))
      (sym (so_far_later kind scope number before (take max_rows rows)))
      (later_come kind scope (suc number) more (before ++ take max_rows rows) (drop max_rows rows)),
)

all_come : (kind : PartKind) (scope : List ℕ) (more : ℕ) (rows : List Row) (b : Option Begun)
    → MayCome b (parts_from kind scope 1 more rows)
all_come kind scope zero rows b = (refl, tt)
all_come kind scope (suc more) rows b =
    (refl, later_come kind scope 0 more (take max_rows rows) (drop max_rows rows))

pub parts_may_come : (m : Message) (b : Option Begun) → MayCome b (parts m)
parts_may_come (messages.Discover s) b = (refl, tt)
parts_may_come (messages.Sync s rows) b = all_come kinds.Sync s (before_last rows) rows b
parts_may_come (messages.Join s rows) b = all_come kinds.Join s (before_last rows) rows b
parts_may_come (messages.Leave s rows) b = all_come kinds.Leave s (before_last rows) rows b
parts_may_come (messages.Down s) b = (refl, tt)

-- ---- how many rows a part has

has_rows : (kind : PartKind) (rows : List Row) → 0 < length rows → HasSome kind rows
has_rows kinds.Sync rows some = tt
has_rows kinds.Join rows some = some
has_rows kinds.Leave rows some = some

-- behind a full part there is one part less
pub one_less : (n more : ℕ) → (n - 1) / max_rows ≡ suc more
    → (max_rows < n) × ((n - max_rows - 1) / max_rows ≡ more)
one_less n more is = (omega (arith, is), omega (arith, is))

-- up to 4,096 rows are one part
pub one_part : (n : ℕ) → (n - 1) / max_rows ≡ 0 → n ≤ max_rows
one_part n is = omega (arith, is)

-- each part has at most 4,096 rows, and has one where the message has one; so it is within the
-- grammar
parts_are_within : (kind : PartKind) (scope : List ℕ) (number more : ℕ) (rows : List Row)
    → IsText scope → All IsRow rows → HasSome kind rows
    → more ≡ before_last rows → 1 ≤ number → number + more < 2 ^ 32
    → All IsMessage2 (parts_from kind scope number more rows)
parts_are_within kind scope number zero rows text each some is from fits =
    All-cons IsMessage2 _ []
    (record {
      text = text;
      from_one = from;
      fits = omega arith;
      few = record { count = one_part (length rows) (sym is); each = each };
      some = some;
    }) (All-nil IsMessage2)
parts_are_within kind scope number (suc more) rows text each some is from fits =
    let less = one_less (length rows) more (sym is) in
    let first : length (take max_rows rows) ≡ max_rows = length-take-le max_rows rows
    (omega (arith, less.0)) in
    let behind : length (drop max_rows rows) ≡ length rows - max_rows = length-drop max_rows rows in
    let part : IsPart kind scope number (take max_rows rows) = record {
      text = text;
      from_one = from;
      fits = omega arith;
      few = record { count = omega (arith, first); each = All-take IsRow max_rows rows each };
      some = has_rows kind (take max_rows rows) (omega (arith, first));
    } in
    All-cons IsMessage2 (frames.Part kind scope number false (take max_rows rows)) _ part (
    parts_are_within kind scope (suc number) more (drop max_rows rows) text
    (All-drop IsRow max_rows rows each)
    (has_rows kind (drop max_rows rows) (omega (arith, behind, less.0)))
    (sym (ap (λ n. (n - 1) / max_rows) behind ∙ less.1))
    (omega arith)
    (omega arith)
    )

-- so is a message, in parts
pub parts_within : (m : Message) → AreWritten m → HasParts m → All IsMessage2 (parts m)
parts_within (messages.Discover s) is few = All-cons IsMessage2 _ [] is (All-nil IsMessage2)
parts_within (messages.Sync s rows) is few = parts_are_within kinds.Sync s 1 (before_last rows) rows
    is.0 is.1 tt refl (omega arith) (omega (arith, few))
parts_within (messages.Join s rows) is few = parts_are_within kinds.Join s 1 (before_last rows) rows
    is.0 is.1 few.0 refl (omega arith) (omega (arith, few.1))
parts_within (messages.Leave s rows) is few = parts_are_within kinds.Leave s 1 (before_last rows)
    rows is.0 is.1 few.0 refl (omega arith) (omega (arith, few.1))
parts_within (messages.Down s) is few = All-cons IsMessage2 _ [] is (All-nil IsMessage2)

-- 65,536 rows are 16 parts
parts_count : (kind : PartKind) (scope : List ℕ) (number more : ℕ) (rows : List Row)
    → length (parts_from kind scope number more rows) ≡ suc more
parts_count kind scope number zero rows = refl
parts_count kind scope number (suc more) rows =
    ap suc (parts_count kind scope (suc number) more (drop max_rows rows))

pub few_parts : (rows : List Row) → length rows ≤ 65536 → suc (before_last rows) ≤ 16
few_parts rows few = omega (arith, few)

-- ---- one part is cut off

before_last_step : (rows : List Row) → max_rows < length rows
    → before_last rows ≡ suc (before_last (drop max_rows rows))
before_last_step rows long = let behind : length (drop max_rows rows) ≡ length rows - max_rows =
    length-drop max_rows rows in omega (arith, behind, long)

parts_step : (kind : PartKind) (scope : List ℕ) (number : ℕ) (rows : List Row)
    → max_rows < length rows
    → parts_from kind scope number (before_last rows) rows ≡ frames.Part kind scope number false
    (take max_rows rows) ∷ parts_from kind scope (suc number) (before_last (drop max_rows rows))
    (drop max_rows rows)
parts_step kind scope number rows long = ap (λ more. parts_from kind scope number more rows)
    (before_last_step rows long)

pub cut_one : (kind : PartKind) (scope : List ℕ) (number : ℕ) (rest front back : List Row) (old
    new : List (List ℕ)) (body : List ℕ) → max_rows < length rest → front ≡ take max_rows rest
    → back ≡ drop max_rows rest
    → body ≡ kind_byte kind ∷ text_bytes scope ++ part_bytes number false front
    → new ≡ old ++ body ∷ []
    → new ++ map message2_bytes (parts_from kind scope (number + 1) (before_last back) back) ≡ old
    ++ map message2_bytes (parts_from kind scope number (before_last rest) rest)
cut_one kind scope number rest front back old new body long fronts backs is pushed =
    let next : number + 1 ≡ suc number = omega arith in
    rw (pushed, is, fronts, backs, next) (append_assoc old _ _ ∙ ap
    (λ ps. old ++ map message2_bytes ps) (sym (parts_step kind scope number rest long)))

-- behind a full part there are rows
pub rows_behind : (kind : PartKind) (rest back : List Row) → max_rows < length rest
    → back ≡ drop max_rows rest → HasSome kind back
rows_behind kind rest back long is = has_rows kind back (let behind : length back ≡ length rest -
    max_rows = ap (length {A = Row}) is ∙ length-drop max_rows rest in omega (arith, behind, long))

pub rows_in_front : (kind : PartKind) (rest front : List Row) → max_rows < length rest
    → front ≡ take max_rows rest → HasSome kind front
rows_in_front kind rest front long is = has_rows kind front (let few : length front ≡ max_rows =
    ap (length {A = Row}) is ∙ length-take-le max_rows rest (omega (arith, long)) in
    omega (arith, few))
