-- Parts that stand right behind one another, and an end that accepts some of them.
use Rattle.link_frames.proofs
use Rattle.link_frames.specs
use Rattle.dist_types.specs.Listing.{max_rows, same}
use proofs.Words.{ap, append-nil, append_assoc, cond, drop, false, inl, inr, List}
use proofs.Words.{Message, None, Option, refl, Row, rules, Some, subst, suc, sym, take, true, zero}
use proofs.Words.{ℕ, [], ◌++◌, ◌==◌, ◌∙◌, ◌∷◌, ◌≡◌}
use Rattle.std.specs.Prelude.{⊤}
use Rattle.std.specs.Option.{option_to_list}
use specs.declared.part.PartKind.{PartKind}
use specs.declared.part.Message2.{Message2}
use specs.Parts.{AreInOrder, before_last, Begun, begun_after, begun_by, comes_next, completed}
use specs.Parts.{completed_by, KeepsOrNot, may_come, message_of, parts}
use specs.Parts.{parts_from, rows_before}
use proofs.PartLaws.{kept, parts_complete, so_far_later}
use specs.declared.message.Message.TheVariants as messages
use specs.declared.part.PartKind.TheVariants as kinds
use specs.declared.part.Message2.TheVariants as frames

follows_it : (kind : PartKind) (scope : List ℕ) (number : ℕ) (rows : List Row)
    → comes_next (kept kind scope (suc number) rows)
    (frames.Part kind scope (suc (suc number)) true []) ≡ true
follows_it kind scope number rows = search rules

-- the parts of a message stand right behind one another, and what follows them stands as if nothing
-- had come
later_in_order : (kind : PartKind) (scope : List ℕ) (number more : ℕ) (before rows : List Row)
    (later : List Message2) → AreInOrder None later
    → AreInOrder (kept kind scope (suc number) before)
    (parts_from kind scope (suc (suc number)) more rows ++ later)
later_in_order kind scope number zero before rows later q = (follows_it kind scope number before, q)
later_in_order kind scope number (suc more) before rows later q = (
  follows_it kind scope number before,
  subst (λ all. AreInOrder (kept kind scope (suc (suc number)) all)
      (parts_from kind scope (suc (suc (suc number))) more (drop max_rows rows) ++ later))
      (sym (so_far_later kind scope number before (take max_rows rows)))
      (later_in_order kind scope (suc number) more (before ++ take max_rows rows)
      (drop max_rows rows)
      later q),
)

all_in_order : (kind : PartKind) (scope : List ℕ) (more : ℕ) (rows : List Row) (later : List
    Message2) → AreInOrder None later → AreInOrder None (parts_from kind scope 1 more rows ++ later)
all_in_order kind scope zero rows later q = (refl, q)
all_in_order kind scope (suc more) rows later q =
    (refl, later_in_order kind scope 0 more (take max_rows rows) (drop max_rows rows) later q)

pub parts_in_order : (m : Message) (later : List Message2) → AreInOrder None later
    → AreInOrder None (parts m ++ later)
parts_in_order (messages.Discover s) later q = (refl, q)
parts_in_order (messages.Sync s rows) later q = all_in_order kinds.Sync s (before_last rows) rows
    later q
parts_in_order (messages.Join s rows) later q = all_in_order kinds.Join s (before_last rows) rows
    later q
parts_in_order (messages.Leave s rows) later q = all_in_order kinds.Leave s (before_last rows) rows
    later q
parts_in_order (messages.Down s) later q = (refl, q)

-- so does each beginning of what does
pub begins_in_order : (b : Option Begun) (first later : List Message2)
    → AreInOrder b (first ++ later) → AreInOrder b first
begins_in_order b [] later q = tt
begins_in_order b (m ∷ first) later q = (q.0, begins_in_order (begun_after b m) first later q.1)

-- ---- an end that keeps nothing, or what all that came makes

-- a first part
first_alone : (b : Option Begun) (kind : PartKind) (scope : List ℕ) (number : ℕ)
    → (number == 1) ≡ true → rows_before b kind scope number ≡ []
first_alone b kind scope number q = rw q

-- what it accepts makes of both the same
pub accepts_alike : (r b : Option Begun) (m : Message2) → KeepsOrNot r b → comes_next b m ≡ true
    → may_come r m ≡ true → begun_after r m ≡ begun_after b m
accepts_alike r b m (inr same) next may = ap (λ x. begun_after x m) same
accepts_alike r b (frames.Discover s) (inl none) next may = refl
accepts_alike r b (frames.Down s) (inl none) next may = refl
accepts_alike r b (frames.Part kind scope number last rows) (inl none) next may =
    let first : (number == 1) ≡ true = search (rules, none, may) in
    let alike : rows_before r kind scope number ≡ rows_before b kind scope number =
    first_alone r kind scope number first ∙ sym (first_alone b kind scope number first) in
    ap (λ before. cond last None
    (Some (record { kind = kind; scope = scope; number = number; rows = before ++ rows }))) alike

pub completes_alike : (r b : Option Begun) (m : Message2) → KeepsOrNot r b → comes_next b m ≡ true
    → may_come r m ≡ true → completed r m ≡ completed b m
completes_alike r b m (inr same) next may = ap (λ x. completed x m) same
completes_alike r b (frames.Discover s) (inl none) next may = refl
completes_alike r b (frames.Down s) (inl none) next may = refl
completes_alike r b (frames.Part kind scope number last rows) (inl none) next may =
    let first : (number == 1) ≡ true = search (rules, none, may) in
    let alike : rows_before r kind scope number ≡ rows_before b kind scope number =
    first_alone r kind scope number first ∙ sym (first_alone b kind scope number first) in
    ap (λ before. cond last (Some (message_of kind scope (before ++ rows))) None) alike

-- while it keeps something, the next message is the next part, and comes in order
pub kept_goes_on : (r b : Option Begun) (x : Begun) (m : Message2) → r ≡ Some x → KeepsOrNot r b
    → comes_next b m ≡ true → may_come r m ≡ true
kept_goes_on r b x m is (inl none) next = cc
kept_goes_on r b x (frames.Part kind scope number last rows) is (inr same) next =
    let here : comes_next (Some x) (frames.Part kind scope number last rows) ≡ true =
    subst (λ y. comes_next y (frames.Part kind scope number last rows) ≡ true) (sym same ∙ is)
    next in search (rules, is, here)
kept_goes_on r b x (frames.Discover s) is (inr same) next = refl
kept_goes_on r b x (frames.Down s) is (inr same) next = refl

-- ---- one message more behind others

pub begun_by_more : (b : Option Begun) (ms : List Message2) (m : Message2)
    → begun_by b (ms ++ m ∷ []) ≡ begun_after (begun_by b ms) m
begun_by_more b [] m = refl
begun_by_more b (x ∷ ms) m = begun_by_more (begun_after b x) ms m

pub completed_by_more : (b : Option Begun) (ms : List Message2) (m : Message2)
    → completed_by b (ms ++ m ∷ []) ≡ completed_by b ms ++ option_to_list
    (completed (begun_by b ms) m)
completed_by_more b [] m = append-nil (option_to_list (completed b m))
completed_by_more b (x ∷ ms) m = ap (λ later. option_to_list (completed b x) ++ later)
    (completed_by_more (begun_after b x) ms m)
    ∙ sym (append_assoc (option_to_list (completed b x)) (completed_by (begun_after b x) ms)
    (option_to_list (completed (begun_by (begun_after b x) ms) m)))

pub last_in_order : (b : Option Begun) (ms : List Message2) (m : Message2)
    → AreInOrder b (ms ++ m ∷ []) → comes_next (begun_by b ms) m ≡ true
last_in_order b [] m q = q.0
last_in_order b (x ∷ ms) m q = last_in_order (begun_after b x) ms m q.1

-- a message that stands where nothing is kept makes the same of whatever is kept
pub first_begins : (b : Option Begun) (m : Message2) → comes_next None m ≡ true
    → begun_after b m ≡ begun_after None m
first_begins b (frames.Discover s) first = refl
first_begins b (frames.Down s) first = refl
first_begins b (frames.Part kind scope number last rows) first =
    ap (λ before. cond last None
    (Some (record { kind = kind; scope = scope; number = number; rows = before ++ rows })))
    (first_alone b kind scope number first ∙ sym (first_alone None kind scope number first))

pub first_completes : (b : Option Begun) (m : Message2) → comes_next None m ≡ true
    → completed b m ≡ completed None m
first_completes b (frames.Discover s) first = refl
first_completes b (frames.Down s) first = refl
first_completes b (frames.Part kind scope number last rows) first =
    ap (λ before. cond last (Some (message_of kind scope (before ++ rows))) None)
    (first_alone b kind scope number first ∙ sym (first_alone None kind scope number first))

-- ---- the scope of what is kept

-- the scope that a message is about
abbrev pub scope_in : Message2 → List ℕ
scope_in (frames.Discover s) = s
scope_in (frames.Part kind s number last rows) = s
scope_in (frames.Down s) = s

abbrev pub AreAbout : List ℕ → List Message2 → Type 0
AreAbout s [] = ⊤
AreAbout s (m ∷ ms) = (scope_in m ≡ s) × AreAbout s ms

-- what is kept is nothing, or of s
abbrev pub IsKeptOf : List ℕ → Option Begun → Type 0
IsKeptOf s None = ⊤
IsKeptOf s (Some b) = b.scope ≡ s

after_about : (s : List ℕ) (b : Option Begun) (m : Message2) → scope_in m ≡ s
    → IsKeptOf s (begun_after b m)
after_about s b (frames.Discover t) is = tt
after_about s b (frames.Down t) is = tt
after_about s b (frames.Part kind t number true rows) is = tt
after_about s b (frames.Part kind t number false rows) is = is

pub kept_about : (s : List ℕ) (b : Option Begun) (ms : List Message2) → IsKeptOf s b → AreAbout s ms
    → IsKeptOf s (begun_by b ms)
kept_about s b [] of are = of
kept_about s b (m ∷ ms) of are = kept_about s (begun_after b m) ms (after_about s b m are.0) are.1

pub begins_about : (s : List ℕ) (first later : List Message2) → AreAbout s (first ++ later)
    → AreAbout s first
begins_about s [] later are = tt
begins_about s (m ∷ first) later are = (are.0, begins_about s first later are.1)

from_about : (kind : PartKind) (scope : List ℕ) (number more : ℕ) (rows : List Row)
    → AreAbout scope (parts_from kind scope number more rows)
from_about kind scope number zero rows = (refl, tt)
from_about kind scope number (suc more) rows =
    (refl, from_about kind scope (suc number) more (drop max_rows rows))

-- the scope of a whole message
abbrev pub scope_said : Message → List ℕ
scope_said (messages.Discover s) = s
scope_said (messages.Sync s rows) = s
scope_said (messages.Join s rows) = s
scope_said (messages.Leave s rows) = s
scope_said (messages.Down s) = s

pub parts_about : (m : Message) → AreAbout (scope_said m) (parts m)
parts_about (messages.Discover s) = (refl, tt)
parts_about (messages.Sync s rows) = from_about kinds.Sync s 1 (before_last rows) rows
parts_about (messages.Join s rows) = from_about kinds.Join s 1 (before_last rows) rows
parts_about (messages.Leave s rows) = from_about kinds.Leave s 1 (before_last rows) rows
parts_about (messages.Down s) = (refl, tt)

-- ---- the parts alone

pub parts_alone : (m : Message) → completed_by None (parts m) ≡ m ∷ []
parts_alone m = ap (completed_by None) (sym (append-nil (parts m))) ∙ parts_complete m None []

pub alone_in_order : (m : Message) → AreInOrder None (parts m)
alone_in_order m = subst (AreInOrder None) (append-nil (parts m)) (parts_in_order m [] tt)
