-- Frames that links are told, and scopes put among others.
use Rattle.std.specs.Prelude.{◌≡◌, ℕ, ◌≤◌, Bool, true, false, cond, not, List, [], ◌∷◌, map, length}
use Rattle.std.specs.List.{filter, AllByRecursion}
use Rattle.std.specs.Ordering.{is_lt}
use Rattle.dist_types.specs.Difference.{is_empty}
use Rattle.dist_types.specs.Listing.{max_rows}
use Rattle.dist_types.specs.Order.{text_cmp}
use Rattle.link_frames.specs.declared.message.Message.{Message}
use Rattle.link_frames.specs.declared.message.Message.TheVariants as said
use Rattle.policy_audit.specs.OutFrame.{OutFrame}
use Rattle.node_core.specs.declared.running.Running.{Running}
use Rattle.policy_audit.specs.Owed.{wide}
use Rattle.link_frames.specs.Parts.{message2_bytes, parts, HasParts}
use Rattle.link_frames.specs.Spelling.{HasSpelling}
use Rattle.node_core.specs.Links.{KeptLink, is_any_in, is_shown, prepared_for, takes_parts}
use Rattle.node_core.specs.Links.{with_frames}
use Rattle.node_core.specs.Links.{unroomed}
use Rattle.node_core.specs.ScopeFacts.{is_number}

-- nothing is prepared for any of these links
abbrev pub AreIdle : List KeptLink → Type 0
AreIdle links = AllByRecursion (λ x. x.prepared ≡ []) links

-- the numbers of the links that are up and visible
abbrev pub shown_numbers : List KeptLink → List ℕ
shown_numbers links = map (λ x. x.number) (filter (λ x. is_shown x.state) links)

-- bodies as frames with a length of 4 bytes
abbrev pub wide_frames : List (List ℕ) → List OutFrame
wide_frames bodies = map (λ body. record { wide = true; body = body }) bodies

-- a message as frames: in parts, or whole
abbrev pub said_in : Message → Bool → List OutFrame
said_in m parted =
    cond parted (map (λ part. record { wide = true; body = message2_bytes part }) (parts m))
    (wide m ∷ [])

-- the frames, for a link of one of these numbers that takes parts or not
abbrev pub if_among : List ℕ → (Bool → List OutFrame) → ℕ → Bool → List OutFrame
if_among numbers frames l parted = cond (is_number l numbers) (frames parted) []

-- the links, whatever their room
abbrev pub Alike : List KeptLink → List KeptLink → Type 0
Alike old new = map unroomed new ≡ map unroomed old

-- the links with these frames more that wait, whatever their room
abbrev pub AreTold : (ℕ → Bool → List OutFrame) → List KeptLink → List KeptLink → Type 0
AreTold more old new =
    map unroomed new
    ≡ map (λ x. unroomed (with_frames x (more x.number (takes_parts x.state)))) old

-- the message is prepared for the links that are up and visible
abbrev pub IsForShown : Message → List KeptLink → List KeptLink → Type 0
IsForShown m old new =
    map unroomed new ≡ map (λ x. unroomed (prepared_for (shown_numbers old) (said_in m) x)) old

-- the scope before the first that doesn't come before it
abbrev pub put_scope : Running → List Running → List Running
put_scope r [] = r ∷ []
put_scope r (x ∷ xs) = cond (is_lt (text_cmp x.scope r.scope)) (x ∷ put_scope r xs) (r ∷ x ∷ xs)

-- ---- messages of own rows

-- the message brings at most so many rows
abbrev pub IsBrief : ℕ → Message → Type 0
IsBrief most (said.Sync s rows) = length rows ≤ most
IsBrief most (said.Join s rows) = length rows ≤ most
IsBrief most (said.Leave s rows) = length rows ≤ most
IsBrief most m = Unit {0}

-- the most rows that the links of these numbers can be told at once: those of one message, where
-- one of them takes no parts
abbrev pub told_limit : List ℕ → List KeptLink → ℕ
told_limit numbers links = cond (is_any_in false numbers links) max_rows 65536

-- the message is within the grammar, in parts or whole
abbrev pub CanBeSaid : Bool → Message → Type 0
CanBeSaid true m = HasParts m
CanBeSaid false m = HasSpelling m

-- the message can be said to the links of these numbers, as each of them takes it
abbrev pub MayBeSaid : List ℕ → List KeptLink → Message → Type 0
MayBeSaid numbers links m = (parted : Bool) → is_any_in parted numbers links ≡ true
    → CanBeSaid parted m

-- the frames are those of the message, if one of the links of these numbers takes it so
abbrev pub IsSpelled : Bool → List ℕ → List KeptLink → Message → List OutFrame → Type 0
IsSpelled parted numbers links m frames =
    is_any_in parted numbers links ≡ true → frames ≡ said_in m parted

-- there is something to say: a Join and a Leave bring a row
abbrev pub is_said : Message → Bool
is_said (said.Join s rows) = not (is_empty rows)
is_said (said.Leave s rows) = not (is_empty rows)
is_said m = true

-- the links that are told it, of those of these numbers
abbrev pub said_to : List ℕ → Message → List ℕ
said_to numbers m = cond (is_said m) numbers []
