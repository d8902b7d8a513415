-- What may be said on a link, and the frames of a message, which are read as its parts.
use Rattle.frame_laws.proofs
use proofs.Words.{All-from_recursion, AllByRecursion, and_parts, ap, AreWritten, arith, Bool, drop}
use proofs.Words.{frames_said, HasParts, IsMessage2, IsRow, IsText, length, limit, List, list_all}
use proofs.Words.{list_all-append, map, max_rows, Message, message-spelled, Message2}
use proofs.Words.{message2-spelled, message2_bytes, message_bytes, message_taken, option_to_list}
use proofs.Words.{OutFrame, PartKind, parts, parts_from, parts_within, recursion_from_All, refl}
use proofs.Words.{Row, rows_in, said_frames, slice_get, Some, suc, sym, take, take-append-drop}
use proofs.Words.{true, wide, zero, ℕ, [], ◌++◌, ◌<◌, ◌==◌, ◌∙◌, ◌∷◌, ◌≡◌, ◌≤◌}
use proofs.Handshakes.{taken_new}
use proofs.Pieces.{pieces}

-- ---- what may be said

abbrev pub rows_said : Message → List Row
rows_said (Message.Sync s rows) = rows
rows_said (Message.Join s rows) = rows
rows_said (Message.Leave s rows) = rows
rows_said m = []

-- the message is within its grammar, on a link of this version
pub record IsSayable (v : ℕ) (m : Message) : Type 0 where
  pub written : AreWritten m
  pub has : HasParts m
  pub few : length (rows_said m) ≤ limit v

-- rows of each kind
module _ (v : ℕ) (s : List ℕ) (text : IsText s) (rows : List Row)
    (each : AllByRecursion IsRow rows) (few : length rows ≤ limit v) where
  pub sync_sayable : IsSayable v (Message.Sync s rows)
  sync_sayable = grind (arith, All-from_recursion)

  pub join_sayable : 0 < length rows → IsSayable v (Message.Join s rows)
  join_sayable = grind (arith, All-from_recursion)

  pub leave_sayable : 0 < length rows → IsSayable v (Message.Leave s rows)
  leave_sayable = grind (arith, All-from_recursion)

-- ---- frames that are read as these parts

abbrev pub Reads : ℕ → List OutFrame → List Message2 → Type 0
Reads v [] [] = Unit {0}
Reads v (f ∷ fs) (p ∷ ps) =
    ((f.wide ≡ true) × (message_taken v f.body ≡ Some p)) × Reads v fs ps
Reads v fs ps = ⊥

-- what these frames say
abbrev pub said : ℕ → List OutFrame → List Message2
said v fs = frames_said v (map (λ f. f.body) fs)

pub said_take : (v : ℕ) (fs : List OutFrame) (ps : List Message2) → Reads v fs ps → (k : ℕ)
    → said v (take k fs) ≡ take k ps
said_take v fs ps reads zero = refl
said_take v [] [] reads (suc k) = refl
said_take v (f ∷ fs) (p ∷ ps) reads (suc k) =
    λ i. option_to_list (reads.0.1 i) ++ said_take v fs ps reads.1 k i
said_take v [] (p ∷ ps) reads (suc k) = absurd reads
said_take v (f ∷ fs) [] reads (suc k) = absurd reads

pub said_all : (v : ℕ) (fs : List OutFrame) (ps : List Message2) → Reads v fs ps → said v fs ≡ ps
said_all v [] [] reads = refl
said_all v (f ∷ fs) (p ∷ ps) reads =
    λ i. option_to_list (reads.0.1 i) ++ said_all v fs ps reads.1 i
said_all v [] (p ∷ ps) reads = absurd reads
said_all v (f ∷ fs) [] reads = absurd reads

pub reads_length : (v : ℕ) (fs : List OutFrame) (ps : List Message2) → Reads v fs ps
    → length fs ≡ length ps
reads_length v [] [] reads = refl
reads_length v (f ∷ fs) (p ∷ ps) reads = ap suc (reads_length v fs ps reads.1)
reads_length v [] (p ∷ ps) reads = absurd reads
reads_length v (f ∷ fs) [] reads = absurd reads

pub record IsReadAt (v : ℕ) (f : OutFrame) (ps : List Message2) (k : ℕ) : Type 0 where
  pub part : Message2
  pub stands : slice_get ps k ≡ Some part
  pub says : message_taken v f.body ≡ Some part

pub reads_at : (v : ℕ) (fs : List OutFrame) (ps : List Message2) → Reads v fs ps → (k : ℕ)
    (f : OutFrame) → slice_get fs k ≡ Some f → IsReadAt v f ps k
reads_at v [] ps reads k f q = cc
reads_at v (x ∷ fs) (p ∷ ps) reads zero f q = grind arith
reads_at v (x ∷ fs) (p ∷ ps) reads (suc k) f q = grind (arith, reads_at v fs ps reads.1 k f q)
reads_at v (x ∷ fs) [] reads k f q = absurd reads

-- what holds of each that is read as one of these holds of all
pub reads_hold : (v : ℕ) (P : OutFrame → Type 0) (Q : Message2 → Type 0)
    → ((f : OutFrame) (p : Message2) → f.wide ≡ true → message_taken v f.body ≡ Some p → Q p → P f)
    → (fs : List OutFrame) (ps : List Message2) → Reads v fs ps → AllByRecursion Q ps
    → AllByRecursion P fs
reads_hold v P Q each [] [] reads all = tt
reads_hold v P Q each (f ∷ fs) (p ∷ ps) reads all =
    grind (arith, reads_hold v P Q each fs ps reads.1 all.1)
reads_hold v P Q each [] (p ∷ ps) reads all = absurd reads
reads_hold v P Q each (f ∷ fs) [] reads all = absurd reads

-- a message within the grammar is read as it was meant
new_reads : (v : ℕ) → (v == 2) ≡ true → (ps : List Message2) → AllByRecursion IsMessage2 ps
    → Reads v (map (λ part. record { wide = true; body = message2_bytes part }) ps) ps
new_reads v new [] all = tt
new_reads v new (p ∷ ps) all = (
  (
    refl,
    taken_new v (message2_bytes p) new
        ∙ message2-spelled (message2_bytes p) p (record { within = all.0; bytes = refl }),
  ),
  new_reads v new ps all.1,
)

pub reads : (v : ℕ) (m : Message) → IsSayable v m → Reads v (said_frames v m) (pieces v m)
reads v m it =
    grind (
      arith,
      new_reads v,
      recursion_from_All IsMessage2 (parts m) (parts_within m it.written it.has),
      message-spelled (message_bytes m) m,
    )

-- a message without rows is one frame, of the same bytes in both versions
pub asks_alike : (v : ℕ) (s : List ℕ)
    → said_frames v (Message.Discover s) ≡ wide (Message.Discover s) ∷ []
asks_alike = grind arith

pub downs_alike : (v : ℕ) (s : List ℕ)
    → said_frames v (Message.Down s) ≡ wide (Message.Down s) ∷ []
downs_alike = grind arith

pub asks_sayable : (v : ℕ) (s : List ℕ) → IsText s → IsSayable v (Message.Discover s)
asks_sayable = grind arith

pub downs_sayable : (v : ℕ) (s : List ℕ) → IsText s → IsSayable v (Message.Down s)
downs_sayable = grind arith

-- ---- rows of parts are rows of the message

module _ (test : Row → Bool) where
  abbrev AllMeet : List Message2 → Type 0
  AllMeet ps = AllByRecursion (λ p. list_all test (rows_in p) ≡ true) ps

  cut_meet : (n : ℕ) (rows : List Row) → list_all test rows ≡ true
      → (list_all test (take n rows) ≡ true) × (list_all test (drop n rows) ≡ true)
  cut_meet n rows all =
      and_parts (list_all test (take n rows)) (list_all test (drop n rows))
      (sym (list_all-append test (take n rows) (drop n rows))
      ∙ ap (list_all test) (take-append-drop n rows) ∙ all)

  from_meet : (kind : PartKind) (s : List ℕ) (number more : ℕ) (rows : List Row)
      → list_all test rows ≡ true → AllMeet (parts_from kind s number more rows)
  from_meet kind s number zero rows all = (all, tt)
  from_meet kind s number (suc more) rows all =
      let cut = cut_meet max_rows rows all in
      (cut.0, from_meet kind s (suc number) more (drop max_rows rows) cut.1)

  pub pieces_meet : (v : ℕ) (m : Message) → list_all test (rows_said m) ≡ true
      → AllMeet (pieces v m)
  pieces_meet = grind (arith, from_meet)
