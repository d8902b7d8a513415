-- Messages of own rows, and the links that are told them.
use Rattle.node_core.proofs
use proofs.Words.{Alike, ap, append-nil, arith, Bool, CanBeSaid, cond, count_in_group, exact_pids}
use proofs.Words.{false, fault_of, is_any_in, is_empty, is_said, IsBrief, IsJoinFault}
use proofs.Words.{IsJoinRefusal, IsLeaveFault, IsLeaveRefusal, IsListing, IsPidListing}
use proofs.Words.{IsRowListing, KeptLink, length, length-map, lie, List, listing, map, max_rows}
use proofs.Words.{MayBeSaid, mentions, Message, min, not, occurrences, occurs_stands, OnErr}
use proofs.Words.{OutFrame, Pid, pid_cmp, pids_total, refl, Row, row, row_cmp, Running, same}
use proofs.Words.{same_length, same_pid, same_pid_decides, same_row, same_row_decides, same_sym}
use proofs.Words.{stands_in, subst, sym, Table, told_limit, true, ℕ, [], ◌++◌, ◌<◌, ◌^◌, ◌∙◌, ◌∷◌}
use proofs.Words.{◌≡◌, ◌≤◌}
use Rattle.std.proofs.Common.{Result}
use Rattle.dist_types.proofs.Listings.{listing_counts}
use Rattle.link_frames.specs.Parts.{HasParts}
use Rattle.link_frames.specs.Spelling.{HasSpelling}
use Rattle.scope_core.specs.declared.fault.TableFault.{TableFault}
use Rattle.policy_audit.proofs.OwnRows.{one_row_listing, rows_in_group}
use Rattle.scope_core.proofs.Outcomes.{on_err}

some_left : {A : Type 0} (xs : List A) → not (is_empty xs) ≡ true → 0 < length xs
some_left [] q = lie (sym q)
some_left (x ∷ xs) q = omega arith

-- a message that is said can be spelled, whole and in parts
pub spelled : (m : Message) → IsBrief max_rows m → is_said m ≡ true → HasSpelling m
spelled (Message.Discover s) b q = tt
spelled (Message.Sync s rows) b q = b
spelled (Message.Join s rows) b q = (some_left rows q, b)
spelled (Message.Leave s rows) b q = (some_left rows q, b)
spelled (Message.Down s) b q = tt

below : (most : ℕ) → most ≤ 65536 → (rows : List Row) → length rows ≤ most → length rows < 2 ^ 32
below most within rows few = omega (arith, within)

in_parts : (most : ℕ) → most ≤ 65536 → (m : Message) → IsBrief most m → is_said m ≡ true
    → HasParts m
in_parts most w (Message.Discover s) b q = tt
in_parts most w (Message.Sync s rows) b q = below most w rows b
in_parts most w (Message.Join s rows) b q = (some_left rows q, below most w rows b)
in_parts most w (Message.Leave s rows) b q = (some_left rows q, below most w rows b)
in_parts most w (Message.Down s) b q = tt

within : (b : Bool) → cond b max_rows 65536 ≤ 65536
within true = omega arith
within false = omega arith

pub may_be_said : (numbers : List ℕ) (links : List KeptLink) (m : Message)
    → IsBrief (told_limit numbers links) m → is_said m ≡ true → MayBeSaid numbers links m
may_be_said numbers links m b q true some =
    in_parts (told_limit numbers links) (within (is_any_in false numbers links)) m b q
may_be_said numbers links m b q false some =
    spelled m (subst (λ old. IsBrief (cond old max_rows 65536) m) some b) q

-- so can a Sync of few rows, or in parts
pub sync_said : (parted : Bool) (s : List ℕ) (rows : List Row) (total : ℕ)
    → length rows ≤ total → (parted ≡ false → total ≤ max_rows) → total < 2 ^ 32
    → CanBeSaid parted (Message.Sync s rows)
sync_said true s rows total within few fits = omega (arith, within)
sync_said false s rows total within few fits = (let most = few refl in omega (arith, within))

-- behind a Sync a Discover stands, or nothing
pub heard_alone : (is_heard : Bool) (fs sync asks : List OutFrame) → is_heard ≡ true → fs ≡ sync
    → fs ≡ sync ++ cond is_heard [] asks
heard_alone is_heard fs sync asks q e = grind (arith, append-nil sync)

pub asked_too : (is_heard : Bool) (fs sync asks : List OutFrame) → is_heard ≡ false
    → fs ≡ sync ++ asks → fs ≡ sync ++ cond is_heard [] asks
asked_too is_heard fs sync asks q e = grind arith

-- ---- rows of one group

-- the rows of a group are the listing of its processes
pub moved_listing : (g : List ℕ) (ps : List Pid) (count : Pid → ℕ) (rows : List Row)
    → ((p : Pid) → 0 < count p → stands_in same_pid p ps ≡ true)
    → IsRowListing (λ f q. cond (same f g) (count q) 0) rows
    → rows ≡ map (row g) (listing pid_cmp count ps)
moved_listing g ps count rows named a =
    one_row_listing (λ f q. cond (same f g) (count q) 0) rows
    (map (row g) (listing pid_cmp count ps)) a
    (rows_in_group g count (listing pid_cmp count ps)
    (listing_counts pid_cmp same_pid pids_total exact_pids same_pid_decides count ps named))

pub joined_rows_are : (g : List ℕ) (ps : List Pid) (rows : List Row)
    → IsRowListing (λ f q. cond (same f g) (mentions q ps) 0) rows
    → rows ≡ map (row g) (listing pid_cmp (λ p. mentions p ps) ps)
joined_rows_are g ps rows a =
    moved_listing g ps (λ p. mentions p ps) rows (λ p some. occurs_stands same_pid p ps some) a

pub left_rows_are : (g : List ℕ) (ps gone : List Pid) (count : Pid → ℕ) (rows : List Row)
    → IsPidListing (λ p. min (mentions p ps) (count p)) gone
    → IsRowListing (λ f q. cond (same f g) (mentions q gone) 0) rows
    → rows ≡ map (row g) (listing pid_cmp (λ p. min (mentions p ps) (count p)) ps)
left_rows_are g ps gone count rows left a =
    moved_listing g ps (λ p. min (mentions p ps) (count p)) rows
    (λ p some. occurs_stands same_pid p ps (omega arith))
    (subst (λ (c : Pid → ℕ). IsRowListing (λ f q. cond (same f g) (c q) 0) rows)
    (λ i q. IsListing.counts left q i) a)

-- the rows of processes, in order
module _ (g : List ℕ) (pids : List Pid) (rows sorted : List Row) (is : rows ≡ map (row g) pids)
    (listing : IsListing row_cmp same_row (λ r. occurrences same_row r rows) sorted) where
  pub rows_listing : IsRowListing (λ f p. cond (same f g) (mentions p pids) 0) sorted
  rows_listing = record {
    ascends = IsListing.ascends listing;
    counts = λ r. IsListing.counts listing r ∙ ap (occurrences same_row r) is
        ∙ count_in_group r g pids ∙ ap (λ b. cond b (mentions r.pid pids) 0) (same_sym g r.group);
  }

  pub rows_length : length sorted ≡ length pids
  rows_length = same_length same_row same_row_decides sorted rows (λ r. IsListing.counts listing r)
      ∙ ap length is ∙ length-map pids (row g)

-- ---- faults

pub join_fault : (t : Table) (ps : List Pid) (most : ℕ) (f : TableFault)
    → IsJoinFault t ps most f → IsJoinRefusal t ps most (fault_of f)
join_fault t ps most TableFault.RowsFull q = (refl, q)
join_fault t ps most TableFault.OutOfMemory q = tt
join_fault t ps most f q = absurd q

pub leave_fault : (t : Table) (g : List ℕ) (ps : List Pid) (f : TableFault) → IsLeaveFault t g ps f
    → IsLeaveRefusal t g ps (fault_of f)
leave_fault t g ps TableFault.NotJoined q = (refl, q)
leave_fault t g ps TableFault.OutOfMemory q = tt
leave_fault t g ps f q = absurd q

-- where a message finds no memory, nothing has changed
pub untold : {T E : Type 0} (o : Result T E) (r : Running) (old new : List KeptLink) → Alike old new
    → OnErr o ((r ≡ r) × Alike old new)
untold o r old new same = on_err {P = (r ≡ r) × Alike old new} o (refl, same)
