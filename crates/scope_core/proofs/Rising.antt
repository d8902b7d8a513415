-- Rows that rise: what is filtered from them rises and is counted, and a row stands in them once.
use Rattle.scope_core.proofs.Words
use Words.{AllByRecursion, and_parts, arith, Bool, cond, Counted, counted_cmp, false, filter}
use Words.{how_many, in_one_group, is_gt, is_in, is_of_node, is_row, Less, List, map, not, Pid}
use Words.{pid_cmp, refl, Rises, Row, rows_total, same_decides, same_pid_decides, tally, text_cmp}
use Words.{tied_itself, true, without_node, [], ℕ, ◌<◌, ◌∷◌, ◌≡◌}

pub all_map : {A : Type 0} (P Q : A → Type 0) → ((x : A) → P x → Q x) → (xs : List A)
    → AllByRecursion P xs → AllByRecursion Q xs
all_map P Q f [] a = tt
all_map P Q f (x ∷ xs) a = (f x a.0, all_map P Q f xs a.1)

module _ {A B : Type 0} (P : B → Type 0) (f : A → B) where
  pub all_mapped : (xs : List A) → AllByRecursion (λ x. P (f x)) xs → AllByRecursion P (map f xs)
  all_mapped [] a = tt
  all_mapped (x ∷ xs) a = (a.0, all_mapped xs a.1)

  pub all_unmapped : (xs : List A) → AllByRecursion P (map f xs) → AllByRecursion (λ x. P (f x)) xs
  all_unmapped [] a = tt
  all_unmapped (x ∷ xs) a = (a.0, all_unmapped xs a.1)

pub none_pass : {A : Type 0} (test : A → Bool) (xs : List A)
    → AllByRecursion (λ x. test x ≡ false) xs → how_many test xs ≡ 0
none_pass test [] a = refl
none_pass test (x ∷ xs) a = grind (arith, none_pass test xs a.1)

-- rows of one group rise by their processes
in_group_above : (g : List ℕ) (c : Counted) (ds : List Counted) → c.row.group ≡ g
    → AllByRecursion (λ d. counted_cmp c d ≡ Less) ds
    → AllByRecursion (λ d. pid_cmp c.row.pid d.row.pid ≡ Less) (filter (is_in g) ds)
in_group_above g c [] e b = tt
in_group_above g c (d ∷ ds) e b =
    grind (arith, in_group_above g c ds e b.1, same_decides, in_one_group)

pub in_group_rises : (g : List ℕ) (cs : List Counted) → Rises counted_cmp cs
    → Rises (λ c d. pid_cmp c.row.pid d.row.pid) (filter (is_in g) cs)
in_group_rises g [] r = tt
in_group_rises g (c ∷ cs) r =
    let above =
    λ (e : is_in g c ≡ true). in_group_above g c cs ((same_decides c.row.group g).0 e) r.0 in
    grind (arith, in_group_rises g cs r.1)

pub row_is : (g : List ℕ) (p : Pid) (r : Row) → is_row g p r ≡ true → (r.group ≡ g) × (r.pid ≡ p)
row_is g p r h = grind (arith, and_parts, same_decides, same_pid_decides)

-- a row doesn't stand again among those above it
pub once : (g : List ℕ) (p : Pid) (c : Counted) (ds : List Counted) → is_row g p c.row ≡ true
    → AllByRecursion (λ d. counted_cmp c d ≡ Less) ds
    → AllByRecursion (λ d. is_row g p d.row ≡ false) ds
once g p c [] h b = tt
once g p c (d ∷ ds) h b = grind (arith, once g p c ds h b.1, row_is, tied_itself rows_total d.row)

-- the groups of the rows above a row aren't below its group
pub groups_above : (c : Counted) (ds : List Counted)
    → AllByRecursion (λ d. counted_cmp c d ≡ Less) ds
    → AllByRecursion (λ d. is_gt (text_cmp c.row.group d.row.group) ≡ false) ds
groups_above c ds b = grind (arith, all_map)

module _ (keep : Counted → Bool) where
  -- where each that is kept fails the test, none is counted
  pub tally_none : (test : Row → Bool) → ((c : Counted) → keep c ≡ true → test c.row ≡ false)
      → (cs : List Counted) → tally test (filter keep cs) ≡ 0
  tally_none test h [] = refl
  tally_none test h (c ∷ cs) = grind (arith, tally_none test h cs)

  -- where each that goes fails the test, all are counted
  pub tally_all : (test : Row → Bool) → ((c : Counted) → keep c ≡ false → test c.row ≡ false)
      → (cs : List Counted) → tally test (filter keep cs) ≡ tally test cs
  tally_all test h [] = refl
  tally_all test h (c ∷ cs) = grind (arith, tally_all test h cs)

-- what is counted once the rows of some processes are gone
pub gone_counts : (hits : Pid → Bool) (g : List ℕ) (p : Pid) (cs : List Counted)
    → tally (is_row g p) (filter (λ c. not (hits c.row.pid)) cs)
    ≡ cond (hits p) 0 (tally (is_row g p) cs)
gone_counts hits g p [] = grind arith
gone_counts hits g p (c ∷ cs) = grind (arith, gone_counts hits g p cs, same_pid_decides)

-- and what is counted where no others stay
pub kept_counts : (hits : Pid → Bool) (g : List ℕ) (p : Pid) (cs : List Counted)
    → tally (is_row g p) (filter (λ c. hits c.row.pid) cs) ≡ cond (hits p) (tally (is_row g p) cs) 0
kept_counts hits g p [] = grind arith
kept_counts hits g p (c ∷ cs) = grind (arith, kept_counts hits g p cs, same_pid_decides)

-- where none of the rows is this one, it isn't counted
pub tally_absent : (g : List ℕ) (p : Pid) (cs : List Counted)
    → AllByRecursion (λ c. is_row g p c.row ≡ false) cs → tally (is_row g p) cs ≡ 0
tally_absent g p [] a = refl
tally_absent g p (c ∷ cs) a = grind (arith, tally_absent g p cs a.1)

-- where nothing is counted of other nodes, all rows are of the node
pub own_from_tally : (node : List ℕ) (cs : List Counted) → AllByRecursion (λ c. 0 < c.count) cs
    → tally (λ r. not (is_of_node node r)) cs ≡ 0 → AllByRecursion (λ c. c.row.pid.node ≡ node) cs
own_from_tally node [] a e = tt
own_from_tally node (c ∷ cs) a e = grind (arith, own_from_tally node cs a.1, same_decides)

-- where a node has no rows, those of the others are all
pub tally_others : (n : List ℕ) (test : Row → Bool) (cs : List Counted)
    → tally (is_of_node n) cs ≡ 0 → tally test (without_node n cs) ≡ tally test cs
tally_others n test [] none = refl
tally_others n test (c ∷ cs) none = grind (arith, tally_others n test cs)
