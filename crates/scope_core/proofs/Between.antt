-- The changes where some rows leave and others join, or take the place of others.
use Rattle.scope_core.proofs
use proofs.Words
use Words.{Adds, AllByRecursion, arith, Bool, cond, Counted, counted_cmp, exact_bytes, false}
use Words.{GroupChange, how_many, is_among, is_empty, is_row, IsDifference, IsEmptied}
use Words.{IsGroupListing, IsProper, length, Less, List, map, mentions, no_count, one_of_many}
use Words.{or_left, or_right, picked, Pid, refl, Rises, Row, same, same_decides, tally, Tells}
use Words.{text_cmp, texts_total, times_beyond, total, true, [], ℕ, ◌&&◌, ◌+◌, ◌-◌, ◌<◌, ◌∙◌, ◌∷◌}
use Words.{◌≡◌}
use proofs.Rising.{all_unmapped, once, row_is, tally_absent}

-- what holds of each that is among them holds of all
all_among : (P : List ℕ → Type 0) (gs : List (List ℕ)) → ((g : List ℕ) → is_among g gs ≡ true → P g)
    → AllByRecursion P gs
all_among P [] h = tt
all_among P (g ∷ gs) h =
    (h g (or_left _ _ ((same_decides g g).1 refl)), all_among P gs (λ k e. h k (or_right _ _ e)))

some_moved : (p : Pid) (ps qs : List Pid) → 0 < mentions p ps + mentions p qs
    → (is_empty ps && is_empty qs) ≡ false
some_moved p [] [] l = grind arith
some_moved p [] (q ∷ qs) l = refl
some_moved p (q ∷ ps) qs l = refl

module _ (times : Counted → ℕ) where
  picked_above : (c : Counted) (ds : List Counted) → AllByRecursion (λ d. counted_cmp c d ≡ Less) ds
      → AllByRecursion (λ d. counted_cmp c d ≡ Less) (picked times ds)
  picked_above c [] a = tt
  picked_above c (d ∷ ds) a = grind (arith, picked_above c ds a.1)

  pub picked_rises : (cs : List Counted) → Rises counted_cmp cs
      → Rises counted_cmp (picked times cs)
  picked_rises [] r = tt
  picked_rises (c ∷ cs) r = grind (arith, picked_rises cs r.1, picked_above c cs r.0)

  -- what is picked is counted as often as times says
  picked_tally : (test : Row → Bool) (cs : List Counted)
      → tally test (picked times cs) ≡ total (λ c. cond (test c.row) (times c) 0) cs
  picked_tally test [] = refl
  picked_tally test (c ∷ cs) = grind (arith, picked_tally test cs)

-- what is counted of the rows that are more
beyond_counts : (cs others : List Counted) → Rises counted_cmp cs → (g : List ℕ) (p : Pid)
    → tally (is_row g p) (picked (times_beyond others) cs)
    ≡ tally (is_row g p) cs - tally (is_row g p) others
beyond_counts cs others r g p = picked_tally (times_beyond others) (is_row g p) cs ∙ each cs r
  where
    each : (xs : List Counted) → Rises counted_cmp xs
        → total (λ c. cond (is_row g p c.row) (times_beyond others c) 0) xs
        ≡ tally (is_row g p) xs - tally (is_row g p) others
    each [] s = omega arith
    each (x ∷ xs) s = grind (arith, each xs s.1, tally_absent, once, row_is)

-- the change where the rows take the place of those of the node
pub synced_change : (n : List ℕ) (rows : List Row) (cs held counted : List Counted)
    (changes : List GroupChange) → Rises counted_cmp held → ((g : List ℕ) (p : Pid)
    → tally (is_row g p) held ≡ cond (same p.node n) (tally (is_row g p) cs) 0)
    → Rises counted_cmp counted → Adds rows [] counted
    → Tells (picked (times_beyond counted) held) (picked (times_beyond held) counted) changes
    → ((g : List ℕ) (p : Pid) → same p.node n ≡ false → how_many (is_row g p) rows ≡ 0)
    → (after : List ℕ → Pid → ℕ) → ((g : List ℕ) (p : Pid)
    → after g p ≡ cond (same p.node n) (how_many (is_row g p) rows) (tally (is_row g p) cs))
    → IsDifference (λ g p. tally (is_row g p) cs) after changes
synced_change n rows cs held counted changes r own s counts told others after is = told _ after
    (λ g p. grind (arith, beyond_counts, own g p, counts (is_row g p), is g p, others g p))
    (λ g p. grind (arith, beyond_counts, own g p, counts (is_row g p), is g p, others g p))

-- where no group changes, nothing does
pub unchanged : (before after : List ℕ → Pid → ℕ) (changes : List GroupChange) → length changes ≡ 0
    → IsDifference before after changes → (g : List ℕ) (p : Pid) → before g p ≡ after g p
unchanged before after [] e d g p = omega (arith, d.left g p, d.joined g p)
unchanged before after (c ∷ cs) e d g p = grind arith

-- ---- where all groups end

module _ (rows : List Counted) where
  emptied_proper : (c : GroupChange) → IsEmptied rows c
      → ((p : Pid) × (0 < tally (is_row c.group p) rows)) → IsProper c
  emptied_proper c e some = grind (arith, e.left.counts some.0, some_moved)

  emptied_left : (g : List ℕ) (p : Pid) (changes : List GroupChange)
      → AllByRecursion (IsEmptied rows) changes
      → total (λ c. cond (same c.group g) (mentions p c.left) 0) changes
      ≡ total (λ k. cond (same k g) (tally (is_row k p) rows) 0) (map (λ c. c.group) changes)
  emptied_left g p [] a = refl
  emptied_left g p (c ∷ cs) a = grind (arith, emptied_left g p cs a.1, a.0.left.counts p)

  emptied_joined : (g : List ℕ) (p : Pid) (changes : List GroupChange)
      → AllByRecursion (IsEmptied rows) changes
      → total (λ c. cond (same c.group g) (mentions p c.joined) 0) changes ≡ 0
  emptied_joined g p [] a = refl
  emptied_joined g p (c ∷ cs) a = grind (arith, emptied_joined g p cs a.1)

  all_proper : (changes : List GroupChange) → AllByRecursion (IsEmptied rows) changes
      → AllByRecursion (λ c. (p : Pid) × (0 < tally (is_row c.group p) rows)) changes
      → AllByRecursion IsProper changes
  all_proper [] a b = tt
  all_proper (c ∷ cs) a b = (emptied_proper c a.0 b.0, all_proper cs a.1 b.1)

  -- the change where each group that has a process ends
  pub all_emptied : (gs : List (List ℕ)) (changes : List GroupChange)
      → IsGroupListing (λ g p. tally (is_row g p) rows) gs → map (λ c. c.group) changes ≡ gs
      → AllByRecursion (IsEmptied rows) changes
      → IsDifference (λ g p. tally (is_row g p) rows) no_count changes
  all_emptied gs changes listing names emptied = record {
    groups = rw names listing.rises;
    proper = all_proper changes emptied
        (all_unmapped (λ g. (p : Pid) × (0 < tally (is_row g p) rows)) (λ c. c.group) changes
        (rw names (all_among (λ g. (p : Pid) × (0 < tally (is_row g p) rows)) gs listing.found)));
    left = λ g p.
        let one = one_of_many text_cmp same texts_total exact_bytes same_decides
        (λ k. tally (is_row k p) rows) g gs listing.rises in
        let told = rw names at (emptied_left g p changes emptied) in
        grind (arith, listing.only g p);
    joined = λ g p. grind (arith, emptied_joined);
  }
