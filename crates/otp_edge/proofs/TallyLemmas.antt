-- How often a row stands in lists that rows are taken out of.
use Rattle.otp_edge.proofs
use proofs.Words.{ap, arith, Bool, cond, false, length, List, refl, Row, subst, suc, sym, take}
use proofs.Words.{true, ℕ, [], ◌++◌, ◌+◌, ◌<◌, ◌∙◌, ◌∷◌, ◌≡◌, ◌≤◌}
use Rattle.std.specs.Prelude.{get_or}
use Rattle.std.specs.List.{remove, swap_remove}
use Rattle.std.proofs.Common.{inl, inr}
use Rattle.std.proofs.lemmas.Bool.{cases_Bool, cases_lt}
use Rattle.std.proofs.lemmas.Grind.{common_steps}
use Rattle.std.proofs.lemmas.List.{get_or_default}
use Rattle.std.proofs.lemmas.List.Edits.{length-remove}
use Rattle.std.proofs.lemmas.List.Sums.{sum_by-cons, sum_by-remove, sum_by-swap_remove}
use Rattle.std.proofs.lemmas.List.Sums.{sum_by-take-le, sum_by_more, sum_by_push}
use Rattle.dist_types.specs.Listing.{same_row}
use Rattle.dist_types.proofs.Orders.{same_row_decides}
use Rattle.otp_edge.specs.Tallies.{counted, IsCutTo, once, times}

pub same_rows : (r s : Row) → same_row r s ≡ true → r ≡ s
same_rows r s is = (same_row_decides r s).0 is

pub one_taken : (rows after : List Row) (place : ℕ) (row gone : Row) → place < length rows
    → gone ≡ get_or rows place gone → same_row row gone ≡ true
    → after ≡ swap_remove rows place gone → (r : Row) → times r after + once r row ≡ times r rows
one_taken rows after place row gone inside is same out r =
    let here = same_rows row gone same in
    let sums = sum_by-swap_remove (λ s. cond (same_row r s) 1 0) rows place gone inside in
    ap (λ l. times r l + once r row) out
    ∙ ap (λ g. times r (swap_remove rows place gone) + once r g) (here ∙ is) ∙ sums

-- ---- rows that are cut to what is listed

-- each count is how often its row is listed
abbrev pub AreCounts : List Row → List ℕ → (Row → ℕ) → Type 0
AreCounts rows counts listed = (place : ℕ) (d : Row) → place < length rows
    → get_or counts place 0 ≡ listed (get_or rows place d)

-- how often a row is kept, is asked for, and is listed
pub record AsMany (kept asked listed : ℕ) : Type 0 where
  pub fewer : kept ≤ asked
  pub within : kept ≤ listed
  pub all : kept < asked → kept ≡ listed

pub record CutSoFar (place : ℕ) (rows kept : List Row) (counts : List ℕ) : Type 0 where
  pub each : (listed : Row → ℕ) → AreCounts rows counts listed → (r : Row)
      → AsMany (times r kept) (times r (take place rows)) (listed r)

none_cut : (listed : ℕ) → AsMany 0 0 listed
none_cut listed = record {
  fewer = omega arith;
  within = omega arith;
  all = λ h. absurd (omega arith);
}

pub cut_start : (rows : List Row) (counts : List ℕ) → CutSoFar 0 rows [] counts
cut_start rows counts = record { each = λ listed are r. none_cut (listed r) }

one_kept : (test : Bool) (kept asked listed : ℕ) → (test ≡ true → kept < listed)
    → AsMany kept asked listed → AsMany (kept + cond test 1 0) (asked + cond test 1 0) listed
one_kept true kept asked listed less many = let room = less refl in record {
  fewer = omega (arith, many.fewer);
  within = omega (arith, room);
  all = λ few. absurd (omega (arith, room, few, many.all));
}
one_kept false kept asked listed less many = record {
  fewer = omega (arith, many.fewer);
  within = omega (arith, many.within);
  all = λ few. omega (arith, few, many.all);
}

one_cut : (test : Bool) (kept asked listed : ℕ) → (test ≡ true → listed ≤ kept)
    → AsMany kept asked listed → AsMany kept (asked + cond test 1 0) listed
one_cut true kept asked listed full many = let out = full refl in record {
  fewer = omega (arith, many.fewer);
  within = many.within;
  all = λ few. omega (arith, out, many.within);
}
one_cut false kept asked listed full many = record {
  fewer = omega (arith, many.fewer);
  within = many.within;
  all = λ few. omega (arith, few, many.all);
}

pub asked_more : (rows : List Row) (place : ℕ) (row r : Row) → place < length rows
    → row ≡ get_or rows place row
    → times r (take (place + 1) rows) ≡ times r (take place rows) + once r row
asked_more rows place row r inside is =
    sum_by_more (λ s. cond (same_row r s) 1 0) rows place row inside
    ∙ ap (λ s. times r (take place rows) + once r s) (sym is)

pub kept_more : (place : ℕ) (rows kept : List Row) (counts : List ℕ) (row : Row)
    → CutSoFar place rows kept counts → place < length rows → row ≡ get_or rows place row
    → times row kept < get_or counts place 0 → CutSoFar (place + 1) rows (kept ++ row ∷ []) counts
kept_more place rows kept counts row so inside is less = record {
  each = λ listed are r.
      let count = are place row inside ∙ ap listed (sym is) in
      let room : times row kept < listed row = omega (arith, less, count) in
      let grown = sum_by_push (λ s. cond (same_row r s) 1 0) kept row in
      let asked = asked_more rows place row r inside is in
      subst (λ n. AsMany n (times r (take (place + 1) rows)) (listed r)) (sym grown)
      (subst (λ n. AsMany (times r kept + once r row) n (listed r)) (sym asked)
      (one_kept (same_row r row) (times r kept) (times r (take place rows)) (listed r)
      (λ e. subst (λ s. times s kept < listed s) (sym (same_rows r row e)) room)
      (so.each listed are r)));
}

pub kept_same : (place : ℕ) (rows kept : List Row) (counts : List ℕ) (row : Row)
    → CutSoFar place rows kept counts → place < length rows → row ≡ get_or rows place row
    → get_or counts place 0 ≤ times row kept → CutSoFar (place + 1) rows kept counts
kept_same place rows kept counts row so inside is full = record {
  each = λ listed are r.
      let count = are place row inside ∙ ap listed (sym is) in
      let out : listed row ≤ times row kept = omega (arith, full, count) in
      subst (λ n. AsMany (times r kept) n (listed r)) (sym (asked_more rows place row r inside is))
      (one_cut (same_row r row) (times r kept) (times r (take place rows)) (listed r)
      (λ e. subst (λ s. listed s ≤ times s kept) (sym (same_rows r row e)) out)
      (so.each listed are r));
}

pub cut_end : (place : ℕ) (rows kept : List Row) (counts : List ℕ) (listed : Row → ℕ)
    → CutSoFar place rows kept counts → take place rows ≡ rows → AreCounts rows counts listed
    → IsCutTo rows kept listed
cut_end place rows kept counts listed so whole are =
    let many : (r : Row) → AsMany (times r kept) (times r rows) (listed r) =
    λ r. subst (λ l. AsMany (times r kept) (times r l) (listed r)) whole (so.each listed are r) in
    record {
      fewer = λ r. (many r).fewer;
      within = λ r. (many r).within;
      all = λ r few. (many r).all few;
    }

-- one row more is kept
pub kept_one : (kept : List Row) (row r : Row)
    → times r (kept ++ row ∷ []) ≡ times r kept + once r row
kept_one kept row r = sum_by_push (λ s. cond (same_row r s) 1 0) kept row

-- ---- rows that two lists have in common

-- how many are asked for yet, are kept, were asked for, and were looked at
pub record InCommon (left kept asked seen : ℕ) : Type 0 where
  pub sums : left + kept ≡ asked
  pub within : kept ≤ seen
  pub all : 0 < left → kept ≡ seen

abbrev pub CommonSoFar : ℕ → List Row → List Row → List Row → List (Row × ℕ) → Type 0
CommonSoFar place rows others kept asked = (r : Row)
    → InCommon (counted r asked) (times r kept) (times r rows) (times r (take place others))

one_common : (here taken : Bool) (left after kept asked seen : ℕ)
    → after + cond taken (cond here 1 0) 0 ≡ left → (taken ≡ false → here ≡ true → after ≡ 0)
    → InCommon left kept asked seen
    → InCommon after (kept + cond taken (cond here 1 0) 0) asked (seen + cond here 1 0)
one_common true true left after kept asked seen out none so = record {
  sums = omega (arith, out, so.sums);
  within = omega (arith, so.within);
  all = λ more. let same = so.all (omega (arith, out, more)) in omega (arith, same);
}
one_common false true left after kept asked seen out none so = record {
  sums = omega (arith, out, so.sums);
  within = omega (arith, so.within);
  all = λ more. let same = so.all (omega (arith, out, more)) in omega (arith, same);
}
one_common true false left after kept asked seen out none so = record {
  sums = omega (arith, out, so.sums);
  within = omega (arith, so.within);
  all = λ more. absurd (omega (arith, none refl refl, more));
}
one_common false false left after kept asked seen out none so = record {
  sums = omega (arith, out, so.sums);
  within = omega (arith, so.within);
  all = λ more. let same = so.all (omega (arith, out, more)) in omega (arith, same);
}

common_more : (place : ℕ) (rows others kept after : List Row) (asked left : List (Row × ℕ))
    (row : Row) (taken : Bool) → CommonSoFar place rows others kept asked → place < length others
    → row ≡ get_or others place row
    → ((r : Row) → counted r left + cond taken (once r row) 0 ≡ counted r asked)
    → (taken ≡ false → counted row left ≡ 0)
    → ((r : Row) → times r after ≡ times r kept + cond taken (once r row) 0)
    → CommonSoFar (place + 1) rows others after left
common_more place rows others kept after asked left row taken so inside is out none more r =
    subst (λ n. InCommon (counted r left) (times r after) (times r rows) n)
    (sym (asked_more others place row r inside is))
    (subst (λ n. InCommon (counted r left) n (times r rows) (times r (take place others)
    + once r row)) (sym (more r))
    (one_common (same_row r row) taken (counted r asked) (counted r left) (times r kept)
    (times r rows) (times r (take place others)) (out r)
    (λ e same. ap (λ s. counted s left) (same_rows r row same) ∙ none e) (so r)))

-- the row is taken, and kept
pub common_taken : (place : ℕ) (rows others kept after : List Row) (asked left : List (Row × ℕ))
    (row : Row) → CommonSoFar place rows others kept asked → place < length others
    → row ≡ get_or others place row
    → ((r : Row) → counted r left + once r row ≡ counted r asked) → after ≡ kept ++ row ∷ []
    → CommonSoFar (place + 1) rows others after left
common_taken place rows others kept after asked left row so inside is out more =
    common_more place rows others kept after asked left row true so inside is out
    (λ e. absurd (grind (arith, e)))
    (λ r. ap (times r) more ∙ kept_one kept row r)

-- the row isn't asked for any more
pub common_passed : (place : ℕ) (rows others kept : List Row) (asked left : List (Row × ℕ))
    (row : Row) → CommonSoFar place rows others kept asked → place < length others
    → row ≡ get_or others place row → ((r : Row) → counted r left + 0 ≡ counted r asked)
    → counted row left ≡ 0 → CommonSoFar (place + 1) rows others kept left
common_passed place rows others kept asked left row so inside is out none =
    common_more place rows others kept kept asked left row false so inside is out (λ _. none)
    (λ r. omega arith)

pub common_start : (rows others : List Row) (asked : List (Row × ℕ))
    → ((r : Row) → counted r asked ≡ times r rows) → CommonSoFar 0 rows others [] asked
common_start rows others asked are r = record {
  sums = omega (arith, are r);
  within = omega arith;
  all = λ more. refl;
}

-- all others were looked at, or no row is asked for any more
pub common_end : (place : ℕ) (rows others kept : List Row) (asked : List (Row × ℕ))
    → CommonSoFar place rows others kept asked
    → ((r : Row) → 0 < counted r asked → take place others ≡ others)
    → IsCutTo rows kept (λ r. times r others)
common_end place rows others kept asked so done = record {
  fewer = λ r. omega (arith, (so r).sums);
  within = λ r.
      omega (arith, (so r).within, sum_by-take-le (λ s. cond (same_row r s) 1 0) others place);
  all = λ r few.
      let more : 0 < counted r asked = omega (arith, (so r).sums, few) in
      (so r).all more ∙ ap (times r) (done r more);
}

times_first : (r x : Row) (xs : List Row) → times r (x ∷ xs) ≡ once r x + times r xs
times_first r x xs = sum_by-cons (λ s. cond (same_row r s) 1 0) x xs

stands_at : (x : Row) (rows : List Row) → 0 < times x rows
    → (i : ℕ) × (i < length rows) × (x ≡ get_or rows i x)
stands_at x [] more = absurd (omega (arith, more))
stands_at x (y ∷ rows) more =
    elim (cases_Bool (same_row x y)) [
      | inl same ↦ (0, omega arith, same_rows x y same)
      | inr other ↦ let at = stands_at x rows (grind (arith, more, other)) in
          (suc at.0, omega (arith, at.1), at.2)
    ]

-- a list in which nothing stands more often than in another one isn't longer
pub fewer_in : (kept rows : List Row) → ((r : Row) → times r kept ≤ times r rows)
    → length kept ≤ length rows
fewer_in [] rows few = omega arith
fewer_in (x ∷ kept) rows few =
    let one : same_row x x ≡ true = (same_row_decides x x).1 refl in
    let at = stands_at x rows
    (omega (arith, few x, times_first x x kept, ap {B = ℕ} (λ t. cond t 1 0) one)) in
    let rest = fewer_in kept (remove rows at.0) (λ r. omega (
      arith,
      few r,
      times_first r x kept,
      sum_by-remove (λ s. cond (same_row r s) 1 0) rows at.0 x at.1,
      ap (once r) at.2,
    )) in
    omega (arith, rest, at.1, length-remove rows at.0 at.1)

-- ---- rows that are taken out of others

-- how often a row stands there now, and stood there before, is to leave in all, and yet, and stands
-- among those that were looked at
pub record Leaving (now before all left seen : ℕ) : Type 0 where
  pub sums : now + all ≡ before + left
  pub done : 0 < seen → left ≡ 0

abbrev pub OutSoFar : ℕ → List Row → List Row → List (Row × ℕ) → List (Row × ℕ) → Type 0
OutSoFar place before now all left = (r : Row)
    → Leaving (times r now) (times r before) (counted r all) (counted r left)
    (times r (take place now))

pub out_start : (rows : List Row) (all : List (Row × ℕ)) → OutSoFar 0 rows rows all all
out_start rows all r = record { sums = refl; done = λ more. absurd (omega (arith, more)) }

take_kept : (rows : List Row) (place : ℕ) (d : Row) → place < length rows
    → take place (swap_remove rows place d) ≡ take place rows
take_kept rows place d inside = grind (arith, common_steps)

-- the row there leaves
pub out_gone : (place : ℕ) (before now after : List Row) (all left rest : List (Row × ℕ))
    (row gone : Row) → OutSoFar place before now all left → place < length now
    → row ≡ get_or now place row → gone ≡ get_or now place gone
    → after ≡ swap_remove now place gone
    → ((r : Row) → counted r rest + once r row ≡ counted r left)
    → OutSoFar place before after all rest
out_gone place before now after all left rest row gone so inside is went out less r =
    let same = is ∙ get_or_default now place row gone inside ∙ sym went in
    let one = one_taken now after place row gone inside went
    ((same_row_decides row gone).1 same) out r in
    let seen = ap (take place) out ∙ take_kept now place gone inside in
    record {
      sums = omega (arith, (so r).sums, one, less r);
      done = λ more. let none = (so r).done (subst (λ l. 0 < times r l) seen more) in
          omega (arith, none, less r);
    }

-- the row there stays
pub out_stays : (place : ℕ) (before now : List Row) (all left rest : List (Row × ℕ)) (row : Row)
    → OutSoFar place before now all left → place < length now → row ≡ get_or now place row
    → ((r : Row) → counted r rest + 0 ≡ counted r left) → counted row rest ≡ 0
    → OutSoFar (place + 1) before now all rest
out_stays place before now all left rest row so inside is same none r =
    let seen = asked_more now place row r inside is in
    record {
      sums = omega (arith, (so r).sums, same r);
      done = λ more. elim (cases_Bool (same_row r row)) [
        | inl alike ↦ ap (λ s. counted s rest) (same_rows r row alike) ∙ none
        | inr other ↦ let none_there = ap {B = ℕ} (λ t. cond t 1 0) other in
            let was = (so r).done (omega (arith, more, seen, none_there)) in
            omega (arith, was, same r)
      ];
    }

-- all were looked at, or none is to leave any more
pub out_end : (place : ℕ) (before now : List Row) (all left : List (Row × ℕ))
    → OutSoFar place before now all left
    → ((r : Row) → 0 < counted r left → take place now ≡ now)
    → (r : Row) → counted r all ≤ times r before → times r now + counted r all ≡ times r before
out_end place before now all left so done r few =
    elim (cases_lt 0 (counted r left)) [
      | inl more ↦ let seen = ap (times r) (done r more) in
          omega (arith, (so r).sums, few, more, seen, (so r).done)
      | inr none ↦ omega (arith, (so r).sums, none)
    ]
