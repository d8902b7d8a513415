-- Where the entries of pages stand.
use Rattle.policy_audit.specs
use Rattle.std.proofs.Common.{arith, drop, false, get_or, length, List, None, refl, set, suc, true}
use Rattle.std.proofs.Common.{zero, ℕ, [], ◌%◌, ◌*◌, ◌++◌, ◌+◌, ◌/◌, ◌<◌, ◌∷◌, ◌≡◌, ◌≤◌}
use Rattle.std.proofs.lemmas.Grind.{common_steps}
use Rattle.std.proofs.lemmas.Option.{slice_get_past}
use Rattle.std.proofs.lemmas.List.{append-nil, drop-append-le, drop_all, length-append}
use Rattle.std.proofs.lemmas.List.Elements.{filter-append}
use Rattle.std.proofs.Math.Seq.{drop-append-add}
use Rattle.std.specs.List.{filter, list_any, slice_get}
use specs.Log.{changes_rows}
use specs.declared.entry.Entry.{Entry}
use specs.Pages.{entries_in, IsPaged, log_of, page_size}

-- ---- an element of two lists, one behind the other

get_front : {X : Type 0} (xs ys : List X) (n : ℕ) → n < length xs
    → slice_get (xs ++ ys) n ≡ slice_get xs n
get_front [] ys n lt = grind arith
get_front (x ∷ xs) ys zero lt = refl
get_front (x ∷ xs) ys (suc n) lt = grind (arith, get_front xs ys n)

pub get_behind : {X : Type 0} (xs ys : List X) (n : ℕ)
    → slice_get (xs ++ ys) (length xs + n) ≡ slice_get ys n
get_behind [] ys n = grind arith
get_behind (x ∷ xs) ys n = grind (arith, get_behind xs ys n)

-- ---- how many there are

-- no more than all pages have room for
pub at_most : (pages : List (List Entry)) → IsPaged pages
    → length (entries_in pages) ≤ length pages * page_size
at_most [] paged = grind arith
at_most (page ∷ []) paged = grind (arith, length-append page [])
at_most (page ∷ next ∷ later) paged =
    grind (arith, length-append page (entries_in (next ∷ later)), at_most (next ∷ later) paged.1)

-- those of the full pages and those of the last
pub counted : (pages : List (List Entry)) → IsPaged pages → (k : ℕ) (d : List Entry)
    → length pages ≡ k + 1 → length (entries_in pages) ≡ k * page_size + length (get_or pages k d)
counted [] paged k d is = grind arith
counted (page ∷ []) paged k d is = grind (arith, append-nil page)
counted (page ∷ next ∷ later) paged zero d is = grind arith
counted (page ∷ next ∷ later) paged (suc k) d is =
    grind (
      arith,
      length-append page (entries_in (next ∷ later)),
      counted (next ∷ later) paged.1 k d,
    )

-- the last has no more than it has room for
pub last_fits : (pages : List (List Entry)) → IsPaged pages → (k : ℕ) (d : List Entry)
    → length pages ≡ k + 1 → length (get_or pages k d) ≤ page_size
last_fits [] paged k d is = grind arith
last_fits (page ∷ []) paged k d is = grind arith
last_fits (page ∷ next ∷ later) paged zero d is = grind arith
last_fits (page ∷ next ∷ later) paged (suc k) d is =
    grind (arith, last_fits (next ∷ later) paged.1 k d)

-- ---- an entry by page and place

found_in : (pages : List (List Entry)) → IsPaged pages → (k place : ℕ) (d : List Entry)
    → k < length pages → place < page_size
    → slice_get (entries_in pages) (k * page_size + place) ≡ slice_get (get_or pages k d) place
found_in [] paged k place d lt short = grind arith
found_in (page ∷ []) paged zero place d lt short = grind (arith, append-nil page)
found_in (page ∷ []) paged (suc k) place d lt short = grind arith
found_in (page ∷ next ∷ later) paged zero place d lt short =
    grind (arith, get_front page (entries_in (next ∷ later)) place)
found_in (page ∷ next ∷ later) paged (suc k) place d lt short =
    grind (
      arith,
      get_behind page (entries_in (next ∷ later)) (k * page_size + place),
      found_in (next ∷ later) paged.1 k place d,
    )

-- the entry at that place of all
pub found : (pages : List (List Entry)) → IsPaged pages → (n : ℕ) (d : List Entry)
    → n / page_size < length pages
    → slice_get (entries_in pages) n ≡ slice_get (get_or pages (n / page_size) d) (n % page_size)
found pages paged n d lt = grind (arith, found_in pages paged (n / page_size) (n % page_size) d lt)

-- none is behind the pages
pub past : (pages : List (List Entry)) → IsPaged pages → (n : ℕ) → length pages ≤ n / page_size
    → slice_get (entries_in pages) n ≡ None
past pages paged n le = slice_get_past (entries_in pages) n (omega (arith, at_most pages paged))

-- ---- the entries behind a place

-- the entries of some pages from a place in the first on
abbrev pub later_in : ℕ → List (List Entry) → List Entry
later_in place [] = []
later_in place (page ∷ pages) = drop place page ++ entries_in pages

behind_in : (pages : List (List Entry)) → IsPaged pages → (k place : ℕ) → place < page_size
    → later_in place (drop k pages) ≡ drop (k * page_size + place) (entries_in pages)
behind_in [] paged zero place short = grind (arith, drop_all {X = Entry} place [])
behind_in [] paged (suc k) place short =
    grind (arith, drop_all {X = Entry} (suc k * page_size + place) [])
behind_in (page ∷ []) paged zero place short =
    grind (arith, append-nil (drop place page), append-nil page)
behind_in (page ∷ []) paged (suc k) place short =
    grind (
      arith,
      append-nil page,
      drop_all {X = List Entry} k [],
      drop_all (suc k * page_size + place) page,
    )
behind_in (page ∷ next ∷ later) paged zero place short =
    grind (arith, drop-append-le place page (entries_in (next ∷ later)))
behind_in (page ∷ next ∷ later) paged (suc k) place short =
    grind (
      arith,
      drop-append-add page (entries_in (next ∷ later)) (k * page_size + place),
      behind_in (next ∷ later) paged.1 k place short,
    )

-- those behind that many of all
pub behind : (pages : List (List Entry)) → IsPaged pages → (n : ℕ)
    → later_in (n % page_size) (drop (n / page_size) pages) ≡ drop n (entries_in pages)
behind pages paged n = grind (arith, behind_in pages paged (n / page_size) (n % page_size))

-- ---- one more

-- an entry at the end of the last page
pub one_more : (pages : List (List Entry)) (k : ℕ) (d : List Entry) (e : Entry)
    → length pages ≡ k + 1 → entries_in (set pages k (get_or pages k d ++ e ∷ []))
    ≡ entries_in pages ++ e ∷ []
one_more [] k d e is = grind arith
one_more (page ∷ []) zero d e is = grind (arith, common_steps)
one_more (page ∷ []) (suc k) d e is = grind arith
one_more (page ∷ next ∷ later) zero d e is = grind arith
one_more (page ∷ next ∷ later) (suc k) d e is =
    grind (arith, common_steps, one_more (next ∷ later) k d e)

full_before : (page : List Entry) (later : List (List Entry)) → length page ≡ page_size
    → 0 < length later → IsPaged later → IsPaged (page ∷ later)
full_before page [] full some paged = grind arith
full_before page (next ∷ later) full some paged = (full, paged)

pub paged_more : (pages : List (List Entry)) → IsPaged pages → (k : ℕ) (page : List Entry)
    → length pages ≡ k + 1 → length page ≤ page_size → IsPaged (set pages k page)
paged_more [] paged k p is fits = tt
paged_more (page ∷ []) paged zero p is fits = fits
paged_more (page ∷ []) paged (suc k) p is fits = grind arith
paged_more (page ∷ next ∷ later) paged zero p is fits = grind arith
paged_more (page ∷ next ∷ later) paged (suc k) p is fits =
    grind (arith, full_before, paged_more (next ∷ later) paged.1 k p (grind arith) fits)

-- a page behind full ones
pub new_page : (pages : List (List Entry)) → IsPaged pages
    → length pages * page_size ≤ length (entries_in pages) → IsPaged (pages ++ [] ∷ [])
new_page [] paged full = grind arith
new_page (page ∷ []) paged full = (grind (arith, append-nil page, paged), grind arith)
new_page (page ∷ next ∷ later) paged full = (
  paged.0,
  new_page (next ∷ later) paged.1
      (grind (arith, length-append page (entries_in (next ∷ later)), paged.0)),
)

-- a page behind the others makes room
pub with_page : (limit : ℕ) (past pages : List (List Entry)) → IsPaged pages
    → (log_of limit past (pages ++ [] ∷ [])).has_room ≡ true
with_page limit past pages paged = grind (arith, common_steps, at_most pages paged)

-- ---- changes

-- of entries that changed no rows none is left
unchanged : (es : List Entry) → list_any changes_rows es ≡ false → filter changes_rows es ≡ []
unchanged [] none = refl
unchanged (e ∷ es) none = grind (arith, unchanged es)

-- so a page of these has no part in what is left
pub skipped : (page : List Entry) (later : List (List Entry)) → list_any changes_rows page ≡ false
    → filter changes_rows (entries_in (page ∷ later)) ≡ filter changes_rows (entries_in later)
skipped page later none =
    grind (arith, filter-append changes_rows page (entries_in later), unchanged page)
