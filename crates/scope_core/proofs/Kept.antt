-- What is kept of groups that stay as they are.
use Rattle.scope_core.proofs
use proofs.Words
use Words.{ap, AreListings, arith, Bool, cond, Counted, false, Forgets, get_or, GroupChange}
use Words.{has_members, is_named, is_row, IsDifference, IsGroupListing, IsPidListing, Joins}
use Words.{kept_of, KeptLists, length, List, list_any, lookup, of_node, Pid, refl, same}
use Words.{same_decides, same_pid, same_pid_decides, Some, sym, take, take_more, tally, true}
use Words.{without_node, [], ℕ, ◌++◌, ◌+◌, ◌<◌, ◌||◌, ◌∙◌, ◌∷◌, ◌≡◌}
use proofs.Rising.{gone_counts, kept_counts}
use proofs.Unnamed.{row_there, unnamed_same}

-- a listing is one of each count that is the same
still_listing : (before after : Pid → ℕ) (ps : List Pid) → ((p : Pid) → before p ≡ after p)
    → IsPidListing before ps → IsPidListing after ps
still_listing before after ps is l = grind arith

-- so is one of the groups
pub still_groups : (before after : List ℕ → Pid → ℕ) (gs : List (List ℕ))
    → ((g : List ℕ) (p : Pid) → before g p ≡ after g p) → IsGroupListing before gs
    → IsGroupListing after gs
still_groups before after gs is l = grind arith

module _ (was now : KeptLists) (before after : List ℕ → Pid → ℕ)
    (listed : AreListings before was) where
  -- those that are forgotten may have changed
  pub still_listed : (gone : List ℕ → Bool) → Forgets gone was now
      → ((g : List ℕ) → gone g ≡ false → (p : Pid) → before g p ≡ after g p) → AreListings after now
  still_listed gone forgot stays = record { pids = pids; groups = groups }
    where
      pids : (g : List ℕ) (ps : List Pid) → kept_of now g ≡ Some ps → IsPidListing (after g) ps
      pids g ps e = by (gone g) refl
        where
          by : (b : Bool) → gone g ≡ b → IsPidListing (after g) ps
          by true h = grind (arith, forgot.pids g)
          by false h = still_listing (before g) (after g) ps (stays g h)
              (listed.pids g ps (grind (arith, forgot.pids g)))

      groups : (gs : List (List ℕ)) → now.groups ≡ Some gs → IsGroupListing after gs
      groups gs e = let kept = forgot.groups gs e in
          still_groups before after gs (λ g. stays g (kept.1 g)) (listed.groups gs kept.0)

  -- those that changed are forgotten
  pub changed_listed : (changes : List GroupChange) → Forgets (λ g. is_named g changes) was now
      → IsDifference before after changes → AreListings after now
  changed_listed changes forgot d =
      still_listed (λ g. is_named g changes) forgot (unnamed_same before after changes d)

module _ (count : List ℕ → Pid → ℕ) (was now : KeptLists) (listed : AreListings count was) where
  -- one more is kept
  pub kept_listed : (group : List ℕ) (pids : List Pid) → IsPidListing (count group) pids
      → ((g : List ℕ) → kept_of now g ≡ cond (same group g) (Some pids) (kept_of was g))
      → now.groups ≡ was.groups → AreListings count now
  kept_listed group pids listing keeps groups = record {
    pids = λ g ps e. grind (arith, keeps g, listed.pids g ps, same_decides);
    groups = λ gs e. listed.groups gs (sym groups ∙ e);
  }

  -- that of the groups is kept
  pub kept_groups : (groups : List (List ℕ)) → IsGroupListing count groups → now.pids ≡ was.pids
      → now.groups ≡ Some groups → AreListings count now
  kept_groups groups listing pids keeps = record {
    pids = λ g ps e. listed.pids g ps (sym (ap (lookup (same g)) pids) ∙ e);
    groups = λ gs e. grind arith;
  }

pub still_listings : (before after : List ℕ → Pid → ℕ) (kept : KeptLists)
    → ((g : List ℕ) (p : Pid) → before g p ≡ after g p) → AreListings before kept
    → AreListings after kept
still_listings before after kept is listed = record {
  pids = λ g ps e. still_listing (before g) (after g) ps (is g) (listed.pids g ps e);
  groups = λ gs e. still_groups before after gs is (listed.groups gs e);
}

-- ---- what is forgotten one by one

any_append : {A : Type 0} (test : A → Bool) (xs ys : List A)
    → list_any test (xs ++ ys) ≡ (list_any test xs || list_any test ys)
any_append test [] ys = refl
any_append test (x ∷ xs) ys = grind (arith, any_append test xs ys)

-- once the lists of those to come are forgotten, those of all are
abbrev pub Forgetting : {A : Type 0} → (List ℕ → A → Bool) → List A → List A → KeptLists → KeptLists
    → Type 0
Forgetting test all rest was now =
    (later : KeptLists) → Forgets (λ g. list_any (test g) rest) now later
    → Forgets (λ g. list_any (test g) all) was later

module _ {A : Type 0} (test : List ℕ → A → Bool) (all : List A) (was : KeptLists) where
  pub forgets_end : (rest : List A) (now : KeptLists) → length rest ≡ 0
      → Forgetting test all rest was now → Forgets (λ g. list_any (test g) all) was now
  forgets_end [] now e so_far =
      so_far now (record { pids = λ g. refl; groups = λ gs e. (e, λ g. refl) })
  forgets_end (x ∷ xs) now e so_far = grind arith

-- one more
pub forgets_more : {A : Type 0} (test : List ℕ → A → Bool) (xs : List A) (i : ℕ) (x : A)
    → i < length xs → x ≡ get_or xs i x → (was then now : KeptLists)
    → Forgets (λ g. list_any (test g) (take i xs)) was then → Forgets (λ g. test g x) then now
    → Forgets (λ g. list_any (test g) (take (i + 1) xs)) was now
forgets_more test xs i x l at was then now first second = record {
  pids = λ g. grind (arith, first.pids g, second.pids g, more g);
  groups = λ gs e.
      let after = second.groups gs e in
      let begun = first.groups gs after.0 in
      (begun.0, λ g. grind (arith, more g, begun.1 g, after.1 g));
}
  where
    more : (g : List ℕ)
        → list_any (test g) (take (i + 1) xs) ≡ (list_any (test g) (take i xs) || test g x)
    more g =
        simp (take_more xs i x l, ← at) (any_append (test g) (take i xs) (x ∷ []) ∙ grind arith)

-- ---- a row that goes

module _ (c : Counted) (old new : List Counted) (joins : Joins (c ∷ []) new old) where
  -- the listings that are kept are right still, without that of its group
  pub popped_listed : (was now : KeptLists) → AreListings (λ g p. tally (is_row g p) old) was
      → Forgets (λ g. same c.row.group g) was now → AreListings (λ g p. tally (is_row g p) new) now
  popped_listed was now listed forgot = grind (arith, still_listed)

-- where no row of a process is counted, none of its groups has it
pub none_of_process : (q : Pid) (g : List ℕ) (p : Pid) (rows : List Counted)
    → tally (λ r. same_pid r.pid q) rows ≡ 0 → same_pid p q ≡ true → tally (is_row g p) rows ≡ 0
none_of_process q g p [] e s = refl
none_of_process q g p (c ∷ cs) e s = grind (arith, none_of_process q g p cs, same_pid_decides)

-- ---- a node that goes

pub dropped_same : (n : List ℕ) (rows list : List Counted) → list ≡ of_node n rows → (g : List ℕ)
    → has_members g n list ≡ false → (p : Pid)
    → tally (is_row g p) rows ≡ tally (is_row g p) (without_node n rows)
dropped_same n rows list is g e p =
    let gone = gone_counts (λ r. same r.node n) g p rows in
    let mine = kept_counts (λ r. same r.node n) g p rows in
    grind (arith, ap, row_there, same_decides)
