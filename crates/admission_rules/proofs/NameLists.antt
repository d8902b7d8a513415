-- Lists of names, after each of a list is inserted that isn't there.
use Rattle.std.proofs.Common.{ap, append_assoc, arith, Bool, cond, Contains, drop, false, get_or}
use Rattle.std.proofs.Common.{inl, inr, IsTrue, length, length-append, List, not, refl, sym, take}
use Rattle.std.proofs.Common.{true, ℕ, [], ◌++◌, ◌+◌, ◌<◌, ◌||◌, ◌↔◌, ◌∙◌, ◌∷◌, ◌≡◌, ◌≢◌, ◌≤◌, ◌⊎◌}
use Rattle.std.specs.Bool.{Decides}
use Rattle.std.specs.Str.{bytes_eq}
use Rattle.std.specs.List.{list_any}
use Rattle.std.specs.Cmp.Lexicographic.{nat_list_eq_equiv}
use Rattle.std.proofs.lemmas.List.{append-nil, take-append-drop}
use Rattle.std.proofs.Math.Bool.{or-false, or_assoc}
use Rattle.std.proofs.Math.Seq.{take-append_seam}
use Rattle.std.proofs.lemmas.Bool.{or_cases, or_left, or_right}
use Rattle.std.proofs.lemmas.List.Folds.{list_any-append, list_any_at}
use Rattle.std.proofs.lemmas.List.Sums.{fold-append, fold_more}
use Rattle.std.proofs.lemmas.Map.Steps.{list_any_congr}
use Rattle.std.proofs.lemmas.Slice.Eq.{bytes_eq-Decides}
use Rattle.indexmap.specs.IndexSet.{insert_all, insert_key}
use Rattle.indexmap.proofs.CallerLemmas.{Contains-list_any}

-- whether a list has the name
abbrev pub has : List ℕ → List (List ℕ) → Bool
has name names = list_any (bytes_eq name) names

-- the test decides that the name is in the list
pub has_decides : (name : List ℕ) (names : List (List ℕ))
    → Decides (has name names) (Contains names name)
has_decides name names = (
  Contains-list_any bytes_eq (λ x y. (bytes_eq-Decides x y).0) names name,
  (λ found. list_any_at (bytes_eq name) names found.0 name found.1
      ((bytes_eq-Decides name _).1 (sym found.2))),
)

-- inserted names go behind those that are there
pub behind : (names all : List (List ℕ))
    → (rest : List (List ℕ)) × (insert_all bytes_eq all names ≡ all ++ rest)
behind [] all = ([], sym (append-nil all))
behind (name ∷ names) all = by (has name all) (behind names)
  where
    by : (b : Bool) → ((all : List (List ℕ)) → (rest : List (List ℕ))
        × (insert_all bytes_eq all names ≡ all ++ rest))
        → (rest : List (List ℕ)) × (insert_all bytes_eq (cond b all (all ++ name ∷ [])) names ≡ all
        ++ rest)
    by true later = later all
    by false later = let more = later (all ++ name ∷ []) in
        (name ∷ more.0, more.1 ∙ append_assoc all (name ∷ []) more.0)

-- so the names that are there stay in front
pub front_stays : (names all : List (List ℕ))
    → take (length all) (insert_all bytes_eq all names) ≡ all
front_stays names all = let more = behind names all in rw more.1 (take-append_seam all more.0)

-- a name is there after another is inserted where it was there before or is that one
has_one_inserted : (name other : List ℕ) (all : List (List ℕ))
    → has name (insert_key bytes_eq all other) ≡ (has name all || bytes_eq name other)
has_one_inserted name other all =
    grind (
      arith,
      list_any_congr nat_list_eq_equiv name other all,
      list_any-append (bytes_eq name) all (other ∷ []),
      or-false,
    )

-- a name is there after the insertions where it was there before or is among the names
pub has_inserted : (name : List ℕ) (names all : List (List ℕ))
    → has name (insert_all bytes_eq all names) ≡ (has name all || has name names)
has_inserted name [] all = sym (or-false (has name all))
has_inserted name (first ∷ names) all =
    has_inserted name names (insert_key bytes_eq all first) ∙ ap (λ b. b || has name names)
    (has_one_inserted name first all)
    ∙ or_assoc (has name all) (bytes_eq name first) (has name names)

-- the names after one more
pub insert_all_more : (all names : List (List ℕ)) (i : ℕ) (name : List ℕ) → i < length names
    → name ≡ get_or names i name
    → insert_all bytes_eq all (take (i + 1) names) ≡ insert_key bytes_eq
    (insert_all bytes_eq all (take i names)) name
insert_all_more all names i name lt at =
    fold_more (insert_key bytes_eq) all names i name lt
    ∙ ap (insert_key bytes_eq (insert_all bytes_eq all (take i names))) (sym at)

-- the front of a list makes no more names than the whole
length_of_front : (all names : List (List ℕ)) (i : ℕ)
    → length (insert_all bytes_eq all (take i names)) ≤ length (insert_all bytes_eq all names)
length_of_front all names i =
    let parts = fold-append (insert_key bytes_eq) all (take i names) (drop i names) in
    let later = behind (drop i names) (insert_all bytes_eq all (take i names)) in
    omega (
      arith,
      ap (λ whole. length (insert_all bytes_eq all whole)) (take-append-drop i names),
      ap length parts,
      ap length later.1,
      length-append (insert_all bytes_eq all (take i names)) later.0,
    )

-- the test may take its names in either order
pub has_flipped : (name : List ℕ) (names : List (List ℕ))
    → list_any (λ other. bytes_eq other name) names ≡ has name names
has_flipped name [] = refl
has_flipped name (first ∷ names) =
    grind (arith, has_flipped name names, nat_list_eq_equiv.symm first name)

-- what the look-up answers among names of which there are some
pub allowed_decides : (name : List ℕ) (names : List (List ℕ)) (found : Bool)
    → found ≡ has name names → length names ≢ 0
    → IsTrue found ↔ ((names ≡ []) ⊎ Contains names name)
allowed_decides name names found is some = (
  (λ yes. inr ((has_decides name names).0 (sym is ∙ yes))),
  (λ allowed. elim allowed [
    | inl none ↦ absurd (some (ap length none))
    | inr there ↦ is ∙ (has_decides name names).1 there
  ]),
)

-- a name that isn't there and isn't among the names isn't there after the insertions
pub absent_from_both : (name : List ℕ) (names all : List (List ℕ)) (among : Bool)
    → has name all ≡ false
    → among ≡ list_any (λ other. bytes_eq other name) names
    → not among ≡ not (has name (insert_all bytes_eq all names))
absent_from_both name names all among absent is =
    grind (arith, has_flipped name names, has_inserted name names all)

-- a new name in the list makes one more, at least
pub new_name_makes_more : (all names : List (List ℕ)) (i : ℕ) (name : List ℕ) → i < length names
    → name ≡ get_or names i name
    → not (has name (insert_all bytes_eq all (take i names))) ≡ true
    → length (insert_all bytes_eq all (take i names)) + 1 ≤ length (insert_all bytes_eq all names)
new_name_makes_more all names i name lt at new =
    let before = insert_all bytes_eq all (take i names) in
    grind (
      arith,
      insert_all_more all names i name lt at,
      length-append before (name ∷ []),
      length_of_front all names (i + 1),
    )

-- names make no more than they are
pub length_inserted : (names all : List (List ℕ))
    → length (insert_all bytes_eq all names) ≤ length all + length names
length_inserted [] all = omega arith
length_inserted (name ∷ names) all =
    grind (
      arith,
      length_inserted names all,
      length_inserted names (all ++ name ∷ []),
      length-append all (name ∷ []),
    )

-- the names that are there after the insertions
pub allowed_after : (all names : List (List ℕ)) (name : List ℕ)
    → Contains (insert_all bytes_eq all names) name ↔ (Contains all name ⊎ Contains names name)
allowed_after all names name = (
  (λ found. elim (or_cases _ _ (sym (has_inserted name names all)
      ∙ (has_decides name (insert_all bytes_eq all names)).1 found)) [
        | inl before ↦ inl ((has_decides name all).0 before)
        | inr among ↦ inr ((has_decides name names).0 among)
      ]),
  (λ either. (has_decides name (insert_all bytes_eq all names)).0 (has_inserted name names all
      ∙ elim either [
        | inl before ↦ or_left (has name all) _ ((has_decides name all).1 before)
        | inr among ↦ or_right _ (has name names) ((has_decides name names).1 among)
      ])),
)
