-- Texts, processes and rows that are the same, and lists of them in order.
use Rattle.std.specs.Prelude.{◌≡◌, ℕ, suc, ◌+◌, ◌<◌, Bool, false, cond, ◌&&◌, nat_eq, ◌==◌, List, [], ◌∷◌, replicate, IsTrue}
use Rattle.std.specs.List.{AllByRecursion, list_any, flat_map}
use Rattle.std.specs.declared.cmp.Ordering.{Ordering}
use Rattle.std.specs.declared.cmp.Ordering.TheVariants.{Less}
use Rattle.std.specs.Ordering.{is_gt, match_ordering}
use Rattle.std.specs.Cmp.Lexicographic.{pointwise}
use Rattle.dist_types.specs.declared.pid.Pid.{Pid}
use Rattle.dist_types.specs.declared.row.Row.{Row}
use Rattle.dist_types.specs.Order.{text_cmp, pid_cmp, row_cmp}

-- whether two texts are the same
abbrev pub same : List ℕ → List ℕ → Bool
same a b = pointwise nat_eq a b

-- whether two processes are the same
abbrev pub same_pid : Pid → Pid → Bool
same_pid p q = same p.node q.node && (p.creation == q.creation && p.number == q.number)

-- whether two rows are the same
abbrev pub same_row : Row → Row → Bool
same_row r s = same r.group s.group && same_pid r.pid s.pid

-- the most rows that a message may bring, or a part of one, repeats included; and that a node has
-- in a scope whose rows go over links of version 1
abbrev pub max_rows : ℕ
max_rows = 4096

-- what f gives of the elements, added up
abbrev pub total : {A : Type 0} → (A → ℕ) → List A → ℕ
total f [] = 0
total f (x ∷ xs) = f x + total f xs

-- how many elements pass the test
abbrev pub how_many : {A : Type 0} → (A → Bool) → List A → ℕ
how_many test [] = 0
how_many test (x ∷ xs) = cond (test x) (suc (how_many test xs)) (how_many test xs)

-- how often x stands in the list, by a test of sameness
abbrev pub occurrences : {A : Type 0} → (A → A → Bool) → A → List A → ℕ
occurrences alike x xs = how_many (λ y. alike y x) xs

-- how often the process is mentioned
abbrev pub mentions : Pid → List Pid → ℕ
mentions p ps = occurrences same_pid p ps

-- whether x stands in the list, by a test of sameness
abbrev pub stands_in : {A : Type 0} → (A → A → Bool) → A → List A → Bool
stands_in alike x xs = list_any (λ y. alike y x) xs

-- whether the group is one of these
abbrev pub is_among : List ℕ → List (List ℕ) → Bool
is_among g gs = stands_in same g gs

-- the keys of the entries, each as often as times says
abbrev pub spread : {E A : Type 0} → (E → A) → (E → ℕ) → List E → List A
spread key times es = flat_map (λ e. replicate (times e) (key e)) es

-- rising elements with x in its place, where it stands once
abbrev pub placed : {A : Type 0} → (A → A → Ordering) → A → List A → List A
placed cmp x [] = x ∷ []
placed cmp x (y ∷ ys) = match_ordering (cmp x y) (x ∷ y ∷ ys) (y ∷ ys) (y ∷ placed cmp x ys)

-- the elements in their order, each once
abbrev pub ascending : {A : Type 0} → (A → A → Ordering) → List A → List A
ascending cmp [] = []
ascending cmp (x ∷ xs) = placed cmp x (ascending cmp xs)

-- the elements in their order, each as often as count says
abbrev pub listing : {A : Type 0} → (A → A → Ordering) → (A → ℕ) → List A → List A
listing cmp count named = spread (λ x. x) count (ascending cmp named)

-- each comes before all that follow it
abbrev pub Rises : {A : Type 0} → (A → A → Ordering) → List A → Type 0
Rises cmp [] = Unit {0}
Rises cmp (x ∷ xs) = AllByRecursion (λ y. cmp x y ≡ Less) xs × Rises cmp xs

-- each comes after none that follows it
abbrev pub Ascends : {A : Type 0} → (A → A → Ordering) → List A → Type 0
Ascends cmp [] = Unit {0}
Ascends cmp (x ∷ xs) = AllByRecursion (λ y. is_gt (cmp x y) ≡ false) xs × Ascends cmp xs

-- the list ascends, and each stands in it as often as count says
pub record IsListing {A : Type 0} (cmp : A → A → Ordering) (alike : A → A → Bool) (count : A → ℕ)
    (xs : List A) : Type 0 where
  pub ascends : Ascends cmp xs
  pub counts : (x : A) → occurrences alike x xs ≡ count x

-- the processes, ascending, each as often as count says
abbrev pub IsPidListing : (Pid → ℕ) → List Pid → Type 0
IsPidListing count ps = IsListing pid_cmp same_pid count ps

-- the rows, ascending, each as often as count says
abbrev pub IsRowListing : (List ℕ → Pid → ℕ) → List Row → Type 0
IsRowListing count rows = IsListing row_cmp same_row (λ r. count r.group r.pid) rows

-- the groups in which count has a process, ascending, each once
pub record IsGroupListing (count : List ℕ → Pid → ℕ) (gs : List (List ℕ)) : Type 0 where
  pub rises : Rises text_cmp gs
  pub found : (g : List ℕ) → IsTrue (is_among g gs) → (p : Pid) × (0 < count g p)
  pub only : (g : List ℕ) (p : Pid) → 0 < count g p → IsTrue (is_among g gs)
