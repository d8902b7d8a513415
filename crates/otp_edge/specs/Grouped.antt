-- Rows gathered by group, as they are told.
use Rattle.std.specs.Prelude.{◌≡◌, ◌⊎◌, ◌<◌, ◌≤◌, List, [], ◌∷◌, ◌++◌, ℕ, All, Contains, length}
use Rattle.std.specs.Prelude.{true, false}
use Rattle.dist_types.specs.declared.row.Row.{Row}
use Rattle.otp_edge.specs.Groups.{IsTermOf, is_marked}
use Rattle.otp_edge.specs.declared.telling.Told.{Told}

abbrev pub IsInGroup : List ℕ → Row → Type 0
IsInGroup group row = row.group ≡ group

-- rows of one group, one at least
pub record IsRun (group : List ℕ) (run : List Row) : Type 0 where
  pub some : 0 < length run
  pub each : All (IsInGroup group) run

-- ---- of the texts that are kept, since they were told as atoms

-- what was kept stays
pub record Keeps (before after : List (List ℕ)) : Type 0 where
  pub each : (group : List ℕ) → Contains before group → Contains after group
  pub grows : length before ≤ length after

-- a group may be told that is told as no atom, or whose text is kept
abbrev pub MayBeTold : List (List ℕ) → List ℕ → Type 0
MayBeTold atoms group = (is_marked group ≡ true) ⊎ Contains atoms group

-- it would be told as an atom, and there are as many as may be
pub record IsOneTooMany (atoms : List (List ℕ)) (group : List ℕ) : Type 0 where
  pub atom : is_marked group ≡ false
  pub full : 65536 ≤ length atoms

-- a group isn't told that has no term, or would be one atom too many
pub record IsLeftOut (atoms : List (List ℕ)) (group : List ℕ) : Type 0 where
  pub why : ((term : List ℕ) → ¬ IsTermOf term group) ⊎ IsOneTooMany atoms group

-- the rows are runs of one group each, one behind the other: each is told with the term of its
-- group, or left out
pub data IsGrouped (atoms : List (List ℕ)) : List Row → List Told → Type 0 where
  none : IsGrouped atoms [] []
  told : (before : List Row) (ts : List Told) (group : List ℕ) (t : Told)
      → IsGrouped atoms before ts → IsRun group t.rows.now → IsTermOf t.group.items group
      → MayBeTold atoms group → IsGrouped atoms (before ++ t.rows.now) (ts ++ t ∷ [])
  left : (before : List Row) (ts : List Told) (group : List ℕ) (run : List Row)
      → IsGrouped atoms before ts → IsRun group run → IsLeftOut atoms group
      → IsGrouped atoms (before ++ run) ts
