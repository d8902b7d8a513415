-- The exact difference between two listings.
use Rattle.std.specs.Prelude.{◌≡◌, ℕ, ◌-◌, Bool, true, false, cond, ◌&&◌, List, [], ◌∷◌, map}
use Rattle.std.specs.List.{AllByRecursion}
use Rattle.dist_types.specs.declared.pid.Pid.{Pid}
use Rattle.dist_types.specs.declared.change.GroupChange.{GroupChange}
use Rattle.dist_types.specs.Order.{pid_cmp, text_cmp}
use Rattle.dist_types.specs.Listing.{same, total, mentions, Rises, Ascends}

-- whether the list has no element
abbrev pub is_empty : {A : Type 0} → List A → Bool
is_empty [] = true
is_empty (x ∷ xs) = false

-- both lists ascend, and one of them names a process
pub record IsProper (change : GroupChange) : Type 0 where
  pub left : Ascends pid_cmp change.left
  pub joined : Ascends pid_cmp change.joined
  pub some : (is_empty change.left && is_empty change.joined) ≡ false

-- how often p left the group g
abbrev pub times_left : List ℕ → Pid → List GroupChange → ℕ
times_left g p changes = total (λ c. cond (same c.group g) (mentions p c.left) 0) changes

-- how often p joined the group g
abbrev pub times_joined : List ℕ → Pid → List GroupChange → ℕ
times_joined g p changes = total (λ c. cond (same c.group g) (mentions p c.joined) 0) changes

-- these changes, ascending by group, are the whole difference between the counts before and after
pub record IsDifference (before after : List ℕ → Pid → ℕ)
    (changes : List GroupChange) : Type 0 where
  pub groups : Rises text_cmp (map (λ c. c.group) changes)
  pub proper : AllByRecursion IsProper changes
  pub left : (g : List ℕ) (p : Pid) → times_left g p changes ≡ before g p - after g p
  pub joined : (g : List ℕ) (p : Pid) → times_joined g p changes ≡ after g p - before g p

-- one change, or none where nobody left and nobody joined
abbrev pub change_unless_empty : List ℕ → List Pid → List Pid → List GroupChange
change_unless_empty g left joined = cond (is_empty left && is_empty joined)
    [] (record { group = g; left = left; joined = joined } ∷ [])
