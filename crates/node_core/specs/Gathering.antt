-- Changes of groups that are merged one after the other, in the order of their groups.
use Rattle.std.specs.Prelude.{◌≡◌, ℕ, false, ◌&&◌, List, [], ◌∷◌, ◌++◌, map}
use Rattle.std.specs.List.{AllByRecursion}
use Rattle.std.specs.Ordering.{is_gt}
use Rattle.dist_types.specs.declared.pid.Pid.{Pid}
use Rattle.dist_types.specs.declared.change.GroupChange.{GroupChange}
use Rattle.dist_types.specs.Difference.{is_empty, times_left, times_joined}
use Rattle.dist_types.specs.Listing.{Rises}
use Rattle.dist_types.specs.Order.{text_cmp}

-- the first change, with the processes of the second behind its own
abbrev pub together : GroupChange → GroupChange → GroupChange
together one other = record {
  group = one.group;
  left = one.left ++ other.left;
  joined = one.joined ++ other.joined;
}

-- somebody leaves or joins
abbrev pub IsSome : GroupChange → Type 0
IsSome c = (is_empty c.left && is_empty c.joined) ≡ false

-- the changes have one for each group, by which as many leave and join as by those
pub record AreMerged (gs all : List GroupChange) : Type 0 where
  pub groups : Rises text_cmp (map (λ c. c.group) all)
  pub some : AllByRecursion IsSome all
  pub left : (g : List ℕ) (p : Pid) → times_left g p all ≡ times_left g p gs
  pub joined : (g : List ℕ) (p : Pid) → times_joined g p all ≡ times_joined g p gs

-- no group of these comes after g
abbrev pub AreUpTo : List ℕ → List GroupChange → Type 0
AreUpTo g gs = AllByRecursion (λ c. is_gt (text_cmp c.group g) ≡ false) gs

-- they are merged, and no group comes after all of those
pub record AreMergedSoFar (gs all : List GroupChange) : Type 0 where
  pub changes : AreMerged gs all
  pub upto : (g : List ℕ) → AreUpTo g gs → AreUpTo g all

-- with a change that comes after none of those, they are merged again
abbrev pub HasMerged : GroupChange → List GroupChange → List GroupChange → Type 0
HasMerged c old new = (gs : List GroupChange) → IsSome c → AreUpTo c.group gs
    → AreMergedSoFar gs old → AreMergedSoFar (gs ++ c ∷ []) new
