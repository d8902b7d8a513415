-- The listings that are kept.
use Rattle.std.specs.Prelude.{◌≡◌, ℕ, Bool, false, cond, List, Option, None, Some}
use Rattle.std.specs.Map.{lookup}
use Rattle.dist_types.specs.declared.pid.Pid.{Pid}
use Rattle.dist_types.specs.Listing.{same, IsPidListing, IsGroupListing}

-- of some groups the listing of their processes, and perhaps that of the groups
pub record KeptLists : Type 0 where
  pub pids : List (List ℕ × List Pid)
  pub groups : Option (List (List ℕ))

-- the listing that is kept of the group
abbrev pub kept_of : KeptLists → List ℕ → Option (List Pid)
kept_of kept g = lookup (same g) kept.pids

-- each is the listing of its group, or that of the groups
pub record AreListings (count : List ℕ → Pid → ℕ) (kept : KeptLists) : Type 0 where
  pub pids : (g : List ℕ) (ps : List Pid) → kept_of kept g ≡ Some ps → IsPidListing (count g) ps
  pub groups : (gs : List (List ℕ)) → kept.groups ≡ Some gs → IsGroupListing count gs

-- new keeps of other groups what old keeps, and that of the groups at most where there are no
-- others
pub record Forgets (gone : List ℕ → Bool) (old new : KeptLists) : Type 0 where
  pub pids : (g : List ℕ) → kept_of new g ≡ cond (gone g) None (kept_of old g)
  pub groups : (gs : List (List ℕ)) → new.groups ≡ Some gs → (old.groups ≡ Some gs)
      × ((g : List ℕ) → gone g ≡ false)
