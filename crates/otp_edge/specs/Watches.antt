-- The processes that watch that of a scope.
use Rattle.std.specs.Prelude.{◌≡◌, ℕ, List, ◌∷◌, All}
use Rattle.std.specs.List.Sorted.{IsPermutation}
use Rattle.otp_edge.specs.declared.open_scope.Watcher.{Watcher}

-- it watches by another reference
abbrev pub IsOtherWatch : List ℕ → Watcher → Type 0
IsOtherWatch reference w = w.reference.items ≡ reference → ⊥

-- one watch of that reference is forgotten, where there is one; the others stay, in any order
pub data Unwatches (reference : List ℕ) (before after : List Watcher) : Type 0 where
  none : All (IsOtherWatch reference) before → after ≡ before → Unwatches reference before after
  one : (gone : Watcher) → gone.reference.items ≡ reference → IsPermutation before (gone ∷ after)
      → Unwatches reference before after
