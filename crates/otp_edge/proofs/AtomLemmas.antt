-- Texts of groups that are kept, since they were told as atoms.
use Rattle.otp_edge.proofs
use Rattle.otp_edge.specs
use proofs.Words.{ap, arith, length, List, refl, subst, sym, ℕ, [], ◌+◌, ◌<◌, ◌∙◌, ◌∷◌, ◌≡◌}
use Rattle.std.specs.Prelude.{Contains, get_or, insert}
use Rattle.std.specs.Ordering.{is_eq, nat_cmp}
use Rattle.std.specs.Cmp.Lexicographic.{slice_cmp}
use Rattle.std.proofs.lemmas.List.Elements.{Contains-append_right, Contains-get_or}
use Rattle.std.proofs.lemmas.List.Sorted.{Contains-permutation, IsPermutation-insert}
use Rattle.std.proofs.lemmas.Map.Text.{is_eq-slice_cmp}
use Rattle.std.proofs.lemmas.Slice.Eq.{bytes_eq-Decides}
use specs.Grouped.{Keeps}
use specs.Said.{GoesOn}
use specs.declared.life.Life.{Life}
use Rattle.std.specs.declared.cmp.Ordering.TheVariants as orders

pub keeps_here : (atoms : List (List ℕ)) → Keeps atoms atoms
keeps_here atoms = record { each = λ group kept. kept; grows = omega arith }

pub goes_on_here : (life : Life) → GoesOn life life
goes_on_here life = record { processes = omega arith; atoms = keeps_here life.atoms.items }

pub goes_on_more : (life between later : Life) → GoesOn life between → GoesOn between later
    → GoesOn life later
goes_on_more life between later one two = record {
  processes = omega (arith, one.processes, two.processes);
  atoms = record {
    each = λ group kept. two.atoms.each group (one.atoms.each group kept);
    grows = omega (arith, one.atoms.grows, two.atoms.grows);
  };
}

pub life_of_admit : (life later : Life) → Keeps life.atoms.items later.atoms.items
    → later.processes ≡ life.processes → GoesOn life later
life_of_admit life later keeps same =
    record { processes = omega (arith, same); atoms = keeps }

-- what a search finds is there
pub found_there : (atoms : List (List ℕ)) (group : List ℕ) (place : ℕ) → place < length atoms
    → ((d : List ℕ) → slice_cmp nat_cmp (get_or atoms place d) group ≡ orders.Equal)
    → Contains atoms group
found_there atoms group place within is =
    let same = (bytes_eq-Decides (get_or atoms place group) group).0
    (sym (is_eq-slice_cmp (get_or atoms place group) group) ∙ ap is_eq (is group)) in
    subst (Contains atoms) same (Contains-get_or atoms place group within)

pub found_in : (atoms seen : List (List ℕ)) (group : List ℕ) (place : ℕ) → seen ≡ atoms
    → place < length seen
    → ((d : List ℕ) → slice_cmp nat_cmp (get_or seen place d) group ≡ orders.Equal)
    → Contains atoms group
found_in atoms seen group place same within is =
    subst (λ l. Contains l group) same (found_there seen group place within is)

-- one text more is kept
pub put_there : (atoms : List (List ℕ)) (place : ℕ) (group kept : List ℕ) → kept ≡ group
    → Contains (insert atoms place kept) group
put_there atoms place group kept same = subst (Contains (insert atoms place kept)) same
    (Contains-permutation (kept ∷ atoms) (insert atoms place kept) kept
    (IsPermutation-insert atoms place kept) (0, omega arith, refl))

pub keeps_more : (atoms after : List (List ℕ)) (place : ℕ) (kept : List ℕ)
    → after ≡ insert atoms place kept → length after ≡ length atoms + 1 → Keeps atoms after
keeps_more atoms after place kept is more = record {
  each = λ group here. subst (λ l. Contains l group) (sym is)
      (Contains-permutation (kept ∷ atoms) (insert atoms place kept) group
      (IsPermutation-insert atoms place kept)
      (Contains-append_right (kept ∷ []) atoms group here));
  grows = omega (arith, more);
}
