-- A list whose elements are changed one after the other, each to one that it is related to.
use Rattle.node_core.proofs
use proofs.Words.{AllByRecursion, AllZip, ap, arith, drop, get_or, length, List, map, refl, set}
use proofs.Words.{set-get_or, subst, suc, sym, take, take_all, take_more, ℕ, [], ◌+◌, ◌<◌, ◌∙◌, ◌∷◌}
use proofs.Words.{◌≡◌, ◌≤◌}
use Rattle.std.proofs.Common.{add-one, drop-cons, length-append}
use Rattle.std.proofs.lemmas.List.{drop-set-lt, take-append-drop, take_more_set}
use Rattle.std.proofs.lemmas.List.Elements.{AllZip-push}
use Rattle.std.proofs.lemmas.Slice.Zip.{AllZip-long}

-- the first i elements are related to what they were, and the others are what they were
pub record SoFar {A : Type 0} (R : A → A → Type 0) (i : ℕ) (old items : List A) : Type 0 where
  pub done : AllZip R (take i old) (take i items)
  pub rest : drop i items ≡ drop i old

module _ {A : Type 0} (R : A → A → Type 0) where
  pub begun : (xs : List A) → SoFar R 0 xs xs
  begun xs = record { done = tt; rest = refl }

  -- the list is as long as it was
  pub zipped_long : (i : ℕ) (xs items : List A) → SoFar R i xs items → length items ≡ length xs
  zipped_long i xs items so_far =
      let long = AllZip-long R (take i xs) (take i items) so_far.done in
      let rest : length (drop i items) ≡ length (drop i xs) = ap length so_far.rest in
      ap length (sym (take-append-drop i items)) ∙ simp length-append (omega arith)
      ∙ ap length (take-append-drop i xs)

  -- one more is changed
  pub zipped : (xs items : List A) (i : ℕ) (d v : A) → SoFar R i xs items → i < length items
      → R (get_or items i d) v → SoFar R (i + 1) xs (set items i v)
  zipped xs items i d v so_far here r =
      let long = zipped_long i xs items so_far in
      let there : i < length xs = omega arith in
      let rest = sym (drop-cons items i d here) ∙ so_far.rest ∙ drop-cons xs i d there in
      let same : get_or items i d ≡ get_or xs i d = cc in
      let more : drop (suc i) items ≡ drop (suc i) xs = cc in
      record {
        done = rw (take_more xs i d there, take_more_set items i v here)
            (AllZip-push R (take i xs) (take i items) (get_or xs i d) v so_far.done
            (rw (← same) r));
        rest = rw add-one (drop-set-lt (suc i) items i v (omega arith) ∙ more);
      }

  -- one more stays as it was
  pub zipped_still : (xs items : List A) (i : ℕ) (d : A) → SoFar R i xs items → i < length items
      → R (get_or items i d) (get_or items i d) → SoFar R (i + 1) xs items
  zipped_still xs items i d so_far here r =
      subst (SoFar R (i + 1) xs) (set-get_or items i d)
      (zipped xs items i d (get_or items i d) so_far here r)

  -- all are changed
  pub all_zipped : (i : ℕ) (xs items : List A) → SoFar R i xs items → length items ≤ i
      → AllZip R xs items
  all_zipped i xs items so_far out =
      let long = zipped_long i xs items so_far in
      subst (λ ys. AllZip R ys items) (take_all i xs (omega arith))
      (subst (AllZip R (take i xs)) (take_all i items out) so_far.done)

-- where what is related gives the same value, so do the lists
pub zipped_map : {A B C : Type 0} (R : A → B → Type 0) (f : A → C) (g : B → C)
    → ((x : A) (y : B) → R x y → g y ≡ f x) → (xs : List A) (ys : List B) → AllZip R xs ys
    → map g ys ≡ map f xs
zipped_map R f g on [] [] a = refl
zipped_map R f g on (x ∷ xs) (y ∷ ys) a = λ i. on x y a.0 i ∷ zipped_map R f g on xs ys a.1 i
zipped_map R f g on xs ys a = absurd a

-- what holds of each of the first holds of each of the second
pub zipped_each : {A B : Type 0} (R : A → B → Type 0) (P : A → Type 0) (Q : B → Type 0)
    → ((x : A) (y : B) → R x y → P x → Q y) → (xs : List A) (ys : List B) → AllZip R xs ys
    → AllByRecursion P xs → AllByRecursion Q ys
zipped_each R P Q on [] [] a ps = tt
zipped_each R P Q on (x ∷ xs) (y ∷ ys) a ps = (on x y a.0 ps.0, zipped_each R P Q on xs ys a.1 ps.1)
zipped_each R P Q on xs ys a ps = absurd a
