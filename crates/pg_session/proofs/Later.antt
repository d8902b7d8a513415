-- Tests of what a list has, and the greatest number of entries that pass one.
use Rattle.std.specs.Prelude.{cond, nat_lt, ◌&&◌, ◌||◌}
use Rattle.std.specs.List.{flat_map, list_any}
use Rattle.std.proofs.Common.{arith, Bool, false, List, refl, true, ℕ, [], ◌++◌, ◌∷◌, ◌≡◌}
use Rattle.std.proofs.lemmas.Bool.Decides.{nat_tests}
use Rattle.std.proofs.lemmas.List.Folds.{list_any-append}
use Rattle.policy_audit.specs.declared.entry.Entry.{Entry}
use Rattle.pg_session.specs.Watched.{latest, raised}

-- a test of what is kept of each element
pub any_kept : {A B : Type 0} (p : B → Bool) (t : A → Bool) (f : A → List B) (xs : List A)
    → list_any p (flat_map (λ x. cond (t x) (f x) []) xs)
    ≡ list_any (λ x. t x && list_any p (f x)) xs
any_kept p t f [] = refl
any_kept p t f (x ∷ xs) =
    rw (
      list_any-append p (cond (t x) (f x) []) (flat_map (λ x. cond (t x) (f x) []) xs),
      any_kept p t f xs,
    ) (by (t x))
  where
    by : (b : Bool) → (list_any p (cond b (f x) []) || list_any (λ x. t x && list_any p (f x)) xs)
        ≡ (b && list_any p (f x) || list_any (λ x. t x && list_any p (f x)) xs)
    by true = refl
    by false = refl

-- where none passes, nothing comes of those that do
pub none_told : {A B : Type 0} (p : A → Bool) (f : A → List B) (xs : List A)
    → list_any p xs ≡ false → flat_map (λ x. cond (p x) (f x) []) xs ≡ []
none_told p f [] none = refl
none_told p f (x ∷ xs) none = by (p x) none (none_told p f xs)
  where
    by : (b : Bool) → (b || list_any p xs) ≡ false
        → (list_any p xs ≡ false → flat_map (λ x. cond (p x) (f x) []) xs ≡ [])
        → cond b (f x) [] ++ flat_map (λ x. cond (p x) (f x) []) xs ≡ []
    by true none rest = cc
    by false none rest = rest none

raised_lt : (n m last : ℕ) (b : Bool)
    → nat_lt n (raised b m last) ≡ (nat_lt n last || nat_lt n m && b)
raised_lt n m last true = grind (arith, nat_tests)
raised_lt n m last false = grind (arith, nat_tests)

latest_lt : (p : Entry → Bool) (n : ℕ) (es : List Entry) (last : ℕ)
    → nat_lt n (latest p es last) ≡ (nat_lt n last || list_any (λ e. nat_lt n e.number && p e) es)
latest_lt p n [] last = grind arith
latest_lt p n (e ∷ es) last =
    rw (latest_lt p n es (raised (p e) e.number last), raised_lt n e.number last (p e))
    (grind arith)

-- the last entry that passes is behind a number just where an entry behind that passes
pub last_behind : (p : Entry → Bool) (n : ℕ) (es : List Entry)
    → nat_lt n (latest p es 0) ≡ list_any (λ e. nat_lt n e.number && p e) es
last_behind p n es = rw (latest_lt p n es 0) (grind (arith, nat_tests))
