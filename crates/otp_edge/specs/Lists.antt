-- Lists as terms.
use Rattle.std.specs.Prelude.{◌≡◌, ℕ, zero, suc, List, [], ◌++◌, length, drop, All, ◌≤◌, ◌<◌, ◌^◌}
use Rattle.std.specs.List.{flat_map}
use Rattle.external_terms.specs.Values.{list_head, nil_bytes}

-- a list of that many elements begins so; the empty list is its own end
abbrev pub list_front : ℕ → List ℕ
list_front zero = []
list_front (suc n) = list_head (suc n)

-- a proper list: its elements stand behind its head, and its end behind them
abbrev pub listed : {A : Type 0} → (A → List ℕ) → List A → List ℕ
listed spell xs = list_front (length xs) ++ (flat_map spell xs ++ nil_bytes)

-- each is within its limits; a list has fewer than 2^32 elements
pub record IsList {A : Type 0} (Within : A → Type 0) (xs : List A) : Type 0 where
  pub each : All Within xs
  pub few : length xs < 2 ^ 32

-- x is what stands in front of the rest, and nothing else can be
pub record StandsFirst {A : Type 0} (spell : A → List ℕ) (Within : A → Type 0) (all : List ℕ)
    (x : A) (rest : List ℕ) : Type 0 where
  pub within : Within x
  pub bytes : all ≡ spell x ++ rest
  pub only : (y : A) (later : List ℕ) → Within y → all ≡ spell y ++ later
      → (y ≡ x) × (later ≡ rest)

-- the items are what stands in front of the rest, and no others can be, as far as they go
pub record Front {A : Type 0} (spell : A → List ℕ) (Within : A → Type 0) (bytes : List ℕ)
    (items : List A) (rest : List ℕ) : Type 0 where
  pub each : All Within items
  pub whole : bytes ≡ flat_map spell items ++ rest
  pub only : (xs : List A) (later : List ℕ) → length items ≤ length xs → All Within xs
      → bytes ≡ flat_map spell xs ++ later
      → (xs ≡ items ++ drop (length items) xs)
      × (rest ≡ flat_map spell (drop (length items) xs) ++ later)
