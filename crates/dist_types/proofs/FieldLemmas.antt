-- What a reader of a number took from the front.
use Rattle.std.proofs.Common.{arith, drop, get_or, List, sym, take, ℕ, ◌++◌, ◌<◌, ◌≡◌}
use Rattle.std.proofs.lemmas.List.{get_or-take, get_or_past, length-take, take-append-drop}

-- the front of bytes has bytes
pub front_is_bytes : (n : ℕ) (bytes front : List ℕ) → front ≡ take n bytes
    → ((i : ℕ) → get_or bytes i 0 < 256) → (i : ℕ) → get_or front i 0 < 256
front_is_bytes n bytes front e h i =
    rw e
    (grind
    (arith, h i, length-take n bytes, get_or-take n bytes i 0, get_or_past (take n bytes) i 0))

-- the bytes are what was read and the rest
pub parts_are : (n : ℕ) (bytes front rest spelled : List ℕ) → front ≡ take n bytes
    → rest ≡ drop n bytes → spelled ≡ front → bytes ≡ spelled ++ rest
parts_are n bytes front rest spelled f r s = rw (s, f, r) (sym (take-append-drop n bytes))
