-- A group of a process, where all groups are gone over.
use Rattle.scope_core.proofs.Words
use Words.{AllByRecursion, arith, BTreeMap, false, find, find_in, is_eq, is_some, key_cmp}
use Words.{keys_of, Less, List, lookup, None, Option, ProcessKey, refl, Rises, same_decides}
use Words.{SmallMap, text_cmp, true, [], ℕ, ◌∷◌, ◌≡◌}
use Rattle.scope_core.proofs.HashedRows.{one_text}
use Rattle.scope_core.proofs.ProcessRows.{sorted_rises}
use Rattle.std.specs.List.Sorted.{IsStrictlySortedBy}

abbrev Members : Type 0
Members = SmallMap ProcessKey ℕ

abbrev Groups : Type 0
Groups = List (List ℕ × Members)

abbrev at : List ℕ → Groups → Option Members
at g es = lookup (λ h. is_eq (text_cmp g h)) es

-- the groups to come are as in the map, and the process is in none of the others
pub record Sought (groups : BTreeMap (List ℕ) Members) (key : ProcessKey) (rest : Groups)
    : Type 0 where
  pub rises : Rises text_cmp (keys_of rest)
  pub there : (g : List ℕ) → is_some (at g rest) ≡ true → at g groups.entries ≡ at g rest
  pub none : (g : List ℕ) → is_some (at g rest) ≡ false
      → find_in text_cmp key_cmp groups g key ≡ None

behind : (h g : List ℕ) (es : Groups) → AllByRecursion (λ k. text_cmp h k ≡ Less) (keys_of es)
    → is_some (at g es) ≡ true → is_eq (text_cmp g h) ≡ false
behind h g [] l there = grind arith
behind h g (e ∷ es) l there = grind (arith, behind h g es l.1, one_text, same_decides)

pub sought_next : (groups : BTreeMap (List ℕ) Members) (key : ProcessKey) (e : List ℕ × Members)
    (rest : Groups) → is_some (find key_cmp e.1 key) ≡ false → Sought groups key (e ∷ rest)
    → Sought groups key rest
sought_next groups key e rest miss was = record {
  rises = was.rises.1;
  there = λ g h. grind (arith, was.there g, behind e.0 g rest was.rises.0 h);
  none = λ g h. grind (arith, was.none g, was.there g);
}

pub sought_first : (groups : BTreeMap (List ℕ) Members) (key : ProcessKey)
    → IsStrictlySortedBy text_cmp (keys_of groups.entries) → Sought groups key groups.entries
sought_first groups key sorted = record {
  rises = sorted_rises (keys_of groups.entries) sorted;
  there = λ g h. refl;
  none = λ g h. grind arith;
}

-- who is in the next group is in it in the map
pub sought_at : (groups : BTreeMap (List ℕ) Members) (key : ProcessKey) (e : List ℕ × Members)
    (rest : Groups) → is_some (find key_cmp e.1 key) ≡ true → Sought groups key (e ∷ rest)
    → is_some (find_in text_cmp key_cmp groups e.0 key) ≡ true
sought_at groups key e rest here was = grind (arith, was.there e.0, one_text, same_decides)
