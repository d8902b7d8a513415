-- Names that are kept once each.
use Rattle.node_core.proofs
use proofs.Words.{ap, AreOnce, arith, bytes_eq, cond, different, insert_entry, is_among, length}
use proofs.Words.{List, list_any, map, occurrences, occurs_stands, refl, same, same_decides}
use proofs.Words.{same_sym, ℕ, [], ◌++◌, ◌+◌, ◌||◌, ◌∙◌, ◌∷◌, ◌≡◌}
use Rattle.indexmap.specs.IndexSet.{insert_all}
use Rattle.policy_audit.proofs.Named.{stands_occurs}
use Rattle.policy_audit.proofs.Different.{different_is}

-- the test may take its names in either order
flip : (q : List ℕ) (xs : List (List ℕ)) → list_any (bytes_eq q) xs ≡ is_among q xs
flip q [] = refl
flip q (x ∷ xs) = (λ i. same_sym q x i || flip q xs i)

module _ (xs those : List (List ℕ)) (once : AreOnce xs those) where
  pub same_names : (q : List ℕ) → is_among q xs ≡ is_among q those
  same_names q = grind (arith, once q, stands_occurs same q xs, occurs_stands same q xs)

  pub how_many_names : length xs ≡ different those
  how_many_names = different_is xs those (λ q. grind (arith, once q)) same_names

one_behind : (q n : List ℕ) (xs : List (List ℕ))
    → occurrences same q (xs ++ n ∷ []) ≡ occurrences same q xs + cond (same n q) 1 0
one_behind q n [] = omega arith
one_behind q n (x ∷ xs) = grind (arith, one_behind q n xs)

-- one name more, where it isn't there
pub put_once : (n : List ℕ) (xs those : List (List ℕ)) → AreOnce xs those
    → AreOnce (cond (list_any (bytes_eq n) xs) xs (xs ++ n ∷ [])) (n ∷ those)
put_once n xs those once q =
    rw (flip n xs) (grind (
      arith,
      same_decides n q,
      same_names xs those once n,
      once q,
      one_behind q n xs,
    ))

-- the names of the entries
abbrev pub names_of : List (List ℕ × List ℕ) → List (List ℕ)
names_of ps = map (λ p. p.0) ps

keys_put : (n c : List ℕ) (ps : List (List ℕ × List ℕ))
    → names_of (insert_entry bytes_eq ps n c)
    ≡ cond (list_any (bytes_eq n) (names_of ps)) (names_of ps) (names_of ps ++ n ∷ [])
keys_put n c [] = refl
keys_put n c (p ∷ ps) = grind (arith, keys_put n c ps)

pub entry_once : (n c : List ℕ) (ps : List (List ℕ × List ℕ)) (those : List (List ℕ))
    → AreOnce (names_of ps) those → AreOnce (names_of (insert_entry bytes_eq ps n c)) (n ∷ those)
entry_once n c ps those once q = ap (occurrences same q) (keys_put n c ps)
    ∙ put_once n (names_of ps) those once q

-- a name may come sooner
swap : (q n : List ℕ) (xs ys : List (List ℕ))
    → is_among q (xs ++ n ∷ ys) ≡ (same n q || is_among q (xs ++ ys))
swap q n [] ys = refl
swap q n (x ∷ xs) ys = grind (arith, swap q n xs ys)

-- each name of a list more
pub all_once : (ns xs those : List (List ℕ)) → AreOnce xs those
    → AreOnce (insert_all bytes_eq xs ns) (ns ++ those)
all_once [] xs those once = once
all_once (n ∷ ns) xs those once =
    λ q. all_once ns (cond (list_any (bytes_eq n) xs) xs (xs ++ n ∷ [])) (n ∷ those)
    (put_once n xs those once) q ∙ ap (λ b. cond b 1 0) (swap q n ns those)
