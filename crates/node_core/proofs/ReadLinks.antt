-- What is read of the kept links, in the policy's words.
use Rattle.node_core.proofs
use proofs.Words.{AllByRecursion, ap, arith, awaits, Bool, cond, eq-eqb, eqb-true, facts, flat_map}
use proofs.Words.{Follows, frame_awaited, History, how_many, is_name_up, is_open, is_peer, is_some}
use proofs.Words.{is_up, IsLinkOf, IsState, kept_among, kept_numbers, kept_once, KeptLink}
use proofs.Words.{link_words, LinkState, List, list_any, map, name_up_kept, nat_eq, None}
use proofs.Words.{occurrences, one_up, option_to_list, Parts, peer_of, refl, same, Some, sym, true}
use proofs.Words.{up_peer, ℕ, [], ◌&&◌, ◌++◌, ◌∙◌, ◌∷◌, ◌≡◌, ◌≤◌}
use Rattle.node_core.specs.Reading.{awaiting, frame_of, up_name, up_names}
use Rattle.scope_core.proofs.Rising.{all_map}
use proofs.Found.{any_map}
use proofs.Told.{map_map, map_same}
use proofs.LinkTests.{agree, peer_by_test}

-- ---- what a link's state tells

module _ (h : History) (l : ℕ) where
  up_told : (s : LinkState) → IsState (facts h l) s → is_some (up_peer s) ≡ is_up l h.entries
  up_told (LinkState.Up s) t = grind (arith, t.0.open_now, t.0.whole)
  up_told LinkState.Ended t = grind (arith, t)
  up_told s t = grind (arith, t.0.whole)

  name_told : (s : LinkState) → IsState (facts h l) s → option_to_list (up_peer s) ≡ up_name h l
  name_told (LinkState.Up s) t = grind (arith, t.0.open_now, t.0.whole, t.1.peer.peer)
  name_told s t = ap (λ b. cond b (option_to_list (peer_of l h.entries)) []) (up_told s t)

  frame_told : (s : LinkState) → IsState (facts h l) s
      → frame_awaited s ≡ cond (is_open l h.entries) (Some (frame_of (awaits l h.entries))) None
  frame_told LinkState.Ended t = grind (arith, t)
  frame_told s t = sym (λ i. cond (t.0.open_now i) (Some (frame_of (t.0.awaited i))) None)

-- ---- lists of numbers

-- one number among others
any_here : (test : ℕ → Bool) (l : ℕ) (xs : List ℕ)
    → list_any (λ k. nat_eq k l && test k) xs ≡ (list_any (λ k. nat_eq k l) xs && test l)
any_here test l [] = refl
any_here test l (x ∷ xs) = grind (arith, any_here test l xs, eqb-true x l)

-- where one test implies another, it counts no more
counts_less : {A : Type 0} (f g : A → Bool) → ((x : A) → f x ≡ true → g x ≡ true) → (xs : List A)
    → how_many f xs ≤ how_many g xs
counts_less f g on [] = omega arith
counts_less f g on (x ∷ xs) = grind (arith, counts_less f g on xs, on x)

-- where one number at most passes, and each is there once, one is counted where there is one
counts_one : (test : ℕ → Bool) → ((a b : ℕ) → test a ≡ true → test b ≡ true → a ≡ b) → (xs : List ℕ)
    → ((l : ℕ) → how_many (nat_eq l) xs ≤ 1) → how_many test xs ≡ cond (list_any test xs) 1 0
counts_one test one [] once = refl
counts_one test one (x ∷ xs) once =
    let later = counts_one test one xs (λ l. grind (arith, once l)) in
    let few : test x ≡ true → how_many test xs ≤ how_many (nat_eq x) xs =
    λ e. counts_less test (nat_eq x) (λ y q. eq-eqb x y (one x y e q)) xs in
    grind (arith, later, few, once x, eq-eqb x x refl)

names_count : (h : History) (n : List ℕ) (xs : List ℕ)
    → occurrences same n (flat_map (up_name h) xs)
    ≡ how_many (λ l. is_up l h.entries && is_peer n l h.entries) xs
names_count h n [] = refl
names_count h n (x ∷ xs) = grind (arith, names_count h n xs)

-- ---- the readers

module _ {h : History} {parts : Parts} (t : Follows h parts) where
  pub link_up : (l : ℕ) → list_any (λ x. nat_eq x.number l && is_some (up_peer x.state)) parts.links
      ≡ is_up l h.entries
  link_up l =
      agree (IsLinkOf (link_words h)) (λ x. nat_eq x.number l && is_some (up_peer x.state))
      (λ x. nat_eq x.number l && is_up x.number h.entries)
      (λ x it. ap (λ b. nat_eq x.number l && b) (up_told h x.number x.state it.state))
      parts.links t.links.each
      ∙ sym (any_map (λ k. nat_eq k l && is_up k h.entries) (λ x. x.number) parts.links)
      ∙ ap (list_any (λ k. nat_eq k l && is_up k h.entries)) t.links.numbers
      ∙ any_here (λ k. is_up k h.entries) l (kept_numbers h)
      ∙ ap (λ b. b && is_up l h.entries) (sym (kept_among h t.sound.played l))
      ∙ grind arith

  pub names_are : flat_map (λ x. option_to_list (up_peer x.state)) parts.links ≡ up_names h
  names_are = all parts.links t.links.each ∙ ap (flat_map (up_name h)) t.links.numbers
    where
      all : (xs : List KeptLink) → AllByRecursion (IsLinkOf (link_words h)) xs
          → flat_map (λ x. option_to_list (up_peer x.state)) xs
          ≡ flat_map (up_name h) (map (λ x. x.number) xs)
      all [] a = refl
      all (x ∷ xs) a = λ i. name_told h x.number x.state a.0.state i ++ all xs a.1 i

  pub names_once : (n : List ℕ) → occurrences same n (up_names h)
      ≡ cond (is_name_up n h.entries) 1 0
  names_once n =
      names_count h n (kept_numbers h)
      ∙ counts_one (λ l. is_up l h.entries && is_peer n l h.entries) alone (kept_numbers h)
      (kept_once h t.sound.played)
      ∙ ap (λ b. cond b 1 0) (sym (name_up_kept h t.sound.played n))
    where
      alone : (a b : ℕ) → (is_up a h.entries && is_peer n a h.entries) ≡ true
          → (is_up b h.entries && is_peer n b h.entries) ≡ true → a ≡ b
      alone a b p q = grind (
        arith,
        one_up h t.sound.played n a b,
        peer_by_test n (peer_of a h.entries),
        peer_by_test n (peer_of b h.entries),
      )

  pub links_are : map (λ x. record { link = x.number; frame = frame_awaited x.state }) parts.links
      ≡ map (awaiting h) (kept_numbers h)
  links_are =
      map_same (λ x. record { link = x.number; frame = frame_awaited x.state })
      (λ x. awaiting h x.number) parts.links
      (all_map (IsLinkOf (link_words h)) (λ x. record {
        link = x.number;
        frame = frame_awaited x.state;
      } ≡ awaiting h x.number)
      (λ x it. λ i. record {
        link = x.number;
        frame = frame_told h x.number x.state it.state i;
      }) parts.links t.links.each)
      ∙ sym (map_map (awaiting h) (λ x. x.number) parts.links)
      ∙ ap (map (awaiting h)) t.links.numbers
