-- The links that end because too many frames wait for them: which they are, and their peers.
use Rattle.node_core.proofs
use Rattle.node_core.specs
use proofs.Words.{agrees, AllByRecursion, ap, append-nil, arith, Bool, Climbs, committed, cond}
use proofs.Words.{false, filter, flat_map, History, is_slow, IsLinkOf, IsPlayed, KeptLink, lie}
use proofs.Words.{link_words, links, LinksFollow, List, list_all, list_any, ltb-true, map, nat_lt}
use proofs.Words.{Option, option_to_list, Pid, present_link, refl, reverse, same, same_decides}
use proofs.Words.{slow_links, subst, sym, true, ℕ, [], ◌++◌, ◌∙◌, ◌∷◌, ◌≡◌}
use Rattle.std.proofs.lemmas.List.{reverse-reverse}
use Rattle.policy_audit.proofs.KeptLinks.{links_fall}
use Rattle.policy_audit.proofs.KeptNumbers.{falls_climbs, falls_left}
use specs.declared.slow.End.{End}
use specs.Ending.{end_of, ends_of, is_overfull}
use proofs.Found.{some_is}
use proofs.Losing.{IsUpWith, up_with}
use proofs.SlowLinks.{is_slow_link, slow_are}

-- ---- which links end

abbrev pub numbers : List End → List ℕ
numbers ends = map (λ x. x.number) ends

-- the ends of a link, if it is overfull, and of others
abbrev ends_with_one : Bool → KeptLink → List KeptLink → List End
ends_with_one b x xs = flat_map end_of (cond b (x ∷ filter is_overfull xs) (filter is_overfull xs))

-- the end of a link, by the peer with which it is up
abbrev end_by : KeptLink → Option (List ℕ) → List End
end_by x o = map (λ n. record { number = x.number; peer = n }) (option_to_list o)

-- frames that are prepared count as those that wait
pub committed_ends : (xs : List KeptLink) → ends_of (map committed xs) ≡ ends_of xs
committed_ends [] = refl
committed_ends (x ∷ xs) =
    grind (arith, committed_ends xs, append-nil (x.frames ++ x.prepared))

-- these are the ends of these links
abbrev AreOf : List End → List KeptLink → Type 0
AreOf ends slow = numbers ends ≡ map (λ y. y.number) slow

module _ (k : History) (played : IsPlayed k) where
  -- they are the slow ones
  ends_slow : (xs : List KeptLink) → AllByRecursion (IsLinkOf (link_words k)) xs
      → AreOf (ends_of xs) (filter is_slow_link xs)
  ends_slow [] a = refl
  ends_slow (x ∷ xs) a = grind (arith, ends_slow xs a.1, a.0.idle, append-nil x.frames)

  module _ (kept : List KeptLink) (t : LinksFollow (link_words k) kept) where
    pub slow_ends : slow_links k ≡ reverse (numbers (ends_of kept))
    slow_ends = slow_are k played kept t ∙ ap reverse (sym (ends_slow kept t.each))

    pub ends_climb : Climbs (numbers (ends_of kept))
    ends_climb =
        subst Climbs (ap reverse slow_ends ∙ reverse-reverse (numbers (ends_of kept)))
        (falls_climbs (slow_links k)
        (falls_left (is_slow k.opening k.entries) (links k.entries) (links_fall k played)))

-- each is the end of a link that is up with that peer
abbrev pub AreUp : History → List End → Type 0
AreUp k ends = AllByRecursion (λ x. IsUpWith k x.number x.peer) ends

pub ends_up : (k : History) (xs : List KeptLink) → AllByRecursion (IsLinkOf (link_words k)) xs
    → AreUp k (ends_of xs)
ends_up k [] a = tt
ends_up k (x ∷ xs) a = grind (arith, ends_up k xs a.1, up_with k x.number x.state, a.0.state)

-- ---- their peers

-- the process is of a peer whose link ends
abbrev pub goes : Pid → List End → Bool
goes p ends = list_any (λ x. same p.node x.peer) ends

-- of no two of these ends
abbrev pub GoesOnce : Pid → List End → Type 0
GoesOnce p [] = Unit {0}
GoesOnce p (x ∷ xs) = (same p.node x.peer ≡ true → goes p xs ≡ false) × GoesOnce p xs

module _ (k : History) (played : IsPlayed k) (p : Pid) where
  -- one peer has one link that is up
  one_link : (j l : ℕ) (n m : List ℕ) → IsUpWith k j n → IsUpWith k l m
      → same p.node n ≡ true → same p.node m ≡ true → j ≡ l
  one_link j l n m a b q r =
      let is_n = (same_decides p.node n).0 q in
      let is_m = (same_decides p.node m).0 r in
      let first = (agrees k.opening k.entries played n j).1 (a.up, a.peer) in
      let second = (agrees k.opening k.entries played m l).1 (b.up, b.peer) in
      some_is (sym first ∙ ap (λ x. present_link x k.entries) (sym is_n ∙ is_m) ∙ second)

  no_other : (j : ℕ) (n : List ℕ) → IsUpWith k j n → same p.node n ≡ true
      → (xs : List End) → list_all (λ l. nat_lt j l) (numbers xs) ≡ true → AreUp k xs
      → goes p xs ≡ false
  no_other j n up q [] less a = refl
  no_other j n up q (x ∷ xs) less a =
      grind (
        arith,
        one_link j x.number n x.peer up a.0 q,
        no_other j n up q xs,
        ltb-true j x.number,
        a.1,
      )

  pub goes_once : (ends : List End) → Climbs (numbers ends) → AreUp k ends → GoesOnce p ends
  goes_once [] c a = tt
  goes_once (x ∷ xs) c a =
      ((λ q. no_other x.number x.peer a.0 q xs c.0 a.1), goes_once xs c.1 a.1)

  -- which is another node
  pub goes_far : (ends : List End) → AreUp k ends → goes p ends ≡ true
      → same p.node k.opening.name ≡ false
  goes_far [] a q = lie (sym q)
  goes_far (x ∷ xs) a q =
      grind (arith, goes_far xs a.1, same_decides p.node x.peer, a.0.other)
