-- Which peers are up and which are dialled, by the states of the kept links.
use Rattle.node_core.proofs
use proofs.Words.{admission_words, AdmissionFollows, AdmissionRules, AllByRecursion, allow_list}
use proofs.Words.{allowed, ap, arith, Awaits, awaits, beside, Bool, cond, dial_checks, dialled_peer}
use proofs.Words.{dialling_kept, eqb-true, facts, false, first_broken, flat_map, History, is_among}
use proofs.Words.{is_dialling, is_empty, is_name_up, is_open, is_peer, is_unfinished_dial, is_up}
use proofs.Words.{is_whole, IsLinkOf, IsPlayed, IsState, kept_links, KeptLink, length, lie}
use proofs.Words.{link_words, LinksFollow, LinkState, List, list_any, name_up_kept, nat_lt, None}
use proofs.Words.{not, Option, option_map_or, option_to_list, peer_of, refl, Rule, same}
use proofs.Words.{same_decides, Some, sym, true, up_peer, ℕ, [], ◌&&◌, ◌==◌, ◌||◌, ◌∙◌, ◌∷◌, ◌≡◌}
use Rattle.link_states.specs.Checks.{allows}
use Rattle.policy_audit.proofs.Onward.{by_dial, by_peer, is_acceptors, is_diallers}
use proofs.Found.{any_map}
use proofs.Once.{same_names}
use Rattle.link_states.specs.Pending as pending

-- a peer by the test is the peer
pub peer_by_test : (n : List ℕ) (x : Option (List ℕ)) → option_map_or (λ m. same m n) x false ≡ true
    → x ≡ Some n
peer_by_test n None q = lie (sym q)
peer_by_test n (Some m) q = ap Some ((same_decides m n).0 q)

-- tests that agree on all
pub agree : {A : Type 0} (P : A → Type 0) (f g : A → Bool) → ((x : A) → P x → f x ≡ g x)
    → (xs : List A) → AllByRecursion P xs → list_any f xs ≡ list_any g xs
agree P f g each [] a = refl
agree P f g each (x ∷ xs) a = λ i. each x a.0 i || agree P f g each xs a.1 i

module _ (h : History) (n : List ℕ) where
  -- a link is up with n exactly where its state says so
  pub up_by : (l : ℕ) (s : LinkState) → IsState (facts h l) s
      → option_map_or (λ m. same m n) (up_peer s) false
      ≡ (is_up l h.entries && is_peer n l h.entries)
  up_by l (LinkState.Up s) t = grind (arith, t.0.open_now, t.0.whole, t.1.peer.peer)
  up_by l LinkState.Ended t = grind (arith, t)
  up_by l s t = grind (arith, t.0.whole)

  undialled : (l : ℕ) → Awaits (facts h l) (awaits l h.entries) false
      → is_acceptors (awaits l h.entries) ≡ true
      → false ≡ (is_open l h.entries && is_unfinished_dial n l h.entries)
  undialled l t a = grind (arith, (by_peer l h.entries t.open_now a).opened)

  dialled : (l : ℕ) (m : List ℕ) → is_open l h.entries ≡ true → is_whole l h.entries ≡ false
      → is_diallers (awaits l h.entries) ≡ true → peer_of l h.entries ≡ Some m
      → same m n ≡ (is_open l h.entries && is_unfinished_dial n l h.entries)
  dialled l m opens unwhole a of =
      let it = by_dial l h.entries opens a in grind (arith, it.peer_is, it.opened)

  -- a link is an own dial to n exactly where its state says so
  pub dialled_by : (l : ℕ) (s : LinkState) → IsState (facts h l) s
      → option_map_or (λ m. same m n) (dialled_peer s) false
      ≡ (is_open l h.entries && is_unfinished_dial n l h.entries)
  dialled_by l (LinkState.Status s) t =
      dialled l s.peer t.0.open_now t.0.whole (ap is_diallers t.0.awaited) t.1.peer.peer
  dialled_by l (LinkState.Challenge s) t =
      dialled l s.peer t.0.open_now t.0.whole (ap is_diallers t.0.awaited) t.1.peer.peer
  dialled_by l (LinkState.Ack s) t =
      dialled l s.peer t.0.open_now t.0.whole (ap is_diallers t.0.awaited) t.1.peer.peer
  dialled_by l (LinkState.Up s) t = grind (arith, t.0.whole)
  dialled_by l LinkState.Ended t = grind (arith, t)
  dialled_by l s t =
      undialled l (record { open_now = t.0.open_now; whole = t.0.whole; awaited = refl })
      (ap is_acceptors t.0.awaited)

  module _ (legal : IsPlayed h) (kept : List KeptLink) (t : LinksFollow (link_words h) kept) where
    -- what a test of the states says, the words say of the numbers
    by_links : (f : LinkState → Option (List ℕ)) (g : ℕ → Bool)
        → ((l : ℕ) (s : LinkState) → IsState (facts h l) s
        → option_map_or (λ m. same m n) (f s) false ≡ g l)
        → list_any (λ x. option_map_or (λ m. same m n) (f x.state) false) kept
        ≡ list_any g (link_words h).numbers
    by_links f g each =
        agree (IsLinkOf (link_words h)) (λ x. option_map_or (λ m. same m n) (f x.state) false)
        (λ x. g x.number) (λ x it. each x.number x.state it.state) kept t.each
        ∙ sym (any_map g (λ x. x.number) kept) ∙ ap (list_any g) t.numbers

    -- a peer is up where a kept link is up with it
    pub up_is : list_any (λ x. option_map_or (λ m. same m n) (up_peer x.state) false) kept
        ≡ is_name_up n h.entries
    up_is = by_links up_peer (λ l. is_up l h.entries && is_peer n l h.entries) up_by
        ∙ sym (name_up_kept h legal n)

    -- a peer is dialled where a kept link is a dial to it
    pub dialling_is : list_any (λ x. option_map_or (λ m. same m n) (dialled_peer x.state) false)
        kept ≡ is_dialling n h.entries
    dialling_is =
        by_links dialled_peer (λ l. is_open l h.entries && is_unfinished_dial n l h.entries)
        dialled_by ∙ sym (dialling_kept h legal n)

-- ---- who is allowed

module _ (h : History) (rules : AdmissionRules)
    (t : AdmissionFollows (admission_words h) rules) where
  none_named : (xs ys : List (List ℕ)) → ((q : List ℕ) → is_among q xs ≡ is_among q ys)
      → (length xs == 0) ≡ is_empty ys
  none_named [] [] q = refl
  none_named [] (y ∷ ys) q = grind (arith, q y, (same_decides y y).1 refl)
  none_named (x ∷ xs) [] q = grind (arith, q x, (same_decides x x).1 refl)
  none_named (x ∷ xs) (y ∷ ys) q = grind (arith, eqb-true (length (x ∷ xs)) 0)

  -- a name is allowed by the rules where it is allowed by the policy
  pub allowed_by : (n : List ℕ) → allows rules n ≡ allowed h n
  allowed_by n = λ i. none_named rules.allowed (allow_list h)
      (same_names rules.allowed (allow_list h) t.allowed) i
      || same_names rules.allowed (allow_list h) t.allowed n i

-- ---- a dial

-- the first rule that a dial breaks, by what is tested
pub dial_by : (h : History) (n : List ℕ) (own granted up dials room : Bool)
    → same n h.opening.name ≡ own → allowed h n ≡ granted → is_name_up n h.entries ≡ up
    → is_dialling n h.entries ≡ dials → nat_lt (kept_links h) 64 ≡ room
    → first_broken (dial_checks h n)
    ≡ cond own (Some Rule.OwnName)
    (cond (not granted) (Some Rule.NotAllowed)
    (cond up (Some Rule.LinkUp)
    (cond dials (Some Rule.LinkPending) (cond (not room) (Some Rule.LinksFull) None))))
dial_by h n own granted up dials room a b c d e = grind arith

-- an option that is no value
pub not_some : {A : Type 0} (o : Option A) → ((x : A) → o ≡ Some x → ⊥) → o ≡ None
not_some None f = refl
not_some (Some x) f = absurd (f x refl)

-- ---- the peers that are up and the own dials, as the kept links show them

-- what is said of a list of options is said of those that are there
pub any_some : {A B : Type 0} (test : B → Bool) (f : A → Option B) (xs : List A)
    → list_any test (flat_map (λ x. option_to_list (f x)) xs)
    ≡ list_any (λ x. option_map_or test (f x) false) xs
any_some test f [] = refl
any_some test f (x ∷ xs) = grind (arith, any_some test f xs)

-- some links show what all the kept ones do, where as many of them pass the test
module _ (h : History) (legal : IsPlayed h) (kept : List KeptLink)
    (t : LinksFollow (link_words h) kept) (n : List ℕ) (some : List KeptLink) where
  pub ups_are : list_any (λ x. option_map_or (λ m. same m n) (up_peer x.state) false) some
      ≡ list_any (λ x. option_map_or (λ m. same m n) (up_peer x.state) false) kept
      → pending.is_up (beside some) n ≡ is_name_up n h.entries
  ups_are q = any_some (λ m. same m n) (λ (x : KeptLink). up_peer x.state) some
      ∙ q ∙ up_is h n legal kept t

  pub dials_are : list_any (λ x. option_map_or (λ m. same m n) (dialled_peer x.state) false) some
      ≡ list_any (λ x. option_map_or (λ m. same m n) (dialled_peer x.state) false) kept
      → pending.is_dialled (beside some) n ≡ is_dialling n h.entries
  dials_are q = any_some (λ m. same m n) (λ (x : KeptLink). dialled_peer x.state) some
      ∙ q ∙ dialling_is h n legal kept t
