-- The kept links after an entry: which of them stay, and how one of them or each is changed.
use Rattle.node_core.proofs
use proofs.Words.{AllByRecursion, ap, arith, Bool, challenge_in, Climbs, cond, eqb-true, facts}
use proofs.Words.{false, filter, get_or, History, is_kept, is_open, is_some, IsLinkOf, IsPlayed}
use proofs.Words.{IsSameLink, IsState, kept_among, KeptLink, length, link_place, link_words}
use proofs.Words.{LinkFacts, LinksFollow, LinkWords, List, list_all, list_any, ltb-true, map}
use proofs.Words.{map-id, Name, nat_eq, nat_lt, None, Option, option_map_or, position}
use proofs.Words.{position-Some, refl, set, Some, subst, suc, sym, true, zero, ℕ, [], ◌&&◌, ◌<◌}
use proofs.Words.{◌==◌, ◌∙◌, ◌∷◌, ◌≡◌}
use Rattle.policy_audit.specs.Hearing.{begun}
use Rattle.std.proofs.Math.Seq.{map-set_same}
use Rattle.std.proofs.lemmas.List.Folds.{list_all-map, list_all_at}
use Rattle.std.proofs.lemmas.List.Elements.{All-from_recursion}
use proofs.Found.{any_map, place_found}

-- the version of a link, by what the node knows and what the peer gave
abbrev pub version_with : ℕ → Option Name → ℕ
version_with own gave = cond (own == 2 && option_map_or (λ f. f.version) gave 1 == 2) 2 1

-- what is said of a link is the same, where its words are
pub facts_same : (h k : History) → k.opening ≡ h.opening → (l : ℕ)
    → IsSameLink l h.entries k.entries → is_open l k.entries ≡ is_open l h.entries
    → facts k l ≡ facts h l
facts_same h k opening l it opens = λ i. record {
  own = (opening i).name;
  hidden = (opening i).hidden;
  open_now = opens i;
  whole = it.whole i;
  awaited = it.awaits i;
  peer = it.peer i;
  said = it.given i;
  version = version_with (opening i).links (it.given i);
  challenge = option_map_or (λ o. challenge_in o.start) (it.opened i) 0;
  begun = (ap (λ o. begun o l k.entries) opening ∙ it.begun h.opening) i;
}

-- and so is the link
pub same_link : {w v : LinkWords} (x : KeptLink) → v.facts x.number ≡ w.facts x.number
    → v.waiting x.number ≡ w.waiting x.number → IsLinkOf w x → IsLinkOf v x
same_link x facts waits it = record {
  state = subst (λ f. IsState f x.state) (sym facts) it.state;
  begun = it.begun ∙ sym (ap (λ (f : LinkFacts). f.begun) facts);
  frames = it.frames ∙ sym waits;
  idle = it.idle;
}

-- ---- all links

module _ (w v : LinkWords) (f : KeptLink → KeptLink) (stays : ℕ → Bool)
    (same : (x : KeptLink) → (f x).number ≡ x.number) where
  numbers_on : (kept : List KeptLink)
      → map (λ x. x.number) (filter (λ x. stays x.number) (map f kept))
      ≡ filter stays (map (λ x. x.number) kept)
  numbers_on [] = refl
  numbers_on (x ∷ xs) = grind (arith, same x, numbers_on xs)

  each_on : ((x : KeptLink) → stays x.number ≡ true → IsLinkOf w x → IsLinkOf v (f x))
      → (kept : List KeptLink) → AllByRecursion (IsLinkOf w) kept
      → AllByRecursion (IsLinkOf v) (filter (λ x. stays x.number) (map f kept))
  each_on on [] a = tt
  each_on on (x ∷ xs) a = grind (arith, same x, on x, each_on on xs a.1)

  pub all_follow : (kept : List KeptLink) → LinksFollow w kept → v.numbers ≡ filter stays w.numbers
      → ((x : KeptLink) → stays x.number ≡ true → IsLinkOf w x → IsLinkOf v (f x))
      → LinksFollow v (filter (λ x. stays x.number) (map f kept))
  all_follow kept t numbers on = record {
    numbers = numbers_on kept ∙ ap (filter stays) t.numbers ∙ sym numbers;
    each = each_on on kept t.each;
  }

-- ---- one link at a place

-- the place of a number is within the list, and the link there has that number
pub place_is : (kept : List KeptLink) (j p : ℕ) (d : KeptLink) → link_place j kept ≡ Some p
    → (p < length kept) × ((get_or kept p d).number ≡ j)
place_is kept j p d q = let is = position-Some (λ x. nat_eq x.number j) kept p d q in
    (is.0, eqb-true (get_or kept p d).number j is.1)

-- what holds of each holds of the one at a place
pub each_at : {A : Type 0} (P : A → Type 0) (xs : List A) (p : ℕ) (d : A) → AllByRecursion P xs
    → p < length xs → P (get_or xs p d)
each_at P xs p d a less = All-from_recursion P xs a p d less

-- numbers that climb stay above the one before them
pub below : (n : ℕ) (xs : List KeptLink) (p : ℕ) (d : KeptLink)
    → list_all (λ m. nat_lt n m) (map (λ x. x.number) xs) ≡ true → p < length xs
    → n < (get_or xs p d).number
below n xs p d l less =
    ltb-true n (get_or xs p d).number
    (grind (
      arith,
      list_all-map (λ m. nat_lt n m) (λ x. x.number) xs,
      list_all_at (λ x. nat_lt n x.number) xs p d,
    ))

-- one link is changed, all others are as before
module _ (w v : LinkWords) (y : KeptLink) (here : IsLinkOf v y)
    (on : (x : KeptLink) → nat_eq x.number y.number ≡ false → IsLinkOf w x → IsLinkOf v x) where
  above : (n : ℕ) (xs : List KeptLink) → list_all (λ m. nat_lt n m) (map (λ x. x.number) xs) ≡ true
      → n ≡ y.number → AllByRecursion (IsLinkOf w) xs → AllByRecursion (IsLinkOf v) xs
  above n [] l e a = tt
  above n (x ∷ xs) l e a =
      grind (arith, on x, eqb-true x.number y.number, ltb-true n x.number, above n xs)

  changed : (xs : List KeptLink) (p : ℕ) (d : KeptLink) → Climbs (map (λ x. x.number) xs)
      → AllByRecursion (IsLinkOf w) xs → p < length xs → y.number ≡ (get_or xs p d).number
      → AllByRecursion (IsLinkOf v) (set xs p y)
  changed [] p d c a less is = tt
  changed (x ∷ xs) zero d c a less is = (here, above x.number xs c.0 (sym is) a.1)
  changed (x ∷ xs) (suc p) d c a less is =
      grind (
        arith,
        on x,
        eqb-true x.number y.number,
        below x.number xs p d c.0,
        changed xs p d c.1 a.1,
      )

  pub one_follows : (kept : List KeptLink) (p : ℕ) (d : KeptLink) → LinksFollow w kept
      → Climbs w.numbers → v.numbers ≡ w.numbers → p < length kept
      → y.number ≡ (get_or kept p d).number → LinksFollow v (set kept p y)
  one_follows kept p d t climbs numbers less is = record {
    numbers = map-set_same (λ x. x.number) kept p y d is ∙ t.numbers ∙ sym numbers;
    each = changed kept p d (subst Climbs (sym t.numbers) climbs) t.each less is;
  }

-- ---- the place of a kept link, and links that are taken away

-- the links that stay follow, where each that stays does
pub stay_follow : (w v : LinkWords) (stays : ℕ → Bool) (kept : List KeptLink) → LinksFollow w kept
    → v.numbers ≡ filter stays w.numbers
    → ((x : KeptLink) → stays x.number ≡ true → IsLinkOf w x → IsLinkOf v x)
    → LinksFollow v (filter (λ x. stays x.number) kept)
stay_follow w v stays kept t numbers on =
    subst (λ xs. LinksFollow v (filter (λ x. stays x.number) xs)) (map-id kept)
    (all_follow w v (λ x. x) stays (λ x. refl) kept t numbers on)

-- one that doesn't stay may be changed before
pub filter_set : {A : Type 0} (test : A → Bool) (xs : List A) (i : ℕ) (d y : A) → i < length xs
    → test (get_or xs i d) ≡ false → test y ≡ false → filter test (set xs i y) ≡ filter test xs
filter_set test [] i d y less was is = refl
filter_set test (x ∷ xs) zero d y less was is = grind arith
filter_set test (x ∷ xs) (suc i) d y less was is = grind (arith, filter_set test xs i d y)

-- where all stay, the list stays
pub filter_all : {A : Type 0} (test : A → Bool) → ((x : A) → test x ≡ true) → (xs : List A)
    → filter test xs ≡ xs
filter_all test all [] = refl
filter_all test all (x ∷ xs) = grind (arith, all x, filter_all test all xs)

module _ (h : History) (legal : IsPlayed h) (kept : List KeptLink)
    (t : LinksFollow (link_words h) kept) (l : ℕ) where
  -- a link is kept where it has a place
  pub kept_by_place : is_some (position (λ x. nat_eq x.number l) kept) ≡ is_kept h l
  kept_by_place =
      place_found (λ x. nat_eq x.number l) kept
      ∙ sym (any_map (λ n. nat_eq n l) (λ x. x.number) kept)
      ∙ ap (list_any (λ n. nat_eq n l)) t.numbers ∙ sym (kept_among h legal l)

  pub not_kept : link_place l kept ≡ None → is_kept h l ≡ false
  not_kept none = sym kept_by_place ∙ ap is_some none

  pub is_kept_at : (p : ℕ) → link_place l kept ≡ Some p → is_kept h l ≡ true
  is_kept_at p found = sym kept_by_place ∙ ap is_some found

  -- the link at its place
  pub link_at : (p : ℕ) (d : KeptLink) → link_place l kept ≡ Some p → IsLinkOf (link_words h)
      (get_or kept p d) × ((get_or kept p d).number ≡ l) × (p < length kept)
  link_at p d found = let is = place_is kept l p d found in
      (each_at (IsLinkOf (link_words h)) kept p d t.each is.0, is.1, is.0)
