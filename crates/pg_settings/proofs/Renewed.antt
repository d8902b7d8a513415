-- A life that is told what the last one was told holds what that did.
use Rattle.pg_settings.specs
use Rattle.std.proofs.Common.{ap, append-nil, arith, Bool, cond, false, flat_map, List, map, nat_lt}
use Rattle.std.proofs.Common.{None, Option, refl, reverse, Some, true, ℕ, [], ◌++◌, ◌∙◌, ◌∷◌, ◌≡◌}
use Rattle.std.proofs.Common.{◌≤◌}
use Rattle.std.proofs.lemmas.List.{reverse-append}
use Rattle.std.specs.List.{list_any}
use Rattle.std.specs.Map.{lookup}
use Rattle.std.proofs.lemmas.Grind.{flat_map-append}
use Rattle.std.specs.Str.{bytes_eq}
use Rattle.std.proofs.lemmas.Slice.Eq.{bytes_eq-Decides}
use Rattle.dist_types.specs.Difference.{is_empty}
use Rattle.dist_types.specs.Listing.{how_many, is_among, occurrences, same}
use Rattle.dist_types.proofs.Orders.{same_decides}
use Rattle.policy_audit.specs.declared.event.Event.{Event}
use Rattle.policy_audit.specs.declared.event.Event.TheVariants as event
use Rattle.policy_audit.specs.Admission.{names_allowed}
use Rattle.policy_audit.specs.History.{first_of}
use Rattle.policy_audit.specs.Own.{starts}
use Rattle.node_core.specs.AdmissionFacts.{AreOnce}
use specs.Settings.{cookies_told, names_told, own_told, scopes_told}

-- ---- the last that is said

abbrev pub or_else : {B : Type 0} → Option B → Option B → Option B
or_else (Some y) o = Some y
or_else None o = o

-- what is said last is found first
abbrev pub last_of : {A B : Type 0} → (A → Option B) → List A → Option B
last_of f xs = first_of f (reverse xs)

module _ {A B : Type 0} (f : A → Option B) where
  first_both : (xs ys : List A) → first_of f (xs ++ ys) ≡ or_else (first_of f xs) (first_of f ys)
  first_both [] ys = refl
  first_both (x ∷ xs) ys = by (f x) (first_both xs ys)
    where
      by : (o : Option B) → first_of f (xs ++ ys) ≡ or_else (first_of f xs) (first_of f ys)
          → (elim o as (λ _. Option B) [ Some y ↦ Some y | None ↦ first_of f (xs ++ ys) ])
          ≡ or_else (elim o as (λ _. Option B) [ Some y ↦ Some y | None ↦ first_of f xs ])
          (first_of f ys)
      by (Some y) rest = refl
      by None rest = rest

  pub last_both : (xs ys : List A) → last_of f (xs ++ ys) ≡ or_else (last_of f ys) (last_of f xs)
  last_both xs ys = ap (first_of f) (reverse-append xs ys) ∙ first_both (reverse ys) (reverse xs)

  last_one : (x : A) → last_of f (x ∷ []) ≡ f x
  last_one x = by (f x)
    where
      by : (o : Option B)
          → (elim o as (λ _. Option B) [ Some y ↦ Some y | None ↦ None ]) ≡ o
      by (Some y) = refl
      by None = refl

  pub last_cons : (x : A) (xs : List A) → last_of f (x ∷ xs) ≡ or_else (last_of f xs) (f x)
  last_cons x xs = last_both (x ∷ []) xs ∙ ap (or_else (last_of f xs)) (last_one x)

  -- of what says nothing there is no last
  pub last_none : {C : Type 0} (g : C → A) → ((c : C) → f (g c) ≡ None) → (cs : List C)
      → last_of f (map g cs) ≡ None
  last_none g none [] = refl
  last_none g none (c ∷ cs) =
      last_cons (g c) (map g cs)
      ∙ grind (arith, last_none g none cs, none c)

-- ---- cookies

module _ (n : List ℕ) (f : Event → Option (List ℕ))
    (is : (p : List ℕ × List ℕ)
    → f (event.SetCookieFor p.0 p.1) ≡ cond (same p.0 n) (Some p.1) None) where
  abbrev pub names : List (List ℕ × List ℕ) → List (List ℕ)
  names ps = map (λ p. p.0) ps

  alike : (m : List ℕ) → bytes_eq n m ≡ same m n
  alike m = grind (arith, bytes_eq-Decides n m, same_decides m n)

  absent : (ps : List (List ℕ × List ℕ)) → occurrences same n (names ps) ≡ 0
      → lookup (bytes_eq n) ps ≡ None
  absent [] none = refl
  absent (p ∷ ps) none = grind (arith, alike p.0, absent ps)

  -- the cookie that is told last is the one that the peer has, where each has one
  pub last_cookie : (ps : List (List ℕ × List ℕ)) → occurrences same n (names ps) ≤ 1
      → last_of f (cookies_told ps) ≡ lookup (bytes_eq n) ps
  last_cookie [] few = refl
  last_cookie (p ∷ ps) few =
      last_cons f (event.SetCookieFor p.0 p.1) (cookies_told ps)
      ∙ grind (arith, is p, alike p.0, last_cookie ps, absent ps)

-- ---- scopes

-- a scope is told to run just where it is one of these
pub last_scope : (s : List ℕ) (ss : List (List ℕ))
    → last_of (starts s) (scopes_told ss) ≡ cond (is_among s ss) (Some true) None
last_scope s [] = refl
last_scope s (t ∷ ts) =
    last_cons (starts s) (event.StartScope t) (scopes_told ts)
    ∙ ap (λ o. or_else o (cond (same t s) (Some true) None)) (last_scope s ts)
    ∙ grind arith

-- ---- names

-- of what allows none no name is allowed
pub allows_none : {C : Type 0} (g : C → Event) → ((c : C) → names_allowed (g c) ≡ [])
    → (cs : List C) → flat_map names_allowed (reverse (map g cs)) ≡ []
allows_none g none [] = refl
allows_none g none (c ∷ cs) =
    ap (flat_map names_allowed) (reverse-append (g c ∷ []) (map g cs))
    ∙ flat_map-append names_allowed (reverse (map g cs)) (g c ∷ [])
    ∙ grind (arith, allows_none g none cs, none c)

any_counts : {A : Type 0} (test : A → Bool) (xs : List A)
    → list_any test xs ≡ nat_lt 0 (how_many test xs)
any_counts test [] = refl
any_counts test (x ∷ xs) = grind (arith, any_counts test xs)

module _ (xs ys : List (List ℕ)) (once : AreOnce xs ys) where
  pub among_once : (n : List ℕ) → is_among n xs ≡ is_among n ys
  among_once n = any_counts (λ m. same m n) xs ∙ grind (arith, once n)

  -- those of which the names stand there once are as many as none where these are
  pub none_once : is_empty xs ≡ is_empty ys
  none_once = by xs ys among_once
    where
      by : (ns ms : List (List ℕ)) → ((n : List ℕ) → is_among n ns ≡ is_among n ms)
          → is_empty ns ≡ is_empty ms
      by [] [] both = refl
      by (n ∷ ns) (m ∷ ms) both = refl
      by [] (m ∷ ms) both = grind (arith, both m, same_decides m m)
      by (n ∷ ns) [] both = grind (arith, both n, same_decides n n)

pub names_among : (ns : List (List ℕ)) → flat_map names_allowed (reverse (names_told ns)) ≡ ns
names_among [] = refl
names_among (n ∷ ns) = append-nil (n ∷ ns)

pub allowed_both : (xs ys : List Event) → flat_map names_allowed (reverse (xs ++ ys))
    ≡ flat_map names_allowed (reverse ys) ++ flat_map names_allowed (reverse xs)
allowed_both xs ys = ap (flat_map names_allowed) (reverse-append xs ys)
    ∙ flat_map-append names_allowed (reverse ys) (reverse xs)

pub own_allows : (begun own : List ℕ) → flat_map names_allowed (reverse (own_told begun own)) ≡ []
own_allows begun own = grind arith

-- ---- all of it

module _ {B : Type 0} (f : Event → Option B) where
  pub last_names : ((ns : List (List ℕ)) → f (event.Allow ns) ≡ None) → (ns : List (List ℕ))
      → last_of f (names_told ns) ≡ None
  last_names none [] = refl
  last_names none (n ∷ ns) = last_one f (event.Allow (n ∷ ns)) ∙ none (n ∷ ns)

  pub last_own : (begun own : List ℕ) → last_of f (own_told begun own)
      ≡ cond (same own begun) None (f (event.SetCookie own))
  last_own begun own = by (same own begun)
    where
      by : (b : Bool) → last_of f (cond b [] (event.SetCookie own ∷ []))
          ≡ cond b None (f (event.SetCookie own))
      by true = refl
      by false = last_one f (event.SetCookie own)

  pub last_all : (own each allow scopes : List Event)
      → last_of f (own ++ each ++ allow ++ scopes)
      ≡ or_else (last_of f scopes)
      (or_else (last_of f allow) (or_else (last_of f each) (last_of f own)))
  last_all own each allow scopes =
      last_both f (own ++ each ++ allow) scopes
      ∙ ap (or_else (last_of f scopes))
      (last_both f (own ++ each) allow ∙ ap (or_else (last_of f allow)) (last_both f own each))
