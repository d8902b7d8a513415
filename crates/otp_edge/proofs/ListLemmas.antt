-- Elements of a list, read one behind the other.
use Rattle.std.specs.Prelude.{All, length, List, [], ◌∷◌}
use Rattle.std.proofs.Common.{ap, append-nil, append_assoc, arith, drop, refl, subst, suc, sym}
use Rattle.std.proofs.Common.{zero, ℕ, ◌++◌, ◌+◌, ◌<◌, ◌^◌, ◌∙◌, ◌≡◌}
use Rattle.std.specs.List.{flat_map}
use Rattle.otp_edge.proofs.Words.{Bool, Decides-eqb, nil_from_length, true, ◌==◌, ◌≤◌}
use Rattle.external_terms.specs.Terms.{SpellsTerm}
use Rattle.otp_edge.specs.Lists.{Front, IsList, list_front, listed, StandsFirst}
use Rattle.external_terms.specs.Values.{nil_bytes}
use Rattle.std.proofs.lemmas.Grind.{flat_map-append}
use Rattle.std.proofs.lemmas.List.{length-append, length_push}
use Rattle.std.proofs.lemmas.List.Elements.{All-head, All-nil, All-push, All-tail}

-- nothing is read yet
pub none_read : {A : Type 0} (spell : A → List ℕ) (Within : A → Type 0) (bytes : List ℕ)
    → Front spell Within bytes [] bytes
none_read spell Within bytes = record {
  each = All-nil Within;
  whole = refl;
  only = λ xs later few each whole. (refl, whole);
}

-- what stands next, where elements are left
pub next_left : {A : Type 0} (Within : A → Type 0) (n : ℕ) (xs : List A) → n < length xs
    → All Within xs → (x : A) × Within x × (drop n xs ≡ x ∷ drop (n + 1) xs)
next_left Within n [] some each = absurd (omega arith)
next_left Within zero (x ∷ xs) some each = (x, All-head Within x xs each, refl)
next_left Within (suc n) (x ∷ xs) some each =
    let next = next_left Within n xs (omega arith) (All-tail Within x xs each) in
    let more : suc (n + 1) ≡ suc n + 1 = omega arith in
    (next.0, next.1, next.2 ∙ ap (λ k. next.0 ∷ drop k (x ∷ xs)) more)

-- the bytes of what stands next
pub left_bytes : {A : Type 0} (spell : A → List ℕ) (Within : A → Type 0) (bytes : List ℕ)
    (items : List A) (rest : List ℕ) → Front spell Within bytes items rest → (xs : List A)
    (later : List ℕ) → length items < length xs → All Within xs
    → bytes ≡ flat_map spell xs ++ later
    → (x : A) × Within x × ((more : List ℕ) × (rest ≡ spell x ++ more)
    × (xs ≡ items ++ x ∷ drop (length items + 1) xs))
left_bytes spell Within bytes items rest read xs later some each whole =
    let next = next_left Within (length items) xs some each in
    let so_far = read.only xs later (omega arith) each whole in (
      next.0,
      next.1,
      (
        flat_map spell (drop (length items + 1) xs) ++ later,
        so_far.1 ∙ ap (λ ys. flat_map spell ys ++ later) next.2
            ∙ append_assoc (spell next.0) (flat_map spell (drop (length items + 1) xs)) later,
        so_far.0 ∙ ap (λ ys. items ++ ys) next.2,
      ),
    )

-- what comes of elements is no less with what comes of those behind them
pub no_less : {A B : Type 0} (f : A → List B) (items tail xs : List A) (x : A)
    → xs ≡ items ++ x ∷ tail → length (flat_map f items ++ f x) ≤ length (flat_map f xs)
no_less f items tail xs x is =
    let all = ap (λ l. length (flat_map f l)) is ∙ ap length (flat_map-append f items (x ∷ tail)) in
    omega (
      arith,
      all,
      length-append (flat_map f items) (f x ++ flat_map f tail),
      length-append (f x) (flat_map f tail),
      length-append (flat_map f items) (f x),
    )

-- no other list can have been read
next_only : {A : Type 0} (spell : A → List ℕ) (Within : A → Type 0) (bytes : List ℕ)
    (items : List A) (rest : List ℕ) → Front spell Within bytes items rest → (x : A)
    (behind : List ℕ) → StandsFirst spell Within rest x behind → (xs : List A) (later : List ℕ)
    → length items < length xs → All Within xs → bytes ≡ flat_map spell xs ++ later
    → (xs ≡ (items ++ x ∷ []) ++ drop (length items + 1) xs)
    × (behind ≡ flat_map spell (drop (length items + 1) xs) ++ later)
next_only spell Within bytes items rest front x behind first xs later some each whole =
    let next = next_left Within (length items) xs some each in
    let so_far = front.only xs later (omega arith) each whole in
    let tail = flat_map spell (drop (length items + 1) xs) ++ later in
    let same = first.only next.0 tail next.1 (so_far.1 ∙ ap (λ ys. flat_map spell ys ++ later)
    next.2 ∙ append_assoc (spell next.0) (flat_map spell (drop (length items + 1) xs)) later) in (
      so_far.0 ∙ ap (λ ys. items ++ ys) next.2
          ∙ ap (λ y. items ++ y ∷ drop (length items + 1) xs) same.0
          ∙ sym (append_assoc items (x ∷ []) (drop (length items + 1) xs)),
      sym same.1,
    )

-- one more element is read
pub one_more : {A : Type 0} (spell : A → List ℕ) (Within : A → Type 0) (bytes : List ℕ)
    (items : List A) (rest : List ℕ) → Front spell Within bytes items rest → (x : A)
    (behind : List ℕ) → StandsFirst spell Within rest x behind → (more : List A)
    → more ≡ items ++ x ∷ [] → Front spell Within bytes more behind
one_more spell Within bytes items rest front x behind first more grown =
    rw grown (record {
      each = All-push Within items x front.each first.within;
      whole = front.whole ∙ ap (λ r. flat_map spell items ++ r) first.bytes
          ∙ simp (flat_map-append, append-nil, append_assoc);
      only = λ xs later few each whole.
          let long = length_push items x in
          rw long (next_only spell Within bytes items rest front x behind first xs later
          (omega (arith, long)) each whole);
    })

-- nothing is left where all are read
none_left : {A : Type 0} (n : ℕ) (xs : List A) → length xs ≡ n → drop n xs ≡ []
none_left zero [] same = refl
none_left (suc n) [] same = refl
none_left zero (x ∷ xs) same = absurd (omega arith)
none_left (suc n) (x ∷ xs) same = none_left n xs (omega arith)

-- all elements are read, and no others can be
pub all_read : {A : Type 0} (spell : A → List ℕ) (Within : A → Type 0) (bytes : List ℕ)
    (items : List A) (rest : List ℕ) → Front spell Within bytes items rest → (xs : List A)
    (later : List ℕ) → length items ≡ length xs → All Within xs
    → bytes ≡ flat_map spell xs ++ later → (xs ≡ items) × (rest ≡ later)
all_read spell Within bytes items rest front xs later same each whole =
    let read = front.only xs later (omega arith) each whole in
    let none = none_left (length items) xs (sym same) in (
      read.0 ∙ ap (λ ys. items ++ ys) none ∙ append-nil items,
      read.1 ∙ ap (λ ys. flat_map spell ys ++ later) none,
    )

-- a list that is spelled, by its parts
pub list_parts : {A : Type 0} (spell : A → List ℕ) (xs : List A) (later : List ℕ)
    → listed spell xs ++ later
    ≡ list_front (length xs) ++ (flat_map spell xs ++ (nil_bytes ++ later))
list_parts spell xs later = simp append_assoc

pub none_inside : {A : Type 0} (spell : A → List ℕ) (xs : List A) → length xs ≡ 0
    → flat_map spell xs ≡ []
none_inside spell [] same = refl
none_inside spell (x ∷ xs) same = absurd (omega arith)

-- how the front of a list is read
abbrev pub ReadsFront : List ℕ → ℕ → List ℕ → Type 0
ReadsFront bytes count inner = (n : ℕ) (inside later : List ℕ) → n < 2 ^ 32
    → (n ≡ 0 → inside ≡ []) → bytes ≡ list_front n ++ (inside ++ (nil_bytes ++ later))
    → (count ≡ n) × (inner ≡ inside ++ (nil_bytes ++ later))

-- what stands behind the front of a list
pub inner_of : {A : Type 0} (spell : A → List ℕ) (Within : A → Type 0) (bytes : List ℕ)
    (count : ℕ) (inner : List ℕ) → ReadsFront bytes count inner → (xs : List A) (later : List ℕ)
    → IsList Within xs → bytes ≡ listed spell xs ++ later
    → (count ≡ length xs) × (inner ≡ flat_map spell xs ++ (nil_bytes ++ later))
inner_of spell Within bytes count inner reads xs later is whole =
    reads (length xs) (flat_map spell xs) later is.few (none_inside spell xs)
    (whole ∙ list_parts spell xs later)

-- a list stands in front where its front, its elements and its end were read
pub list_first : {A : Type 0} (spell : A → List ℕ) (Within : A → Type 0) (bytes : List ℕ)
    (count : ℕ) (inner : List ℕ) (items : List A) (behind rest : List ℕ) → count < 2 ^ 32
    → bytes ≡ list_front count ++ inner → ReadsFront bytes count inner → length items ≡ count
    → Front spell Within inner items behind → behind ≡ nil_bytes ++ rest
    → StandsFirst (listed spell) (IsList Within) bytes items rest
list_first spell Within bytes count inner items behind rest fits begins reads long front end =
    record {
      within = record { each = front.each; few = omega arith };
      bytes = begins ∙ ap (λ n. list_front n ++ inner) (sym long)
          ∙ ap (λ l. list_front (length items) ++ l) (front.whole
          ∙ ap (λ l. flat_map spell items ++ l) end) ∙ sym (list_parts spell items rest);
      only = λ xs later is whole.
          let inside = inner_of spell Within bytes count inner reads xs later is whole in
          let all = all_read spell Within inner items behind front xs (nil_bytes ++ later)
          (long ∙ inside.0) is.each inside.1 in
          (all.0, ap (drop 1) (sym all.1 ∙ end));
    }

-- ---- one behind the other

-- what stands first where nothing is left
pub alone : {A : Type 0} (spell : A → List ℕ) (Within : A → Type 0) (bytes : List ℕ) (x : A)
    (rest : List ℕ) → StandsFirst spell Within bytes x rest → rest ≡ [] → bytes ≡ spell x
alone spell Within bytes x rest first none =
    first.bytes ∙ ap (λ l. spell x ++ l) none ∙ append-nil (spell x)

-- what is alone is the first, and nothing is left
pub alone_only : {A : Type 0} (spell : A → List ℕ) (Within : A → Type 0) (bytes : List ℕ) (x : A)
    (rest : List ℕ) → StandsFirst spell Within bytes x rest → (y : A) → Within y
    → bytes ≡ spell y → (y ≡ x) × (rest ≡ [])
alone_only spell Within bytes x rest first y is whole =
    let same = first.only y [] is (whole ∙ sym (append-nil (spell y))) in
    (same.0, sym same.1)

-- bytes are one term where nothing stands behind the first
pub one_term : (bytes term rest : List ℕ) (none : Bool) → none ≡ (length rest == 0)
    → SpellsTerm term → bytes ≡ term ++ rest
    → ((t r : List ℕ) → SpellsTerm t → bytes ≡ t ++ r → (term ≡ t) × (rest ≡ r))
    → (none ≡ true → SpellsTerm bytes) × (SpellsTerm bytes → none ≡ true)
one_term bytes term rest none is spelled whole only = (
  λ h. subst SpellsTerm (sym (whole ∙ ap (λ r. term ++ r) (nil_from_length rest
      ((Decides-eqb (length rest) 0).0 (sym is ∙ h))) ∙ append-nil term)) spelled,
  λ all. is ∙ ap (λ (r : List ℕ). length r == 0) (only bytes [] all (sym (append-nil bytes))).1,
)
