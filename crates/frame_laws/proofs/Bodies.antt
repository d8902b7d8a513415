-- What bodies make of a view, one after the other.
use Rattle.frame_laws.proofs
use proofs.Words.{ap, append-nil, arith, begins_in_order, Begun, begun_by, begun_by_more, begun_of}
use proofs.Words.{completed, completed_by, completed_by_more, ends_rows, Entry, false, frames_said}
use proofs.Words.{heard, is_about_rows, IsHonest, kept_after, known, length, List, Message}
use proofs.Words.{Message2, message_taken, None, Opening, Option, option_and_then, option_map_or}
use proofs.Words.{option_to_list, Pid, refl, says_rows, seen_by, slice_get, slice_get_within, Some}
use proofs.Words.{stated, suc, take, take-append-add, take-append-le, true, view_of, zero, ℕ, []}
use proofs.Words.{◌++◌, ◌+◌, ◌∷◌, ◌≡◌}
use proofs.Calm.{said_apart, seen_apart}

-- ---- lists

module _ {A : Type 0} where
  pub stands_first : (xs ys : List A) (n : ℕ) (x : A) → slice_get xs n ≡ Some x
      → slice_get (xs ++ ys) n ≡ Some x
  stands_first [] ys n x q = grind arith
  stands_first (y ∷ xs) ys zero x q = q
  stands_first (y ∷ xs) ys (suc n) x q = stands_first xs ys n x q

  pub stands_last : (xs : List A) (x : A) → slice_get (xs ++ x ∷ []) (length xs) ≡ Some x
  stands_last [] x = refl
  stands_last (y ∷ xs) x = stands_last xs x

  pub take_last : (xs : List A) (x : A) → take (length xs + 1) (xs ++ x ∷ []) ≡ xs ++ x ∷ []
  take_last xs x = take-append-add xs (x ∷ []) 1

  pub take_all : (xs : List A) (x : A) → take (length xs) (xs ++ x ∷ []) ≡ xs
  take_all xs x = grind (arith, take-append-add xs (x ∷ []) 0, append-nil)

pub honest_first : (v : ℕ) (name : List ℕ) (creation : ℕ) (s : List ℕ) (xs ys : List (List ℕ))
    → IsHonest v name creation s (xs ++ ys) → IsHonest v name creation s xs
honest_first v name creation s xs ys it = record {
  own = λ n body m q. it.own n body m (stands_first xs ys n body q);
  order = grind (arith, begins_in_order, said_apart);
  few = λ n body q kind number last rows says.
      let less = slice_get_within xs n body q in
      rw (take-append-le n xs ys (omega arith)) at
      (it.few n body (stands_first xs ys n body q) kind number last rows says);
  there = λ n body q number last rows says.
      let less = slice_get_within xs n body q in
      rw (take-append-le n xs ys (omega arith)) at
      (it.there n body (stands_first xs ys n body q) number last rows says);
}

-- ---- one body more

-- the message that a body completes, behind these
abbrev pub completes_there : ℕ → List (List ℕ) → List ℕ → Option Message
completes_there v bodies body =
    option_and_then (completed (begun_of v bodies)) (message_taken v body)

more_said : (fs : List Message2) (x : Option Message2)
    → completed_by None (fs ++ option_to_list x)
    ≡ completed_by None fs ++ option_to_list (option_and_then (completed (begun_by None fs)) x)
more_said fs None = grind (arith, append-nil)
more_said fs (Some m) = completed_by_more None fs m

more_begun : (fs : List Message2) (x : Option Message2)
    → begun_by None (fs ++ option_to_list x) ≡ kept_after (begun_by None fs) x
more_begun fs None = ap (begun_by None) (append-nil fs)
more_begun fs (Some m) = begun_by_more None fs m

module _ (v : ℕ) (bodies : List (List ℕ)) (body : List ℕ) where
  pub frames_more : frames_said v (bodies ++ body ∷ [])
      ≡ frames_said v bodies ++ option_to_list (message_taken v body)
  frames_more = grind (arith, said_apart)

  pub begun_more : begun_of v (bodies ++ body ∷ [])
      ≡ kept_after (begun_of v bodies) (message_taken v body)
  begun_more = grind (arith, frames_more, more_begun)

  pub view_more : (s g : List ℕ) (p : Pid) → view_of v s g p (bodies ++ body ∷ [])
      ≡ seen_by s g p (option_to_list (completes_there v bodies body)) (view_of v s g p bodies)
  view_more = grind (arith, frames_more, more_said, seen_apart)

-- what completes rows of s is a last part of them
pub says_ends : (s : List ℕ) (b : Option Begun) (x : Option Message2)
    → option_map_or (says_rows s) (option_and_then (completed b) x) false
    ≡ option_map_or (ends_rows s) x false
says_ends = grind arith

module _ (s g : List ℕ) (p : Pid) where
  -- one that says no rows of s, and leaves something known, leaves all
  pub left_so : (x : Option Message) (v : Option ℕ) (n : ℕ)
      → option_map_or (says_rows s) x false ≡ false → seen_by s g p (option_to_list x) v ≡ Some n
      → (w : Option ℕ) → seen_by s g p (option_to_list x) w ≡ w
  left_so = grind arith

  -- one that isn't about rows of s leaves all
  pub apart_so : (x : Option Message) → is_about_rows s x ≡ false → (w : Option ℕ)
      → seen_by s g p (option_to_list x) w ≡ w
  apart_so = grind arith

pub is_known : (o : Opening) (l : ℕ) (s g : List ℕ) (p : Pid) (es : List Entry)
    → heard o l s es ≡ true
    → known o l s g p es ≡ Some (stated o l s g p es)
is_known = grind arith

pub known_heard : (o : Opening) (l : ℕ) (s g : List ℕ) (p : Pid) (es : List Entry) (n : ℕ)
    → known o l s g p es ≡ Some n → heard o l s es ≡ true
known_heard = grind arith
