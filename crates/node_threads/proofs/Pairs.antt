-- Pairs of passes, one after another.
use Rattle.node_threads.specs
use Rattle.std.proofs.Common.{false, is_some, length, List, None, Option, refl, Some, suc, zero, ℕ}
use Rattle.std.proofs.Common.{[], ◌++◌, ◌+◌, ◌∷◌, ◌≡◌}
use Rattle.std.specs.List.{AllZip}
use Rattle.std.specs.Option.{unwrap_or}
use Rattle.std.proofs.lemmas.List.{length-append}
use specs.declared.serving.Pair.{Pair}
use specs.declared.accepting.Held.{Held}
use specs.declared.accepting.Held.TheVariants.{Ended, Running}
use specs.declared.accepting.Stop.{Stop}
use specs.Calls.{Record}
use specs.Accepting.{Finishes, FirstAre, HaveServed, IsAtWork, Opens, SoFar}
use specs.Accepting.{Turns, WillRest, WillServe, Works}
use Rattle.node_threads.proofs.Openings.{opens_none}

-- a count beside a list that gains an element
pub one_more : {A : Type 0} (xs : List A) (x : A) {n m : ℕ} → m ≡ n + 1 → n ≡ length xs →
    m ≡ length (xs ++ x ∷ [])
one_more xs x more is = rw (length-append xs (x ∷ []), more, is) refl

module _ {A B : Type 0} (First Other : A → B → Type 0) where
  -- one more of the others
  pub other_push : (n : ℕ) (xs : List A) (ys : List B) (x : A) (y : B) →
      FirstAre First Other n xs ys → Other x y
      → FirstAre First Other n (xs ++ x ∷ []) (ys ++ y ∷ [])
  other_push zero [] [] x y are one = (one, refl)
  other_push (suc n) [] [] x y are one = cc
  other_push zero (a ∷ xs) (b ∷ ys) x y are one = (are.0, other_push 0 xs ys x y are.1 one)
  other_push (suc n) (a ∷ xs) (b ∷ ys) x y are one = (are.0, other_push n xs ys x y are.1 one)
  other_push n xs ys x y are one = absurd are

  -- one more of the first, where all are
  pub first_push : (xs : List A) (ys : List B) (x : A) (y : B) →
      FirstAre First Other (length xs) xs ys → First x y →
      FirstAre First Other (length (xs ++ x ∷ [])) (xs ++ x ∷ []) (ys ++ y ∷ [])
  first_push [] [] x y are one = (one, refl)
  first_push (a ∷ xs) (b ∷ ys) x y are one = (are.0, first_push xs ys x y are.1 one)
  first_push xs ys x y are one = absurd are

-- pairs come back as their threads promise
pub all_finished : (n : ℕ) (pairs : List Pair) (held : List Held) (back : List Pair) →
    FirstAre WillServe WillRest n pairs held → AllZip Finishes held back → HaveServed n pairs back
all_finished n [] [] [] are all = are
all_finished n [] [] (b ∷ back) are all = absurd all
all_finished n [] (h ∷ held) back are all = absurd are
all_finished zero (p ∷ pairs) [] back are all = absurd are
all_finished (suc n) (p ∷ pairs) [] back are all = absurd are
all_finished n (p ∷ pairs) (h ∷ held) [] are all = absurd all
all_finished zero (p ∷ pairs) (h ∷ held) (b ∷ back) are all =
    (are.0 b all.0, all_finished 0 pairs held back are.1 all.1)
all_finished (suc n) (p ∷ pairs) (h ∷ held) (b ∷ back) are all =
    (are.0 b all.0, all_finished n pairs held back are.1 all.1)

-- pairs that nothing has come to
pub none_served : (pairs : List Pair) → HaveServed 0 pairs pairs
none_served [] = refl
none_served (p ∷ pairs) =
    (record { opens = opens_none p.reader p.reader refl; same = refl }, none_served pairs)

-- ---- the pairs of a door, in turn

pub at_work : (link : ℕ) (pair : Pair) (held : Held) (pair' : Pair) → IsAtWork link pair held →
    Finishes held pair' → Works link pair pair'
at_work link pair (Running thread) pair' is works = rw (← is.0, ← is.1) works
at_work link pair (Ended served) pair' is works = rw works is

-- a pair that has opened a link, and is at work
pub will_serve : (link : ℕ) (pair : Pair) (opened : Record) (held : Held) →
    Opens (Some link) pair.reader opened →
    IsAtWork link (record { reader = opened; writer = pair.writer }) held → WillServe pair held
will_serve link pair opened held opens work = λ pair' finishes. record {
  link = link;
  opened = opened;
  opens = opens;
  works = at_work link (record { reader = opened; writer = pair.writer }) held pair' work finishes;
}

pub turned : (pair : Pair) (place : ℕ) (stop : Option Stop) (held : Held) → is_some stop ≡ false →
    WillServe pair held → Turns pair place stop held stop
turned pair place None held none serves = serves
turned pair place (Some stop) held none serves = cc

pub so_far_more : (place : ℕ) (stop stop' : Option Stop) (pairs : List Pair) (held : List Held)
    (pair : Pair) (one : Held) → place ≡ length pairs → SoFar stop pairs held →
    Turns pair place stop one stop' → SoFar stop' (pairs ++ pair ∷ []) (held ++ one ∷ [])
so_far_more place None None pairs held pair one here so_far turns =
    first_push WillServe WillRest pairs held pair one so_far turns
so_far_more place None (Some stop) pairs held pair one here so_far turns =
    let all = other_push WillServe WillRest (length pairs) pairs held pair one so_far turns.2 in
    (rw (turns.0, here) all, turns.1)
so_far_more place (Some stop) stop' pairs held pair one here so_far turns =
    let all = other_push WillServe WillRest stop.served pairs held pair one so_far.0 turns.1 in
    rw turns.0 (all, so_far.1)

-- all are back
pub all_served : (stop : Option Stop) (end : Stop) (pairs : List Pair) (held : List Held)
    (back : List Pair) → end.served ≡ length pairs → SoFar stop pairs held →
    AllZip Finishes held back → HaveServed (unwrap_or stop end).served pairs back
all_served None end pairs held back all so_far finishes =
    all_finished end.served pairs held back (rw all so_far) finishes
all_served (Some stop) end pairs held back all so_far finishes =
    all_finished stop.served pairs held back so_far.0 finishes
