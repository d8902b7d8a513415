-- Monitors that are asked one after another.
use Rattle.std.proofs.Common.{ap, drop, get_or, length, List, refl, set, subst, sym, take, ℕ}
use Rattle.std.proofs.Common.{[], ◌+◌, ◌++◌, ◌<◌, ◌∙◌, ◌∷◌, ◌≡◌}
use Rattle.std.proofs.Common.{arith, take_all, ◌≤◌}
use Rattle.std.proofs.lemmas.List.{drop-set-lt, drop_more, take-append-le, take_more}
use Rattle.std.proofs.lemmas.List.{take_more_set}
use Rattle.node_threads.specs.Calls.{Record}
use Rattle.pg_session.specs.declared.watch.Watch.{Watch}
use Rattle.pg_session.specs.Watching.{AllAsked, Asks}

-- one more
asked_more : (p q r : Record) (ws all : List Watch) (w w' : Watch) (n : ℕ) → AllAsked p ws n q all
    → Asks q w n r w' → AllAsked p (ws ++ w ∷ []) n r (all ++ w' ∷ [])
asked_more p q r [] all w w' n asked one = (
  r,
  w',
  [],
  subst (λ x. Asks x w n r w') asked.0 one,
  (refl, refl),
  ap (λ a. a ++ w' ∷ []) asked.1,
)
asked_more p q r (v ∷ vs) all w w' n asked one = (
  asked.0,
  asked.1,
  asked.2 ++ w' ∷ [],
  asked.3,
  asked_more asked.0 q r vs asked.2 w w' n asked.4 one,
  ap (λ a. a ++ w' ∷ []) asked.5,
)

-- those so far are asked, and the others are as they were
pub record Asked (p : Record) (old : List Watch) (n i : ℕ) (q : Record) (items : List Watch)
    : Type 0 where
  pub done : AllAsked p (take i old) n q (take i items)
  pub others : drop i items ≡ drop i old

same_head : (w v : Watch) (ws vs : List Watch) → w ∷ ws ≡ v ∷ vs → w ≡ v
same_head w v ws vs is = cc

same_tail : (w v : Watch) (ws vs : List Watch) → w ∷ ws ≡ v ∷ vs → ws ≡ vs
same_tail w v ws vs is = cc

pub asked_next : (p q r : Record) (old items : List Watch) (n i : ℕ) (w w' : Watch) → i < length old
    → i < length items → w ≡ get_or items i w → Asked p old n i q items → Asks q w n r w'
    → Asked p old n (i + 1) r (set items i w')
asked_next p q r old items n i w w' within here is asked one =
    let split = sym (drop_more items i w here) ∙ asked.others ∙ drop_more old i w within in
    record {
      done = rw (
        take_more old i w within,
        take_more_set items i w' here,
        ← same_head _ _ _ _ split,
        ← is,
      ) (asked_more p q r (take i old) (take i items) w w' n asked.done one);
      others = drop-set-lt (i + 1) items i w' (omega arith) ∙ same_tail _ _ _ _ split;
    }

pub asked_none : (p : Record) (old : List Watch) (n : ℕ) → Asked p old n 0 p old
asked_none p old n = record { done = (refl, refl); others = refl }

pub all_asked : (p q : Record) (old items : List Watch) (n i : ℕ) → length old ≤ i
    → length items ≤ i
    → Asked p old n i q items → AllAsked p old n q items
all_asked p q old items n i whole all asked =
    rw (take_all i old whole, take_all i items all) at asked.done

-- what is left of a longer list that begins so
pub retaken : (items others : List Watch) (n : ℕ) → n ≡ length items
    → take n (items ++ others) ≡ items
retaken items others n is = let within : n ≤ length items = omega arith in
    rw take-append-le (take_all n items (omega arith))
