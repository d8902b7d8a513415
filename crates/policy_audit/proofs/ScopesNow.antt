-- Which scopes run, after each start and each stop.
use Rattle.policy_audit.proofs
use proofs.Words.{ap, arith, ascending, ascending_rises, ascending_stands, Bool, Entry, Event}
use proofs.Words.{exact_bytes, filter, History, is_accepted, is_among, is_running, just, List, not}
use proofs.Words.{placed, refl, Rises, running_scopes, same, same_decides, same_rising, same_sym}
use proofs.Words.{sym, text_cmp, texts_total, true, ℕ, [], ◌&&◌, ◌||◌, ◌∙◌, ◌∷◌, ◌≡◌}
use proofs.Lists.{filter_rises}
use proofs.ChangeLemmas.{was_started}

-- ---- rising lists of texts

-- those in which the same stand are the same
pub one_rising : (xs ys : List (List ℕ)) → Rises text_cmp xs → Rises text_cmp ys
    → ((s : List ℕ) → is_among s xs ≡ is_among s ys) → xs ≡ ys
one_rising xs ys rx ry m =
    same_rising text_cmp same texts_total exact_bytes same_decides xs ys rx ry m

pub rising_stands : (s : List ℕ) (xs : List (List ℕ))
    → is_among s (ascending text_cmp xs) ≡ is_among s xs
rising_stands s xs = ascending_stands text_cmp same texts_total exact_bytes same_decides s xs

pub rising : (xs : List (List ℕ)) → Rises text_cmp (ascending text_cmp xs)
rising xs = ascending_rises text_cmp same texts_total exact_bytes same_decides xs

-- a rising list stays as it is
pub rising_is : (xs : List (List ℕ)) → Rises text_cmp xs → ascending text_cmp xs ≡ xs
rising_is xs r = one_rising (ascending text_cmp xs) xs (rising xs) r (λ s. rising_stands s xs)

-- who stands in what a filter leaves
pub among_left : (test : List ℕ → Bool) (s : List ℕ) (xs : List (List ℕ))
    → is_among s (filter test xs) ≡ (is_among s xs && test s)
among_left test s [] = refl
among_left test s (x ∷ xs) = grind (arith, among_left test s xs, same_decides x s)

-- ---- the scopes that run

pub running_rises : (h : History) → Rises text_cmp (running_scopes h)
running_rises h = grind (arith, filter_rises, rising)

pub running_among : (h : History) (s : List ℕ) → is_among s (running_scopes h) ≡ is_running h s
running_among h s = grind (arith, among_left, rising_stands, was_started)

module _ (h : History) (e : Entry) (yes : is_accepted e.verdict ≡ true) (s : List ℕ) where
  -- whether a scope runs, after a start or a stop of s
  pub runs_started : e.event ≡ Event.StartScope s → (t : List ℕ)
      → is_running (just h e) t ≡ (same s t || is_running h t)
  runs_started is t = grind arith

  pub runs_stopped : e.event ≡ Event.StopScope s → (t : List ℕ)
      → is_running (just h e) t ≡ (is_running h t && not (same t s))
  runs_stopped is t = grind (arith, same_sym s t)

  pub running_started : e.event ≡ Event.StartScope s
      → running_scopes (just h e) ≡ placed text_cmp s (running_scopes h)
  running_started is =
      one_rising (running_scopes (just h e)) (ascending text_cmp (s ∷ running_scopes h))
      (running_rises (just h e)) (rising (s ∷ running_scopes h)) (λ t.
      running_among (just h e) t ∙ runs_started is t
      ∙ ap (λ b. same s t || b) (sym (running_among h t))
      ∙ sym (rising_stands t (s ∷ running_scopes h)))
      ∙ ap (placed text_cmp s) (rising_is (running_scopes h) (running_rises h))

  pub running_stopped : e.event ≡ Event.StopScope s
      → running_scopes (just h e) ≡ filter (λ t. not (same t s)) (running_scopes h)
  running_stopped is = grind (
    arith,
    one_rising,
    running_rises,
    filter_rises,
    running_among,
    runs_stopped,
    among_left,
  )
