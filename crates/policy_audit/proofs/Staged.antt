-- What the accepted events alone say of the links is what the recorded answers say.
use Rattle.policy_audit.proofs
use proofs.Words.{Accepted, and_frame, and_parts, ap, arith, awaits, Bool, cond, ends, ends_at}
use proofs.Words.{Entry, eqb-true, Event, false, first_of, flat_map, is_dial_to, is_last}
use proofs.Words.{is_name_up, is_open, is_opened_by, is_peer, is_some, is_up, is_up_at, is_whole}
use proofs.Words.{IsPlayedIn, links, List, list_any, Moment, name_frame, name_up, name_up_at}
use proofs.Words.{named_by, None, not, Opened, opened, Opening, Option, option_map_or, peer_of}
use proofs.Words.{present, present_link, refl, Refused, same, same_decides, share_peer, Some, Stage}
use proofs.Words.{stages, start_of, started_where, sym, Taken, taken, true, Verdict}
use proofs.Words.{was_up, was_up_after, ℕ, [], ◌==◌, ◌∙◌, ◌∷◌, ◌≡◌, ◌&&◌, ◌||◌}
use proofs.Accepted.{lie}
use proofs.Walked.{but}
use proofs.UpLinks.{agrees, and_both}

-- the stages as the other words have them
abbrev now : List Entry → ℕ → Stage
now es l = record { is_open = is_open l es; was_up = was_up (taken l es) }

none_pass : (test : ℕ → Bool) → ((k : ℕ) → test k ≡ true → ⊥) → (ks : List ℕ)
    → list_any test ks ≡ false
none_pass test none [] = refl
none_pass test none (k ∷ ks) = grind (arith, none_pass test none ks, none k)

abbrev opens_at : ℕ → Moment → Option Opened
opens_at l m = started_where (m.number == l) m.before (start_of m.event)

abbrev number_if : Moment → List ℕ
number_if m = cond (is_some (start_of m.event)) (m.number ∷ []) []

-- an opened link is one of the links
passes : (test : ℕ → Bool) (l : ℕ) → test l ≡ true → (ms : List Moment)
    → is_some (first_of (opens_at l) ms) ≡ true → list_any test (flat_map number_if ms) ≡ true
passes test l t [] q = lie (sym q)
passes test l t (m ∷ ms) q = grind (arith, passes test l t ms, eqb-true m.number l)

-- a link that is whole was opened
pub whole_opened : (l : ℕ) (es : List Entry) → is_whole l es ≡ true → is_some (opened l es) ≡ true
whole_opened l es q = grind arith

-- a link of this name is up exactly where there is a present one
names_now : (o : Opening) (es : List Entry) → IsPlayedIn o es → (n : List ℕ)
    → name_up_at (now es) n es ≡ is_name_up n es
names_now o es legal n = by (present_link n es) refl
  where
    up_of : (k : ℕ) → is_peer n k es ≡ true → (x : Option (List ℕ)) → peer_of k es ≡ x
        → peer_of k es ≡ Some n
    up_of k q x s = grind (arith, same_decides)

    by : (x : Option ℕ) → present_link n es ≡ x → name_up_at (now es) n es ≡ is_some x
    by None s = none_pass (λ k. is_up k es && is_peer n k es)
        (λ k q. lie (sym
        (ap is_some ((agrees o _ legal n k).1 (
          (and_parts _ _ q).0,
          up_of k (and_parts _ _ q).1 (peer_of k es) refl,
        )))
        ∙ ap is_some s)) (links es)
    by (Some k) s =
        let found = (agrees o _ legal n k).0 s in
        let its : is_peer n k es ≡ true = ap (λ y. option_map_or (λ m. same m n) y false) found.1
        ∙ (same_decides n n).1 refl in
        passes (λ j. is_up j es && is_peer n j es) k
        (and_both _ _ found.0 its) (present es)
        (whole_opened k es (and_parts _ _ found.0).1)

-- ---- all stages

module _ (o : Opening) (es : List Entry) (legal : IsPlayedIn o es) (e : Entry) (l : ℕ) where
  agreed : ◌≡◌ {A = List ℕ → Bool} (λ n. name_up_at (now es) n es) (λ n. is_name_up n es)
  agreed = λ i n. names_now o es legal n i

  same_end : (ev : Event) (v : Verdict) → ends_at (now es) l es v ev ≡ ends l es v ev
  same_end (Event.Frame k body) (Accepted r) =
      ap (λ (named : List ℕ → Bool). not (k == l)
      && cond (is_last (awaits k es)) (is_whole l es && share_peer k l es)
      (option_map_or (λ f. not (named f.name)
      && (option_map_or (λ x. is_dial_to f.name x.start) (opened l es) false
      && not (is_whole l es))) (named_by (awaits k es) body) false)) agreed
  same_end (Event.Frame k body) (Refused r) = refl
  same_end ev (Refused r) = refl
  same_end ev (Accepted r) = refl

  -- frames that stay as they are, or get one more
  grown : (at : ℕ → Stage) (ts : List Taken) → (at l).was_up ≡ was_up ts
      → ◌≡◌ {A = List ℕ → Bool} (λ n. name_up_at at n es) (λ n. is_name_up n es)
      → (b : Bool) (body : List ℕ)
      → was_up_after at l es ts
      (and_frame ts (cond b (Some (record { body = body; before = es })) None))
      ≡ was_up (and_frame ts (cond b (Some (record { body = body; before = es })) None))
  grown at [] w a false body = refl
  grown at [] w a true body =
      ap (λ (named : List ℕ → Bool). option_map_or (λ f. named f.name) (name_frame body) false) a
  grown at (t ∷ ts) w a b body = grind arith

  stayed : (at : ℕ → Stage) (ts : List Taken) → (at l).was_up ≡ was_up ts
      → was_up_after at l es ts ts ≡ was_up ts
  stayed at [] w = refl
  stayed at (t ∷ ts) w = w

  same_was_up : (ev : Event) (v : Verdict)
      → was_up_after (now es) l es (taken l es) (taken l (but e ev v ∷ es))
      ≡ was_up (taken l (but e ev v ∷ es))
  same_was_up ev (Refused r) = stayed (now es) (taken l es) refl
  same_was_up Event.Restart (Accepted r) = refl
  same_was_up (Event.Frame k body) (Accepted r) =
      grown (now es) (taken l es) refl agreed (k == l) body
  same_was_up ev (Accepted r) = stayed (now es) (taken l es) refl

-- the stages are what the other words say
pub stages-now : (o : Opening) (es : List Entry) → IsPlayedIn o es → stages es ≡ now es
stages-now o [] legal = refl
stages-now o (e ∷ es) legal =
    ap (λ (at : ℕ → Stage). λ l. record {
      is_open =
          is_opened_by l e || (not (ends_at at l es e.verdict e.event) && (at l).is_open);
      was_up = was_up_after at l es (taken l es) (taken l (e ∷ es));
    }) (stages-now o es legal.1)
    ∙ (λ i l. record {
      is_open = is_opened_by l e
          || (not (same_end o es legal.1 e l e.event e.verdict i) && is_open l es);
      was_up = same_was_up o es legal.1 e l e.event e.verdict i;
    })

pub names_up : (o : Opening) (es : List Entry) → IsPlayedIn o es → (n : List ℕ)
    → name_up n es ≡ is_name_up n es
names_up o es legal n = ap (λ at. name_up_at at n es) (stages-now o es legal)
    ∙ names_now o es legal n

-- which links are up and open is read from the events alone
pub ups-now : (o : Opening) (es : List Entry) → IsPlayedIn o es → (l : ℕ)
    → is_up_at (stages es) l es ≡ is_up l es
ups-now o es legal l = ap (λ at. is_up_at at l es) (stages-now o es legal)

pub opens-now : (o : Opening) (es : List Entry) → IsPlayedIn o es → (l : ℕ)
    → (stages es l).is_open ≡ is_open l es
opens-now o es legal l = ap (λ (at : ℕ → Stage). (at l).is_open) (stages-now o es legal)
