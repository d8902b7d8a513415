-- Where a peer is told on a link of version 1, the scope has few own rows.
use Rattle.policy_audit.proofs
use proofs.Words.{Accepted, always, and_frame, and_parts, ap, arith, Begun, begun, Bool, ByDial}
use proofs.Words.{ByPeer, completed, cond, Entry, eqb-true, Event, false, first_broken, frame_taken}
use proofs.Words.{given, History, is_accepted, is_old_told, is_up, is_whole, IsPlayed, IsPlayedIn}
use proofs.Words.{IsStep, leb-true, length, link_version, links, List, local_rows, max_rows}
use proofs.Words.{Message2, message_checks, Name, None, not, not-true, opened, Opening}
use proofs.Words.{Option, option_and_then, option_map_or, own_limit, past, refl, Rule, said_at}
use proofs.Words.{same, same_decides, Some, Start, start_of, subst, sym, Taken, taken, Talk, talk}
use proofs.Words.{talk_of, tells, told, true, Verdict, whole, ℕ, [], ◌&&◌, ◌++◌, ◌==◌, ◌∙◌}
use proofs.Words.{◌∷◌, ◌≡◌, ◌≤◌}
use Rattle.std.specs.Prelude.{◌⊎◌}
use Rattle.std.proofs.Common.{inl, inr}
use proofs.Accepted.{accepted, lie, open_first}
use proofs.Walked.{but, fresh, open_opened}
use proofs.Finished.{given_by, given_kept, whole_awaits}
use proofs.Effects.{entry_link}
use proofs.Heard.{has_discover}
use proofs.KeptNumbers.{some_of, which_of}
use proofs.HeardNow.{only_stops, opening_heard, silent, stopped_heard}
use proofs.NewLinks.{opened_apart}
use proofs.KeptLinks.{opened_linked}
use proofs.FewRows.{fewer, Grows, step}

-- the peer of link l is told in s, and the link is of version 1
abbrev pub old_told : Opening → ℕ → List ℕ → List Entry → Bool
old_told o l s es = told o l s es && not (link_version o l es == 2)

was_told : (ended opens whole said one : Bool)
    → ((((not ended && opens) && whole) && said) && one) ≡ true
    → (((opens && whole) && said) && one) ≡ true
was_told ended opens whole said one q = grind arith

abbrev version_of : Opening → Option Name → ℕ
version_of o gave = cond (o.links == 2 && option_map_or (λ f. f.version) gave 1 == 2) 2 1

-- while such a peer is told, the limit is that of version 1
pub old_limit : (o : Opening) (es : List Entry) (l : ℕ) (s : List ℕ) → old_told o l s es ≡ true
    → own_limit (past o es) s ≡ max_rows
old_limit o es l s old =
    grind (
      arith,
      old,
      opened_linked l es,
      open_opened l es,
      some_of (λ k. old_told o k s es) l (links es),
    )

module _ (o : Opening) (es : List Entry) (e : Entry) (l : ℕ) (s : List ℕ) where
  -- a message after which the peer is told where it wasn't is a Discover
  asks : (b : Option Begun) (f : Message2) (ts : List Talk)
      → first_broken (message_checks (past o es) l f) ≡ None
      → has_discover s (talk_of (completed b f) ++ ts) ≡ true → link_version o l es == 2 ≡ false
      → (has_discover s ts ≡ true) ⊎ (length (local_rows (past o es) s) ≤ max_rows)
  asks b (Message2.Discover t) ts holds says one = by (same t s) refl
    where
      by : (x : Bool) → same t s ≡ x
          → (has_discover s ts ≡ true) ⊎ (length (local_rows (past o es) s) ≤ max_rows)
      by true here = inr (grind (arith, holds, one, (same_decides t s).0 here, leb-true))
      by false other = inl (grind (arith, says, other))
  asks b (Message2.Part kind t number last rows) ts holds says one = inl (grind arith)
  asks b (Message2.Down t) ts holds says one = inl (grind arith)

  taken_asks : (b : Option Begun) (x : Option Message2) (ts : List Talk)
      → first_broken (option_map_or (message_checks (past o es) l) x (always Rule.BadFrame)) ≡ None
      → has_discover s (talk_of (option_and_then (completed b) x) ++ ts) ≡ true
      → link_version o l es == 2 ≡ false
      → (has_discover s ts ≡ true) ⊎ (length (local_rows (past o es) s) ≤ max_rows)
  taken_asks b None ts holds says one = inl says
  taken_asks b (Some f) ts holds says one = asks b f ts holds says one

  -- where a link is told after an entry, it was told before, or there are few own rows
  abbrev Few : Entry → Type 0
  Few x = (old_told o l s es ≡ true) ⊎ (length (local_rows (past o (x ∷ es)) s) ≤ max_rows)

  step_as : IsStep (past o es) e → {ev : Event} {v : Verdict} → e.event ≡ ev → e.verdict ≡ v
      → IsStep (past o es) (but e ev v)
  step_as made is says = grind arith

  -- a new link is told nothing, and leaves the others
  opened_asked : (st : Start) (x : Entry) → is_accepted x.verdict ≡ true
      → start_of x.event ≡ Some st → IsStep (past o es) x → IsPlayedIn o es
      → old_told o l s (x ∷ es) ≡ true → old_told o l s es ≡ true
  opened_asked st x accepts begins made legal old = grind (
    arith,
    opening_heard (past o es) x accepts legal made st begins l s,
    fresh o es legal x made,
    and_parts,
    opened_apart,
    eqb-true,
    open_opened,
  )

  asked : IsPlayedIn o es → IsStep (past o es) e → (ev : Event) (v : Verdict) → e.event ≡ ev
      → e.verdict ≡ v → old_told o l s (but e ev v ∷ es) ≡ true → Few (but e ev v)
  asked legal made (Event.Frame k body) (Accepted r) is says old =
      by (k == l) refl (is_whole l es) refl old
    where
      moment : Taken
      moment = record { body = body; before = es }

      fr : Entry
      fr = but e (Event.Frame k body) (Accepted r)

      -- the rules that the message met
      met : (k == l) ≡ true → is_whole l es ≡ true → first_broken (option_map_or
          (message_checks (past o es) l) (frame_taken o l es body) (always Rule.BadFrame)) ≡ None
      met n w = grind (
        arith,
        eqb-true k l n,
        whole_awaits (opened l es) (taken l es) w,
        open_first,
        accepted,
      )

      by : (a : Bool) → (k == l) ≡ a → (b : Bool) → is_whole l es ≡ b
          → old_told o l s (fr ∷ es) ≡ true → Few fr
      by true n true w old =
          let both = and_parts _ _ old in
          let said = and_parts _ _ both.0 in
          let opens = (and_parts _ _
          (and_parts _ _ said.0).0).1 in
          let gave : given l (fr ∷ es) ≡ given l es =
          ap (λ x. given_by (opened l es) (and_frame (taken l es) (cond x (Some moment) None))) n
          ∙ given_kept moment (opened l es) (taken l es) w in
          let one = not-true _
          (sym (ap (λ g. not (version_of o g == 2)) gave) ∙ both.1) in
          let told_now = sym (ap (λ x. has_discover s (cond x (talk_of (said_at o l es body)) []
          ++ talk o l es)) (λ i. n i && w i)) ∙ said.1 in
          of (taken_asks (begun o l es) (frame_taken o l es body) (talk o l es) (met n w) told_now
          one)
          (λ i. opens i && w i) one
        where
          of : (has_discover s (talk o l es) ≡ true) ⊎
              (length (local_rows (past o es) s) ≤ max_rows)
              → is_up l es ≡ true → link_version o l es == 2 ≡ false → Few fr
          of (inl was) up one = inl (λ i. (up i && was i) && not (one i))
          of (inr few) up one =
              (let same = fewer (past o es) s (past o (fr ∷ es)) (λ g p. omega arith)
              in inr (omega (arith, few, same)))
      by true n false w old =
          let stops = silent s (tells s) (λ u. refl) (talk o l es) (only_stops o es legal l w) in
          let same = ap (λ x. has_discover s (cond x (talk_of (said_at o l es body)) []
          ++ talk o l es)) (λ i. n i && w i) in
          let told_now = (and_parts _ _
          old).0 in
          let says_so = (and_parts _ _
          told_now).1 in
          lie (sym says_so ∙ same ∙ stops)
      by false n b w old = grind (arith, entry_link, was_told)
  asked legal made (Event.Opened c) (Accepted r) is says old =
      inl (opened_asked (ByPeer c) (but e (Event.Opened c) (Accepted r)) refl refl
      (step_as made is says) legal old)
  asked legal made (Event.Dial n c) (Accepted r) is says old =
      inl (opened_asked (ByDial n c) (but e (Event.Dial n c) (Accepted r)) refl refl
      (step_as made is says) legal old)
  asked legal made (Event.StopScope t) (Accepted r) is says old =
      let it = stopped_heard (past o es) (but e (Event.StopScope t) (Accepted r)) refl t refl l s in
      let both = and_parts (told o l s (but e (Event.StopScope t) (Accepted r) ∷ es))
      (not (link_version o l es == 2)) old in
      let was = (and_parts (told o l s es) (not (same t s)) (sym it.told_is ∙ both.0)).0 in
      inl (λ i. was i && both.1 i)
  asked legal made ev v is says old = inl (grind (arith, old))

-- the limit where nobody is told by version 1
abbrev most : Opening → ℕ
most o = cond (o.links == 2) 65536 max_rows

limit_most : (o : Opening) (es : List Entry) (s : List ℕ) → own_limit (past o es) s ≤ most o
limit_most o es s = grind arith

few_most : (o : Opening) (es : List Entry) → IsPlayedIn o es → (s : List ℕ)
    → length (local_rows (past o es) s) ≤ most o
few_most o [] legal s = grind arith
few_most o (e ∷ es) legal s =
    by (step o es e s e.event e.verdict legal.0.judged) (few_most o es legal.1 s)
  where
    by : Grows o es e s e → length (local_rows (past o es) s) ≤ most o
        → length (local_rows (past o (e ∷ es)) s) ≤ most o
    by (inl no_more) few = omega (arith, few, no_more)
    by (inr room) few = (let limit = limit_most o es s in omega (arith, limit, room))

-- few, where a link of version 1 is told
few_old : (o : Opening) (es : List Entry) → IsPlayedIn o es → (l : ℕ) (s : List ℕ)
    → old_told o l s es ≡ true → length (local_rows (past o es) s) ≤ max_rows
few_old o [] legal l s old = lie (sym old)
few_old o (e ∷ es) legal l s old =
    by (step o es e s e.event e.verdict legal.0.judged)
    (asked o es e l s legal.1 legal.0 e.event e.verdict refl refl old)
    (few_old o es legal.1 l s)
  where
    by : Grows o es e s e → Few o es e l s e
        → (old_told o l s es ≡ true → length (local_rows (past o es) s) ≤ max_rows)
        → length (local_rows (past o (e ∷ es)) s) ≤ max_rows
    by grows (inr few) before = few
    by (inl no_more) (inl was) before = (let few = before was in omega (arith, few, no_more))
    by (inr room) (inl was) before = grind (arith, old_limit)

few_in : (o : Opening) (es : List Entry) → IsPlayedIn o es → (s : List ℕ)
    → length (local_rows (past o es) s) ≤ own_limit (past o es) s
few_in o es legal s = by (is_old_told (past o es) s) refl
  where
    by : (b : Bool) → is_old_told (past o es) s ≡ b
        → length (local_rows (past o es) s) ≤ own_limit (past o es) s
    by true some =
        let who = which_of (λ l. old_told o l s es) (links es) some in
        subst (λ n. length (local_rows (past o es) s) ≤ n) (sym (old_limit o es who.0 s who.1))
        (few_old o es legal who.0 s who.1)
    by false none = (let few = few_most o es legal s in grind (arith, few, none))

pub few_local : (h : History) → IsPlayed h → (s : List ℕ)
    → length (local_rows h s) ≤ own_limit h s
few_local h legal s = few_in h.opening h.entries legal s
