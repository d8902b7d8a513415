-- What is heard of a node is what it said.
use Rattle.frame_laws.proofs
use proofs.Words.{Accepted, and_parts, ap, append-nil, arith, Begun, begun, begun_of, Bool, but}
use proofs.Words.{came, cond, delivered, Entry, eqb-true, Event, false, Frame, frame_taken, fresh}
use proofs.Words.{has_rows, HasGiven, heard, HeardIsSaid, History, inl, inr, is_open, is_up}
use proofs.Words.{is_whole, IsGiven, IsHonest, IsPlayedIn, IsStep, KeepsOrNot, kept_after, known}
use proofs.Words.{length, lie, link_version, List, Message, message_taken, None, none_begun}
use proofs.Words.{Opening, Option, option_map_or, option_to_list, past, Pid, refl, Refused, Reply}
use proofs.Words.{Rule, said_at, same_decides, says_rows, seen_by, slice_get_within, Some, Speaks}
use proofs.Words.{stated, sym, take-append-le, tells_rows, told_rows, true, Verdict, view_of, ℕ, []}
use proofs.Words.{◌&&◌, ◌++◌, ◌==◌, ◌||◌, ◌∙◌, ◌∷◌, ◌≡◌}
use proofs.Accepting.{is_up_there}
use proofs.Bodies.{apart_so, begun_more, completes_there, honest_first, is_known, left_so}
use proofs.Bodies.{says_ends, stands_first, stands_last, take_last, view_more}
use proofs.KeptStands.{up_back}
use proofs.KnownAfter.{known_after}
use proofs.NotRefused.{kept_of}
use proofs.Spoken.{speaks_now}
use proofs.Alike.{accepts_alike, AcceptsAlike, Alike, NeedsAlike, some_whole}
use proofs.RefusedParts.{Before, from_or, heard_before, or_true, quiet_heard, refused_alike}
use proofs.RefusedParts.{refused_apart, stopped_alike}

module _ (v : ℕ) (o : Opening) (es : List Entry) (e : Entry) (legal : IsPlayedIn o es) (l : ℕ)
    (agrees : is_whole l es ≡ true → link_version o l es ≡ v) (s : List ℕ) where
  abbrev h : History
  h = past o es

  abbrev bodies : List (List ℕ)
  bodies = delivered l es

  abbrev SameKnown : Event → Verdict → Type 0
  SameKnown ev w = (g : List ℕ) (p : Pid)
      → known o l s g p (but e ev w ∷ es) ≡ known o l s g p es

  abbrev Said : Event → Verdict → Type 0
  Said ev w = HeardIsSaid v (past o (but e ev w ∷ es)) l s

  -- nothing more is known: who is heard now was heard so
  module _ (ev : Event) (w : Verdict) (untold : tells_rows o l s es w ev ≡ false)
      (hears : heard o l s (but e ev w ∷ es) ≡ true) (same_known : SameKnown ev w)
      (before : Before v o l s es) where
    it : HeardIsSaid v h l s
    it = before (heard_before v o es e legal l agrees s ev w hears same_known)

    same_told : told_rows o l s (but e ev w ∷ es) ≡ it.place ∷ it.earlier
    same_told = grind arith

    same_said : came l ev ≡ [] → Said ev w
    same_said none = record {
      place = it.place;
      earlier = it.earlier;
      last = same_told;
      body = it.body;
      stands = grind (arith, nothing, it.stands);
      rows = it.rows;
      behind = λ g p. grind (arith, nothing, it.behind g p);
      now = λ g p. grind (arith, nothing);
    }
      where
        nothing : bodies ++ came l ev ≡ bodies
        nothing = grind (arith, append-nil)

    -- a body came that says nothing of s
    calm_said : (body : List ℕ) → came l ev ≡ body ∷ []
        → ((g : List ℕ) (p : Pid) (w : Option ℕ)
        → seen_by s g p (option_to_list (completes_there v bodies body)) w ≡ w) → Said ev w
    calm_said body one stays = record {
      place = it.place;
      earlier = it.earlier;
      last = same_told;
      body = it.body;
      stands = grind (arith, stands_first);
      rows = it.rows;
      behind = λ g p. grind (arith, slice_get_within, take-append-le);
      now = λ g p.
          grind (arith, view_more, stays g p (view_of v s g p bodies));
    }

  -- a body came that says rows of s, and was accepted
  rows_said : (ev : Event) (w : Verdict) (body : List ℕ) → came l ev ≡ body ∷ []
      → tells_rows o l s es w ev ≡ true → heard o l s (but e ev w ∷ es) ≡ true
      → has_rows v s body ≡ true
      → ((g : List ℕ) (p : Pid) → seen_by s g p (option_to_list (completes_there v bodies body))
      (view_of v s g p bodies) ≡ Some (stated o l s g p (but e ev w ∷ es)))
      → Said ev w
  rows_said ev w body one told hears rows says = record {
    place = length bodies;
    earlier = told_rows o l s es;
    last = grind arith;
    body = body;
    stands = grind (arith, stands_last);
    rows = rows;
    behind = λ g p. grind (arith, take_last, all);
    now = λ g p. grind (arith, all);
  }
    where
      all : (g : List ℕ) (p : Pid)
          → view_of v s g p (bodies ++ body ∷ []) ≡ Some (stated o l s g p (but e ev w ∷ es))
      all g p = view_more v bodies body s g p ∙ says g p

  module _ (k : ℕ) (body : List ℕ) where
    abbrev ev : Event
    ev = Frame k body

    abbrev said_by : Option Message → List Message
    said_by x = option_to_list x

    module _ (r : Reply) (next : IsStep h (but e ev (Accepted r)))
        (hears : heard o l s (but e ev (Accepted r) ∷ es) ≡ true) (before : Before v o l s es) where
      abbrev x : Entry
      x = but e ev (Accepted r)

      known_at : (b w : Bool) → (k == l) ≡ b → is_whole l es ≡ w → (g : List ℕ) (p : Pid)
          → known o l s g p (x ∷ es)
          ≡ seen_by s g p (cond (b && w) (said_by (said_at o l es body)) [])
          (known o l s g p es)
      known_at b w is whole g p =
          grind (
            arith,
            known_after o es e legal l s g p ev (Accepted r) next hears,
          )

      -- of another link
      other_said : (k == l) ≡ false → Said ev (Accepted r)
      other_said other = same_said ev (Accepted r) (grind arith) hears
          (known_at false (is_whole l es) other refl) before (grind arith)

      module _ (is : (k == l) ≡ true) where
        one : came l ev ≡ body ∷ []
        one = grind arith

        unwhole : is_whole l es ≡ false → Said ev (Accepted r)
        unwhole un =
            let was = is_up_there h legal l s
            (heard_before v o es e legal l agrees s ev (Accepted r)
            hears (known_at true false is un)) in
            grind arith

        module _ (whole : is_whole l es ≡ true) (alike : Alike v o l s es) where
          now_known : (g : List ℕ) (p : Pid)
              → seen_by s g p (said_by (said_at o l es body)) (known o l
              s g p es) ≡ Some (stated o l s g p (x ∷ es))
          now_known g p = sym (known_at true true is whole g p) ∙ is_known o l s g p (x ∷ es) hears

          -- what it completes makes of a view what it makes where all that came is kept
          as_came : (g : List ℕ) (p : Pid) (w : Option ℕ)
              → seen_by s g p (said_by (said_at o l es body)) w
              ≡ seen_by s g p (said_by (completes_there v bodies body)) w
          as_came =
              AcceptsAlike.views (accepts_alike v o es e legal l agrees s k body r next is whole
              alike)

          with_rows : option_map_or (says_rows s) (said_at o l es body) false ≡ true
              → Said ev (Accepted r)
          with_rows has = rows_said ev (Accepted r) body one (λ i. (is i && whole i) && has i) hears
              (grind (arith, says_ends s (begun o l es) (frame_taken o l es body)))
              (λ g p. sym (as_came g p (view_of v s g p bodies))
              ∙ by g p (heard o l s es) refl)
            where
              by : (g : List ℕ) (p : Pid) (b : Bool) → heard o l s es ≡ b
                  → seen_by s g p (said_by (said_at o l es body)) (view_of v s g p bodies) ≡ Some
                  (stated o l s g p (x ∷ es))
              by g p true was =
                  grind (arith, now_known g p)
              by g p false un = grind arith

          without : option_map_or (says_rows s) (said_at o l es body) false ≡ false
              → Said ev (Accepted r)
          without none =
              let stays : (g : List ℕ) (p : Pid) (w : Option ℕ)
              → seen_by s g p (said_by (said_at o l es body)) w ≡ w =
              λ g p. left_so s g p (said_at o l es body) (known o l s g p es)
              (stated o l s g p (x ∷ es)) none (now_known g p) in
              let same_known : SameKnown ev (Accepted r) =
              λ g p. known_at true true is whole g p ∙ stays g p (known o l s g p es) in
              calm_said ev (Accepted r) (grind arith) hears same_known before body one
              (λ g p w. sym (as_came g p w) ∙ stays g p w)

          whole_said : (b : Bool) → option_map_or (says_rows s) (said_at o l es body) false ≡ b
              → Said ev (Accepted r)
          whole_said true has = with_rows has
          whole_said false none = without none

      accepted_said : Alike v o l s es → (b w : Bool) → (k == l) ≡ b → is_whole l es ≡ w
          → Said ev (Accepted r)
      accepted_said alike false w other un = other_said other
      accepted_said alike true false is un = unwhole is un
      accepted_said alike true true is whole = whole_said is whole alike
          (option_map_or (says_rows s) (said_at o l es body) false) refl

    module _ (name : List ℕ) (creation : ℕ) (gives : is_whole l es ≡ true
        → IsGiven l name creation es) (r : Rule) (next : IsStep h (but e ev (Refused r)))
        (hears : heard o l s (but e ev (Refused r) ∷ es) ≡ true) (before : Before v o l s es)
        (alike : Alike v o l s es) where
      same_known : SameKnown ev (Refused r)
      same_known = grind arith

      was : heard o l s es ≡ true
      was = grind arith

      refused_said : (b : Bool) → (k == l) ≡ b
          → IsHonest v name creation s (bodies ++ cond b (body ∷ []) []) → Said ev (Refused r)
      refused_said false other honest = grind (arith, same_said)
      refused_said true is honest =
          calm_said ev (Refused r) refl hears same_known before body (grind arith)
          (λ g p. apart_so s g p (completes_there v bodies body)
          (refused_apart v o es e legal l agrees s name creation gives body honest before alike r
          (grind (arith, eqb-true)) was))

  module _ (name : List ℕ) (creation : ℕ)
      (gives : is_whole l es ≡ true → IsGiven l name creation es)
      (before : Before v o l s es) (alike : Alike v o l s es) where
    entry_said : (ev : Event) (w : Verdict) → IsStep h (but e ev w)
        → IsHonest v name creation s (bodies ++ came l ev)
        → heard o l s (but e ev w ∷ es) ≡ true → Said ev w
    entry_said (Frame k body) (Accepted r) next honest hears =
        accepted_said k body r next hears before alike (k == l) (is_whole l es) refl refl
    entry_said (Frame k body) (Refused r) next honest hears =
        refused_said k body name creation gives r next hears before alike (k == l) refl honest
    entry_said ev (Accepted r) next honest hears =
        same_said ev (Accepted r) refl hears
        (λ g p. known_after o es e legal l s g p ev (Accepted r) next hears) before refl
    entry_said ev (Refused r) next honest hears =
        grind (arith, same_said)

    -- ---- what is kept is what all that came makes

    -- nothing came on the link, and the same is kept
    same_alike : (ev : Event) (w : Verdict) → IsStep h (but e ev w) → came l ev ≡ []
        → begun o l (but e ev w ∷ es) ≡ begun o l es
        → Alike v o l s (but e ev w ∷ es)
    same_alike ev w next none same_begun up kept =
        same_begun ∙ alike was (from_or (kept_of s (begun o l (but e ev w ∷ es))) _
        (NeedsAlike v o l s es ≡ true) kept (λ mine. grind arith)
        (λ both. (let it = and_parts (heard o l s (but e ev w ∷ es))
        (kept_of s (begun_of v (bodies ++ came l ev))) both in
        or_true (kept_of s (begun o l es))
        (λ i. heard_still it.0 i
        && (ap (λ bs. kept_of s (begun_of v bs)) (sym nothing) ∙ it.1) i))))
        ∙ sym (ap (begun_of v) nothing)
      where
        nothing : bodies ++ came l ev ≡ bodies
        nothing = ap (λ bs. bodies ++ bs) none ∙ append-nil bodies

        heard_still : heard o l s (but e ev w ∷ es) ≡ true → heard o l s es ≡ true
        heard_still = quiet_heard v o es e legal l agrees s ev w next none

        was : is_up l es ≡ true
        was = from_or (kept_of s (begun o l (but e ev w ∷ es))) _ (is_up l es ≡ true) kept
            (λ mine. up_back o l es e legal (fresh o es legal (but e ev w) next) ev w up
            (some_whole v o es e legal l agrees s (grind arith)))
            (λ both. is_up_there h legal l s (heard_still (and_parts _ _ both).0))

    each_alike : (ev : Event) (w : Verdict) → IsStep h (but e ev w)
        → IsHonest v name creation s (bodies ++ came l ev) → Alike v o l s (but e ev w ∷ es)
    each_alike (Frame k body) (Accepted r) next honest =
        by (k == l) refl (is_whole l es) refl
      where
        by : (b : Bool) → (k == l) ≡ b → (c : Bool) → is_whole l es ≡ c
            → Alike v o l s (but e (Frame k body) (Accepted r) ∷ es)
        by false other c whole = grind (arith, same_alike (Frame k body) (Accepted r) next)
        by true is true whole = λ up kept.
            let begun_is = ap (λ b. cond b (kept_after (begun o l es) (frame_taken o l es body))
            (begun o l es)) (λ i. is i && whole i) in
            let came_is = ap (λ b. begun_of v (bodies ++ cond b (body ∷ []) [])) is
            ∙ begun_more v bodies body in
            begun_is ∙ AcceptsAlike.begins (accepts_alike v o es e legal l agrees s k body r next is
            whole alike)
            (from_or (kept_of s (begun o l (but e (Frame k body) (Accepted r) ∷ es))) _ _ kept
            (λ mine. ap
            (λ b. b || kept_of s (kept_after (begun_of v bodies) (message_taken v body)))
            (sym (ap (kept_of s) begun_is) ∙ mine))
            (λ both. or_true _ (sym (ap (kept_of s) came_is) ∙ (and_parts _ _ both).1)))
            ∙ sym came_is
        by true is false un = λ up kept.
            let begun_is = ap (λ b. cond b (kept_after (begun o l es) (frame_taken o l es body))
            (begun o l es)) (λ i. is i && un i) ∙ none_begun o es legal l un in
            from_or (kept_of s (begun o l (but e (Frame k body) (Accepted r) ∷ es))) _ _ kept
            (λ mine. lie (sym mine ∙ ap (kept_of s) begun_is))
            (λ both. (let hears = (and_parts _ _ both).0 in
            let was = heard_before v o es e legal l agrees s (Frame k body) (Accepted r) hears
            (known_at k body r next hears before true false is un) in
            lie (sym ((and_parts (is_open l es) (is_whole l es)
            (is_up_there h legal l s was)).1) ∙ un)))
    each_alike (Frame k body) (Refused r) next honest =
        by (k == l) refl
      where
        by : (b : Bool) → (k == l) ≡ b → Alike v o l s (but e (Frame k body) (Refused r) ∷ es)
        by false other = same_alike (Frame k body) (Refused r) next
            (ap (λ b. cond b (body ∷ []) []) other) refl
        by true is = refused_alike v o es e legal l agrees s name creation gives k body is
            (grind arith) before alike r next
    each_alike (Event.StopScope t) (Accepted r) next honest = grind (arith, stopped_alike)
    each_alike Event.Restart (Accepted r) next honest =
        λ up kept. cc
    each_alike ev (Accepted r) next honest =
        same_alike ev (Accepted r) next refl refl
    each_alike ev (Refused r) next honest =
        same_alike ev (Refused r) next refl refl

pub given_here : (l : ℕ) (name : List ℕ) (creation : ℕ) (es : List Entry)
    → HasGiven l name creation es → is_whole l es ≡ true → IsGiven l name creation es
given_here l name creation [] gives whole = cc
given_here l name creation (e ∷ es) gives whole = gives.0 whole

-- who is heard is heard so, and what is kept is so
pub record Follows (v : ℕ) (o : Opening) (l : ℕ) (s : List ℕ) (es : List Entry) : Type 0 where
  pub hears : Before v o l s es
  pub keeps : Alike v o l s es

pub follows_all : (v : ℕ) (o : Opening) (es : List Entry) → IsPlayedIn o es → (l : ℕ)
    → Speaks o l v es → (s name : List ℕ) (creation : ℕ)
    → IsHonest v name creation s (delivered l es) → HasGiven l name creation es
    → Follows v o l s es
follows_all v o [] legal l speaks s name creation honest gives = grind arith
follows_all v o (e ∷ es) legal l speaks s name creation honest gives =
    let was = follows_all v o es legal.1 l speaks.1 s name creation
    (honest_first v name creation s (delivered l es) (came l e.event) honest) gives.1 in
    let agrees = speaks_now o l v es speaks.1 in
    let gave = given_here l name creation es gives.1 in
    record {
      hears = entry_said v o es e legal.1 l agrees s name creation gave was.hears was.keeps
          e.event e.verdict legal.0 honest;
      keeps = each_alike v o es e legal.1 l agrees s name creation gave was.hears was.keeps
          e.event e.verdict legal.0 honest;
    }

pub heard_said : (v : ℕ) (o : Opening) (es : List Entry) → IsPlayedIn o es → (l : ℕ)
    → Speaks o l v es → (s name : List ℕ) (creation : ℕ)
    → IsHonest v name creation s (delivered l es)
    → HasGiven l name creation es → heard o l s es ≡ true → HeardIsSaid v (past o es) l s
heard_said = grind (arith, follows_all)

pub keeps_or_not : (v : ℕ) (o : Opening) (es : List Entry) → IsPlayedIn o es → (l : ℕ)
    → Speaks o l v es → (name : List ℕ) (creation : ℕ)
    → ((s : List ℕ) → IsHonest v name creation s (delivered l es))
    → HasGiven l name creation es → is_up l es ≡ true
    → KeepsOrNot (begun o l es) (begun_of v (delivered l es))
keeps_or_not v o es legal l speaks name creation honest gives up = by (begun o l es) refl
  where
    by : (x : Option Begun) → begun o l es ≡ x
        → KeepsOrNot (begun o l es) (begun_of v (delivered l es))
    by None is = inl is
    by (Some k) is = inr (Follows.keeps
        (follows_all v o es legal l speaks k.scope name creation (honest k.scope) gives) up
        (ap (λ x. kept_of k.scope x || (heard o l k.scope es
        && kept_of k.scope (begun_of v (delivered l es)))) is
        ∙ ap (λ b. b || (heard o l k.scope es && kept_of k.scope (begun_of v (delivered l es))))
        ((same_decides k.scope k.scope).1 refl)))
