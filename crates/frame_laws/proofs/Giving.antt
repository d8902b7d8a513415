-- What a peer has given came on the link: its Name first, or its Challenge.
use Rattle.frame_laws.proofs
use proofs.Words.{Accepted, all_append, AllByRecursion, and_frame, and_parts, ap, arith, Bool, but}
use proofs.Words.{ByDial, ByPeer, came, cond, delivered, ends, Entry, eqb-true, Event, false, Far}
use proofs.Words.{far, Frame, fresh, is_open, is_whole, IsAskedOnce, IsNamedFirst, IsPlayedIn}
use proofs.Words.{judgement, List, None, none_taken, not, Opened, opened, Opening, Option, past}
use proofs.Words.{refl, Refused, Reply, Rule, slice_get, Some, Start, subst, sym, Taken, taken}
use proofs.Words.{true, Verdict, ℕ, [], ◌&&◌, ◌++◌, ◌==◌, ◌||◌, ◌∙◌, ◌∷◌, ◌≡◌}
use proofs.Bodies.{stands_first, stands_last}

-- ---- the first frame on a link that its peer opened

pub data Began (l : ℕ) (es : List Entry) : Type 0 where
  Nothing : taken l es ≡ [] → (is_open l es ≡ true → delivered l es ≡ []) → Began l es
  First : (t : Taken) (rest : List Taken) → taken l es ≡ t ∷ rest
      → slice_get (delivered l es) 0 ≡ Some t.body → Began l es

module _ (o : Opening) (l : ℕ) where
  -- an entry with which nothing came
  keep : (es : List Entry) (x : Entry) → taken l (x ∷ es) ≡ taken l es → (is_open l (x ∷ es) ≡ true
      → is_open l es ≡ true) → came l x.event ≡ [] → Began l es → Began l (x ∷ es)
  keep es x same_taken opens none (Nothing no_taken no_body) = grind arith
  keep es x same_taken opens none (First t rest is stands) = First t rest (same_taken ∙ is)
      (stands_first (delivered l es) (came l x.event) 0 t.body stands)

  module _ (es : List Entry) (e : Entry) (legal : IsPlayedIn o es) (fresh_is : opened e.number es
      ≡ None) (c : ℕ) (bo : List Entry) (none_early : delivered l bo ≡ []) where
    abbrev at_opening : Option Opened
    at_opening = Some (record { start = ByPeer c; before = bo })

    abbrev Before : Type 0
    Before = opened l es ≡ at_opening → Began l es

    was_open : (a b : Bool) → (not a && b) ≡ true → b ≡ true
    was_open a b q = (and_parts (not a) b q).1

    -- the entry opens a link
    begins : (ev : Event) (r : Reply) (st : Start)
        → taken l (but e ev (Accepted r) ∷ es) ≡ taken l es → came l ev ≡ [] → (b : Bool)
        → (e.number == l) ≡ b
        → is_open l (but e ev (Accepted r) ∷ es) ≡ ((e.number == l) || is_open l es)
        → elim (cond {A = Option Opened} b (Some (record { start = st; before = es })) None) as
        (λ _. Option Opened) [ Some y ↦ Some y | None ↦ opened l es ] ≡ at_opening
        → Before → Began l (but e ev (Accepted r) ∷ es)
    begins ev r st same_taken none true here opens q so_far = grind (arith, none_taken)
    begins ev r st same_taken none false other opens q so_far = keep es (but e ev (Accepted r))
        same_taken (λ now. sym (opens ∙ ap (λ b. b || is_open l es) other) ∙ now) none (so_far q)

    accepted_frame : (k : ℕ) (body : List ℕ) (r : Reply)
        → Accepted r ≡ judgement (past o es) e.seat (Frame k body) → (b : Bool) → (k == l) ≡ b
        → Began l es → Began l (but e (Frame k body) (Accepted r) ∷ es)
    accepted_frame k body r q false other began =
        keep es (but e (Frame k body) (Accepted r))
        (ap (λ b. and_frame (taken l es) (cond b (Some (record { body = body; before = es })) None))
        other)
        (was_open (ends l es (Accepted r) (Frame k body)) (is_open l es))
        (ap (λ b. cond b (body ∷ []) []) other) began
    accepted_frame k body r q true is (Nothing no_taken no_body) =
        let opens : is_open l es ≡ true = grind (arith, eqb-true k l is) in
        First (record { body = body; before = es }) []
        (λ i. and_frame (no_taken i) (cond (is i) (Some (record { body = body; before = es }))
        None)) (λ i. slice_get (no_body opens i ++ cond (is i) (body ∷ []) []) 0)
    accepted_frame k body r q true is (First t rest first stands) =
        First t (rest ++ record { body = body; before = es } ∷ [])
        (λ i. and_frame (first i) (cond (is i) (Some (record { body = body; before = es })) None))
        (stands_first (delivered l es) (came l (Frame k body)) 0 t.body stands)

    refused_frame : (k : ℕ) (body : List ℕ) (r : Rule) → opened l es ≡ at_opening → (b : Bool)
        → (k == l) ≡ b → Began l es → Began l (but e (Frame k body) (Refused r) ∷ es)
    refused_frame k body r opening false other began =
        keep es (but e (Frame k body) (Refused r)) refl
        (was_open (ends l es (Refused r) (Frame k body)) (is_open l es))
        (ap (λ b. cond b (body ∷ []) []) other) began
    refused_frame k body r opening true is (Nothing no_taken no_body) = grind arith
    refused_frame k body r opening true is (First t rest first stands) = First t rest first
        (stands_first (delivered l es) (came l (Frame k body)) 0 t.body stands)

    by_event : (ev : Event) (v : Verdict) → v ≡ judgement (past o es) e.seat ev → Before
        → opened l (but e ev v ∷ es) ≡ at_opening → Began l (but e ev v ∷ es)
    by_event (Event.Opened d) (Accepted r) q so_far opens = begins (Event.Opened d) r (ByPeer d)
        refl refl (e.number == l) refl refl opens so_far
    by_event (Event.Dial n d) (Accepted r) q so_far opens = begins (Event.Dial n d) r (ByDial n d)
        refl refl (e.number == l) refl refl opens so_far
    by_event Event.Restart (Accepted r) q so_far opens = cc
    by_event (Frame k body) (Accepted r) q so_far opens = accepted_frame k body r q (k == l)
        refl (so_far opens)
    by_event (Frame k body) (Refused r) q so_far opens = refused_frame k body r opens (k == l)
        refl (so_far opens)
    by_event ev (Accepted r) q so_far opens = keep es (but e ev (Accepted r)) refl
        (was_open (ends l es (Accepted r) ev) (is_open l es)) refl (so_far opens)
    by_event ev (Refused r) q so_far opens = keep es (but e ev (Refused r)) refl
        (was_open (ends l es (Refused r) ev) (is_open l es)) refl (so_far opens)

  began : (es : List Entry) → IsPlayedIn o es → (c : ℕ) (bo : List Entry) → delivered l bo ≡ []
      → opened l es ≡ Some (record { start = ByPeer c; before = bo }) → Began l es
  began [] legal c bo none opens = cc
  began (e ∷ es) legal c bo none opens =
      by_event es e legal.1 (fresh o es legal.1 e legal.0) c bo none e.event
      e.verdict legal.0.judged (began es legal.1 c bo none) opens

  pub named_first : (es : List Entry) → IsPlayedIn o es → (c : ℕ) (bo : List Entry)
      → delivered l bo ≡ [] → opened l es ≡ Some (record { start = ByPeer c; before = bo })
      → is_whole l es ≡ true → IsNamedFirst l es
  named_first es legal c bo none opens whole = by (began es legal c bo none opens)
    where
      by : Began l es → IsNamedFirst l es
      by (Nothing no_taken no_body) = cc
      by (First t rest first stands) =
          let walk = subst (λ x. Far o x (t ∷ rest)) opens
          (subst (Far o (opened l es)) first (far o es legal l)) in
          let hello = walk.0.0 in
          let says = walk.0.1 in
          record {
            body = t.body;
            hello = hello;
            stands = stands;
            says = says;
            given_is = grind arith;
            peer = grind arith;
          }

  -- ---- frames that were accepted came

  abbrev IsCame : List (List ℕ) → Taken → Type 0
  IsCame bodies t = (place : ℕ) × (slice_get bodies place ≡ Some t.body)

  more_came : (bodies more : List (List ℕ)) (ts : List Taken) → AllByRecursion (IsCame bodies) ts
      → AllByRecursion (IsCame (bodies ++ more)) ts
  more_came bodies more [] all = tt
  more_came bodies more (t ∷ ts) all = grind (arith, stands_first, more_came bodies more ts all.1)

  taken_came : (es : List Entry) → AllByRecursion (IsCame (delivered l es)) (taken l es)
  taken_came [] = tt
  taken_came (e ∷ es) =
      grind (arith, taken_came es, all_append, more_came, stands_last (delivered l es))

  pub asked_once : (es : List Entry) → IsPlayedIn o es → (n : List ℕ) (c : ℕ) (bo : List Entry)
      → opened l es ≡ Some (record { start = ByDial n c; before = bo }) → is_whole l es ≡ true
      → IsAskedOnce l n es
  asked_once es legal n c bo opens whole = by (taken l es) refl
    where
      by : (ts : List Taken) → taken l es ≡ ts → IsAskedOnce l n es
      by [] is = cc
      by (a ∷ []) is = cc
      by (a ∷ b ∷ []) is = cc
      by (a ∷ b ∷ t ∷ ts) is =
          let walk = subst (λ x. Far o x (a ∷ b ∷ t ∷ ts)) opens
          (subst (Far o (opened l es)) is (far o es legal l)) in
          let asked = walk.1.1 in
          let came_so = subst (AllByRecursion (IsCame (delivered l es))) is (taken_came es) in
          record {
            place = came_so.1.0.0;
            body = b.body;
            challenge = asked.0;
            stands = came_so.1.0.1;
            says = asked.1;
            given_is = grind arith;
            peer = grind arith;
          }
