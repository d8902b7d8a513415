-- What is refused while a peer is heard, or a message is kept.
use Rattle.frame_laws.proofs
use proofs.Words.{Accepted, and_parts, ap, append-nil, arith, Begun, begun, begun_after, begun_of}
use proofs.Words.{Bool, but, came, comes_next, cond, delivered, Entry, eqb-true, Event, false}
use proofs.Words.{first_broken, Frame, heard, HeardIsSaid, History, is_about_rows, is_open}
use proofs.Words.{is_running, is_up, is_whole, IsGiven, IsHonest, IsPlayedIn, IsStep, kept_after}
use proofs.Words.{kind_byte, known, lie, link_version, List, Message2, message_checks}
use proofs.Words.{message_taken, None, Opening, Option, option_to_list, Part, PartKind, past, Pid}
use proofs.Words.{refl, Refused, Reply, Row, Rule, said_at, same, same_decides, seen_by, Some}
use proofs.Words.{stated, sym, true, Verdict, ℕ, [], ◌&&◌, ◌++◌, ◌==◌, ◌||◌, ◌∙◌, ◌∷◌, ◌≡◌}
use proofs.Accepting.{heard_met, is_up_there}
use proofs.Bodies.{begun_more, completes_there, is_known, known_heard}
use proofs.KeptStands.{all_stand, is_sync, Stands}
use proofs.KnownAfter.{known_after}
use proofs.NotRefused.{comes, heard_never, kept_of, sync_never}
use proofs.Alike.{Alike}

pub from_or : (a b : Bool) (P : Type 0) → (a || b) ≡ true → (a ≡ true → P) → (b ≡ true → P) → P
from_or = grind arith

abbrev pub Before : ℕ → Opening → ℕ → List ℕ → List Entry → Type 0
Before v o l s es = heard o l s es ≡ true → HeardIsSaid v (past o es) l s

pub or_true : (a : Bool) {b : Bool} → b ≡ true → (a || b) ≡ true
or_true = grind arith

module _ (v : ℕ) (o : Opening) (es : List Entry) (e : Entry) (legal : IsPlayedIn o es) (l : ℕ)
    (agrees : is_whole l es ≡ true → link_version o l es ≡ v) (s : List ℕ) where
  abbrev h : History
  h = past o es

  abbrev bodies : List (List ℕ)
  bodies = delivered l es

  -- ---- each entry

  nobody : Pid
  nobody = record { node = []; creation = 0; number = 0 }

  -- where nothing becomes known the peer was heard before, and the same is stated
  module _ (ev : Event) (w : Verdict) (hears : heard o l s (but e ev w ∷ es) ≡ true)
      (same_known : (g : List ℕ) (p : Pid) → known o l s g p (but e ev w ∷ es) ≡ known o l s g p
      es) where
    pub heard_before : heard o l s es ≡ true
    heard_before = known_heard o l s [] nobody es (stated o l s [] nobody (but e ev w ∷ es))
        (sym (same_known [] nobody) ∙ is_known o l s [] nobody (but e ev w ∷ es) hears)

  -- where nothing comes on the link nobody becomes heard
  pub quiet_heard : (ev : Event) (w : Verdict) → IsStep h (but e ev w) → came l ev ≡ []
      → heard o l s (but e ev w ∷ es) ≡ true → heard o l s es ≡ true
  quiet_heard (Frame k body) (Accepted r) next none hears =
      heard_before (Frame k body) (Accepted r) hears
      (λ g p. known_after o es e legal l s g p (Frame k body) (Accepted r) next hears
      ∙ ap (λ b. seen_by s g p (cond (b && is_whole l es)
      (option_to_list (said_at o l es body)) []) (known o l s g p es)) (other_link (k == l) none))
    where
      other_link : (b : Bool) → cond b (body ∷ []) [] ≡ [] → b ≡ false
      other_link = grind arith
  quiet_heard ev (Accepted r) next none hears = heard_before ev (Accepted r) hears
      (λ g p. known_after o es e legal l s g p ev (Accepted r) next hears)
  quiet_heard ev (Refused r) next none hears = grind arith

  -- ---- a refused message

  module _ (name : List ℕ) (creation : ℕ) (gives : is_whole l es ≡ true
      → IsGiven l name creation es) (body : List ℕ)
      (honest : IsHonest v name creation s (bodies ++ body ∷ [])) (before : Before v o l s es)
      (alike : Alike v o l s es) (r : Rule)
      (next : IsStep h (but e (Frame l body) (Refused r))) where
    -- while s is heard it is no part of s
    not_heard : (up : is_up l es ≡ true) → heard o l s es ≡ true → (kind : PartKind) (number : ℕ)
        (last : Bool) (rows : List Row)
        → message_taken v body ≡ Some (Part kind s number last rows) → true ≡ false
    not_heard up hears kind number last rows says =
        let whole = (and_parts (is_open l es) (is_whole l es) up).1 in
        heard_never v o es e legal l s up (agrees whole) name creation (gives whole) body honest
        (HeardIsSaid.now (before hears)) hears
        (λ kept. alike up (or_true (kept_of s (begun o l es)) (λ i. hears i && kept i)))
        kind number last rows says r next

    pub refused_apart : heard o l s es ≡ true
        → is_about_rows s (completes_there v bodies body) ≡ false
    refused_apart hears = by (message_taken v body) refl
      where
        up : is_up l es ≡ true
        up = is_up_there h legal l s hears

        down_met : (t : List ℕ) → same t s ≡ true
            → first_broken (message_checks h l (Message2.Down t)) ≡ None
        down_met t is = heard_met h legal l (Message2.Down t)
            (ap (λ u. heard o l u es) ((same_decides t s).0 is) ∙ hears) tt

        down_apart : (t : List ℕ) → message_taken v body ≡ Some (Message2.Down t) → (b : Bool)
            → same t s ≡ b → same t s ≡ false
        down_apart = grind (arith, and_parts, down_met)

        part_apart : (kind : PartKind) (t : List ℕ) (number : ℕ) (last : Bool) (rows : List Row)
            → message_taken v body ≡ Some (Part kind t number last rows) → (b : Bool)
            → same t s ≡ b → same t s ≡ false
        part_apart = grind (arith, not_heard, same_decides)

        by : (x : Option Message2) → message_taken v body ≡ x
            → is_about_rows s (completes_there v bodies body) ≡ false
        by None says = grind arith
        by (Some (Message2.Discover t)) says = grind arith
        by (Some (Message2.Down t)) says = grind (arith, down_apart)
        by (Some (Part kind t number last rows)) says =
            grind (arith, part_apart kind t number last rows says (same t s) refl)

    -- while a message of s is kept it is no message: it would be the next part
    nothing_kept : (up : is_up l es ≡ true) → kept_of s (begun o l es) ≡ true → (f : Message2)
        → message_taken v body ≡ Some f → true ≡ false
    nothing_kept up kept f says = by (begun o l es) refl kept f says refl
      where
        whole : is_whole l es ≡ true
        whole = (and_parts (is_open l es) (is_whole l es) up).1

        same_kept : begun o l es ≡ begun_of v bodies
        same_kept = grind arith

        next_is : (k : Begun) → begun o l es ≡ Some k → comes_next (Some k) f ≡ true
        next_is k is = ap (λ x. comes_next x f) (sym (sym same_kept ∙ is))
            ∙ comes v o es e legal l s up (agrees whole) name creation (gives whole) body honest f
            says

        sync_only : (kind : PartKind) → is_sync kind ≡ true → kind ≡ PartKind.Sync
        sync_only = grind arith

        same_kind : (a b : PartKind) → (kind_byte a == kind_byte b) ≡ true → a ≡ b
        same_kind = grind arith

        by : (x : Option Begun) → begun o l es ≡ x → kept_of s x ≡ true → (g : Message2)
            → message_taken v body ≡ Some g → f ≡ g → true ≡ false
        by None is kept g says_g same_f = sym kept
        by (Some k) is kept (Message2.Discover t) says_g same_f = grind (arith, next_is k is)
        by (Some k) is kept (Message2.Down t) says_g same_f = grind (arith, next_is k is)
        by (Some k) is kept (Part kind t number last rows) says_g same_f =
            let follows_it = and_parts _ _ (sym (ap (comes_next (Some k)) same_f)
            ∙ next_is k is) in
            let kind_is : k.kind ≡ kind = same_kind k.kind kind follows_it.0 in
            let scope_is : k.scope ≡ s = (same_decides k.scope s).0 kept in
            let there_is : k.scope ≡ t =
            (same_decides k.scope t).0 (and_parts (same k.scope t) _ follows_it.1).0 in
            let says_s = says_g ∙ ap (λ u. Some (Part kind u number last rows))
            (sym there_is ∙ scope_is) in
            let it = all_stand o l es legal up k is in
            from_or (is_sync k.kind) (heard o l k.scope es) (true ≡ false) (Stands.hears it)
            (λ sync. sync_never v o es e legal l s up (agrees whole) name creation (gives whole)
            body honest (Stands.shows it)
            (ap (is_running h) (sym scope_is) ∙ Stands.runs it) (λ q. same_kept) number last rows
            (says_s ∙ ap (λ u. Some (Part u s number last rows))
            (sym kind_is ∙ sync_only k.kind sync)) r next)
            (λ hears. not_heard up (ap (λ u. heard o l u es) (sym scope_is) ∙ hears) kind number
            last rows says_s)

  pub refused_alike : (name : List ℕ) (creation : ℕ)
      → (is_whole l es ≡ true → IsGiven l name creation es) → (k : ℕ) (body : List ℕ)
      → (k == l) ≡ true → IsHonest v name creation s (bodies ++ body ∷ []) → Before v o l s es →
      Alike v o l s es
      → (r : Rule) → IsStep h (but e (Frame k body) (Refused r))
      → Alike v o l s (but e (Frame k body) (Refused r) ∷ es)
  refused_alike name creation gives k body is honest before alike r next up kept =
      by (message_taken v body) refl
    where
      x : Entry
      x = but e (Frame k body) (Refused r)

      here : IsStep h (but e (Frame l body) (Refused r))
      here = grind (arith, eqb-true)

      came_is : begun_of v (bodies ++ cond (k == l) (body ∷ []) [])
          ≡ kept_after (begun_of v bodies) (message_taken v body)
      came_is = grind (arith, begun_more)

      heard_was : heard o l s (but e (Frame k body) (Refused r) ∷ es) ≡ true
          → heard o l s es ≡ true
      heard_was = grind arith

      up_was : is_up l es ≡ true
      up_was = grind arith

      of : (m : Option Message2) → message_taken v body ≡ m → (f : Message2) → m ≡ Some f
          → begun o l es ≡ begun_of v (bodies ++ cond (k == l) (body ∷ []) [])
      of m says f is_some_f = from_or (kept_of s (begun o l es)) _ _ kept
          (λ mine. lie (nothing_kept name creation gives body honest before alike r here up_was mine
          f (says ∙ is_some_f)))
          (λ both. (let it = and_parts _ _ both in
          lie (goes f (says ∙ is_some_f) (heard_was it.0)
          (sym (ap (kept_of s) (came_is ∙ ap (kept_after (begun_of v bodies)) (says ∙ is_some_f)))
          ∙ it.1))))
        where
          goes : (f : Message2) → message_taken v body ≡ Some f → heard o l s es ≡ true
              → kept_of s (begun_after (begun_of v bodies) f) ≡ true → true ≡ false
          goes (Message2.Discover t) says hears q = sym q
          goes (Message2.Down t) says hears q = sym q
          goes (Part kind t number true rows) says hears q = sym q
          goes (Part kind t number false rows) says hears q =
              not_heard name creation gives body honest before alike r here up_was hears kind number
              false rows (says ∙ ap (λ u. Some (Part kind u number false rows))
              ((same_decides t s).0 q))

      by : (m : Option Message2) → message_taken v body ≡ m
          → begun o l es ≡ begun_of v (bodies ++ cond (k == l) (body ∷ []) [])
      by (Some f) says = of (Some f) says f refl
      by None says = grind (arith, came_is)

  pub stopped_alike : (t : List ℕ) (r : Reply) → IsStep h (but e (Event.StopScope t) (Accepted r))
      → Alike v o l s es → Alike v o l s (but e (Event.StopScope t) (Accepted r) ∷ es)
  stopped_alike = grind (arith, append-nil, same_decides)
