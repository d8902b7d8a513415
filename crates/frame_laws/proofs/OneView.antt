-- What one node hears of another is its own rows at one moment.
use Rattle.frame_laws.proofs
use proofs.Numbers.{moment_low}
use proofs.Words.{AllByRecursion, ap, append-nil, arith, bodies_of, Bool, creation, delivered}
use proofs.Words.{entered, Falls, false, foreign_own, has_rows, HasGiven, heard, HeardIsSaid}
use proofs.Words.{HearsMoment, History, is_from, is_local, is_peer, IsGiven, IsNode, IsPlayed}
use proofs.Words.{IsProvedLink, length, List, listed, moment, None, Opened, opened, Option}
use proofs.Words.{option_map, out, OutFrame, Owing, own, PassesThrough, Pid, refl, same, same_sym}
use proofs.Words.{SaysOne, slice_get, slice_get_within, Some, source_at, Speaks, stated, suc, sym}
use proofs.Words.{take, take-append-le, take-map, told, true, view_of, zero, ℕ, [], ◌++◌, ◌+◌, ◌<◌}
use proofs.Words.{◌==◌, ◌∙◌, ◌∷◌, ◌≡◌, ◌≤◌}
use proofs.Bodies.{honest_first, stands_first}
use proofs.Accepting.{listed_is}
use proofs.Hearing.{given_here, heard_said}
use proofs.Moments.{legal_then}
use proofs.Openings.{moment_then, same_creation, since_opening}
use proofs.NotRefused.{one_from}
use proofs.HonestNode.{frame_of, IsBodyOf, node_honest}
use proofs.LinksTell.{all_tell}
use proofs.Pieces.{value_of}
use proofs.Places.{holds_then}
use proofs.SaidUp.{all_said_up, IsSaidUp}
use proofs.Sources.{is_entry, rises}
use proofs.Spoken.{all_said, IsSaid}
use proofs.Through.{passes}
use proofs.ToldPlaces.{told_fall}

-- each place in a list has an element
pub element : {A : Type 0} (xs : List A) (n : ℕ) → n < length xs → (x : A) × (slice_get xs n ≡ Some
    x)
element [] n less = grind arith
element (x ∷ xs) zero less = (x, refl)
element (x ∷ xs) (suc n) less = element xs n (omega arith)

-- what says rows is a message
is_wide : (v : ℕ) (s : List ℕ) (f : OutFrame) → SaysOne v f → has_rows v s f.body ≡ true
    → f.wide ≡ true
is_wide = grind arith

module _ (v : ℕ) (A : History) (node : IsNode A) (a : ℕ) (B : History) (legal : IsPlayed B)
    (b : ℕ) (s : List ℕ) (there : Speaks A.opening a v A.entries)
    (here : Speaks B.opening b v B.entries)
    (hears : heard B.opening b s B.entries ≡ true)
    (gives : HasGiven b A.opening.name (creation (moment a A)) B.entries) where
  -- where the link has stated all own rows of a moment, as many are listed
  module _ (K : History) (same_opening : K.opening ≡ A.opening) (legal_so : IsPlayed K)
      (creation_is : creation K ≡ creation (moment a A)) (rows : (g : List ℕ) (p : Pid)
      → stated B.opening b s g p B.entries ≡ own K s g p)
      (g : List ℕ) (p : Pid) (its_node : same p.node A.opening.name ≡ true) where
    gave : IsGiven b A.opening.name (creation (moment a A)) B.entries
    gave = grind (arith, given_here)

    its : is_peer p.node b B.entries ≡ true
    its = grind (arith, gave.peer, same_sym)

    foreign : (c : Bool) → (p.creation == creation K) ≡ c → is_from b B.entries p ≡ false
        → is_local K p ≡ false
    foreign = grind (arith, one_from, gave)

    lists_all : listed B s g p ≡ own K s g p
    lists_all = by (is_from b B.entries p) refl
      where
        by : (c : Bool) → is_from b B.entries p ≡ c → listed B s g p ≡ own K s g p
        by true from = grind (arith, listed_is)
        by false apart =
            grind (
              arith,
              listed_is B legal b s hears p its g,
              foreign_own K legal_so s g p (foreign (p.creation == creation K) refl apart),
            )

  module _ (later : List (List ℕ)) (carried : delivered b B.entries ++ later ≡ bodies_of
      (out A a)) where
    it : HeardIsSaid v B b s
    it = heard_said v B.opening B.entries legal b here s A.opening.name (creation (moment a A))
        (honest_first v A.opening.name (creation (moment a A)) s (delivered b B.entries) later
        (rw carried (node_honest A node a v there s))) gives hears

    passed : PassesThrough v A a s
    passed = passes v A.opening a s A.entries node there
        (all_tell A.opening A.entries node a v there s)

    -- a body that came is that of a frame owed
    owed_at : (n : ℕ) (body : List ℕ) → slice_get (delivered b B.entries) n ≡ Some body
        → slice_get (bodies_of (out A a)) n ≡ Some body
    owed_at = grind (arith, stands_first)

    source_of : (n : ℕ) → n < length (delivered b B.entries)
        → (x : Owing) × (slice_get (out A a) n ≡ Some x)
    source_of n less =
        let body = element (delivered b B.entries) n less in
        let frame = frame_of (out A a) n body.0 (owed_at n body.0 body.1) in
        (frame.owing, frame.stands)

    frame : IsBodyOf (out A a) it.place it.body
    frame = grind (arith, frame_of, owed_at)

    abbrev x : Owing
    x = frame.owing

    stands : slice_get (out A a) it.place ≡ Some x
    stands = frame.stands

    says : has_rows v s x.frame.body ≡ true
    says = grind arith

    abbrev K : History
    K = moment x.source A

    proved : IsProvedLink K a
    proved = (holds_then A.opening a (IsSaidUp a) A.entries node.legal
        (all_said_up A.opening A.entries node.legal a) it.place x stands).holds
        (is_wide v s x.frame (holds_then A.opening a (IsSaid v) A.entries node.legal
        (all_said A.opening A.entries node a v there) it.place x stands).holds says)

    less : it.place < length (delivered b B.entries)
    less = grind (arith, slice_get_within)

    up_to : (g : List ℕ) (p : Pid)
        → view_of v s g p (take (it.place + 1) (delivered b B.entries)) ≡ view_of v s g p
        (bodies_of (take (it.place + 1) (out A a)))
    up_to g p = grind (
      arith,
      take-append-le (it.place + 1) (delivered b B.entries) later (omega (arith, less)),
      take-map,
    )

    rows_then : (g : List ℕ) (p : Pid) → stated B.opening b s g p B.entries ≡ own K s g p
    rows_then g p = value_of
        (sym (it.behind g p) ∙ up_to g p ∙ passed.moments it.place x stands says g p)

    falls : Falls (it.place ∷ it.earlier)
    falls = grind (arith, told_fall)

    ordered : (ns : List ℕ) → AllByRecursion (λ n. n < it.place) ns
        → AllByRecursion (λ n. (k : ℕ) × (source_at n (out A a) ≡ Some k) × (k ≤ x.source)) ns
    ordered [] all = tt
    ordered (n ∷ ns) all =
        let before = all.0 in
        let y = source_of n (omega (arith, less)) in (
          (
            y.0.source,
            ap (option_map (λ z. z.source)) y.1,
            rises A.opening a A.entries node.legal n it.place y.0 x (omega arith) y.1
                stands,
          ),
          ordered ns all.1,
        )

    -- the creation at the source is the one at the link's opening
    same_then : creation K ≡ creation (moment a A)
    same_then = by (opened a K.entries) refl
      where
        within : x.source ≤ entered A.entries
        within = (is_entry A.opening a A.entries node.legal it.place x stands).within

        by : (y : Option Opened) → opened a K.entries ≡ y → creation K ≡ creation (moment a A)
        by None q = grind (arith, proved.whole)
        by (Some y) q =
            let since = since_opening A.opening K.entries
            (legal_then A node.legal x.source) a y q in
            let low = since.low in
            let long = moment_low x.source A.entries in
            since.same ∙ ap creation (moment_then A.opening A.entries a x.source
            (omega arith) within)

    pub heard_moment : HearsMoment A a B b s
    heard_moment = record {
      place = it.place;
      earlier = it.earlier;
      source = x.source;
      last = it.last;
      is_source = grind arith;
      in_order = ordered it.earlier falls.0;
      proved = proved;
      rows = rows_then;
      listed_is = lists_all K refl (legal_then A node.legal x.source) same_then rows_then;
    }

  -- where all that is owed came, and the peer is told, they are the rows of now
  pub hears_now : delivered b B.entries ≡ bodies_of (out A a) → told A.opening a s A.entries ≡ true
      → (g : List ℕ) (p : Pid) → stated B.opening b s g p B.entries ≡ own A s g p
  hears_now all tells g p =
      let whole = append-nil (delivered b B.entries) ∙ all in
      value_of
      (sym (HeardIsSaid.now (it [] whole) g p) ∙ ap (view_of v s g p) all
      ∙ PassesThrough.now (passed [] whole) tells g p)

  pub listed_now : delivered b B.entries ≡ bodies_of (out A a) → told A.opening a s A.entries ≡ true
      → (g : List ℕ) (p : Pid) → same p.node A.opening.name ≡ true → listed B s g p ≡ own A s g p
  listed_now = grind (arith, lists_all, same_creation, hears_now)
