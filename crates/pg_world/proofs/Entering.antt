-- What one entry of one node makes of the ends of the wires.
use Rattle.pg_world.proofs
use proofs.Words.{ap, append-nil, append_assoc, arith, bodies, Bool, ByDial, ByPeer, came, came_of}
use proofs.Words.{Carries, changed_queue, cond, entered, entered_next, Entry, eqb-false, eqb-true}
use proofs.Words.{false, gets_of, handed, handed_of, History, is_open, IsLate, IsNext, IsPlayed}
use proofs.Words.{IsStep, IsWired, IsWorld, IsWritten, just, link_at, List, map-append, next_step}
use proofs.Words.{node_at, Nodes, None, opening_low, opening_of, Option, other, OutFrame, refl}
use proofs.Words.{sent, Side, slice_get, slice_set, Some, Start, sym, true, under_way, unopened}
use proofs.Words.{Wire, ℕ, [], ◌++◌, ◌==◌, ◌∙◌, ◌∷◌, ◌≡◌, ◌≤◌}
use proofs.Ends.{kept_opening}
use proofs.Puts.{found, get_other, get_same, IsFound, Kept, Put}
use Rattle.policy_audit.specs.declared.event.Event.TheVariants as event
use Rattle.pg_world.specs.declared.side.Side.TheVariants as side

-- y is wire x, with other frames under way
pub record SameEnds (x y : Wire) : Type 0 where
  pub node : (at : Side) → node_at at y ≡ node_at at x
  pub link : (at : Side) → link_at at y ≡ link_at at x

pub same_ends : (x : Wire) → SameEnds x x
same_ends x = record { node = λ at. refl; link = λ at. refl }

pub same_but_queue : (at : Side) (f : List OutFrame → List OutFrame) (x : Wire)
    → SameEnds x (changed_queue at f x)
same_but_queue at f x = record { node = λ s. grind arith; link = λ s. grind arith }

-- what came with an entry on a link, and what it handed out
abbrev added_came : Entry → Option ℕ → List (List ℕ)
added_came e None = []
added_came e (Some l) = came l e.event

abbrev added_handed : Entry → Option ℕ → List (List ℕ)
added_handed e None = []
added_handed e (Some l) = bodies (handed l e.event e.verdict)

-- the same at any node: nothing but at node i
abbrev pub new_came : Entry → ℕ → ℕ → Option ℕ → List (List ℕ)
new_came e i k o = cond (k == i) (added_came e o) []

abbrev pub new_handed : Entry → ℕ → ℕ → Option ℕ → List (List ℕ)
new_handed e i k o = cond (k == i) (added_handed e o) []

-- the links of a wire were opened before
module _ (w : Nodes) (sound : IsWorld w) (n : ℕ) (x : Wire) (stands : slice_get w.wires n ≡ Some x)
    (i : ℕ) (h : History) (here : slice_get w.nodes i ≡ Some h) where
  pub ends_low : (at : Side) (l : ℕ) → link_at at x ≡ Some l → node_at at x ≡ i
      → l ≤ entered h.entries
  ends_low side.Dialler l q is =
      let it = sound.wired n x stands in
      opening_low h.opening h.entries (sound.nodes i h here).legal l
      (ByDial it.acceptor.opening.name it.challenge) (cc (it.dial, it.from_stands, here, q, is))
  ends_low side.Acceptor l q is =
      let it = sound.wired n x stands in
      let c = it.opening l q in
      opening_low h.opening h.entries (sound.nodes i h here).legal l (ByPeer c.0)
      (cc (c.1, it.to_stands, here, is))

-- Node i of a world makes a step, an entry or the loss of a link, for which its audit has room.
pub record Makes (w : Nodes) : Type 0 where
  pub sound : IsWorld w
  pub i : ℕ
  pub h : History
  pub e : Entry
  pub here : slice_get w.nodes i ≡ Some h
  pub step : IsStep h e
  pub room : entered (e ∷ h.entries) ≤ h.opening.entries
  pub written : IsWritten e.event
  pub late : IsLate h.entries e.event

pub room_for : (h : History) (e : Entry) → IsNext h e → entered (e ∷ h.entries) ≤ h.opening.entries
room_for h e next =
    let more = entered_next e h.entries next.number in
    let room = next.room in
    omega (arith, more, room)

abbrev pub makes : (w : Nodes) → IsWorld w → (i : ℕ) (h : History) (e : Entry)
    → slice_get w.nodes i ≡ Some h → IsNext h e → IsWritten e.event → IsLate h.entries e.event
    → Makes w
makes w sound i h e here next written late = record {
  sound = sound;
  i = i;
  h = h;
  e = e;
  here = here;
  step = next_step h e next;
  room = room_for h e next;
  written = written;
  late = late;
}

module _ {w : Nodes} (m : Makes w) where
  open m use {sound, i, h, e, here, step}

  pub legal : IsPlayed h
  legal = (sound.nodes i h here).legal

  -- the histories afterwards
  abbrev pub after : List History
  after = slice_set w.nodes i (just h e)

  pub now_here : slice_get after i ≡ Some (just h e)
  now_here = get_same w.nodes i (just h e) h here

  -- ---- how nodes and links were opened

  -- a history as it was, with its opening
  pub record Was (k : ℕ) (g : History) : Type 0 where
    pub before : History
    pub stands : slice_get w.nodes k ≡ Some before
    pub opening : before.opening ≡ g.opening

  pub was : (k : ℕ) (g : History) → slice_get after k ≡ Some g → Was k g
  was k g q = by (found w.nodes i (just h e) h here k g q)
    where
      by : IsFound w.nodes i (just h e) k g → Was k g
      by (Put is its) = record {
        before = h;
        stands = ap (slice_get w.nodes) is ∙ here;
        opening = ap (λ v. v.opening) its;
      }
      by (Kept apart its) = record { before = g; stands = its; opening = refl }

  -- what stands at a node afterwards: the history with its opening, and as its links were opened
  pub record Onward (k : ℕ) (g : History) : Type 0 where
    pub later : History
    pub stands : slice_get after k ≡ Some later
    pub opening : later.opening ≡ g.opening
    pub opens : (l : ℕ) (st : Start) → opening_of l g.entries ≡ Some st
        → opening_of l later.entries ≡ Some st

  pub onward : (k : ℕ) (g : History) → slice_get w.nodes k ≡ Some g → Onward k g
  onward k g q = by (k == i) refl
    where
      by : (b : Bool) → (k == i) ≡ b → Onward k g
      by true is =
          let same : g ≡ h = cc (eqb-true k i is, q, here) in
          record {
            later = just h e;
            stands = ap (slice_get after) (eqb-true k i is) ∙ now_here;
            opening = ap (λ v. v.opening) (sym same);
            opens = λ l st p. kept_opening h.opening e h.entries (step, legal) l st (rw same at p);
          }
      by false apart = record {
        later = g;
        stands = get_other w.nodes i (just h e) k (eqb-false k i apart) ∙ q;
        opening = refl;
        opens = λ l st p. p;
      }

  pub stays_wired : (x y : Wire) → SameEnds x y → IsWired w.nodes x → IsWired after y
  stays_wired x y ends it =
      let a = onward x.from it.dialler it.from_stands in
      let b = onward x.to it.acceptor it.to_stands in
      let st = ByDial it.acceptor.opening.name it.challenge in
      record {
        dialler = a.later;
        acceptor = b.later;
        challenge = it.challenge;
        from_stands = ap (slice_get after) (ends.node side.Dialler) ∙ a.stands;
        to_stands = ap (slice_get after) (ends.node side.Acceptor) ∙ b.stands;
        dial = cc (ends.link side.Dialler, a.opens x.dialled st it.dial, b.opening);
        opening = λ l q. (let c = it.opening l (sym (ends.link side.Acceptor) ∙ q) in
            (c.0, b.opens l (ByPeer c.0) c.1));
      }

  -- ---- what came and was handed out

  elsewhere : (k : ℕ) → (k == i) ≡ false → slice_get after k ≡ slice_get w.nodes k
  elsewhere k q = get_other w.nodes i (just h e) k (eqb-false k i q)

  at_here : (k : ℕ) → (k == i) ≡ true → slice_get after k ≡ Some (just h e)
  at_here k q = ap (slice_get after) (eqb-true k i q) ∙ now_here

  was_here : (k : ℕ) → (k == i) ≡ true → slice_get w.nodes k ≡ Some h
  was_here k q = ap (slice_get w.nodes) (eqb-true k i q) ∙ here

  came_now : (k : ℕ) (o : Option ℕ)
      → came_of (slice_get after k) o ≡ came_of (slice_get w.nodes k) o ++ new_came e i k o
  came_now k o = grind
      (arith, elsewhere k, at_here k, was_here k, append-nil (came_of (slice_get w.nodes k) o))

  handed_now : (k : ℕ) (o : Option ℕ)
      → handed_of (slice_get after k) o ≡ handed_of (slice_get w.nodes k) o ++ new_handed e i k o
  handed_now k None =
      grind
      (arith, elsewhere k, at_here k, was_here k, append-nil (handed_of (slice_get w.nodes k) None))
  handed_now k (Some l) =
      grind (
        arith,
        elsewhere k,
        at_here k,
        was_here k,
        append-nil (handed_of (slice_get w.nodes k) (Some l)),
        map-append (λ f. OutFrame.body f) (sent l h.entries) (handed l e.event e.verdict),
      )

  -- a link that was opened before, and is open now, was open
  still_open : (l : ℕ) → l ≤ entered h.entries → is_open l (e ∷ h.entries) ≡ true
      → is_open l h.entries ≡ true
  still_open l low q =
      grind (arith, unopened h.opening h.entries e l e.event e.verdict step low)

  got : (k : ℕ) (o : Option ℕ) → ((l : ℕ) → o ≡ Some l → k ≡ i → l ≤ entered h.entries)
      → gets_of (slice_get after k) o ≡ true → gets_of (slice_get w.nodes k) o ≡ true
  got k None low q = grind (arith, elsewhere k, at_here k, was_here k)
  got k (Some l) low q =
      grind (arith, elsewhere k, at_here k, was_here k, eqb-true k i, low l refl, still_open l)

  -- ---- what a wire carries

  -- what came with the entry at a side, and what was handed out to it
  abbrev pub comes : Wire → Side → List (List ℕ)
  comes x to = new_came e i (node_at to x) (link_at to x)

  abbrev pub goes : Wire → Side → List (List ℕ)
  goes x to = new_handed e i (node_at (other to) x) (link_at (other to) x)

  -- more may come there
  abbrev pub gets : Wire → Side → Bool
  gets x to = gets_of (slice_get after (node_at to x)) (link_at to x)

  -- what came and is under way now is what was under way and was handed out now
  abbrev pub Fits : Wire → Side → List OutFrame → Type 0
  Fits x to q = gets x to ≡ true → comes x to ++ bodies q ≡ bodies (under_way to x) ++ goes x to

  -- a wire carries what it did, where this fits
  pub carries_on : (n : ℕ) (x y : Wire) → slice_get w.wires n ≡ Some x → SameEnds x y → (to : Side)
      → Fits x to (under_way to y) → Carries after y to
  carries_on n x y stands ends to fits opens =
      let before = came_of (slice_get w.nodes (node_at to x)) (link_at to x) in
      let still : gets x to ≡ true = cc (ends.node to, ends.link to, opens) in
      let was = got (node_at to x) (link_at to x)
      (ends_low w sound n x stands i h here to) still in
      cc (
        ends.node to,
        ends.link to,
        ends.node (other to),
        ends.link (other to),
        came_now (node_at to x) (link_at to x),
        handed_now (node_at (other to) x) (link_at (other to) x),
        append_assoc before (comes x to) (bodies (under_way to y)),
        append_assoc before (bodies (under_way to x)) (goes x to),
        fits still,
        sound.carried n x stands to was,
      )

  -- it fits where nothing came, and nothing was handed out
  pub fits_as_before : (x : Wire) (to : Side) → comes x to ≡ [] → goes x to ≡ []
      → Fits x to (under_way to x)
  fits_as_before x to none_in none_out more =
      rw (none_in, none_out) (sym (append-nil (bodies (under_way to x))))

  pub carries_as_before : (n : ℕ) (x : Wire) → slice_get w.wires n ≡ Some x → (to : Side)
      → comes x to ≡ [] → goes x to ≡ [] → Carries after x to
  carries_as_before n x stands to none_in none_out =
      carries_on n x x stands (same_ends x) to (fits_as_before x to none_in none_out)

  pub none_came : ((l : ℕ) → came l e.event ≡ []) → (k : ℕ) (o : Option ℕ) → new_came e i k o ≡ []
  none_came none k None = grind arith
  none_came none k (Some l) = grind (arith, none l)

  pub none_handed : ((l : ℕ) → handed l e.event e.verdict ≡ []) → (k : ℕ) (o : Option ℕ)
      → new_handed e i k o ≡ []
  none_handed none k None = grind arith
  none_handed none k (Some l) = grind (arith, none l)

  -- where it was handed out, or came, on one link alone
  pub handed_once : (l : ℕ) → e.event ≡ event.Take l → (k : ℕ) (o : Option ℕ)
      → (k ≡ i → o ≡ Some l → ⊥) → new_handed e i k o ≡ []
  handed_once l is k None apart = grind arith
  handed_once l is k (Some n) apart = grind (arith, eqb-true k i, eqb-true l n)

  pub came_once : (l : ℕ) (body : List ℕ) → e.event ≡ event.Frame l body → (k : ℕ) (o : Option ℕ)
      → (k ≡ i → o ≡ Some l → ⊥) → new_came e i k o ≡ []
  came_once l body is k None apart = grind arith
  came_once l body is k (Some n) apart = grind (arith, eqb-true k i, eqb-true l n)
