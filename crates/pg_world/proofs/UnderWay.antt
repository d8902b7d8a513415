-- Of a message of which parts have come the rest is under way, or waits.
use Rattle.pg_world.specs
use Rattle.pg_world.proofs
use proofs.Words.{all_handed, and_parts, ap, append-nil, append_assoc, arith, Begun, begun}
use proofs.Words.{begun_of, bodies, bodies_of, creation, delivered, drop, drop-append-le, frames_of}
use proofs.Words.{frames_said, History, honest_first, inl, inr, is_open, is_some, is_up, is_whole}
use proofs.Words.{IsBegun, IsCut, IsHonest, IsNode, IsWorld, keeps_or_not, KeepsOrNot, length}
use proofs.Words.{length-append, length-drop, length-map, lie, List, Message, moment, node_honest}
use proofs.Words.{Nodes, open_rest, out, out_cut, OutFrame, parts, said_apart, sent, shared, Side}
use proofs.Words.{Some, Speaks, subst, sym, take, take-append-add, take-append-le, take-length}
use proofs.Words.{true, under_way, waiting, Wire, ℕ, ◌++◌, ◌+◌, ◌∙◌, ◌≡◌, ◌≤◌}
use proofs.Ends.{all_owed, IsJoined}
use proofs.Joining.{carried_to, joined, tied}
use proofs.Sharing.{both_speak}
use specs.UnderWay.{IsUnderWay, PartsUnderWay}

-- what stands behind some of these, and how it goes on
split_at : {A : Type 0} (place n j : ℕ) (xs ys : List A) → length xs ≡ place + n
    → take (n + j) (drop place (xs ++ ys)) ≡ drop place xs ++ take j ys
split_at place n j xs ys long =
    let less = length-drop place xs in
    ap (take (n + j)) (drop-append-le place xs ys (omega (arith, long)))
    ∙ ap (λ m. take m (drop place xs ++ ys))
    (let is : n + j ≡ length (drop place xs) + j = omega (arith, less, long) in is)
    ∙ take-append-add (drop place xs) ys j

module _ (A : History) (node : IsNode A) (a : ℕ) (B : History) (receiver : IsNode B) (b : ℕ)
    (x : Wire) (to : Side) (v : ℕ) (there : Speaks A.opening a v A.entries)
    (here : Speaks B.opening b v B.entries) (it : IsJoined A a B b)
    (carries : delivered b B.entries ++ bodies (under_way to x) ≡ bodies (sent a A.entries))
    (up : is_up b B.entries ≡ true) (k : Begun) (keeps : begun B.opening b B.entries ≡ Some k) where
  abbrev came : List (List ℕ)
  came = delivered b B.entries

  abbrev q : List (List ℕ)
  q = bodies (under_way to x)

  -- what the link keeps is what all that came makes
  same_kept : begun_of v came ≡ Some k
  same_kept = by (keeps_or_not v B.opening B.entries receiver.legal b here A.opening.name
      (creation (moment a A)) honest it.gives up)
    where
      honest : (s : List ℕ) → IsHonest v A.opening.name (creation (moment a A)) s came
      honest s = honest_first v A.opening.name (creation (moment a A)) s came it.later
          (subst (IsHonest v A.opening.name (creation (moment a A)) s) (sym it.carried)
          (node_honest A node a v there s))

      by : KeepsOrNot (begun B.opening b B.entries) (begun_of v came) → begun_of v came ≡ Some k
      by (inl none) = lie (sym (ap is_some keeps) ∙ ap is_some none)
      by (inr same) = sym same ∙ keeps

  -- and that is the beginning of one message
  begun_there : IsBegun v (bodies_of (out A a)) (length came) k
  begun_there = IsCut.each (out_cut A.opening A.entries node a v there) (length came) k
      (ap (λ bs. begun_of v (take (length came) bs)) (sym it.carried)
      ∙ ap (begun_of v) (take-append-le (length came) came it.later (omega arith)
      ∙ take-length came) ∙ same_kept)

  abbrev m : Message
  m = begun_there.message

  abbrev place : ℕ
  place = begun_there.place

  long : length came ≡ place + k.number
  long = sym begun_there.behind

  -- the parts that came, and some behind them
  goes_on : (later : List (List ℕ)) → came ++ later ≡ bodies_of (out A a) → (j : ℕ)
      → k.number + j ≤ length (parts m)
      → frames_said v (drop place came) ++ frames_said v (take j later)
      ≡ take (k.number + j) (parts m)
  goes_on later all j le =
      sym (said_apart v (drop place came) (take j later))
      ∙ ap (frames_said v) (sym (split_at place k.number j came later long)
      ∙ ap (λ bs. take (k.number + j) (drop place bs)) all)
      ∙ begun_there.parts_are (k.number + j) le

  accepted_are : frames_said v (drop place came) ≡ take k.number (parts m)
  accepted_are =
      let few = begun_there.few in
      sym (append-nil (frames_said v (drop place came)))
      ∙ goes_on it.later it.carried 0 (omega (arith, few))
      ∙ ap (λ n. take n (parts m)) (let is : k.number + 0 ≡ k.number = omega arith in is)

  behind_them : (later : List (List ℕ)) → came ++ later ≡ bodies_of (out A a) → (j : ℕ)
      → k.number + j ≤ length (parts m)
      → take k.number (parts m) ++ frames_said v (take j later) ≡ take (k.number + j) (parts m)
  behind_them later all j le = ap (λ ps. ps ++ frames_said v (take j later)) (sym accepted_are)
      ∙ goes_on later all j le

  -- what is under way, and then others
  wire_first : (rest : List OutFrame) → (sent a A.entries ++ rest ≡ frames_of (out A a))
      → came ++ (q ++ bodies rest) ≡ bodies_of (out A a)
  wire_first rest all = sym (append_assoc came q (bodies rest)) ∙ ap (λ v. v ++ bodies rest) carries
      ∙ all_owed A a rest all

  waits_first : is_open a A.entries ≡ true
      → came ++ (q ++ bodies (waiting A a)) ≡ bodies_of (out A a)
  waits_first opens = wire_first (waiting A a) (open_rest A.opening A.entries a opens
      (all_handed A.opening A.entries node.legal a))

  pub under_way_so : IsUnderWay A a B b x to k
  under_way_so = record {
    version = v;
    message = m;
    place = place;
    owed = begun_there.parts_are;
    kept = begun_there.kept;
    few = begun_there.few;
    behind = long;
    accepted = accepted_are;
    on_the_wire = λ j less le.
        let out_of = all_handed A.opening A.entries node.legal a in
        let many = length-map (under_way to x) (λ f. OutFrame.body f) in
        ap (λ bs. take k.number (parts m) ++ frames_said v bs)
        (sym (take-append-le j q (bodies out_of.rest) (omega (arith, less, many))))
        ∙ behind_them (q ++ bodies out_of.rest) (wire_first out_of.rest out_of.all) j le;
    all = λ opens j le. behind_them (q ++ bodies (waiting A a)) (waits_first opens) j le;
    none_missing = λ opens.
        let fits = begun_there.fits in
        let both = length-append came (q ++ bodies (waiting A a)) in
        let same = ap length (waits_first opens) in
        let came_so = long in
        omega (arith, fits, both, same, came_so);
  }

-- ---- at each end

pub parts_go_on : (w : Nodes) → IsWorld w → PartsUnderWay w
parts_go_on w sound n x stands to A B a b at_a at_b far near up k keeps =
    let ties = tied w sound n x stands in
    let opens = (and_parts (is_open b B.entries) (is_whole b B.entries) up).0 in
    let speak = both_speak w sound n x stands to A B a b at_a at_b far near in
    under_way_so A (sound.nodes _ A at_a) a B (sound.nodes _ B at_b) b x to
    (shared A.opening.links B.opening.links) speak.0 speak.1
    (joined ties to A B a b at_a at_b far near opens)
    (carried_to ties to A B a b at_a at_b far near opens) up k keeps
