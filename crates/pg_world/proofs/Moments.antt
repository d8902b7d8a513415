-- What the nodes of a world list of each other.
use Rattle.pg_world.proofs
use proofs.Words.{agrees, all_handed, and_parts, ap, append-nil, AreEnds, arith, bodies, bodies_of}
use proofs.Words.{creation, delivered, false, given_here, HasEnd, heard, heard_moment, hears_node}
use proofs.Words.{HearsMoment, History, is_local, is_open, is_up_there, is_whole, IsEnd, IsNode}
use proofs.Words.{IsPlayed, IsWorld, List, listed, listed_now, ListMoments, ListNow, moment}
use proofs.Words.{node_at, Nodes, open_rest, other, out, OutFrame, Pid, present_link, refl, same}
use proofs.Words.{same_decides, sent, shared, Side, slice_get, Some, subst, sym, true, waiting}
use proofs.Words.{Wire, ℕ, [], ◌++◌, ◌∙◌, ◌≡◌}
use proofs.Ends.{all_owed, IsJoined}
use proofs.Joining.{carried_to, far_end, joined, node_there, tied}
use proofs.Puts.{value_of}
use proofs.Sharing.{both_speak}
use Rattle.pg_world.specs.declared.side.Side.TheVariants as side

-- ---- what is heard

module _ (w : Nodes) (sound : IsWorld w) (i j : ℕ) (A B : History)
    (at_a : slice_get w.nodes i ≡ Some A) (at_b : slice_get w.nodes j ≡ Some B) where
  module _ (b : ℕ) (s : List ℕ) (present : present_link A.opening.name B.entries ≡ Some b)
      (hears : heard B.opening b s B.entries ≡ true) where
    abbrev Shown : Type 0
    Shown = (a : ℕ) × AreEnds w i a j b × HearsMoment A a B b s

    -- the link is the end of a wire, and the node at the other has the name of A, so it is A
    pub shows : Shown
    shows = by end.at end.number end.wire end.stands end.ends
      where
        legal : IsPlayed B
        legal = (sound.nodes j B at_b).legal

        up : (is_open b B.entries ≡ true) × (is_whole b B.entries ≡ true)
        up = and_parts (is_open b B.entries) (is_whole b B.entries) (is_up_there B legal b s hears)

        end : HasEnd w.wires j b
        end = sound.ends j B at_b b up.0

        by : (to : Side) (n : ℕ) (x : Wire) → slice_get w.wires n ≡ Some x → IsEnd x to j b → Shown
        by to n x stands here =
            let ties = tied w sound n x stands in
            let there = node_there ties (other to) in
            let near : slice_get w.nodes (node_at to x) ≡ Some B =
            ap (slice_get w.nodes) here.node ∙ at_b in
            let a = far_end ties to B b near here.link up.0 up.1 in
            let joins = joined ties to there.0 B a.0 b there.1 near a.1 here.link up.0 in
            let named = value_of (sym (given_here b there.0.opening.name
            (creation (moment a.0 there.0)) B.entries joins.gives up.1).peer
            ∙ ((agrees B.opening B.entries legal A.opening.name b).0 present).1) in
            let place = sound.names (node_at (other to) x) i there.0 A there.1 at_a named in
            let far = ap (slice_get w.nodes) place ∙ at_a in
            let it = subst (λ v. IsJoined v a.0 B b) (value_of (sym there.1 ∙ far)) joins in
            let speak = both_speak w sound n x stands to A B a.0 b far near a.1 here.link in (
              a.0,
              record {
                number = n;
                wire = x;
                at = to;
                stands = stands;
                there = record { node = place; link = a.1 };
                here = here;
              },
              heard_moment (shared A.opening.links B.opening.links) A (sound.nodes i A at_a) a.0 B
                  legal b s speak.0 speak.1 hears it.gives it.later it.carried,
            )

  pub lists_none : (i ≡ j → ⊥) → (s : List ℕ) → hears_node B A.opening.name s ≡ false
      → (g : List ℕ) (p : Pid) → same p.node A.opening.name ≡ true → listed B s g p ≡ 0
  lists_none apart s deaf g p its =
      let is = (same_decides p.node A.opening.name).0 its in
      let foreign : is_local B p ≡ false = grind
      (arith, same_decides p.node B.opening.name, is, sound.names i j A B at_a at_b) in
      grind (arith, foreign, is)

pub lists_moments : (w : Nodes) → IsWorld w → ListMoments w
lists_moments w sound = record { hears = shows w sound; unheard = lists_none w sound }

-- ---- settled views

-- all that is owed came, where nothing waits and nothing is under way
all_came : (S R : History) → (sound : IsNode S) → (a b : ℕ) (q : List OutFrame) → q ≡ []
    → is_open a S.entries ≡ true → waiting S a ≡ []
    → delivered b R.entries ++ bodies q ≡ bodies (sent a S.entries)
    → delivered b R.entries ≡ bodies_of (out S a)
all_came S R node a b q empty opens none carries =
    let handed = open_rest S.opening S.entries a opens
    (all_handed S.opening S.entries node.legal a) in
    sym (append-nil (delivered b R.entries))
    ∙ sym (ap (λ v. delivered b R.entries ++ bodies v) empty) ∙ carries
    ∙ sym (append-nil (bodies (sent a S.entries)))
    ∙ sym (ap (λ v. bodies (sent a S.entries) ++ bodies v) none)
    ∙ all_owed S a (waiting S a) handed

pub lists_now : (w : Nodes) → IsWorld w → ListNow w
lists_now w sound n x stands A B b at_a at_b accepted none_there none_here s there here =
    let node_a = sound.nodes x.from A at_a in
    let node_b = sound.nodes x.to B at_b in
    let ties = tied w sound n x stands in
    let speak = both_speak w sound n x stands side.Acceptor A B x.dialled b at_a at_b refl
    accepted in
    let back = both_speak w sound n x stands side.Dialler B A b x.dialled at_b at_a accepted refl in
    let open_a =
    (and_parts (is_open x.dialled A.entries) (is_whole x.dialled A.entries) there.up).0 in
    let open_b = (and_parts (is_open b B.entries) (is_whole b B.entries) here.up).0 in
    let to_b = joined ties side.Acceptor A B x.dialled b at_a at_b refl accepted open_b in
    let to_a = joined ties side.Dialler B A b x.dialled at_b at_a accepted refl open_a in
    let came_b = all_came A B node_a x.dialled b x.to_acceptor none_there open_a there.none_waits
    (carried_to ties side.Acceptor A B x.dialled b at_a at_b refl accepted open_b) in
    let came_a = all_came B A node_b b x.dialled x.to_dialler none_here open_b here.none_waits
    (carried_to ties side.Dialler B A b x.dialled at_b at_a accepted refl open_a) in (
      listed_now (shared A.opening.links B.opening.links) A node_a x.dialled B node_b.legal b s
          speak.0 speak.1 here.hears to_b.gives came_b there.tells,
      listed_now (shared B.opening.links A.opening.links) B node_b b A node_a.legal x.dialled s
          back.0 back.1 there.hears to_a.gives came_a here.tells,
    )
