-- Both ends of a wire are joined: a beginning of what one end owed came at the other, whose peer
-- has given what the node there says of itself.
use Rattle.pg_world.proofs
use proofs.Words.{bodies, ByDial, came_of, Carries, delivered, FramesAreLate, gets_of, handed_of}
use proofs.Words.{History, is_open, is_whole, IsNode, IsWired, IsWorld, link_at, List, node_at}
use proofs.Words.{Nodes, None, opening_of, Option, other, refl, sent, Side, slice_get, Some, sym}
use proofs.Words.{true, under_way, Wire, ℕ, ◌++◌, ◌∙◌, ◌≡◌}
use proofs.Ends.{dialled_some, IsJoined, joined_acceptor, joined_dialler}
use Rattle.pg_world.specs.declared.side.Side.TheVariants as side

-- a wire between these nodes, and what it carries
pub record Ties (hs : List History) (x : Wire) : Type 0 where
  pub nodes : (i : ℕ) (h : History) → slice_get hs i ≡ Some h → IsNode h
  pub late : (i : ℕ) (h : History) → slice_get hs i ≡ Some h → FramesAreLate h.entries
  pub wired : IsWired hs x
  pub carried : (to : Side) → Carries hs x to

pub tied : (w : Nodes) → IsWorld w → (n : ℕ) (x : Wire) → slice_get w.wires n ≡ Some x
    → Ties w.nodes x
tied w sound n x stands = record {
  nodes = sound.nodes;
  late = sound.late;
  wired = sound.wired n x stands;
  carried = sound.carried n x stands;
}

module _ {hs : List History} {x : Wire} (ties : Ties hs x) where
  open ties use {nodes, late, wired, carried}

  pub node_there : (at : Side) → (h : History) × (slice_get hs (node_at at x) ≡ Some h)
  node_there side.Dialler = (wired.dialler, wired.from_stands)
  node_there side.Acceptor = (wired.acceptor, wired.to_stands)

  -- what came at a side and is under way to it was handed out at the other
  pub carried_to : (to : Side) (S R : History) (a b : ℕ) → slice_get hs (node_at (other to)
      x) ≡ Some S → slice_get hs (node_at to x) ≡ Some R
      → link_at (other to) x ≡ Some a → link_at to x ≡ Some b → is_open b R.entries ≡ true
      → delivered b R.entries ++ bodies (under_way to x) ≡ bodies (sent a S.entries)
  carried_to to S R a b there here far near opens =
      let carries = carried to ((λ i. gets_of (here i) (near i)) ∙ opens) in
      sym (λ i. came_of (here i) (near i) ++ bodies (under_way to x)) ∙ carries
      ∙ (λ i. handed_of (there i) (far i))

  dialled_here : (S R : History) (b : ℕ) → slice_get hs x.to ≡ Some S → slice_get hs x.from ≡ Some R
      → Some x.dialled ≡ Some b
      → opening_of b R.entries ≡ Some (ByDial S.opening.name wired.challenge)
  dialled_here S R b there here near =
      cc (wired.dial, wired.from_stands, wired.to_stands, there, here, near)

  pub joined : (to : Side) (S R : History) (a b : ℕ) → slice_get hs (node_at (other to) x) ≡ Some S
      → slice_get hs (node_at to x) ≡ Some R → link_at (other to) x ≡ Some a
      → link_at to x ≡ Some b → is_open b R.entries ≡ true → IsJoined S a R b
  joined side.Acceptor S R a b there here far near opens =
      let c = wired.opening b near in
      joined_acceptor S R (nodes x.from S there) (nodes x.to R here) (late x.to R here) a b
      x.to_acceptor (carried_to side.Acceptor S R a b there here far near opens) R.opening.name
      wired.challenge c.0 (dialled_here R S a here there far) (cc (c.1, wired.to_stands, here))
  joined side.Dialler S R a b there here far near opens =
      let c = wired.opening a far in
      joined_dialler S R (nodes x.to S there) (nodes x.from R here) (late x.from R here) a b
      x.to_dialler (carried_to side.Dialler S R a b there here far near opens) c.0 wired.challenge
      (cc (c.1, wired.to_stands, there)) (dialled_here S R b there here near)

  -- a whole link has another end
  pub far_end : (to : Side) (R : History) (b : ℕ) → slice_get hs (node_at to x) ≡ Some R
      → link_at to x ≡ Some b → is_open b R.entries ≡ true → is_whole b R.entries ≡ true
      → (a : ℕ) × (link_at (other to) x ≡ Some a)
  far_end side.Acceptor R b here near opens whole = (x.dialled, refl)
  far_end side.Dialler R b here near opens whole = by x.accepted refl
    where
      by : (l : Option ℕ) → x.accepted ≡ l → (a : ℕ) × (x.accepted ≡ Some a)
      by (Some a) q = (a, q)
      by None q =
          let all = sym (λ i. came_of (here i) (near i) ++ bodies x.to_dialler)
          ∙ carried side.Dialler ((λ i. gets_of (here i) (near i)) ∙ opens)
          ∙ (λ i. handed_of (wired.to_stands i) (q i)) in
          absurd (dialled_some R (nodes x.from R here) b wired.acceptor.opening.name wired.challenge
          (dialled_here wired.acceptor R b wired.to_stands here near) whole (bodies x.to_dialler)
          all)
