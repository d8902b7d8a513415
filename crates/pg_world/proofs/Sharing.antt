-- Both ends of a wire speak the version that both nodes share.
use Rattle.pg_world.proofs
use proofs.Words.{ap, arith, cond, History, is_open, is_whole, IsWorld, just, link_at}
use proofs.Words.{link_version, List, Name, node_at, Nodes, Opening, option_map_or, other, refl}
use proofs.Words.{shared, Side, slice_get, Some, Speaks, SpeaksShared, subst, sym, true, Wire, ℕ}
use proofs.Words.{◌&&◌, ◌==◌, ◌∙◌, ◌≡◌}
use proofs.Entering.{after, legal, Makes, Was, was}
use proofs.Joining.{far_end, joined, Ties}
use proofs.Puts.{found, IsFound, Kept, Put}
use Rattle.frame_laws.proofs.OneVersion.{speaks_on}
use Rattle.pg_world.specs.declared.side.Side.TheVariants as side

pub other_twice : (at : Side) → other (other at) ≡ at
other_twice side.Dialler = refl
other_twice side.Acceptor = refl

shared_sym : (m n : ℕ) → shared m n ≡ shared n m
shared_sym m n = grind arith

-- the two ends of a wire speak it
pub both_speak : (w : Nodes) → IsWorld w → (n : ℕ) (x : Wire) → slice_get w.wires n ≡ Some x
    → (to : Side) (A B : History) (a b : ℕ) → slice_get w.nodes (node_at (other to) x) ≡ Some A
    → slice_get w.nodes (node_at to x) ≡ Some B → link_at (other to) x ≡ Some a
    → link_at to x ≡ Some b → Speaks A.opening a (shared A.opening.links B.opening.links) A.entries
    × Speaks B.opening b (shared A.opening.links B.opening.links) B.entries
both_speak w sound n x stands to A B a b at_a at_b far near = (
  sound.spoken n x stands (other to) A B a at_a
      (ap (λ s. slice_get w.nodes (node_at s x)) (other_twice to) ∙ at_b) far,
  subst (λ v. Speaks B.opening b v B.entries) (shared_sym B.opening.links A.opening.links)
      (sound.spoken n x stands to B A b at_b at_a near),
)

-- where an end is open and whole, it speaks that
now_shares : {hs : List History} {x : Wire} → Ties hs x → (at : Side) (h k : History) (l : ℕ)
    → slice_get hs (node_at at x) ≡ Some h → slice_get hs (node_at (other at) x) ≡ Some k
    → link_at at x ≡ Some l → is_open l h.entries ≡ true → is_whole l h.entries ≡ true
    → link_version h.opening l h.entries ≡ shared h.opening.links k.opening.links
now_shares ties at h k l here there link opens whole =
    let a = far_end ties at h l here link opens whole in
    ap (λ g. cond (h.opening.links == 2 && option_map_or (λ f. Name.version f) g 1 == 2) 2 1)
    ((joined ties at k h a.0 l there here a.1 link opens).hello whole)

module _ {w : Nodes} (m : Makes w) where
  open m use {i, h, e, here}

  -- if a wire did before an entry of node i, it does afterwards
  pub shares_after : (y : Wire) → Ties (after m) y → (at : Side) → SpeaksShared w.nodes y at
      → SpeaksShared (after m) y at
  shares_after y ties at before f k l f_is k_is link =
      by (found w.nodes i (just h e) h here (node_at at y) f f_is)
    where
      there : Was m (node_at (other at) y) k
      there = was m (node_at (other at) y) k k_is

      by : IsFound w.nodes i (just h e) (node_at at y) f
          → Speaks f.opening l (shared f.opening.links k.opening.links) f.entries
      by (Kept apart stands) = subst
          (λ o. Speaks f.opening l (shared f.opening.links (Opening.links o)) f.entries)
          there.opening (before f there.before l stands there.stands link)
      by (Put is its) =
          subst (λ g. Speaks g.opening l (shared g.opening.links k.opening.links) g.entries) its
          (speaks_on h.opening l e h.entries (legal m) (shared h.opening.links k.opening.links)
          m.step (λ opens whole. now_shares ties at (just h e) k l
          (f_is ∙ ap (λ v. Some v) (sym its)) k_is link opens whole)
          (subst (λ o. Speaks h.opening l (shared h.opening.links (Opening.links o)) h.entries)
          there.opening
          (before h there.before l (ap (slice_get w.nodes) is ∙ here) there.stands link)))
