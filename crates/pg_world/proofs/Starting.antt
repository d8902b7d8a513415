-- A world of nodes that have seen nothing, without wires.
use Rattle.pg_world.proofs
use proofs.Words.{ap, arith, Bool, DifferInName, false, FramesAreLate, History, is_open, IsNode}
use proofs.Words.{IsWorld, lie, List, ltb-true, nat_lt, no_value, refl, slice_get, Some, subst, sym}
use proofs.Words.{true, world, ℕ, [], ◌∙◌, ◌≡◌}

module _ (hs : List History) (differ : DifferInName hs) (nodes : (i : ℕ) (h : History)
    → slice_get hs i ≡ Some h → IsNode h) (unused : (i : ℕ) (h : History) → slice_get hs i ≡ Some h
    → h.entries ≡ []) where
  named : (i j : ℕ) (h k : History) → slice_get hs i ≡ Some h → slice_get hs j ≡ Some k
      → h.opening.name ≡ k.opening.name → i ≡ j
  named i j h k p q same = by (nat_lt i j) refl (nat_lt j i) refl
    where
      by : (a : Bool) → nat_lt i j ≡ a → (b : Bool) → nat_lt j i ≡ b → i ≡ j
      by true less b other = absurd (differ i j h k (ltb-true i j less) p q same)
      by false least true more = absurd (differ j i k h (ltb-true j i more) q p (sym same))
      by false least false most = grind arith

  pub starts : IsWorld (world hs [])
  starts = record {
    nodes = nodes;
    late = λ i h q. subst FramesAreLate (sym (unused i h q)) tt;
    names = named;
    wired = λ n x q. no_value (sym q);
    carried = λ n x q. no_value (sym q);
    spoken = λ n x q. no_value (sym q);
    once = λ m n x y j k i l q. no_value (sym q);
    ends = λ i h q l opens. lie (sym opens ∙ ap (is_open l) (unused i h q));
  }
