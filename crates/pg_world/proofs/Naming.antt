-- Names that two nodes share.
use Rattle.pg_world.proofs
use proofs.Words.{ap, Bool, Decides, Decides-eqb, false, get_or, histories, History, length, List}
use proofs.Words.{nat_eq, option_map, pointwise, Recorded, refl, ShareAName, slice_eq-Decides}
use proofs.Words.{slice_get, slice_get-map, slice_get_read, Some, sym, true, ℕ, ◌<◌, ◌∙◌, ◌≡◌, ◌≢◌}
use proofs.Puts.{value_of}

-- the history of the node that is read at a place stands there
pub stands : (nodes : List Recorded) (i : ℕ) (node : Recorded) → i < length nodes
    → node ≡ get_or nodes i node → slice_get (histories nodes) i ≡ Some node.history
stands nodes i node within is = slice_get-map (λ n. n.history) nodes i
    ∙ ap (option_map (λ n. n.history))
    (slice_get_read nodes (length nodes) i node refl within is)

-- the comparison of two names decides
alike : (x y : List ℕ) → Decides (pointwise nat_eq x y) (x ≡ y)
alike x y = slice_eq-Decides {E = nat_eq} Decides-eqb x y (pointwise nat_eq x y) refl

module _ (hs : List History) (i j : ℕ) (a b : History) (x y : List ℕ) where
  -- what is read at two places, and the names there
  pub record Read : Type 0 where
    pub one : slice_get hs i ≡ Some a
    pub another : slice_get hs j ≡ Some b
    pub name : x ≡ a.opening.name
    pub other : y ≡ b.opening.name

  pub shared : (r : Bool) → Read → i < j → r ≡ pointwise nat_eq x y → r ≡ true → ShareAName hs
  shared r t before is holds = record {
    first = i;
    second = j;
    one = a;
    another = b;
    before = before;
    first_stands = t.one;
    second_stands = t.another;
    same = sym t.name ∙ (alike x y).0 (sym is ∙ holds) ∙ t.other;
  }

  pub apart : (r : Bool) → Read → r ≡ pointwise nat_eq x y → r ≡ false → (h k : History)
      → slice_get hs i ≡ Some h → slice_get hs j ≡ Some k → h.opening.name ≢ k.opening.name
  apart r t is fails h k one two same =
      let h_is = value_of (sym t.one ∙ one) in
      let k_is = value_of (sym t.another ∙ two) in
      let both = t.name ∙ ap (λ v. v.opening.name) h_is ∙ same ∙ sym (ap (λ v. v.opening.name) k_is)
      ∙ sym t.other in
      let holds = is ∙ (alike x y).1 both in
      cc
