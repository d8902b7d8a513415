-- Rows that are kept without the name of their node, and the same with it.
use Rattle.scope_core.proofs
use proofs.Words
use Words.{AllByRecursion, and_parts, ap, arith, Bool, cond, Decides, false, key_of, keys_of, List}
use Words.{lookup, NodeRow, None, Option, Pid, refl, Row, row_at, row_in, rows_at, same}
use Words.{same_decides, same_node_row, same_row, set_value, subst, sym, true, Writes, [], ℕ, ◌++◌}
use Words.{◌∙◌, ◌∷◌, ◌≡◌}
use proofs.HashedRows.{same_key_decides}
use proofs.HashedWrites.{at_row}
use Rattle.std.specs.List.{IsDistinct}

abbrev Kept : Type 0
Kept = List (NodeRow × ℕ)

module _ (node : List ℕ) where
  abbrev at : NodeRow → Row
  at q = row_at node q.group q.process

  same_at : (q x : NodeRow) → same_row (at q) (at x) ≡ same_node_row q x
  same_at q x = grind (arith, same_decides)

  lookup_at : (q : NodeRow) (es : Kept)
      → lookup (same_row (at q)) (rows_at node es) ≡ lookup (same_node_row q) es
  lookup_at q [] = refl
  lookup_at q (e ∷ es) = grind (arith, lookup_at q es, same_at)

  set_at : (q : NodeRow) (n : ℕ) (es : Kept) → set_value (same_row (at q)) (rows_at node es) n
      ≡ rows_at node (set_value (same_node_row q) es n)
  set_at q n [] = refl
  set_at q n (e ∷ es) = grind (arith, set_at q n es, same_at)

  apart_at : (q : NodeRow) (es : Kept)
      → AllByRecursion (λ x. same_node_row q x ≡ false) (keys_of es)
      → AllByRecursion (λ r. same_row (at q) r ≡ false) (keys_of (rows_at node es))
  apart_at q [] a = tt
  apart_at q (e ∷ es) a = (same_at q e.0 ∙ a.0, apart_at q es a.1)

  pub once_at : (es : Kept) → IsDistinct same_node_row (keys_of es)
      → IsDistinct same_row (keys_of (rows_at node es))
  unfolding IsDistinct
  once_at [] d = tt
  once_at (e ∷ es) d = (apart_at e.0 es d.0, once_at es d.1)

  elsewhere : (r : Row) (es : Kept) → same r.pid.node node ≡ false
      → lookup (same_row r) (rows_at node es) ≡ None
  elsewhere r [] h = refl
  elsewhere r (e ∷ es) h = grind (arith, elsewhere r es h)

  -- what is written there is written here, and of other nodes there is nothing
  pub writes_at : (q : NodeRow) (o : Option ℕ) (es fs : Kept)
      → ((x : NodeRow) → lookup (same_node_row x) fs
      ≡ cond (same_node_row q x) o (lookup (same_node_row x) es))
      → Writes (at q) o (rows_at node es) (rows_at node fs)
  writes_at q o es fs is r = by (same r.pid.node node) refl
    where
      by : (b : Bool) → same r.pid.node node ≡ b → lookup (same_row r) (rows_at node fs)
          ≡ cond (same_row (at q) r) o (lookup (same_row r) (rows_at node es))
      by true h =
          let x : NodeRow = record { group = r.group; process = key_of r.pid } in
          let here = at_row node r ((same_decides r.pid.node node).0 h) in
          subst (λ s. lookup (same_row s) (rows_at node fs)
          ≡ cond (same_row (at q) s) o (lookup (same_row s) (rows_at node es))) here
          (grind (arith, lookup_at, is x, same_at))
      by false h = grind (arith, elsewhere, same_decides)

  pub more_at : (q : NodeRow) (n : ℕ) (es : Kept)
      → rows_at node (es ++ (q, n) ∷ []) ≡ rows_at node es ++ (at q, n) ∷ []
  more_at q n [] = refl
  more_at q n (e ∷ es) = grind (arith, more_at q n es)

  pub same_node_row_decides : (a b : NodeRow) → Decides (same_node_row a b) (a ≡ b)
  same_node_row_decides a b = grind (arith, and_parts, same_decides, same_key_decides)

  -- the row of a process of the node
  module _ (g : List ℕ) (p : Pid) (own : p.node ≡ node) where
    abbrev pub it : NodeRow
    it = record { group = g; process = key_of p }

    pub it_is : at it ≡ row_in g p
    it_is = grind (arith, at_row)

    pub lookup_in : (es : Kept)
        → lookup (same_row (row_in g p)) (rows_at node es) ≡ lookup (same_node_row it) es
    lookup_in es = grind (arith, it_is, lookup_at)

    pub set_in : (n : ℕ) (es : Kept) → set_value (same_row (row_in g p)) (rows_at node es) n
        ≡ rows_at node (set_value (same_node_row it) es n)
    set_in n es = ap (λ r. set_value (same_row r) (rows_at node es) n) (sym it_is) ∙ set_at it n es

    pub writes_in : (o : Option ℕ) (es fs : Kept) → ((x : NodeRow) → lookup (same_node_row x) fs
        ≡ cond (same_node_row it x) o (lookup (same_node_row x) es))
        → Writes (row_in g p) o (rows_at node es) (rows_at node fs)
    writes_in o es fs is =
        subst (λ r. Writes r o (rows_at node es) (rows_at node fs)) it_is (writes_at it o es fs is)

    pub more_in : (n : ℕ) (es : Kept)
        → rows_at node (es ++ (it, n) ∷ []) ≡ rows_at node es ++ (row_in g p, n) ∷ []
    more_in n es = grind (arith, more_at, it_is)
