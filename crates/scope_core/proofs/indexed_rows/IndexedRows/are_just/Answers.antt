use Rattle.scope_core.proofs
use proofs.Words.{ap, arith, how_many, is_row, length, List, NodeTable, Pid, refl, Row, sym, tally}
use proofs.Words.{[], ℕ, ◌∙◌, ◌∷◌, ◌≡◌}
use proofs.NodeTables.{node_count}
use proofs.indexed_rows.IndexedRows.are_just.Goals as goal

pub returns-then-total-rows : goal.returns-then-total-rows
returns-then-total-rows c = λ yes g p.
    let mine = node_count c.args.node.now g p c.self.inside.lists c.in-Some.list.now.rows
    c.in-Some.ensures.rows in
    rw (← c.self.view_is) (c.are_just.ensures yes g p
    ∙ ap (λ (t : NodeTable). tally (is_row g p) t.rows) c.rows.ensures.rows ∙ mine)

none_listed : (rows : List Row) (g : List ℕ) (p : Pid) → length rows ≡ 0
    → how_many (is_row g p) rows ≡ 0
none_listed [] g p e = refl
none_listed (r ∷ rows) g p e = grind arith

pub returns-in-None : goal.returns-in-None
returns-in-None c = λ yes g p.
    let mine = node_count c.args.node.now g p c.self.inside.lists _ (sym c.in-None.ensures.none) in
    let empty : length c.args.rows.now ≡ 0 = grind arith in
    grind (arith, none_listed)
