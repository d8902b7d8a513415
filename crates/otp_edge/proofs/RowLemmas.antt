-- Rows of processes in the group of a term.
use Rattle.otp_edge.proofs
use Rattle.otp_edge.specs
use proofs.Words.{ap, append-nil, append_assoc, arith, length, List, None, Pid, Row, Some, sym}
use proofs.Words.{take, ℕ, [], ◌++◌, ◌+◌, ◌<◌, ◌∙◌, ◌∷◌, ◌≡◌, ◌≤◌}
use Rattle.std.specs.Prelude.{get_or}
use Rattle.std.specs.Option.{option_map_or}
use Rattle.std.proofs.lemmas.List.{length-append, length-map, map_more, take_all}
use specs.Groups.{group_text}
use specs.PgMessages.{rows_in, rows_of_text}

-- a group that isn't carried adds none
pub rows_none : (term : List ℕ) (ps : List Pid) (rows : List Row) → group_text term ≡ None
    → rows ≡ rows ++ rows_in term ps
unfolding rows_in
rows_none term ps rows none = sym (ap (λ o. rows ++ option_map_or (rows_of_text ps) o []) none
    ∙ append-nil rows)

-- a group that is carried adds a row for each process
pub rows_some : (term : List ℕ) (ps : List Pid) (group : List ℕ) → group_text term ≡ Some group
    → rows_in term ps ≡ rows_of_text ps group
unfolding rows_in
rows_some term ps group some = ap (λ o. option_map_or (rows_of_text ps) o []) some

-- the rows before, and one for each process, are too many together
pub too_many_rows : (term : List ℕ) (ps : List Pid) (group : List ℕ) (rows : List Row)
    → group_text term ≡ Some group → 65536 < length rows + length ps
    → 65536 < length (rows ++ rows_in term ps)
too_many_rows term ps group rows some many =
    let row : Pid → Row = λ p. record { group = group; pid = p } in
    omega (
      arith,
      many,
      length-append rows (rows_in term ps),
      ap length (rows_some term ps group some),
      length-map ps row,
    )

-- a row for each
pub all_rows : (term : List ℕ) (ps : List Pid) (n : ℕ) (group : List ℕ) (old after : List Row)
    → length ps ≤ n → group_text term ≡ Some group
    → after ≡ old ++ rows_of_text (take n ps) group → after ≡ old ++ rows_in term ps
all_rows term ps n group old after all some were =
    were ∙ ap (λ qs. old ++ rows_of_text qs group) (take_all n ps all)
    ∙ ap (λ l. old ++ l) (sym (rows_some term ps group some))

-- one row more
pub more_rows : (ps : List Pid) (n : ℕ) (p : Pid) (group : List ℕ) (old before after : List Row)
    → n < length ps → p ≡ get_or ps n p → before ≡ old ++ rows_of_text (take n ps) group
    → after ≡ before ++ record { group = group; pid = p } ∷ []
    → after ≡ old ++ rows_of_text (take (n + 1) ps) group
more_rows ps n p group old before after inside is were more =
    let row : Pid → Row = λ q. record { group = group; pid = q } in
    more ∙ ap (λ l. l ++ row p ∷ []) were ∙ ap (λ q. (old ++ rows_of_text (take n ps) group)
    ++ row q ∷ []) is ∙ simp (map_more row ps n p inside, append_assoc)
