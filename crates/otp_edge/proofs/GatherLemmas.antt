-- One run of rows more is gathered.
use Rattle.otp_edge.proofs
use Rattle.otp_edge.specs
use proofs.Words.{All, ap, arith, length, List, refl, Row, subst, sym, take, ℕ, [], ◌++◌, ◌+◌, ◌∙◌}
use proofs.Words.{◌∷◌, ◌≡◌, ◌≤◌}
use Rattle.std.proofs.Common.{add-one}
use Rattle.std.proofs.lemmas.List.{length_push}
use Rattle.std.proofs.lemmas.List.Elements.{All-cons, All-push}
use specs.Groups.{IsTermOf}
use specs.Grouped.{IsInGroup, IsLeftOut, IsRun, Keeps, MayBeTold}
use specs.Telling.{HasFew}
use specs.declared.telling.Told.{Told}
use proofs.GroupedLemmas.{left_more, none_yet, SoFar, told_more}

-- some rows are gathered, in no more groups than there are rows
pub record IsGathered (atoms : List (List ℕ)) (rows rest : List Row) (ts : List Told) : Type 0 where
  pub so : SoFar atoms rows rest ts
  pub few : length ts + length rest ≤ length rows
  pub each : All HasFew ts

pub nothing_gathered : (atoms : List (List ℕ)) (rows : List Row) (ts : List Told) → ts ≡ []
    → IsGathered atoms rows rows ts
nothing_gathered atoms rows ts is = subst (IsGathered atoms rows rows) (sym is) (record {
  so = none_yet atoms rows;
  few = omega arith;
  each = λ k d less. absurd (omega (arith, less));
})

-- a run is the first row and those behind it that are of its group
pub record IsRunOf (group : List ℕ) (rest run behind : List Row) : Type 0 where
  pub cut : rest ≡ run ++ behind
  pub some : length behind + 1 ≤ length rest
  pub few : length run ≤ length rest
  pub is : IsRun group run

take_first : (n : ℕ) (first : Row) (tail : List Row)
    → take (n + 1) (first ∷ tail) ≡ first ∷ take n tail
take_first n first tail = rw add-one refl

pub run_here : (first : Row) (tail rest run behind : List Row) (n : ℕ) → rest ≡ first ∷ tail
    → All (IsInGroup first.group) (take n tail) → run ≡ take (n + 1) rest → rest ≡ run ++ behind
    → length run ≡ n + 1 → length behind + (n + 1) ≡ length rest
    → IsRunOf first.group rest run behind
run_here first tail rest run behind n is_rest each is_run cut run_len behind_len = record {
  cut = cut;
  some = omega (arith, behind_len);
  few = omega (arith, run_len, behind_len);
  is = record {
    some = omega (arith, run_len);
    each = subst (λ l. All (IsInGroup first.group) l)
        (sym (is_run ∙ ap (take (n + 1)) is_rest ∙ take_first n first tail))
        (All-cons (IsInGroup first.group) first (take n tail) refl each);
  };
}

within : (atoms : List (List ℕ)) (rows rest : List Row) (ts : List Told)
    → IsGathered atoms rows rest ts
    → length rest ≤ length rows
within atoms rows rest ts so = omega (arith, so.few)

pub told_next : (n m : List (List ℕ)) (rows rest run behind : List Row) (ts more : List Told)
    (group : List ℕ) (t : Told) → Keeps n m → length rows ≤ 65536 → IsGathered n rows rest ts
    → IsRunOf group rest run behind → t.rows.now ≡ run
    → IsTermOf t.group.items group × MayBeTold m group → more ≡ ts ++ t ∷ []
    → IsGathered m rows behind more
told_next n m rows rest run behind ts more group t grows short so is same term out =
    let len = within n rows rest ts so in
    let rows_len = ap length same in
    subst (IsGathered m rows behind) (sym out) (record {
      so = told_more n m rows rest behind ts group t grows so.so
          (is.cut ∙ ap (λ l. l ++ behind) (sym same))
          (subst (IsRun group) (sym same) is.is) term.0 term.1;
      few = omega (arith, so.few, is.some, length_push ts t);
      each = All-push HasFew ts t so.each (omega (arith, rows_len, is.few, len, short));
    })

pub left_next : (n m : List (List ℕ)) (rows rest run behind : List Row) (ts : List Told)
    (group : List ℕ) → Keeps n m → IsGathered n rows rest ts → IsRunOf group rest run behind
    → IsLeftOut m group → IsGathered m rows behind ts
left_next n m rows rest run behind ts group grows so is out = record {
  so = left_more n m rows rest run behind ts group grows so.so is.cut is.is out;
  few = omega (arith, so.few, is.some);
  each = so.each;
}
