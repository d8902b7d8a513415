-- What is told of rows.
use Rattle.otp_edge.proofs
use Rattle.otp_edge.specs
use proofs.Words.{ap, append-nil, arith, cond, length, List, map, Pid, Row, subst, sym, take, ℕ, []}
use proofs.Words.{◌++◌, ◌+◌, ◌<◌, ◌∙◌, ◌∷◌, ◌≡◌, ◌≤◌}
use Rattle.std.proofs.lemmas.List.Sorted.{sum_by-IsPermutation}
use Rattle.dist_types.specs.Listing.{same_row}
use proofs.GroupedLemmas.{grouped_fewer}
use specs.Tallies.{IsCutTo, times}
use Rattle.std.specs.List.Sorted.{IsPermutation}
use specs.Grouped.{IsGrouped}
use Rattle.std.specs.Prelude.{get_or}
use Rattle.std.proofs.lemmas.Grind.{flat_map-append}
use Rattle.std.proofs.lemmas.List.{map-append, take_more}
use specs.Bodies.{framed}
use specs.PgMessages.{pg_bytes, PgMessage}
use specs.Sayings.{AreLeft, AreTold, leaves, rows_of, sent_front, told_bytes}
use specs.ScopeEdges.{Seen, with_told}
use specs.declared.telling.Told.{Told}

pub told_here : (atoms : List (List ℕ)) (say : Pid → List Told
    → List PgMessage) (mine own them other : Pid)
    (rows sorted seen : List Row) (groups one two : List Told) (out : List ℕ) (all : List Row)
    → mine ≡ own → them ≡ other → IsPermutation rows sorted → seen ≡ sorted
    → IsGrouped atoms seen groups → one ≡ groups → two ≡ groups
    → out ≡ told_bytes them (say mine one) → all ≡ rows_of two
    → AreTold atoms say own other rows out all
told_here atoms say mine own them other rows sorted seen groups one two out all is_own is_other
    moved is_sorted grouped is_one is_two bytes told = record {
      sorted = sorted;
      groups = groups;
      same_rows = moved;
      grouped = subst (λ l. IsGrouped atoms l groups) is_sorted grouped;
      bytes = bytes ∙ (λ i. told_bytes (is_other i) (say (is_own i) (is_one i)));
      told = told ∙ ap rows_of is_two;
    }

pub seen_told : (rows : List Row) (new old : Seen) → new ≡ with_told rows old
    → new ≡ with_told new.told old
seen_told rows new old is = is ∙ ap (λ l. with_told l old) (sym (ap (λ (s : Seen). s.told) is))

pub left_here : (atoms : List (List ℕ)) (own other : Pid) (rows kept gone : List Row) (out : List ℕ)
    (before now : List Row) → IsCutTo rows kept (λ r. times r before)
    → AreTold atoms leaves own other kept out gone
    → ((r : Row) → times r gone ≤ times r before → times r now + times r gone ≡ times r before)
    → AreLeft atoms own other rows out before now
left_here atoms own other rows kept gone out before now cut told left = record {
  kept = kept;
  gone = gone;
  cut = cut;
  told = told;
  rest = λ r.
      let f = λ (s : Row). cond (same_row r s) 1 0 in
      let few = grouped_fewer atoms r told.grouped in
      let same = sum_by-IsPermutation f kept told.sorted told.same_rows in
      let is = ap (times r) told.told in
      left r (omega (arith, few, same, is, cut.within r));
}

-- one body more
pub bodies_more : (say : Told → PgMessage) (other : Pid) (ts : List Told) (i : ℕ) (t : Told)
    (before begun body whole after : List ℕ) → i < length ts → t ≡ get_or ts i t
    → before ≡ told_bytes other (map say (take i ts)) → begun ≡ sent_front other
    → body ≡ begun ++ pg_bytes (say t) → whole ≡ body → after ≡ before ++ framed whole
    → after ≡ told_bytes other (map say (take (i + 1) ts))
bodies_more say other ts i t before begun body whole after inside is so front put same out =
    let f = λ (m : PgMessage). framed (sent_front other ++ pg_bytes m) in
    let cut = take_more ts i t inside ∙ ap (λ x. take i ts ++ x ∷ []) (sym is) in
    let told = ap (λ l. told_bytes other (map say l)) cut
    ∙ ap (told_bytes other) (map-append say (take i ts) (t ∷ []))
    ∙ flat_map-append f (map say (take i ts)) (say t ∷ [])
    ∙ ap (λ l. told_bytes other (map say (take i ts)) ++ l) (append-nil (f (say t))) in
    let bytes = same ∙ put ∙ ap (λ l. l ++ pg_bytes (say t)) front in
    out ∙ (λ j. so j ++ framed (bytes j)) ∙ sym told
