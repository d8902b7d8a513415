-- The groups of rows that rise, and those of two lists.
use Rattle.scope_core.proofs
use proofs.Words
use Words.{AllByRecursion, and_parts, ap, append-nil, append_assoc, arith, Bool, cond, Counted}
use Words.{counted_cmp, differs, exact_bytes, false, heads, inl, inr, is_among, is_gt, is_in}
use Words.{is_row, IsGroupListing, last_of, length, length_push, Less, List, list_any, lt-ltb}
use Words.{nat_lt, None, not, occurrences, Option, or_cases, Pid, refl, Rises, same, same_decides}
use Words.{same_pid_decides, slice_get, Some, sym, tally, text_cmp, texts_total, true, [], ℕ, ◌&&◌}
use Words.{◌++◌, ◌-◌, ◌<◌, ◌||◌, ◌∙◌, ◌∷◌, ◌≡◌}
use proofs.Rising.{all_map, groups_above}

-- a text that isn't above another, and isn't the same, is below it
pub below : (g h : List ℕ) → is_gt (text_cmp g h) ≡ false → not (same g h) ≡ true
    → text_cmp g h ≡ Less
below g h n d = grind (arith, same_decides, exact_bytes)

heads_above : (g : List ℕ) (cs : List Counted)
    → AllByRecursion (λ c. is_gt (text_cmp g c.row.group) ≡ false) cs → Rises counted_cmp cs
    → AllByRecursion (λ h. text_cmp g h ≡ Less) (heads (Some g) cs)
heads_above g [] a r = tt
heads_above g (c ∷ cs) a r = grind (
  arith,
  heads_above c.row.group cs (groups_above c cs r.0) r.1,
  heads_above g cs a.1 r.1,
  and_parts,
  below,
  texts_total.trans,
  groups_above,
  all_map,
)

heads_rises : (last : Option (List ℕ)) (cs : List Counted) → Rises counted_cmp cs
    → Rises text_cmp (heads last cs)
heads_rises last [] r = tt
heads_rises last (c ∷ cs) r = grind (
  arith,
  heads_rises (Some c.row.group) cs r.1,
  heads_rises last cs r.1,
  groups_above,
  heads_above c.row.group cs (groups_above c cs r.0) r.1,
)

last-push : (gs : List (List ℕ)) (g : List ℕ) → slice_get (gs ++ g ∷ []) (length gs) ≡ Some g
last-push [] g = refl
last-push (h ∷ gs) g = last-push gs g

-- one row on, in a loop over the rows: its group is the next
pub heads_yes : (gs : List (List ℕ)) (c : Counted) (cs : List Counted)
    → (nat_lt 0 c.count && differs (last_of gs) c.row.group) ≡ true
    → (gs ++ c.row.group ∷ []) ++ heads (last_of (gs ++ c.row.group ∷ [])) cs
    ≡ gs ++ heads (last_of gs) (c ∷ cs)
heads_yes gs c cs t =
    let g = c.row.group in
    let n : length (gs ++ g ∷ []) - 1 ≡ length gs = omega (arith, length_push) in
    let last : last_of (gs ++ g ∷ []) ≡ Some g = ap (slice_get (gs ++ g ∷ [])) n ∙ last-push gs g in
    append_assoc gs (g ∷ []) (heads (last_of (gs ++ g ∷ [])) cs)
    ∙ ap (λ o. gs ++ g ∷ heads o cs) last
    ∙ sym (ap (λ b. gs ++ cond b (g ∷ heads (Some g) cs) (heads (last_of gs) cs)) t)

-- the same whether it is or not
pub heads_next : (gs : List (List ℕ)) (c : Counted) (cs : List Counted)
    → (gs ++ cond (nat_lt 0 c.count && differs (last_of gs) c.row.group) (c.row.group ∷ []) [])
    ++ heads (last_of
    (gs ++ cond (nat_lt 0 c.count && differs (last_of gs) c.row.group) (c.row.group ∷ []) [])) cs
    ≡ gs ++ heads (last_of gs) (c ∷ cs)
heads_next gs c cs = by (nat_lt 0 c.count && differs (last_of gs) c.row.group) refl
  where
    by : (b : Bool) → (nat_lt 0 c.count && differs (last_of gs) c.row.group) ≡ b
        → (gs ++ cond b (c.row.group ∷ []) [])
        ++ heads (last_of (gs ++ cond b (c.row.group ∷ []) [])) cs
        ≡ gs ++ heads (last_of gs) (c ∷ cs)
    by true e = heads_yes gs c cs e
    by false e = grind (arith, append-nil)

-- whether a row of g is counted
abbrev pub has_row : List ℕ → List Counted → Bool
has_row g cs = list_any (λ c. nat_lt 0 c.count && is_in g c) cs

heads_found : (last : Option (List ℕ)) (g : List ℕ) (cs : List Counted)
    → is_among g (heads last cs) ≡ true → has_row g cs ≡ true
heads_found last g [] h = h
heads_found last g (c ∷ cs) h =
    grind (arith, heads_found (Some c.row.group) g cs, heads_found last g cs)

heads_only : (last : Option (List ℕ)) (g : List ℕ) (cs : List Counted) → has_row g cs ≡ true
    → (is_among g (heads last cs) || not (differs last g)) ≡ true
heads_only last g [] h = grind arith
heads_only last g (c ∷ cs) h = grind (
  arith,
  heads_only (Some c.row.group) g cs,
  heads_only last g cs,
  same_decides,
)

row_counted : (g : List ℕ) (cs : List Counted) → has_row g cs ≡ true → (p : Pid)
    × (0 < tally (is_row g p) cs)
row_counted g [] h = grind arith
row_counted g (c ∷ cs) h = elim (or_cases (nat_lt 0 c.count && is_in g c) (has_row g cs) h) [
  | inl i ↦ (c.row.pid, grind (arith, same_pid_decides))
  | inr j ↦ let rest = row_counted g cs j in (rest.0, grind arith)
]

counted_row : (g : List ℕ) (p : Pid) (cs : List Counted) → 0 < tally (is_row g p) cs
    → has_row g cs ≡ true
counted_row g p [] l = grind arith
counted_row g p (c ∷ cs) l = grind (arith, counted_row g p cs)

-- the groups that are counted
pub groups_listing : (cs : List Counted) → Rises counted_cmp cs
    → IsGroupListing (λ g p. tally (is_row g p) cs) (heads None cs)
groups_listing cs r = record {
  rises = heads_rises None cs r;
  found = λ g h. row_counted g cs (heads_found None g cs h);
  only = λ g p l. grind (arith, heads_only None g cs (counted_row g p cs l));
}

pub among_counts : (g : List ℕ) (gs : List (List ℕ))
    → is_among g gs ≡ nat_lt 0 (occurrences same g gs)
among_counts g [] = refl
among_counts g (h ∷ gs) = grind (arith, among_counts g gs, lt-ltb)
