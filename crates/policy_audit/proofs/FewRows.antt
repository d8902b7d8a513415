-- A node has few own rows in each scope.
use Rattle.policy_audit.proofs
use proofs.Words.{Accepted, arith, Bool, cond, Entry, Event, false, fewer_length, History}
use proofs.Words.{how_many_append, IsListing, join_checks, judgement, leb-true, length}
use proofs.Words.{length-append, List, local_rows, map, mentions, nat_le, occurrences, Opening, own}
use proofs.Words.{own_limit, past, Pid, refl, Reply, Row, row, same, same_decides, same_row}
use proofs.Words.{same_row_decides, subst, true, Verdict, ℕ, ◌++◌, ◌+◌, ◌∷◌, ◌≡◌, ◌≤◌}
use Rattle.std.specs.Prelude.{◌⊎◌}
use Rattle.std.proofs.Common.{inl, inr}
use Rattle.std.proofs.lemmas.List.{length-map}
use proofs.Accepted.{accepted, all_hold, unbroken}
use proofs.Walked.{but}
use proofs.Lists.{count_in_group}
use proofs.OwnRows.{local_rows_are}

module _ (h : History) (s : List ℕ) where
  -- rows that are counted no more often than the own rows are no more than those
  pub few : (rows : List Row) → ((r : Row) → occurrences same_row r rows ≤ own h s r.group r.pid)
      → length rows ≤ length (local_rows h s)
  few rows counts = fewer_length same_row same_row_decides rows (local_rows h s) (λ r. let is =
      IsListing.counts (local_rows_are h s) r in let some = counts r in omega (arith, is, some))

  -- where no own row is counted more often there are no more
  pub fewer : (k : History) → ((g : List ℕ) (p : Pid) → own k s g p ≤ own h s g p)
      → length (local_rows k s) ≤ length (local_rows h s)
  fewer k less = few (local_rows k s) (λ r. let is = IsListing.counts (local_rows_are k s) r in
      let some = less r.group r.pid in omega (arith, is, some))

  -- a Join brings no more than it mentions
  pub more : (k : History) (g : List ℕ) (ps : List Pid)
      → ((f : List ℕ) (p : Pid) → own k s f p ≤ own h s f p + cond (same g f) (mentions p ps) 0)
      → length (local_rows k s) ≤ length (local_rows h s) + length ps
  more k g ps counts =
      grind (
        arith,
        fewer_length same_row same_row_decides (local_rows k s) (local_rows h s ++ map (row g) ps)
            (λ r. let now = IsListing.counts (local_rows_are k s) r in let was =
            IsListing.counts (local_rows_are h s) r in let both =
            how_many_append (λ x. same_row x r)
            (local_rows h s) (map (row g) ps) in let joins = count_in_group r g ps in let some =
            counts r.group r.pid in omega (arith, now, was, both, joins, some)),
        length-append (local_rows h s) (map (row g) ps),
        length-map ps (row g),
      )

module _ (o : Opening) (es : List Entry) (e : Entry) (s : List ℕ) where
  -- the own rows are no more than they were, or are within the limit that the entry met
  abbrev pub Grows : Entry → Type 0
  Grows x =
      (length (local_rows (past o (x ∷ es)) s) ≤ length (local_rows (past o es) s))
      ⊎ (length (local_rows (past o (x ∷ es)) s) ≤ own_limit (past o es) s)

  -- an event that adds no row
  adds_none : (ev : Event) (v : Verdict) → ((g : List ℕ) (p : Pid)
      → own (past o (but e ev v ∷ es)) s g p ≤ own (past o es) s g p) → Grows (but e ev v)
  adds_none ev v less = inl (fewer (past o es) s (past o (but e ev v ∷ es)) less)

  joins : (t g : List ℕ) (ps : List Pid) (r : Reply)
      → Accepted r ≡ judgement (past o es) e.seat (Event.Join t g ps)
      → (b : Bool) → same t s ≡ b → Grows (but e (Event.Join t g ps) (Accepted r))
  joins t g ps r q true here =
      let room = leb-true (length (local_rows (past o es) t) + length ps) (own_limit (past o es) t)
      (unbroken (nat_le (length (local_rows (past o es) t) + length ps) (own_limit (past o es) t))
      (all_hold (join_checks (past o es) t g ps) (accepted (past o es) e.seat (Event.Join t g ps)
      r q).0).1.1.1.0) in
      let its = subst (λ u. length (local_rows (past o es) u) + length ps ≤ own_limit (past o es) u)
      ((same_decides t s).0 here) room in
      let no_more = more (past o es) s (past o (but e (Event.Join t g ps) (Accepted r) ∷ es)) g ps
      (λ f p. grind (arith, here)) in
      inr (omega (arith, its, no_more))
  joins t g ps r q false other =
      adds_none (Event.Join t g ps) (Accepted r) (λ f p. grind (arith, other))

  pub step : (ev : Event) (v : Verdict) → v ≡ judgement (past o es) e.seat ev → Grows (but e ev v)
  step (Event.Join t g ps) (Accepted r) q = joins t g ps r q (same t s) refl
  step ev v q = adds_none ev v (λ f p. grind arith)
