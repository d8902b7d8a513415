-- An audit that is gone over from its last entry back.
use Rattle.std.proofs.Common.{ap, arith, drop, inl, inr, length, List}
use Rattle.std.proofs.Common.{None, reverse, Some, subst, suc, sym, take, zero}
use Rattle.std.proofs.Common.{ℕ, [], ◌++◌, ◌-◌, ◌<◌, ◌∙◌, ◌∷◌, ◌≡◌, ◌≤◌}
use Rattle.std.specs.Prelude.{slice_get}
use Rattle.std.specs.List.{AllByRecursion}
use Rattle.std.proofs.lemmas.Bool.Decides.{leb_tells}
use Rattle.std.proofs.lemmas.Option.{slice_get_within}
use Rattle.std.proofs.lemmas.List.{length-reverse, length-take-le, reverse-append}
use Rattle.std.proofs.Math.Seq.{drop-append-le, drop-nil, take-length}
use Rattle.policy_audit.specs.declared.entry.Entry.{Entry}
use Rattle.policy_audit.specs.Log.{kept_at, Log}
use Rattle.node_threads.specs.Closing.{kept_entries}
use Rattle.node_threads.proofs.Settling.{all_reversed}

-- the entries up to this number that are kept, the newest first
abbrev pub up_to : ℕ → ℕ → List Entry → List Entry
up_to forgotten number es = reverse (drop forgotten (take number (reverse es)))

-- up to the last they are all that are kept
pub up_to_last : (forgotten : ℕ) (es : List Entry) →
    up_to forgotten (length es) es ≡ kept_entries forgotten es
up_to_last forgotten es =
    let whole = ap (λ (n : ℕ). take n (reverse es)) (sym (length-reverse es))
    ∙ take-length (reverse es) in
    ap (λ (xs : List Entry). reverse (drop forgotten xs)) whole

take_more : (xs : List Entry) (n : ℕ) (e : Entry) → slice_get xs n ≡ Some e →
    take (suc n) xs ≡ take n xs ++ e ∷ []
take_more [] n e q = cc
take_more (x ∷ xs) zero e q = cc
take_more (x ∷ xs) (suc n) e q = ap (λ (ys : List Entry). x ∷ ys) (take_more xs n e q)

one_back : (xs : List Entry) (forgotten n : ℕ) (e : Entry) → forgotten ≤ n →
    slice_get xs n ≡ Some e →
    reverse (drop forgotten (take (suc n) xs)) ≡ e ∷ reverse (drop forgotten (take n xs))
one_back xs forgotten n e kept here =
    let within : n ≤ length xs = omega (arith, slice_get_within xs n e here) in
    let room : forgotten ≤ length (take n xs) = omega (arith, kept, length-take-le n xs within) in
    ap (λ (ys : List Entry). reverse (drop forgotten ys)) (take_more xs n e here)
    ∙ ap reverse (drop-append-le forgotten (take n xs) (e ∷ []) room)
    ∙ reverse-append (drop forgotten (take n xs)) (e ∷ [])

-- what is kept of a number stands at its place
kept_is : (log : Log) (number : ℕ) (e : Entry) → kept_at number log ≡ Some e →
    (log.forgotten < number) × (slice_get (reverse log.entries) (number - 1) ≡ Some e)
kept_is log number e found = (grind arith, grind arith)

-- the entry of this number, where it is kept, is the last of those up to it
pub up_to_next : (log : Log) (number : ℕ) (e : Entry) → kept_at number log ≡ Some e →
    (0 < number) × (up_to log.forgotten number log.entries
    ≡ e ∷ up_to log.forgotten (number - 1) log.entries)
up_to_next log zero e found = absurd (omega (arith, (kept_is log zero e found).0))
up_to_next log (suc n) e found =
    let kept = kept_is log (suc n) e found in
    let less : suc n - 1 ≡ n = omega arith in (
      omega arith,
      rw less (one_back (reverse log.entries) log.forgotten n e (omega (arith, kept.0))
          (rw less at kept.1)),
    )

cut_short : (xs : List Entry) (forgotten n : ℕ) → n ≤ forgotten → drop forgotten (take n xs) ≡ []
cut_short xs forgotten zero few = drop-nil forgotten
cut_short [] forgotten (suc n) few = drop-nil forgotten
cut_short (x ∷ xs) zero (suc n) few = absurd (omega (arith, few))
cut_short (x ∷ xs) (suc forgotten) (suc n) few = cut_short xs forgotten n (omega (arith, few))

get_past : (xs : List Entry) (n : ℕ) → slice_get xs n ≡ None → length xs ≤ n
get_past [] n q = omega arith
get_past (x ∷ xs) zero q = cc
get_past (x ∷ xs) (suc n) q =
    let rest = get_past xs n q in omega (arith, rest)

-- where the entry of a number isn't kept, none is kept up to it
pub up_to_none : (log : Log) (number : ℕ) → number ≤ length log.entries → kept_at number log ≡ None
    →
    up_to log.forgotten number log.entries ≡ []
up_to_none log zero within none =
    ap reverse (cut_short (reverse log.entries) log.forgotten zero (omega arith))
up_to_none log (suc n) within none = elim (leb_tells (suc n) log.forgotten) [
  | inl t ↦ ap reverse (cut_short (reverse log.entries) log.forgotten (suc n) t.1)
  | inr f ↦
      let past = get_past (reverse log.entries) n (grind (arith, f.0)) in
      absurd (omega (arith, past, within, length-reverse log.entries))
]

-- what holds of all entries holds of that one
module _ (P : Entry → Type 0) where
  at_place : (xs : List Entry) (n : ℕ) (e : Entry) → AllByRecursion P xs →
      slice_get xs n ≡ Some e → P e
  at_place [] n e all q = cc
  at_place (x ∷ xs) zero e all q =
      let same : x ≡ e = cc in subst P same all.0
  at_place (x ∷ xs) (suc n) e all q = at_place xs n e all.1 q

  pub holds_kept : (log : Log) (number : ℕ) (e : Entry) → AllByRecursion P log.entries →
      kept_at number log ≡ Some e → P e
  holds_kept log number e all found = at_place (reverse log.entries) (number - 1) e
      (all_reversed P log.entries all) (kept_is log number e found).1
