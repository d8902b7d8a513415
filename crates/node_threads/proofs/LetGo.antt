-- Calls that are let go, and those that are kept behind them.
use Rattle.node_threads.specs
use Rattle.std.proofs.Common.{ap, append-nil, arith, drop, length, length-append}
use Rattle.std.proofs.Common.{List, refl, suc, sym, ℕ, [], ◌++◌, ◌+◌, ◌-◌, ◌<◌, ◌^◌}
use Rattle.std.proofs.Common.{◌∙◌, ◌∷◌, ◌≡◌}
use Rattle.std.specs.Prelude.{slice_get}
use Rattle.std.proofs.Math.Seq.{drop-append_seam}
use specs.declared.pass.Call.{Call}
use specs.Calls.{AreParted, Gains, kept_calls, last_reply, Record, reply_of}

-- the pass as it is seen
abbrev pub seen : ℕ → ℕ → List Call → List Call → Record
seen seat gone first kept = record { seat = seat; calls = first ++ kept; gone = gone }

module _ (seat gone : ℕ) (first kept : List Call) (parted : AreParted gone first kept) where
  -- it keeps these
  pub kept_behind : kept_calls (seen seat gone first kept) ≡ kept
  kept_behind =
      ap (λ (n : ℕ). drop n (first ++ kept)) parted.gone_are ∙ drop-append_seam first kept

  pub count_all : gone + length kept ≡ length (first ++ kept)
  count_all = omega (arith, parted.gone_are, length-append first kept)

  -- it keeps some, where it hasn't let all go
  pub some_kept : gone < length (first ++ kept) → 0 < length kept
  some_kept more = omega (arith, more, parted.gone_are, length-append first kept)

  -- with one more
  pub parted_more : (call : Call) → length (first ++ kept) + 1 < 2 ^ 32 →
      AreParted gone first (kept ++ call ∷ [])
  parted_more call few = record {
    gone_are = parted.gone_are;
    few = omega (arith, few, length-append first kept, length-append kept (call ∷ []));
  }

  pub kept_more : (call : Call) → gone < length (first ++ (kept ++ call ∷ []))
  kept_more call = omega (
    arith,
    parted.gone_are,
    length-append first (kept ++ call ∷ []),
    length-append kept (call ∷ []),
  )

  -- all of them are let go
  pub parted_all : (n : ℕ) → n ≡ length (first ++ kept) → AreParted n (first ++ kept) []
  parted_all n is = record {
    gone_are = is;
    few = omega (arith, parted.few, length-append first kept);
  }

  pub seen_all : (n : ℕ) → n ≡ length (first ++ kept) →
      seen seat n (first ++ kept) [] ≡ record {
        seat = seat;
        calls = first ++ kept;
        gone = length (first ++ kept);
      }
  seen_all n is = rw (is, append-nil (first ++ kept)) refl

get_behind : (xs ys : List Call) (k : ℕ) → slice_get (xs ++ ys) (length xs + k) ≡ slice_get ys k
get_behind [] ys k = let same : 0 + k ≡ k = omega arith in ap (λ (n : ℕ). slice_get ys n) same
get_behind (x ∷ xs) ys k =
    let one : suc (length xs) + k ≡ suc (length xs + k) = omega arith in
    ap (λ (n : ℕ). slice_get (x ∷ (xs ++ ys)) n) one ∙ get_behind xs ys k

-- the last call is the last of those that are kept, where there is one
pub last_kept : (first kept : List Call) → 0 < length kept →
    last_reply (first ++ kept) ≡ last_reply kept
last_kept first kept some =
    let place : length (first ++ kept) - 1 ≡ length first + (length kept - 1) =
    omega (arith, some, length-append first kept) in
    ap (λ (n : ℕ). reply_of (slice_get (first ++ kept) n)) place
    ∙ ap reply_of (get_behind first kept (length kept - 1))

-- the pass that has let its calls go has gained none
pub lighter : (p p' : Record) →
    p' ≡ record { seat = p.seat; calls = p.calls; gone = length p.calls } → Gains p [] p'
lighter p p' is =
    let gone : length p.calls ≡ p'.gone = sym (ap (λ (q : Record). q.gone) is) in
    is ∙ ap (λ (cs : List Call). record { seat = p.seat; calls = cs; gone = length p.calls })
    (sym (append-nil p.calls))
    ∙ ap (λ (n : ℕ). record { seat = p.seat; calls = p.calls ++ []; gone = n }) gone
