-- What a `?` hands on: what holds of a fault holds of the same fault.
use Rattle.otp_edge.proofs
use Rattle.otp_edge.specs
use proofs.Words.{ap, arith, Err, flat_map, length, List, Ok, Result, Row, subst, sym, ◌++◌, ◌∙◌}
use proofs.Words.{◌∷◌, ◌≡◌, ◌≢◌, ◌≤◌}
use Rattle.std.specs.Result.{IfErr, IsErrAnd, MatchResult}
use specs.Fault.{IsFaultOf}
use proofs.ListLemmas.{no_less}
use specs.declared.fault.HearFault.{HearFault}
use specs.declared.fault.HearFault.TheVariants as faults

pub lack : {T : Type 0} (r : Result T HearFault) (e : HearFault) → IsErrAnd r (λ f. f ≡ e)
    → e ≢ faults.NoMessage → IfErr r (λ f. f ≢ faults.NoMessage)
lack (Ok x) e is other = absurd is
lack (Err f) e is other = λ same. other (sym is ∙ same)

pub lack_of : {T : Type 0} (rows : List Row) (r : Result T HearFault) (e : HearFault)
    → IsErrAnd r (λ f. f ≡ e) → IsFaultOf rows e → IfErr r (IsFaultOf rows)
lack_of rows (Ok x) e is so = absurd is
lack_of rows (Err f) e is so = subst (IsFaultOf rows) (sym is) so

pub lack_match : {T : Type 0} (P : T → Type 0) (rows : List Row) (r : Result T HearFault)
    (e : HearFault) → IsErrAnd r (λ f. f ≡ e) → IsFaultOf rows e → MatchResult r P (IsFaultOf rows)
lack_match P rows (Ok x) e is so = absurd is
lack_match P rows (Err f) e is so = subst (IsFaultOf rows) (sym is) so

-- a fault that is neither is one of any rows
pub of_none : (rows : List Row) (f : HearFault) → f ≢ faults.NoMessage → f ≢ faults.TooManyRows
    → IsFaultOf rows f
of_none rows f message few = (message, λ is. absurd (few is))

-- where some rows are too many, more are
pub of_more : (rows more : List Row) (f : HearFault) → length rows ≤ length more
    → IsFaultOf rows f → IsFaultOf more f
of_more rows more f fewer fault = (fault.0, λ is. omega (arith, fewer, fault.1 is))

pub of_same : (rows more : List Row) (f : HearFault) → rows ≡ more → IsFaultOf rows f
    → IsFaultOf more f
of_same rows more f same = subst (λ l. IsFaultOf l f) same

-- what comes of some elements and of the next is no more than what comes of all
pub of_all : {A : Type 0} (rows_of : A → List Row) (items tail xs : List A) (x y : A)
    (rows : List Row) (f : HearFault) → rows ≡ flat_map rows_of items → y ≡ x
    → xs ≡ items ++ y ∷ tail → IsFaultOf (rows ++ rows_of x) f → IsFaultOf (flat_map rows_of xs) f
of_all rows_of items tail xs x y rows f so_far same is =
    let less = no_less rows_of items tail xs x (is ∙ ap (λ z. items ++ z ∷ tail) same) in
    of_more (rows ++ rows_of x) (flat_map rows_of xs) f
    (omega (arith, less, ap (λ l. length (l ++ rows_of x)) so_far))
