-- What a reader found stands behind `Ok`.
use Rattle.std.proofs.Common.{None, Option, refl, Some, sym, ◌≡◌}
use Rattle.std.specs.Option.{IfSome, IsSomeAnd, ok_or}
use Rattle.std.specs.Result.{IsOkAnd, MatchResult}

-- what a value has, it has behind `Ok`
pub ok_or_has : {T E : Type 0} (o : Option T) (P : T → Type 0) (e : E) → IsSomeAnd o P
    → IsOkAnd (ok_or o e) P
ok_or_has (Some x) P e h = h
ok_or_has None P e h = absurd h

-- a call that finds exactly what is spelled answers as the reader that computes it does
pub reads_as : {T F E : Type 0} (Spells : F → Type 0) (said : T → F) (read : Option F)
    (o : Option T) (e : E)
    → ((f : F) → Spells f → read ≡ Some f) → ((f : F) → read ≡ Some f → Spells f)
    → IfSome o (λ x. Spells (said x))
    → ((f : F) → Spells f → IsSomeAnd o (λ x. said x ≡ f))
    → MatchResult (ok_or o e) (λ x. read ≡ Some (said x)) (λ _. read ≡ None)
reads_as Spells said read (Some x) e reads spells found only = reads (said x) found
reads_as Spells said None None e reads spells found only = refl
reads_as Spells said (Some f) None e reads spells found only = absurd (only f (spells f refl))

-- so does a call that gives what that reader gives
pub reads_same : {T E : Type 0} (read o : Option T) (e : E) → o ≡ read
    → MatchResult (ok_or o e) (λ x. read ≡ Some x) (λ _. read ≡ None)
reads_same read (Some x) e is = sym is
reads_same read None e is = sym is
