-- What a call ensures, where its result is known.
use Rattle.scope_core.proofs.Words
use Words.{Bool, Err, false, IfNone, IfOk, IfSome, is_some, IsOk, None, not, Ok, OnErr, OnOk}
use Words.{Option, refl, Result, Some, sym, true, ◌≡◌}
use Rattle.std.specs.Result.{is_err}

pub on_err : {T E P : Type 0} (r : Result T E) → P → OnErr r P
on_err (Ok x) p = tt
on_err (Err e) p = p

pub from_ok : {A E P : Type 0} (r : Result A E) → IsOk r → OnOk r P → P
from_ok (Ok x) is p = p
from_ok (Err e) is p = absurd (let x : false ≡ true = is in cc)

pub from_not_err : {A E P : Type 0} (r : Result A E) → is_err r ≡ false → OnOk r P → P
from_not_err (Ok x) is p = p
from_not_err (Err e) is p = absurd (let x : true ≡ false = is in cc)

pub from_err : {A E P : Type 0} (r : Result A E) → is_err r ≡ true → OnErr r P → P
from_err (Ok x) is p = absurd (let x : false ≡ true = is in cc)
from_err (Err e) is p = p

pub on_ok : {T E P : Type 0} (r : Result T E) → P → OnOk r P
on_ok (Ok x) p = p
on_ok (Err e) p = tt

pub ok_both : {T E A B C : Type 0} (r : Result T E) → (A → B → C) → OnOk r A → OnOk r B → OnOk r C
ok_both (Ok x) f a b = f a b
ok_both (Err e) f a b = tt

pub some_of : {A : Type 0} (o : Option A) → (o ≡ None → ⊥) → is_some o ≡ true
some_of None f = absurd (f refl)
some_of (Some x) f = refl

pub some_then : {A : Type 0} {P : A → Type 0} (o l : Option A) → o ≡ l
    → ((x : A) → l ≡ Some x → P x) → IfSome o P
some_then None l e f = tt
some_then (Some x) l e f = f x (sym e)

pub none_then : {A Q : Type 0} (o l : Option A) → o ≡ l → (l ≡ None → Q) → IfNone o Q
none_then None l e f = f (sym e)
none_then (Some x) l e f = tt

pub none_any : {A Q : Type 0} (o : Option A) → Q → IfNone o Q
none_any None q = q
none_any (Some x) q = tt

pub some_any : {A P : Type 0} (o : Option A) → P → IfSome o (λ x. P)
some_any None p = tt
some_any (Some x) p = p

pub if_both : {T E : Type 0} {P Q R : T → Type 0} (r : Result T E) → ((x : T) → P x → Q x → R x)
    → IfOk r P → IfOk r Q → IfOk r R
if_both (Ok x) f p q = f x p q
if_both (Err e) f p q = tt

-- where a test says whether there is nothing
pub none_said : {A P : Type 0} (o : Option A) (b : Bool) → is_some o ≡ not b → b ≡ true → IfNone o P
    → P
none_said None b e is p = p
none_said (Some x) true e is p = absurd (let x : true ≡ false = e in cc)
none_said (Some x) false e is p = absurd (let x : false ≡ true = is in cc)

pub some_said : {A : Type 0} {P : A → Type 0} (o : Option A) (b : Bool) → is_some o ≡ not b
    → b ≡ false → IfSome o P → (x : A) × P x
some_said None true e is p = absurd (let x : true ≡ false = is in cc)
some_said None false e is p = absurd (let x : false ≡ true = e in cc)
some_said (Some x) b e is p = (x, p)

pub none_weaker : {A P Q : Type 0} (o : Option A) → (P → Q) → IfNone o P → IfNone o Q
none_weaker None f p = f p
none_weaker (Some x) f p = p
