-- What ends inside a part of a head can be completed, and what no part begins no head does.
use Rattle.external_terms.proofs
use Rattle.external_terms.specs
use proofs.Words.{ap, append-nil, append_assoc, arith, be_bytes_2, be_bytes_4, Err, from_be_bytes}
use proofs.Words.{get_or, IfErr, IfOk, IsAtom, IsAtomTag, IsCounted, IsCut, IsLong, IsMark}
use proofs.Words.{IsNumber, IsTag, IsTermFault, length, length-append, length-replicate, List}
use proofs.Words.{number_bytes, number_len, number_limit, Ok, refl, replicate, Result, rules, subst}
use proofs.Words.{suc, sym, w16, w32, Width, zero, ℕ, [], ◌++◌, ◌+◌, ◌-◌, ◌<◌, ◌^◌, ◌∙◌, ◌∷◌, ◌≡◌}
use proofs.FormLemmas.{behind_mark, number_same}
use specs.declared.fault.TermFault.{TermFault}
use specs.declared.fault.TermFault.TheVariants as faults
use specs.declared.tag.Tag.TheVariants as tags
use specs.declared.form.Width.TheVariants as widths

-- ---- a fault of a part is one of the whole

pub of_err : {T E : Type 0} (r : Result T E) (P Q : E → Type 0) → ((e : E) → P e → Q e)
    → IfErr r P → IfErr r Q
of_err (Ok x) P Q then is = tt
of_err (Err e) P Q then is = then e is

pub of_ok : {T E : Type 0} (r : Result T E) (P Q : T → Type 0) → ((x : T) → P x → Q x)
    → IfOk r P → IfOk r Q
of_ok (Ok x) P Q then is = then x is
of_ok (Err e) P Q then is = tt

-- how a part stands in a whole: bytes may stand before it, and each part can be completed
pub record Stands (Part Whole : List ℕ → Type 0) (put : List ℕ → List ℕ) : Type 0 where
  pub moves : (x y : List ℕ) → put (x ++ y) ≡ put x ++ y
  pub completed : (part : List ℕ) → Part part → (after : List ℕ) × Whole (put (part ++ after))
  pub found : (whole rest more : List ℕ) → Whole whole → put more ≡ whole ++ rest
      → (part : List ℕ) × ((after : List ℕ) × Part part × (more ≡ part ++ after))

pub passes : (fault : TermFault) (Part Whole : List ℕ → Type 0) (put : List ℕ
    → List ℕ) (rest bytes : List ℕ)
    → Stands Part Whole put → bytes ≡ put rest → IsTermFault fault Part rest
    → IsTermFault fault Whole bytes
passes faults.Truncated Part Whole put rest bytes stands is cut =
    let all = stands.completed (rest ++ cut.0) cut.2 in (
      cut.0 ++ all.0,
      rw (length-append cut.0 all.0) (omega (arith, cut.1)),
      subst Whole (ap put (append_assoc rest cut.0 all.0) ∙ stands.moves rest (cut.0 ++ all.0)
          ∙ ap (λ l. l ++ (cut.0 ++ all.0)) (sym is)) all.1,
    )
passes faults.UnknownTag Part Whole put rest bytes stands is never = λ more piece behind spelled
    same.
    let found = stands.found piece behind (rest ++ more) spelled
    (stands.moves rest more ∙ ap (λ l. l ++ more) (sym is) ∙ same) in
    never more found.0 found.1.0 found.1.1 found.1.2

-- ---- bytes and numbers that are cut

pub long_cut : (len : ℕ) (bytes : List ℕ) → length bytes < len → IsCut (IsLong len) bytes
long_cut len bytes short = (
  replicate (len - length bytes) 0,
  rw (length-replicate {A = ℕ} (len - length bytes) 0) (omega (arith, short)),
  length-append bytes (replicate (len - length bytes) 0)
      ∙ ap (λ n. length bytes + n) (length-replicate {A = ℕ} (len - length bytes) 0)
      ∙ omega (arith, short),
)

-- each is a byte
abbrev pub AreBytes : List ℕ → Type 0
AreBytes bytes = (i : ℕ) → get_or bytes i 0 < 256

two_bytes : (a b : ℕ) → a < 256 → b < 256 → AreBytes (a ∷ b ∷ [])
two_bytes a b p q zero = p
two_bytes a b p q (suc zero) = q
two_bytes a b p q (suc (suc i)) = search rules

four_bytes : (a b c d : ℕ) → a < 256 → b < 256 → c < 256 → d < 256 → AreBytes (a ∷ b ∷ c ∷ d ∷ [])
four_bytes a b c d p q r s zero = p
four_bytes a b c d p q r s (suc zero) = q
four_bytes a b c d p q r s (suc (suc zero)) = r
four_bytes a b c d p q r s (suc (suc (suc zero))) = s
four_bytes a b c d p q r s (suc (suc (suc (suc i)))) = search rules

two_fits : (a b : ℕ) → a < 256 → b < 256 → from_be_bytes w16 (a ∷ b ∷ []) < 2 ^ 16
two_fits a b p q = omega (arith, p, q)

four_fits : (a b c d : ℕ) → a < 256 → b < 256 → c < 256 → d < 256
    → from_be_bytes w32 (a ∷ b ∷ c ∷ d ∷ []) < 2 ^ 32
four_fits a b c d p q r s = omega (arith, p, q, r, s)

two_is : (a b : ℕ) → a < 256 → b < 256 → IsNumber widths.Two (a ∷ b ∷ [])
two_is a b p q = (
  from_be_bytes w16 (a ∷ b ∷ []),
  two_fits a b p q,
  sym (be_bytes_2 (a ∷ b ∷ []) _
      refl (two_bytes a b p q) refl),
)

four_is : (a b c d : ℕ) → a < 256 → b < 256 → c < 256 → d < 256
    → IsNumber widths.Four (a ∷ b ∷ c ∷ d ∷ [])
four_is a b c d p q r s = (
  from_be_bytes w32 (a ∷ b ∷ c ∷ d ∷ []),
  four_fits a b c d p q r s,
  sym
      (be_bytes_4 (a ∷ b ∷ c ∷ d ∷ []) _ refl (four_bytes a b c d p q r s) refl),
)

low : 0 < 256
low = omega arith

pub number_cut : (w : Width) (bytes : List ℕ) → AreBytes bytes → length bytes < number_len w
    → IsCut (IsNumber w) bytes
number_cut widths.Zero bytes are short = absurd (omega (arith, short))
number_cut widths.One [] are short = (0 ∷ [], omega arith, (0, omega arith, refl))
number_cut widths.One (a ∷ bytes) are short = absurd (omega (arith, short))
number_cut widths.Two [] are short = (0 ∷ 0 ∷ [], omega arith, two_is 0 0 low low)
number_cut widths.Two (a ∷ []) are short = (0 ∷ [], omega arith, two_is a 0 (are 0) low)
number_cut widths.Two (a ∷ b ∷ bytes) are short = absurd (omega (arith, short))
number_cut widths.Four [] are short = (
  0 ∷ 0 ∷ 0 ∷ 0 ∷ [],
  omega arith,
  four_is 0 0 0 0 low low low
      low,
)
number_cut widths.Four (a ∷ []) are short = (
  0 ∷ 0 ∷ 0 ∷ [],
  omega arith,
  four_is a 0 0 0 (are 0)
      low low low,
)
number_cut widths.Four (a ∷ b ∷ []) are short = (
  0 ∷ 0 ∷ [],
  omega arith,
  four_is a b 0 0 (are 0)
      (are 1) low low,
)
number_cut widths.Four (a ∷ b ∷ c ∷ []) are short = (
  0 ∷ [],
  omega arith,
  four_is a b c 0 (are 0)
      (are 1) (are 2) low,
)
number_cut widths.Four (a ∷ b ∷ c ∷ d ∷ bytes) are short = absurd (omega (arith, short))

pub tag_cut : IsCut IsTag []
tag_cut = (106 ∷ [], omega arith, (tags.Nil, refl))

pub mark_cut : IsCut IsMark []
mark_cut = (119 ∷ [], omega arith, (widths.One, (119, refl, refl)))

-- ---- the parts of an atom

pub has_limit : (w : Width) → 0 < number_limit w
has_limit widths.Zero = omega arith
has_limit widths.One = omega arith
has_limit widths.Two = omega arith
has_limit widths.Four = omega arith

pub least_counted : (w : Width) → IsCounted w (number_bytes w 0 ++ [])
least_counted w = record { text = []; fits = has_limit w; bytes = refl }

pub length_stands : (w : Width) → Stands (IsNumber w) (IsCounted w) (λ r. r)
length_stands w = record {
  moves = λ x y. refl;
  completed = λ part is. (
    replicate is.0 0,
    record {
      text = replicate is.0 0;
      fits = rw (length-replicate {A = ℕ} is.0 0) is.1;
      bytes = rw (length-replicate {A = ℕ} is.0 0) (ap (λ l. l ++ replicate is.0 0) is.2);
    },
  );
  found = λ whole rest more is same. (
    number_bytes w (length is.text),
    (
      is.text ++ rest,
      (length is.text, is.fits, refl),
      same ∙ ap (λ l. l ++ rest) is.bytes ∙ append_assoc (number_bytes w (length is.text)) is.text
          rest,
    ),
  );
}

pub text_stands : (w : Width) (n : ℕ) → n < number_limit w → Stands (IsLong n) (IsCounted w) (λ r.
    number_bytes w n ++ r)
text_stands w n fits = record {
  moves = λ x y. sym (append_assoc (number_bytes w n) x y);
  completed = λ part is. (
    [],
    record {
      text = part;
      fits = rw is fits;
      bytes = ap (λ l. number_bytes w n ++ l) (append-nil part)
          ∙ ap (λ m. number_bytes w m ++ part) (sym is);
    },
  );
  found = λ whole rest more is same.
      let numbers = number_same w n (length is.text) more (is.text ++ rest) fits is.fits
      (same ∙ ap (λ l. l ++ rest) is.bytes ∙ append_assoc (number_bytes w (length is.text)) is.text
      rest) in
      (is.text, (rest, sym numbers.0, numbers.1));
}

pub mark_stands : Stands IsMark IsAtom (λ r. r)
mark_stands = record {
  moves = λ x y. refl;
  completed = λ part is. (
    number_bytes is.0 0 ++ [],
    record {
      width = is.0;
      byte = is.1.0;
      body = number_bytes is.0 0 ++ [];
      tagged = is.1.1;
      counted = least_counted is.0;
      bytes = ap (λ l. l ++ (number_bytes is.0 0 ++ [])) is.1.2;
    },
  );
  found = λ whole rest more is same. (
    is.byte ∷ [],
    (
      is.body ++ rest,
      (is.width, (is.byte, is.tagged, refl)),
      same ∙ ap (λ l. l ++ rest) is.bytes,
    ),
  );
}

pub body_stands : (w : Width) (byte : ℕ) → IsAtomTag w byte → Stands (IsCounted w) IsAtom (λ r. byte
    ∷ r)
body_stands w byte tagged = record {
  moves = λ x y. refl;
  completed = λ part is. (
    [],
    record {
      width = w;
      byte = byte;
      body = part;
      tagged = tagged;
      counted = is;
      bytes = ap (λ l. byte ∷ l) (append-nil part);
    },
  );
  found = λ whole rest more is same.
      let behind = behind_mark w byte more whole rest tagged is same in
      (is.body, (rest, subst (λ v. IsCounted v is.body) (sym behind.0) is.counted, behind.2));
}
