use Rattle.std.proofs.Common.{ap, arith, decimal, List, sym, true, ℕ, ◌<◌, ◌^◌, ◌∙◌, ◌≡◌}
use Rattle.std.specs.Str.{bytes_eq}
use Rattle.std.proofs.lemmas.Fmt.{IsAscii-decimal, parse-decimal}
use Rattle.std.proofs.lemmas.Str.{IsUtf8-from_ascii}
use Rattle.pg_text.proofs.WordLemmas.{bytes_eq_refl, bytes_eq_same, number_is, number_none}
use Rattle.pg_text.proofs.values.long_number.Goals as goal

pub returns-in_default : goal.returns-in_default
returns-in_default c = sym (number_none c.args.word.now (λ n small is.
    c.in_default.ensures.cases.0
    (IsUtf8-from_ascii _ (rw is at (IsAscii-decimal n (omega arith))))))

pub returns-in_default-parse : goal.returns-in_default-parse
returns-in_default-parse c = sym (number_none c.args.word.now (λ n small is.
    c.in_default-parse.not-Ok n (parse-decimal 64 n c.in-Ok.text.now _ small (omega arith)
    (c.in-Ok.ensures.cases.0 ∙ sym is) c.parse.ensures.value.0)))

pub returns-then-eq : goal.returns-then-eq
returns-then-eq c =
    let fits : c.in-Ok-parse.number < 2 ^ 64 = omega (arith, c.in-Ok-parse.ensures.value.0) in
    let text = c.as_bytes.ensures.value ∙ c.format.ensures.text in
    sym (number_is c.in-Ok-parse.number c.args.word.now fits
    (sym text ∙ bytes_eq_same _ _ (sym c.eq.ensures ∙ c.if-eq.true)))

pub returns-else-eq : goal.returns-else-eq
returns-else-eq c = sym (number_none c.args.word.now (λ n small is.
    let read = parse-decimal 64 n c.in-Ok.text.now c.parse.result small (omega arith)
    (c.in-Ok.ensures.cases.0 ∙ sym is) c.parse.ensures.value.0 in
    let same : n ≡ c.in-Ok-parse.number = cc in
    let text : c.as_bytes.result.now ≡ c.args.word.now = c.as_bytes.ensures.value
    ∙ c.format.ensures.text ∙ ap decimal (sym same) ∙ is in
    let yes : c.eq.result ≡ true = c.eq.ensures ∙ ap (λ (t : List ℕ). bytes_eq t c.args.word.now)
    text ∙ bytes_eq_refl c.args.word.now in
    cc))
