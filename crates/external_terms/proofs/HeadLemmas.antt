-- What ends inside a part of a head can be completed, part by part, and what no part begins not.
use Rattle.external_terms.proofs
use proofs.Words.{ap, append-nil, append_assoc, Bool, false, Form, form, HasForm, IsBehind, IsLong}
use proofs.Words.{IsNode, IsNumber, IsSomeHead, IsTag, length, length-replicate, List, number_bytes}
use proofs.Words.{number_limit, refl, replicate, subst, sym, Tag, tag_byte, true, ℕ, [], ◌*◌, ◌++◌}
use proofs.Words.{◌+◌, ◌<◌, ◌∙◌, ◌∷◌, ◌≡◌}
use proofs.FormLemmas.{behind_count, behind_first, behind_named, tag_same}
use proofs.CutLemmas.{has_limit, least_counted, Stands}
use Rattle.external_terms.specs.declared.form.Width.TheVariants as widths

-- ---- the parts of a head

least_node : (due : Bool) → (node : List ℕ) × IsNode due node
least_node true = (
  119 ∷ 0 ∷ [],
  record {
    width = widths.One;
    byte = 119;
    body = 0 ∷ [];
    tagged = refl;
    counted = least_counted widths.One;
    bytes = refl;
  },
)
least_node false = ([], refl)

least_last : (f : Form) → ℕ → List ℕ
least_last f count = replicate (f.each * count + f.more) 0

least_len : (f : Form) (count : ℕ) → length (least_last f count) ≡ f.each * count + f.more
unfolding least_last
least_len f count = length-replicate {A = ℕ} (f.each * count + f.more) 0

-- a form of these parts
made : (f : Form) (first : List ℕ) (count : ℕ) (node last : List ℕ) → length first ≡ f.first
    → count < number_limit f.count
    → IsNode f.node node → length last ≡ f.each * count + f.more
    → IsBehind f (first ++ (number_bytes f.count count ++ (node ++ last)))
made f first count node last long fits is_node last_len = (
  f.terms_each * count + f.terms_more,
  record {
    first = first;
    count = count;
    node = node;
    last = last;
    first_len = long;
    fits = fits;
    is_node = is_node;
    last_len = last_len;
    terms = refl;
    bytes = refl;
  },
)

pub first_stands : (f : Form) → Stands (IsLong f.first) (IsBehind f) (λ r. r)
first_stands f = record {
  moves = λ x y. refl;
  completed = λ part is. (
    number_bytes f.count 0 ++ ((least_node f.node).0 ++ least_last f 0),
    made f part 0 _ _ is (has_limit f.count) (least_node f.node).1 (least_len f 0),
  );
  found = λ whole rest more is same. (
    is.1.first,
    (
      _,
      is.1.first_len,
      same ∙ ap (λ l. l ++ rest) is.1.bytes
          ∙ append_assoc is.1.first (number_bytes f.count is.1.count ++ (is.1.node ++ is.1.last))
          rest,
    ),
  );
}

pub count_stands : (f : Form) (first : List ℕ) → length first ≡ f.first
    → Stands (IsNumber f.count) (IsBehind f) (λ r. first ++ r)
count_stands f first long = record {
  moves = λ x y. sym (append_assoc first x y);
  completed = λ part is. (
    (least_node f.node).0 ++ least_last f is.0,
    subst (λ l. IsBehind f (first ++ (l ++ ((least_node f.node).0 ++ least_last f is.0)))) (sym
        is.2)
        (made f first is.0 _ _ long is.1 (least_node f.node).1 (least_len f is.0)),
  );
  found = λ whole rest more is same.
      let behind = behind_first f is.0 first more whole rest long is.1 same in
      (number_bytes f.count is.1.count, (_, (is.1.count, is.1.fits, refl), behind.1));
}

pub node_stands : (f : Form) (first : List ℕ) (count : ℕ) → length first ≡ f.first
    → count < number_limit f.count
    → Stands (IsNode f.node) (IsBehind f) (λ r. first ++ (number_bytes f.count count ++ r))
node_stands f first count long fits = record {
  moves = λ x y. simp append_assoc;
  completed = λ part is. (
    least_last f count,
    made f first count part (least_last f count) long fits
        is (least_len f count),
  );
  found = λ whole rest more is same.
      let behind = behind_count f is.0 first count more whole rest long fits is.1 same in
      (is.1.node, (_, is.1.is_node, behind.2));
}

pub last_stands : (f : Form) (first : List ℕ) (count : ℕ) (node : List ℕ) → length first ≡ f.first
    → count < number_limit f.count → IsNode f.node node
    → Stands (IsLong (f.each * count + f.more)) (IsBehind f) (λ r. first ++ (number_bytes f.count
    count ++ (node ++ r)))
last_stands f first count node long fits is_node = record {
  moves = λ x y. simp append_assoc;
  completed = λ part is. (
    [],
    subst (λ l. IsBehind f (first ++ (number_bytes f.count count ++ (node ++ l)))) (sym (append-nil
        part))
        (made f first count node part long fits is_node is),
  );
  found = λ whole rest more is same.
      let behind = behind_named f is.0 first count node more whole rest long fits is_node is.1 same
      in
      (is.1.last, (rest, is.1.last_len ∙ ap (λ n. f.each * n + f.more) (sym behind.1), behind.3));
}

-- what is read of a form has it
pub reads : (f : Form) (bytes a b c d first node last : List ℕ) (count : ℕ)
    → length first ≡ f.first → count < number_limit f.count
    → IsNode f.node node → length last ≡ f.each * count + f.more
    → bytes ≡ first ++ a → a ≡ number_bytes f.count count ++ b → b ≡ node ++ c → c ≡ last ++ d
    → (body : List ℕ) × HasForm f body (f.terms_each * count + f.terms_more) × (bytes ≡ body ++ d)
unfolding made
reads f bytes a b c d first node last count long fits is_node last_len p q r s = (
  first ++ (number_bytes f.count count ++ (node ++ last)),
  (made f first count node last long fits is_node last_len).1,
  simp (p, q, r, s, append_assoc),
)

least_form : (f : Form) → (body : List ℕ) × IsBehind f body
least_form f = (
  _,
  made f (replicate f.first 0) 0 _ _ (length-replicate {A = ℕ} f.first 0)
      (has_limit f.count) (least_node f.node).1 (least_len f 0),
)

pub tag_stands : Stands IsTag IsSomeHead (λ r. r)
tag_stands = record {
  moves = λ x y. refl;
  completed = λ part is. let least = least_form (form is.0) in (
    least.0,
    (
      least.1.0,
      record {
        tag = is.0;
        body = least.0;
        has_form = least.1.1;
        bytes = ap (λ l. l ++ least.0) is.1;
      },
    ),
  );
  found = λ whole rest more is same. (
    tag_byte is.1.tag ∷ [],
    (
      is.1.body ++ rest,
      (is.1.tag, refl),
      same ∙ ap (λ l. l ++ rest) is.1.bytes,
    ),
  );
}

pub form_stands : (tag : Tag) → Stands (IsBehind (form tag)) IsSomeHead (λ r. tag_byte tag ∷ r)
form_stands tag = record {
  moves = λ x y. refl;
  completed = λ part is. (
    [],
    (
      is.0,
      record {
        tag = tag;
        body = part;
        has_form = is.1;
        bytes = ap (λ l. tag_byte tag ∷ l) (append-nil part);
      },
    ),
  );
  found = λ whole rest more is same.
      let behind = tag_same tag is.1.tag more (is.1.body ++ rest) (same
      ∙ ap (λ l. l ++ rest) is.1.bytes) in (
        is.1.body,
        (
          rest,
          (
            is.0,
            subst (λ t. HasForm (form t) is.1.body is.0) (sym behind.0)
                is.1.has_form,
          ),
          behind.1,
        ),
      );
}
