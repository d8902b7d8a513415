-- Terms one behind the other: what a head leaves to come, and that bytes begin with so many terms
-- in one way.
use Rattle.external_terms.proofs
use Rattle.external_terms.specs
use proofs.Words.{ap, append-nil, append_assoc, AreTerms, arith, bytes_of, count_of, drop, drop_at}
use proofs.Words.{IsHead, IsSomeHead, IsTermFault, length, length-append, List, next, none, refl}
use proofs.Words.{SpellsTerms, subst, suc, sym, take, take_at, Terms, zero, ℕ, [], ◌*◌, ◌++◌, ◌+◌}
use proofs.Words.{◌-◌, ◌<◌, ◌^◌, ◌↔◌, ◌∙◌, ◌∷◌, ◌≡◌, ◌≤◌}
use proofs.FormLemmas.{head_same}
use specs.declared.fault.TermFault.{TermFault}
use specs.declared.fault.TermFault.TheVariants as faults
use specs.declared.tag.Tag.TheVariants as tags

-- ---- terms behind terms

abbrev pub join : Terms → Terms → Terms
join none more = more
join (next head inside further) more = next head inside (join further more)

pub join_count : (a b : Terms) → count_of (join a b) ≡ count_of a + count_of b
join_count none b = omega arith
join_count (next head inside further) b = omega (arith, join_count further b)

pub join_bytes : (a b : Terms) → bytes_of (join a b) ≡ bytes_of a ++ bytes_of b
join_bytes none b = refl
join_bytes (next head inside further) b = ap (λ l. head ++ (bytes_of inside ++ l))
    (join_bytes further b) ∙ simp append_assoc

pub join_are : (a b : Terms) → AreTerms a → AreTerms b → AreTerms (join a b)
join_are none b are more = more
join_are (next head inside further) b are more = (are.0, are.1, join_are further b are.2 more)

-- terms, cut behind the first few
pub record Cut (few more : ℕ) (all : Terms) : Type 0 where
  pub front : Terms
  pub back : Terms
  pub front_are : AreTerms front
  pub back_are : AreTerms back
  pub front_count : count_of front ≡ few
  pub back_count : count_of back ≡ more
  pub bytes : bytes_of all ≡ bytes_of front ++ bytes_of back

pub cut_terms : (few more : ℕ) (all : Terms) → AreTerms all → count_of all ≡ few + more
    → Cut few more all
cut_terms zero more all are count = record {
  front = none;
  back = all;
  front_are = tt;
  back_are = are;
  front_count = refl;
  back_count = omega (arith, count);
  bytes = refl;
}
cut_terms (suc few) more none are count = absurd (omega (arith, count))
cut_terms (suc few) more (next head inside further) are count =
    let rest = cut_terms few more further are.2 (omega (arith, count)) in record {
      front = next head inside rest.front;
      back = rest.back;
      front_are = (are.0, are.1, rest.front_are);
      back_are = rest.back_are;
      front_count = ap suc rest.front_count;
      back_count = rest.back_count;
      bytes = ap (λ l. head ++ (bytes_of inside ++ l)) rest.bytes ∙ simp append_assoc;
    }

-- ---- what the bytes begin with

-- the bytes begin with that many terms, behind which stands the rest
abbrev pub Begins : ℕ → List ℕ → List ℕ → Type 0
Begins count bytes rest = (terms : List ℕ) × SpellsTerms count terms × (bytes ≡ terms ++ rest)

pub begins_none : (rest : List ℕ) → Begins 0 rest rest
begins_none rest = ([], record { terms = none; are = tt; counted = refl; spelled = refl }, refl)

no_terms : (terms : Terms) → count_of terms ≡ 0 → bytes_of terms ≡ []
no_terms none count = refl
no_terms (next head inside further) count = absurd (omega (arith, count))

pub begins_nothing : (bytes rest : List ℕ) → Begins 0 bytes rest → bytes ≡ rest
begins_nothing bytes rest begins = begins.2 ∙ ap (λ l. l ++ rest) (begins.1.spelled
    ∙ no_terms begins.1.terms begins.1.counted)

-- a head opens the terms inside it
opens : (due inside : ℕ) (head bytes rest : List ℕ) (terms : Terms) → IsHead head inside
    → AreTerms terms → count_of terms ≡ suc due → head ++ bytes ≡ bytes_of terms ++ rest
    → Begins (due + inside) bytes rest
opens due inside head bytes rest none is are count same = absurd (omega (arith, count))
opens due inside head bytes rest (next front within further) is are count same =
    let whole : head ++ bytes ≡ front ++ ((bytes_of within ++ bytes_of further) ++ rest) = same
    ∙ append_assoc front (bytes_of within ++ bytes_of further) rest in
    let heads = head_same head front bytes _ inside (count_of within) is are.0 whole in (
      bytes_of (join within further),
      record {
        terms = join within further;
        are = join_are within further are.1 are.2;
        counted = omega (arith, join_count within further, heads.1, count);
        spelled = refl;
      },
      heads.2 ∙ ap (λ l. l ++ rest) (sym (join_bytes within further)),
    )

pub head_opens : (due inside : ℕ) (head bytes rest : List ℕ) → IsHead head inside
    → Begins (suc due) (head ++ bytes) rest → Begins (due + inside) bytes rest
head_opens due inside head bytes rest is begins = opens due inside head bytes rest
    begins.1.terms is begins.1.are begins.1.counted
    (begins.2 ∙ ap (λ l. l ++ rest) begins.1.spelled)

-- and they close it
pub head_closes : (due inside : ℕ) (head bytes rest : List ℕ) → IsHead head inside
    → Begins (due + inside) bytes rest → Begins (suc due) (head ++ bytes) rest
head_closes due inside head bytes rest is begins =
    let cut = cut_terms inside due begins.1.terms begins.1.are
    (omega (arith, begins.1.counted)) in
    let all = next head cut.front cut.back in (
      bytes_of all,
      record {
        terms = all;
        are = (subst (IsHead head) (sym cut.front_count) is, cut.front_are, cut.back_are);
        counted = ap suc cut.back_count;
        spelled = refl;
      },
      ap (λ l. head ++ l) (begins.2 ∙ ap (λ l. l ++ rest) (begins.1.spelled ∙ cut.bytes))
          ∙ sym (append_assoc head (bytes_of cut.front ++ bytes_of cut.back) rest),
    )

-- ---- one end

three_parts : (a b c x : List ℕ) → (a ++ (b ++ c)) ++ x ≡ a ++ (b ++ (c ++ x))
three_parts a b c x = simp append_assoc

ends_same : (a b : Terms) (x y : List ℕ) → AreTerms a → AreTerms b → count_of a ≡ count_of b
    → bytes_of a ++ x ≡ bytes_of b ++ y → (bytes_of a ≡ bytes_of b) × (x ≡ y)
ends_same none none x y is are count same = (refl, same)
ends_same none (next head inside further) x y is are count same = absurd (omega (arith, count))
ends_same (next head inside further) none x y is are count same = absurd (omega (arith, count))
ends_same (next head inside further) (next front within more) x y is are count same =
    let whole = sym (three_parts head (bytes_of inside) (bytes_of further) x) ∙ same
    ∙ three_parts front (bytes_of within) (bytes_of more) y in
    let heads = head_same head front _ _ (count_of inside) (count_of within) is.0 are.0 whole in
    let insides = ends_same inside within _ _ is.1 are.1 heads.1 heads.2 in
    let rests = ends_same further more x y is.2 are.2 (omega (arith, count)) insides.1 in
    (λ k. heads.0 k ++ (insides.0 k ++ rests.0 k), rests.1)

-- bytes begin with that many terms in one way
pub one_end : (count : ℕ) (a b x y : List ℕ) → SpellsTerms count a → SpellsTerms count b
    → a ++ x ≡ b ++ y → (a ≡ b) × (x ≡ y)
one_end count a b x y is are same =
    let ends = ends_same is.terms are.terms x y is.are are.are (is.counted ∙ sym are.counted)
    (ap (λ l. l ++ x) (sym is.spelled) ∙ same ∙ ap (λ l. l ++ y) are.spelled) in
    (is.spelled ∙ ends.0 ∙ sym are.spelled, ends.1)

-- a head has a byte
pub head_has_bytes : (head : List ℕ) (inside : ℕ) → IsHead head inside → 0 < length head
head_has_bytes head inside is = rw is.bytes (omega arith)

-- ---- skipping: what is still due stands in the rest as the terms do in the bytes, whatever
-- follows

abbrev pub Same : ℕ → List ℕ → ℕ → List ℕ → Type 0
Same due rest count bytes = (more behind : List ℕ)
    → Begins due (rest ++ more) behind ↔ Begins count (bytes ++ more) behind

pub same_at_first : (count : ℕ) (bytes : List ℕ) → Same count bytes count bytes
same_at_first count bytes = λ more behind. (λ is. is, λ is. is)

pub goes_on : (count due left inside : ℕ) (bytes rest head behind : List ℕ) → IsHead head inside
    → rest ≡ head ++ behind → due ≡ suc left → Same due rest count bytes
    → Same (left + inside) behind count bytes
goes_on count due left inside bytes rest head behind is parts one same = λ more later.
    let whole : head ++ (behind ++ more) ≡ rest ++ more = sym (append_assoc head behind more)
    ∙ ap (λ l. l ++ more) (sym parts) in (
      λ begins. (same more later).0 (subst (λ n. Begins n (rest ++ more) later) (sym one)
          (subst (λ l. Begins (suc left) l later) whole
          (head_closes left inside head (behind ++ more) later is begins))),
      λ begins. head_opens left inside head (behind ++ more) later is
          (subst (λ l. Begins (suc left) l later) (sym whole)
          (subst (λ n. Begins n (rest ++ more) later) one ((same more later).1 begins))),
    )

-- where nothing is due any more, the terms end
pub all_skipped : (count due : ℕ) (bytes rest : List ℕ) → due ≡ 0 → Same due rest count bytes
    → Begins count bytes rest
all_skipped count due bytes rest none_open same =
    let here : Begins due (rest ++ []) rest = subst (λ n. Begins n (rest ++ []) rest)
    (sym none_open) (subst (λ l. Begins 0 l rest) (sym (append-nil rest)) (begins_none rest)) in
    subst (λ l. Begins count l rest) (append-nil bytes) ((same [] rest).0 here)

-- `NIL_EXT`
nil_head : IsHead (106 ∷ []) 0
nil_head = record {
  tag = tags.Nil;
  body = [];
  has_form = record {
    first = [];
    count = 0;
    node = [];
    last = [];
    first_len = refl;
    fits = omega arith;
    is_node = refl;
    last_len = refl;
    terms = refl;
    bytes = refl;
  };
  bytes = refl;
}

abbrev nils : ℕ → Terms
nils zero = none
nils (suc count) = next (106 ∷ []) none (nils count)

nils_are : (count : ℕ) → AreTerms (nils count)
nils_are zero = tt
nils_are (suc count) = (nil_head, tt, nils_are count)

nils_count : (count : ℕ) → count_of (nils count) ≡ count
nils_count zero = refl
nils_count (suc count) = ap suc (nils_count count)

first_head : (due : ℕ) (terms : Terms) → AreTerms terms → count_of terms ≡ suc due
    → (head : List ℕ) × ((inside : ℕ) × ((behind : List ℕ) × IsHead head inside × (bytes_of terms ≡
    head ++ behind)))
first_head due none are count = absurd (omega (arith, count))
first_head due (next head inside further) are count = (
  head,
  (
    count_of inside,
    (
      bytes_of inside ++
          bytes_of further,
      are.0,
      refl,
    ),
  ),
)

-- a fault of the head that is due is one of the terms
pub head_fault : (fault : TermFault) (count left : ℕ) (bytes rest : List ℕ)
    → Same (suc left) rest count bytes
    → IsTermFault fault IsSomeHead rest → IsTermFault fault (SpellsTerms count) bytes
head_fault faults.Truncated count left bytes rest same cut =
    let head = rest ++ cut.0 in
    let inside = cut.2.0 in
    let all = nils (left + inside) in
    let due : Begins (left + inside) (bytes_of all) [] = (
      bytes_of all,
      record {
        terms = all;
        are = nils_are (left + inside);
        counted = nils_count (left + inside);
        spelled = refl;
      },
      sym (append-nil (bytes_of all)),
    ) in
    let closed = (same (cut.0 ++ bytes_of all) []).0 (subst (λ l. Begins (suc left) l [])
    (append_assoc rest cut.0 (bytes_of all)) (head_closes left inside head (bytes_of all) [] cut.2.1
    due)) in (
      cut.0 ++ bytes_of all,
      rw (length-append cut.0 (bytes_of all)) (omega (arith, cut.1)),
      subst (SpellsTerms count) (sym (closed.2 ∙ append-nil closed.0)) closed.1,
    )
head_fault faults.UnknownTag count left bytes rest same never = λ more piece behind spelled is.
    let begins = (same more behind).1 (piece, spelled, is) in
    let first = first_head left begins.1.terms begins.1.are begins.1.counted in
    never more first.0 (first.1.1.0 ++ behind) (first.1.0, first.1.1.1)
    (begins.2 ∙ ap (λ l. l ++ behind) (begins.1.spelled ∙ first.1.1.2)
    ∙ append_assoc first.0 first.1.1.0 behind)

-- ---- one fault

-- where bytes are cut, or begin so never, they don't begin so
pub fault_not_found : (count : ℕ) (bytes terms rest : List ℕ) (f : TermFault)
    → IsTermFault f (SpellsTerms count) bytes → SpellsTerms count terms → bytes ≡ terms ++ rest → ⊥
fault_not_found count bytes terms rest faults.Truncated cut is same =
    let ends = one_end count terms (bytes ++ cut.0) (rest ++ cut.0) [] is cut.2
    (sym (append_assoc terms rest cut.0) ∙ ap (λ l. l ++ cut.0) (sym same)
    ∙ sym (append-nil (bytes ++ cut.0))) in
    let none : length (rest ++ cut.0) ≡ 0 = ap (length {A = ℕ}) ends.1 in
    absurd (omega (arith, cut.1, length-append rest cut.0, none))
fault_not_found count bytes terms rest faults.UnknownTag never is same =
    never [] terms rest is (append-nil bytes ∙ same)

pub faults_same : (count : ℕ) (bytes : List ℕ) (f g : TermFault)
    → IsTermFault f (SpellsTerms count) bytes
    → IsTermFault g (SpellsTerms count) bytes → f ≡ g
faults_same count bytes faults.Truncated faults.Truncated is are = refl
faults_same count bytes faults.UnknownTag faults.UnknownTag is are = refl
faults_same count bytes faults.Truncated faults.UnknownTag cut never =
    absurd (never cut.0 (bytes ++ cut.0) [] cut.2 (sym (append-nil (bytes ++ cut.0))))
faults_same count bytes faults.UnknownTag faults.Truncated never cut =
    absurd (never cut.0 (bytes ++ cut.0) [] cut.2 (sym (append-nil (bytes ++ cut.0))))

-- what is cut off in front of the rest are the terms
pub skip_parts : (count : ℕ) (bytes rest front back : List ℕ) (n : ℕ) → Begins count bytes rest
    → n ≡ length bytes - length rest → front ≡ take n bytes → back ≡ drop n bytes
    → SpellsTerms count front × (bytes ≡ front ++ back)
skip_parts count bytes rest front back n begins is fronts backs =
    let total : length bytes ≡ length begins.0 + length rest = ap (length {A = ℕ}) begins.2
    ∙ length-append begins.0 rest in
    let long : n ≡ length begins.0 = omega (arith, is, total) in
    let front_is : front ≡ begins.0 = fronts ∙ (λ i. take (long i) (begins.2 i))
    ∙ take_at begins.0 rest (length begins.0) refl in
    let back_is : back ≡ rest = backs ∙ (λ i. drop (long i) (begins.2 i))
    ∙ drop_at begins.0 rest (length begins.0) refl in (
      subst (SpellsTerms count) (sym front_is) begins.1,
      begins.2 ∙ sym (λ i. front_is i ++ back_is i),
    )

-- a place behind the first bytes goes on by a head
pub used_more : (count due left inside : ℕ) (bytes front rest head behind : List ℕ)
    → bytes ≡ front ++ rest
    → rest ≡ head ++ behind → due ≤ count + 2 ^ 41 * length front → due ≡ suc left
    → inside < 2 ^ 41 → 0 < length head
    → (more : List ℕ) × (bytes ≡ more ++ behind) × (left + inside ≤ count + 2 ^ 41 * length more)
used_more count due left inside bytes front rest head behind whole parts bound one few some = (
  front ++ head,
  whole ∙ ap (λ l. front ++ l) parts ∙ sym (append_assoc front head behind),
  rw (length-append front head) (omega (arith, bound, one, few, some)),
)
