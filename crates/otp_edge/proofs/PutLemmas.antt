-- Elements that are written one behind the other.
use Rattle.otp_edge.proofs
use proofs.Words.{ap, append-nil, append_assoc, arith, drop, flat_map, length, List, list_front}
use proofs.Words.{listed, map, sym, take, ℕ, [], ◌++◌, ◌+◌, ◌<◌, ◌∙◌, ◌≡◌, ◌≤◌}
use Rattle.std.specs.Prelude.{get_or}
use Rattle.std.proofs.lemmas.Grind.{flat_map-append}
use Rattle.std.proofs.Math.Seq.{take-length}
use Rattle.std.proofs.lemmas.List.{length-append, length-map, map-append, map_more}
use Rattle.std.proofs.lemmas.List.{take-append-drop}
use Rattle.external_terms.specs.Values.{nil_bytes}

-- one element more
pub more_put : {A B C : Type 0} (spell : B → List C) (view : A → B) (xs : List A) (n : ℕ) (x : A)
    (old before after front : List C) → n < length xs → x ≡ get_or xs n x
    → before ≡ old ++ (front ++ flat_map spell (map view (take n xs)))
    → after ≡ before ++ spell (view x)
    → after ≡ old ++ (front ++ flat_map spell (map view (take (n + 1) xs)))
more_put spell view xs n x old before after front inside is were put =
    put ∙ ap (λ l. l ++ spell (view x)) were
    ∙ ap (λ y. (old ++ (front ++ flat_map spell (map view (take n xs)))) ++ spell (view y)) is
    ∙ simp (map_more view xs n x inside, flat_map-append, append-nil, append_assoc)

-- what comes of some elements is no more than what comes of all
pub taken_less : {A B C : Type 0} (spell : B → List C) (view : A → B) (xs : List A) (n : ℕ)
    → length (flat_map spell (map view (take n xs))) ≤ length (flat_map spell (map view xs))
taken_less spell view xs n =
    let some = flat_map spell (map view (take n xs)) in
    let rest = flat_map spell (map view (drop n xs)) in
    let parts : flat_map spell (map view (take n xs ++ drop n xs)) ≡ some ++ rest =
    simp (map-append, flat_map-append) in
    let all = ap (λ l. length (flat_map spell (map view l))) (sym (take-append-drop n xs)) in
    omega (arith, all, ap length parts, length-append some rest)

-- a whole list
pub all_put : {A B : Type 0} (spell : B → List ℕ) (view : A → B) (xs : List A) (n : ℕ)
    (old before after : List ℕ) → n ≡ length xs
    → before ≡ old ++ (list_front (length xs) ++ flat_map spell (map view (take n xs)))
    → after ≡ before ++ nil_bytes → after ≡ old ++ listed spell (map view xs)
all_put spell view xs n old before after all were put =
    put ∙ ap (λ l. l ++ nil_bytes) were ∙ simp (all, take-length, length-map, append_assoc)

-- ---- what is put one behind the other

pub discover_put : (out o1 o2 a w p : List ℕ) → o1 ≡ out ++ (a ++ w) → o2 ≡ o1 ++ p
    → o2 ≡ out ++ (a ++ (w ++ p))
discover_put out o1 o2 a w p head member = simp (member, head, append_assoc)

pub sync_put : (out o1 o2 o3 o4 a w b v p l : List ℕ) → o1 ≡ out ++ (a ++ w)
    → o2 ≡ o1 ++ (b ++ v) → o3 ≡ o2 ++ p → o4 ≡ o3 ++ l
    → o4 ≡ out ++ (a ++ (w ++ (b ++ (v ++ (p ++ l)))))
sync_put out o1 o2 o3 o4 a w b v p l head inner member list =
    simp (list, member, inner, head, append_assoc)

pub join_put : (out o1 o2 o3 o4 a w p g l : List ℕ) → o1 ≡ out ++ (a ++ w) → o2 ≡ o1 ++ p
    → o3 ≡ o2 ++ g → o4 ≡ o3 ++ l → o4 ≡ out ++ (a ++ (w ++ (p ++ (g ++ l))))
join_put out o1 o2 o3 o4 a w p g l head member group list =
    simp (list, group, member, head, append_assoc)

pub leave_put : (out o1 o2 o3 o4 o5 o6 a w p l h g e : List ℕ) → o1 ≡ out ++ (a ++ w)
    → o2 ≡ o1 ++ p → o3 ≡ o2 ++ l → o4 ≡ o3 ++ h → o5 ≡ o4 ++ g → o6 ≡ o5 ++ e
    → o6 ≡ out ++ (a ++ (w ++ (p ++ (l ++ (h ++ ((g ++ []) ++ e))))))
leave_put out o1 o2 o3 o4 o5 o6 a w p l h g e head member list front group end =
    simp (end, group, front, list, member, head, append-nil, append_assoc)

pub stated_put : (out o1 o2 o3 a g l : List ℕ) → o1 ≡ out ++ a → o2 ≡ o1 ++ g → o3 ≡ o2 ++ l
    → o3 ≡ out ++ (a ++ (g ++ l))
stated_put out o1 o2 o3 a g l head group list = simp (list, group, head, append_assoc)
