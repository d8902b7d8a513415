-- What the peer is sent of what the node says.
use Rattle.otp_edge.proofs
use Rattle.otp_edge.specs
use proofs.Words.{All, ap, append-nil, Err, flat_map, length, List, map, None, Ok, Option, Pid}
use proofs.Words.{refl, Result, Row, Some, subst, sym, take, ℕ, [], ◌++◌, ◌+◌, ◌<◌, ◌∙◌, ◌∷◌, ◌≡◌}
use proofs.Words.{◌≤◌}
use Rattle.std.specs.Prelude.{get_or, IfOk, OnErr, set}
use Rattle.std.specs.List.{swap_remove}
use Rattle.std.specs.List.Sorted.{IsPermutation}
use Rattle.std.proofs.Math.Seq.{map-set_same}
use Rattle.std.proofs.lemmas.Grind.{flat_map-append}
use Rattle.std.proofs.lemmas.List.{take_all, take_more}
use Rattle.std.proofs.lemmas.List.Elements.{All-more}
use Rattle.std.proofs.lemmas.List.Sorted.{IsPermutation-swap_remove}
use Rattle.link_frames.specs.Parts.{message_of}
use Rattle.link_frames.specs.declared.part.PartKind.{PartKind}
use proofs.EdgeLemmas.{one_there}
use specs.Endings.{ending_of}
use specs.Opens.{open_of, with_seen}
use specs.Said.{IsTold, joined, left, Runs, Says, synced, Tells, TellsJoin, TellsLeave, TellsSync}
use specs.Said.{told, unjoined, unknown, unleft}
use specs.Sayings.{AreLeft, AreTold, joins, syncs}
use specs.ScopeEdges.{now_told, seen_of, told_to, with_told}
use specs.declared.open_scope.OpenScope.{OpenScope}
use specs.declared.scope_edge.Run.{Run}
use Rattle.link_frames.specs.declared.message.Message.TheVariants as messages
use Rattle.link_frames.specs.declared.part.PartKind.TheVariants as kinds

-- the process of the peer's scope is known, or it isn't
by_known : {Q : Type 0} (o : Option Pid) → (o ≡ None → Q) → ((p : Pid) → o ≡ Some p → Q) → Q
by_known None none some = none refl
by_known (Some p) none some = some p refl

pub sync_tells : {V E : Type 0} (r : Result V E) (bytes : V → List ℕ)
    (atoms : List (List ℕ)) (kind : PartKind) (rows given : List Row) (o now : OpenScope)
    → kind ≡ kinds.Sync
    → given ≡ rows
    → (o.seen.other ≡ None → IfOk r (λ out. (bytes out ≡ []) × (open_of now ≡ open_of o)))
    → ((other : Pid) → o.seen.other ≡ Some other → IfOk r (λ out.
    AreTold atoms syncs o.own other given (bytes out) now.seen.told.items
    × (open_of now ≡ with_seen (with_told now.seen.told.items (seen_of o.seen)) (open_of o))))
    → IfOk r (λ out. Tells atoms kind rows o now (bytes out))
sync_tells (Ok out) bytes atoms kind rows given o now is same none some =
    subst (λ k. Tells atoms k rows o now (bytes out)) (sym is)
    (subst (λ l. TellsSync atoms l o now (bytes out)) same (by_known o.seen.other
    (λ e. let so = none e in unknown e so.0 so.1)
    (λ p e. let so = some p e in synced p e so.0 so.1)))
sync_tells (Err e) bytes atoms kind rows given o now is same none some = tt

pub join_tells : {V E : Type 0} (r : Result V E) (bytes : V → List ℕ)
    (atoms : List (List ℕ)) (kind : PartKind) (rows given : List Row) (o now : OpenScope)
    → kind ≡ kinds.Join
    → given ≡ rows
    → (told_to (seen_of o.seen) ≡ None
    → IfOk r (λ out. (bytes out ≡ []) × (open_of now ≡ open_of o)))
    → ((other : Pid) → told_to (seen_of o.seen) ≡ Some other → IfOk r (λ out.
    (more : List Row) × AreTold atoms joins o.own other given (bytes out) more
    × (open_of now ≡ with_seen (now_told (o.seen.told.items ++ more) (seen_of o.seen))
    (open_of o)))) → IfOk r (λ out. Tells atoms kind rows o now (bytes out))
join_tells (Ok out) bytes atoms kind rows given o now is same none some =
    subst (λ k. Tells atoms k rows o now (bytes out)) (sym is)
    (subst (λ l. TellsJoin atoms l o now (bytes out)) same (by_known (told_to (seen_of o.seen))
    (λ e. let so = none e in unjoined e so.0 so.1)
    (λ p e. let so = some p e in joined p so.0 e so.1 so.2)))
join_tells (Err e) bytes atoms kind rows given o now is same none some = tt

pub leave_tells : {V E : Type 0} (r : Result V E) (bytes : V → List ℕ)
    (atoms : List (List ℕ)) (kind : PartKind) (rows given : List Row) (o now : OpenScope)
    → kind ≡ kinds.Leave
    → given ≡ rows
    → (told_to (seen_of o.seen) ≡ None
    → IfOk r (λ out. (bytes out ≡ []) × (open_of now ≡ open_of o)))
    → ((other : Pid) → told_to (seen_of o.seen) ≡ Some other → IfOk r (λ out.
    AreLeft atoms o.own other given (bytes out) o.seen.told.items now.seen.told.items
    × (open_of now ≡ with_seen (now_told now.seen.told.items (seen_of o.seen)) (open_of o))))
    → IfOk r (λ out. Tells atoms kind rows o now (bytes out))
leave_tells (Ok out) bytes atoms kind rows given o now is same none some =
    subst (λ k. Tells atoms k rows o now (bytes out)) (sym is)
    (subst (λ l. TellsLeave atoms l o now (bytes out)) same (by_known (told_to (seen_of o.seen))
    (λ e. let so = none e in unleft e so.0 so.1)
    (λ p e. let so = some p e in left p e so.0 so.1)))
leave_tells (Err e) bytes atoms kind rows given o now is same none some = tt

-- ---- of the scopes of a link

pub runs_there : (name : List ℕ) (all : List OpenScope) (place : ℕ) (o : OpenScope)
    → place < length all → ((d : OpenScope) → (get_or all place d).scope ≡ name)
    → o ≡ get_or all place o → Runs name o all
runs_there name all place o within named is = record {
  place = place;
  within = within;
  is = sym is;
  named = subst (λ (x : OpenScope). x.scope ≡ name) (sym is) (named o);
}

told_of : (run : Run) (all after : List OpenScope) (processes later : ℕ)
    (atoms : List (List ℕ)) (kind : PartKind) (name : List ℕ) (rows : List Row) (out : List ℕ)
    → IsTold all after atoms kind name rows out
    → Says run all after processes later atoms (message_of kind name rows) out
told_of run all after processes later atoms kinds.Sync name rows out is = told is
told_of run all after processes later atoms kinds.Join name rows out is = told is
told_of run all after processes later atoms kinds.Leave name rows out is = told is

pub told_there : (run : Run) (all after : List OpenScope) (processes later : ℕ)
    (atoms : List (List ℕ)) (kind : PartKind) (name : List ℕ) (rows : List Row) (out : List ℕ)
    (place : ℕ) (o now : OpenScope)
    → place < length all → ((d : OpenScope) → (get_or all place d).scope ≡ name)
    → o ≡ get_or all place o → Tells atoms kind rows o now out → after ≡ set all place now
    → Says run all after processes later atoms (message_of kind name rows) out
told_there run all after processes later atoms kind name rows out place o now within named is
    tells others =
    told_of run all after processes later atoms kind name rows out (record {
      item = o;
      now = now;
      here = record {
        place = place;
        within = within;
        is = sym is;
        named = subst (λ (x : OpenScope). x.scope ≡ name) (sym is) (named o);
      };
      tells = tells;
      others = others;
    })

pub stopped_there : (run : Run) (all after : List OpenScope) (processes later : ℕ)
    (atoms : List (List ℕ)) (name out : List ℕ) (place : ℕ) (o gone : OpenScope)
    → place < length all
    → ((d : OpenScope) → (get_or all place d).scope ≡ name) → o ≡ get_or all place o
    → gone ≡ get_or all place gone → out ≡ ending_of run o
    → after ≡ swap_remove all place gone
    → Says run all after processes later atoms (messages.Down name) out
stopped_there run all after processes later atoms name out place o gone within named is was bytes
    others =
    told (record {
      item = gone;
      named = subst (λ (x : OpenScope). x.scope ≡ name) (sym was) (named gone);
      bytes = bytes ∙ ap (ending_of run) (one_there all place o gone within is was);
      others = subst (λ l. IsPermutation all (gone ∷ l)) (sym others)
          (IsPermutation-swap_remove all place gone within was);
    })

-- what is known of one scope stays, and so of all
pub knows_the_same : (all : List OpenScope) (place : ℕ) (o now : OpenScope)
    → o ≡ get_or all place o → open_of now ≡ open_of o
    → map open_of (set all place now) ≡ map open_of all
knows_the_same all place o now is same =
    map-set_same open_of all place now o (same ∙ ap open_of is)

pub on_err : {A E P : Type 0} (r : Result A E) → P → OnErr r P
on_err (Ok a) so = tt
on_err (Err e) so = so

-- a fact of the elements so far, and of one more
pub all_more : {A : Type 0} (P : A → Type 0) (xs seen : List A) (i : ℕ) (a : A) → seen ≡ xs
    → i < length seen → a ≡ get_or seen i a → All P (take i xs) → P a → All P (take (i + 1) xs)
all_more P xs seen i a same inside is so here =
    All-more P xs i a (subst (λ l. i < length l) same inside) so
    (subst P (subst (λ l. a ≡ get_or l i a) same is) here)

pub all_seen : {A : Type 0} (P : A → Type 0) (xs seen : List A) (i : ℕ) → seen ≡ xs
    → length seen ≤ i → All P (take i xs) → All P xs
all_seen P xs seen i same long so =
    subst (All P) (take_all i xs (subst (λ l. length l ≤ i) same long)) so

-- what is sent of one element more
pub bytes_more : {A : Type 0} (f : A → List ℕ) (ws seen : List A) (i : ℕ) (w : A)
    (before after : List ℕ) → seen ≡ ws → i < length seen → w ≡ get_or seen i w
    → before ≡ flat_map f (take i ws) → after ≡ before ++ f w
    → after ≡ flat_map f (take (i + 1) ws)
bytes_more f ws seen i w before after same inside is so put =
    let within = subst (λ l. i < length l) same inside in
    let there = subst (λ l. w ≡ get_or l i w) same is in
    let cut = take_more ws i w within ∙ ap (λ x. take i ws ++ x ∷ []) (sym there) in
    put ∙ ap (λ l. l ++ f w) so ∙ sym (ap (flat_map f) cut
    ∙ flat_map-append f (take i ws) (w ∷ [])
    ∙ ap (λ l. flat_map f (take i ws) ++ l) (append-nil (f w)))
