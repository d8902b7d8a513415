-- What is handed in of a body.
use Rattle.otp_edge.proofs
use Rattle.otp_edge.specs
use proofs.Words.{ap, arith, Err, length, List, map, None, Ok, Pid, pid_bytes, refl, Result, subst}
use proofs.Words.{sym, true, ℕ, [], ◌<◌, ◌∙◌, ◌∷◌, ◌≡◌}
use Rattle.std.specs.Prelude.{get_or, IfOk, set, ◌⊎◌}
use Rattle.std.proofs.Math.Seq.{map-set_same}
use Rattle.std.proofs.Common.{inl, inr}
use Rattle.std.proofs.lemmas.List.{get_or_default, map-set}
use specs.Edges.{ended, Ends, Hears, HearsNothing, here, IsAskedBy, IsDiscoverBy, IsEnded, IsSentTo}
use specs.Edges.{Learns, named, none, seen_at, seens, sent, Stays, Takes}
use specs.HeardWords.{heard_said, seen_said}
use specs.Opens.{ComesOf, IsOnly, known_as, open_of}
use specs.Said.{IsSameLink}
use specs.ScopeEdges.{fresh, is_known, Seen, seen_of}
use specs.Signals.{HasControl, IsNamed, IsSent}
use specs.declared.edge_state.Edge.{Edge}
use specs.declared.heard.Heard.{Heard}
use specs.declared.meaning.Said.{Said}
use specs.declared.open_scope.OpenScope.{OpenScope}
use specs.declared.meaning.Said.TheVariants as saids
use Rattle.link_frames.specs.declared.message.Message.TheVariants as messages

pub ok_so : {A E : Type 0} {P Q : A → Type 0} (r : Result A E) → ((a : A) → P a → Q a)
    → IfOk r P → IfOk r Q
ok_so (Ok a) so is = so a is
ok_so (Err e) so is = tt

-- at a place of a list something stands
pub some_there : {A : Type 0} (xs : List A) (i : ℕ) → i < length xs
    → (a : A) × (get_or xs i a ≡ a)
some_there [] i within = absurd (omega arith)
some_there (x ∷ xs) i within =
    (get_or (x ∷ xs) i x, get_or_default (x ∷ xs) i (get_or (x ∷ xs) i x) x within)

-- and one thing alone
pub one_there : {A : Type 0} (xs : List A) (i : ℕ) (x y : A) → i < length xs → x ≡ get_or xs i x
    → y ≡ get_or xs i y → x ≡ y
one_there xs i x y within one two = one ∙ get_or_default xs i x y within ∙ sym two

-- what is said at a place, of what stands there
at_place : {A : Type 0} (P : A → Type 0) (xs : List A) (place : ℕ) (o d : A) → place < length xs
    → o ≡ get_or xs place o → P o → P (get_or xs place d)
at_place P xs place o d within is so = subst P (is ∙ get_or_default xs place o d within) so

-- one scope knows more, and the others what they did
pub learns_at : (edge new : Edge) (place : ℕ) (now : OpenScope) (seen : Seen)
    → new.scopes.items ≡ set edge.scopes.items place now → seen_of now.seen ≡ seen
    → Learns edge new place seen
learns_at edge new place now seen set_is same = ap (map seen_at) set_is
    ∙ map-set seen_at edge.scopes.items place now ∙ ap (set (seens edge) place) same

pub takes_there : (edge new : Edge) (said : Said) (heard : Heard) (place : ℕ) (o now d : OpenScope)
    → place < length edge.scopes.items → o ≡ get_or edge.scopes.items place o
    → ComesOf o.scope (heard_said edge.peer said (seen_of o.seen)) heard
    → new.scopes.items ≡ set edge.scopes.items place now
    → seen_of now.seen ≡ seen_said edge.peer said (seen_of o.seen)
    → Takes edge new place said (get_or edge.scopes.items place d) heard
takes_there edge new said heard place o now d within is comes set_is seen =
    at_place (λ x. Takes edge new place said x heard) edge.scopes.items place o d within is
    (record { comes = comes; learns = learns_at edge new place now _ set_is seen })

pub ends_there : (edge new : Edge) (other : Pid) (heard : Heard) (place : ℕ) (o now d : OpenScope)
    → place < length edge.scopes.items → o ≡ get_or edge.scopes.items place o
    → is_known other o.seen.other ≡ true → IsOnly (messages.Down o.scope) heard
    → new.scopes.items ≡ set edge.scopes.items place now → seen_of now.seen ≡ fresh None
    → Ends edge new place other (get_or edge.scopes.items place d) heard
ends_there edge new other heard place o now d within is known only set_is seen =
    at_place (λ x. Ends edge new place other x heard) edge.scopes.items place o d within is
    (record { known = known; only = only; learns = learns_at edge new place now _ set_is seen })

pub sent_there : (edge new : Edge) (to : Pid) (said : Said) (heard : Heard) (place : ℕ)
    → place < length edge.scopes.items
    → ((d : OpenScope) → (get_or edge.scopes.items place d).own ≡ to)
    → HearsNothing edge new heard ⊎ ((d : OpenScope)
    → Takes edge new place said (get_or edge.scopes.items place d) heard)
    → HearsNothing edge new heard ⊎ IsSentTo edge new to said heard
sent_there edge new to said heard place within own (inl nothing) = inl nothing
sent_there edge new to said heard place within own (inr takes) =
    let found = some_there edge.scopes.items place within in
    inr (record {
      item = found.0;
      here = record { place = place; within = within; is = found.1 };
      own = subst (λ (o : OpenScope). o.own ≡ to) found.1 (own found.0);
      takes = subst (λ o. Takes edge new place said o heard) found.1 (takes found.0);
    })

pub asked_there : (edge new : Edge) (name : List ℕ) (p : Pid) (heard : Heard) (place : ℕ)
    → place < length edge.scopes.items
    → ((d : OpenScope) → (get_or edge.scopes.items place d).scope ≡ name)
    → HearsNothing edge new heard ⊎ ((d : OpenScope)
    → Takes edge new place (saids.Discover p) (get_or edge.scopes.items place d) heard)
    → HearsNothing edge new heard ⊎ IsAskedBy edge new name p heard
asked_there edge new name p heard place within scope (inl nothing) = inl nothing
asked_there edge new name p heard place within scope (inr takes) =
    let found = some_there edge.scopes.items place within in
    inr (here (record {
      item = found.0;
      here = record { place = place; within = within; is = found.1 };
      scope = subst (λ (o : OpenScope). o.scope ≡ name) found.1 (scope found.0);
      takes = subst (λ o. Takes edge new place (saids.Discover p) o heard) found.1
          (takes found.0);
    }))

pub ended_there : (edge new : Edge) (from to : List ℕ) (own other : Pid) (heard : Heard)
    (place : ℕ) → place < length edge.scopes.items
    → ((d : OpenScope) → (get_or edge.scopes.items place d).own ≡ own)
    → to ≡ pid_bytes own → from ≡ pid_bytes other
    → HearsNothing edge new heard ⊎ ((d : OpenScope)
    → Ends edge new place other (get_or edge.scopes.items place d) heard)
    → HearsNothing edge new heard ⊎ IsEnded edge new from to heard
ended_there edge new from to own other heard place within is_own to_own from_other (inl nothing) =
    inl nothing
ended_there edge new from to own other heard place within is_own to_own from_other (inr ends) =
    let found = some_there edge.scopes.items place within in
    let same = subst (λ (o : OpenScope). o.own ≡ own) found.1 (is_own found.0) in
    inr (record {
      item = found.0;
      other = other;
      here = record { place = place; within = within; is = found.1 };
      to_own = subst (λ p. to ≡ pid_bytes p) (sym same) to_own;
      from_other = from_other;
      ends = subst (λ o. Ends edge new place other o heard) found.1 (ends found.0);
    })

pub discover_by : (edge new : Edge) (name : List ℕ) (p : Pid) (said : Said) (heard : Heard)
    → said ≡ saids.Discover p → HearsNothing edge new heard ⊎ IsAskedBy edge new name p heard
    → HearsNothing edge new heard ⊎ ((q : Pid) × IsDiscoverBy edge new name q said heard)
discover_by edge new name p said heard is (inl nothing) = inl nothing
discover_by edge new name p said heard is (inr asked) =
    inr (p, record { is = is; asked = asked })

-- ---- of the signals

pub heard_sent : (edge new : Edge) (body : List ℕ) (to : Pid) (said : Said) (heard : Heard)
    → IsSent to said body → HearsNothing edge new heard ⊎ IsSentTo edge new to said heard
    → Hears edge new body heard
heard_sent edge new body to said heard is (inl nothing) = none nothing
heard_sent edge new body to said heard is (inr comes) = sent to said is comes

pub heard_named : (edge new : Edge) (body name : List ℕ) (said : Said) (heard : Heard)
    → IsNamed name said body
    → HearsNothing edge new heard ⊎ ((p : Pid) × IsDiscoverBy edge new name p said heard)
    → Hears edge new body heard
heard_named edge new body name said heard is (inl nothing) = none nothing
heard_named edge new body name said heard is (inr by) =
    named name by.0 (subst (λ s. IsNamed name s body) by.1.is is) by.1.asked

pub heard_ended : (edge new : Edge) (body from to : List ℕ) (heard : Heard)
    → (rest : List ℕ) × ((behind : List ℕ) × HasControl 5 21 from to rest behind body)
    → HearsNothing edge new heard ⊎ IsEnded edge new from to heard → Hears edge new body heard
heard_ended edge new body from to heard is (inl nothing) = none nothing
heard_ended edge new body from to heard is (inr by) = ended from to is.0 is.1.0 is.1.1 by

-- ---- of what stays

pub stays_here : (edge : Edge) → Stays edge edge
stays_here edge = record { link = (refl, refl, refl); parts = refl; scopes = refl }

-- one scope changes, and keeps its name and its process
pub stays_at : (edge new : Edge) (place : ℕ) (o now : OpenScope)
    → o ≡ get_or edge.scopes.items place o → now.scope ≡ o.scope → now.own ≡ o.own
    → IsSameLink edge new → new.parts ≡ edge.parts
    → new.scopes.items ≡ set edge.scopes.items place now → Stays edge new
stays_at edge new place o now is scope own link parts set_is = record {
  link = link;
  parts = parts;
  scopes = ap (map known_as) set_is ∙ map-set_same known_as edge.scopes.items place now o
      ((λ i. (scope i, own i)) ∙ ap known_as is);
}

-- one scope changes, and what is known of its peer's process stays
pub same_at : (all : List OpenScope) (place : ℕ) (o now : OpenScope) → o ≡ get_or all place o
    → now.seen ≡ o.seen → map seen_at (set all place now) ≡ map seen_at all
same_at all place o now is same =
    map-set_same seen_at all place now o (ap seen_of same ∙ ap seen_at is)

pub open_same : (o now : OpenScope) → now.scope ≡ o.scope → now.own ≡ o.own → now.seen ≡ o.seen
    → now.reference ≡ o.reference → now.watchers.items ≡ o.watchers.items
    → open_of now ≡ open_of o
open_same o now scope own seen reference watchers = λ i. record {
  scope = scope i;
  own = own i;
  seen = seen_of (seen i);
  reference = reference i;
  watchers = watchers i;
}
