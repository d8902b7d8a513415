-- The parts of a message, accepted in their order, put that one message among the messages of their
-- link.
use Rattle.policy_audit.proofs
use Rattle.policy_audit.specs
use proofs.Words.{Accepted, ap, arith, Begun, begun, begun_after, Bool, completed, cond, Entry}
use proofs.Words.{Event, false, flat_map, frame_taken, is_accepted, is_whole, kept_after, List}
use proofs.Words.{Message, Message2, None, Opening, Option, option_and_then, option_map_or, refl}
use proofs.Words.{Refused, Reply, said_at, same, same_sym, Some, subst, sym, talk, talk_of, true}
use proofs.Words.{Verdict, ℕ, [], ◌&&◌, ◌++◌, ◌==◌, ◌∙◌, ◌∷◌, ◌≡◌}
use Rattle.std.specs.Prelude.{reverse, ◌⊎◌}
use Rattle.std.specs.Option.{option_to_list}
use Rattle.std.proofs.Common.{append-nil, append_assoc, inl, inr}
use Rattle.std.proofs.lemmas.List.{reverse-append}
use specs.Hearing.{Talk}
use specs.Parted.{AreUndisturbed, disturbs, message_in, messages, scope_of, taken_behind, takes}
use Rattle.link_frames.specs.Parts.{AreInOrder, begun_by, comes_next, completed_by, parts}
use Rattle.link_frames.proofs.PartOrders.{alone_in_order, AreAbout, begins_about, begins_in_order}
use Rattle.link_frames.proofs.PartOrders.{begun_by_more, completed_by_more, IsKeptOf, kept_about}
use Rattle.link_frames.proofs.PartOrders.{last_in_order, parts_about, parts_alone, scope_said}
use proofs.Walked.{but}

reverse_more : {A : Type 0} (xs : List A) (o : Option A)
    → reverse (xs ++ option_to_list o) ≡ option_to_list o ++ reverse xs
reverse_more xs None = ap reverse (append-nil xs)
reverse_more xs (Some x) = reverse-append xs (x ∷ [])

-- what a link is told with a message
told_more : (x : Option Message) (ts : List Talk)
    → flat_map message_in (talk_of x ++ ts) ≡ option_to_list x ++ flat_map message_in ts
told_more None ts = refl
told_more (Some m) ts = refl

module _ (o : Opening) (l : ℕ) (s : List ℕ) (es : List Entry) where
  -- what came so far, behind es, put these messages there, and is kept as if nothing had been
  -- before
  pub record IsCarried (now : List Entry) (fs : List Message2) : Type 0 where
    pub keeps : (fs ≡ []) ⊎ (begun o l now ≡ begun_by None fs)
    pub said : messages o l now ≡ reverse (completed_by None fs) ++ messages o l es

  -- one message more
  module _ (now : List Entry) (fs : List Message2) (it : IsCarried now fs) (f : Message2)
      (next : comes_next (begun_by None fs) f ≡ true) where
    keeps_more : begun_after (begun o l now) f ≡ begun_by None (fs ++ f ∷ [])
    keeps_more = by (IsCarried.keeps it) ∙ sym (begun_by_more None fs f)
      where
        by : (fs ≡ []) ⊎ (begun o l now ≡ begun_by None fs)
            → begun_after (begun o l now) f ≡ begun_after (begun_by None fs) f
        by (inl none) = grind arith
        by (inr same) = ap (λ b. begun_after b f) same

    completes_more : completed (begun o l now) f ≡ completed (begun_by None fs) f
    completes_more = grind arith

    said_more : (now_on : List Entry)
        → messages o l now_on ≡ option_to_list (completed (begun o l now) f) ++ messages o l now
        → messages o l now_on ≡ reverse (completed_by None (fs ++ f ∷ [])) ++ messages o l es
    said_more now_on says =
        says
        ∙ ap (λ x. option_to_list x ++ messages o l now) completes_more
        ∙ ap (λ ms. option_to_list (completed (begun_by None fs) f) ++ ms) (IsCarried.said it)
        ∙ sym (append_assoc (option_to_list (completed (begun_by None fs) f))
        (reverse (completed_by None fs)) (messages o l es))
        ∙ ap (λ ms. ms ++ messages o l es)
        (sym (reverse_more (completed_by None fs) (completed (begun_by None fs) f))
        ∙ ap reverse (sym (completed_by_more None fs f)))

  -- nothing more
  as_before : (now now_on : List Entry) (fs : List Message2) → IsCarried now fs
      → begun o l now_on ≡ begun o l now → messages o l now_on ≡ messages o l now
      → IsCarried now_on (fs ++ [])
  as_before now now_on fs it kept says =
      subst (IsCarried now_on) (sym (append-nil fs))
      (record { keeps = by (IsCarried.keeps it); said = says ∙ IsCarried.said it })
    where
      by : (fs ≡ []) ⊎ (begun o l now ≡ begun_by None fs)
          → (fs ≡ []) ⊎ (begun o l now_on ≡ begun_by None fs)
      by (inl none) = inl none
      by (inr same) = inr (kept ∙ same)

  -- a stop of another scope breaks nothing of s off
  stop_keeps : (t : List ℕ) (b : Option Begun) → IsKeptOf s b → same t s ≡ false
      → cond (option_map_or (λ x. same x.scope t) b false) None b ≡ b
  stop_keeps t None of other = refl
  stop_keeps t (Some b) of other = grind (arith, of, same_sym s t)

  -- one entry more
  module _ (e : Entry) (now : List Entry) (fs : List Message2) (here : IsCarried now fs)
      (of_s : AreAbout s fs) where
    by_frame : (k : ℕ) (body : List ℕ) (r : Reply) (mine : Bool) → (k == l && is_whole l now) ≡ mine
        → (x : Option Message2) → frame_taken o l now body ≡ x
        → AreInOrder None (fs ++ cond mine (option_to_list x) [])
        → IsCarried (but e (Event.Frame k body) (Accepted r) ∷ now)
        (fs ++ cond mine (option_to_list x) [])
    by_frame k body r false is x says order = grind (arith, as_before)
    by_frame k body r true is None says order = grind (arith, as_before)
    by_frame k body r true is (Some f) says order = record {
      keeps = inr
          (ap (λ b. cond b (kept_after (begun o l now) (frame_taken o l now body)) (begun o l now))
          is ∙ ap (kept_after (begun o l now)) says ∙ keeps_more now fs here f next);
      said = said_more now fs here f next (but e (Event.Frame k body) (Accepted r) ∷ now)
          (ap (λ b. flat_map message_in
          (cond b (talk_of (said_at o l now body)) [] ++ talk o l now)) is
          ∙ ap (λ x. flat_map message_in
          (talk_of (option_and_then (completed (begun o l now)) x) ++ talk o l now)) says
          ∙ told_more (completed (begun o l now) f) (talk o l now));
    }
      where
        next : comes_next (begun_by None fs) f ≡ true
        next = last_in_order None fs f order

    by_stop : (t : List ℕ) (r : Reply) → same t s ≡ false
        → (fs ≡ []) ⊎ (begun o l now ≡ begun_by None fs)
        → IsCarried (but e (Event.StopScope t) (Accepted r) ∷ now) fs
    by_stop t r other (inl none) = record { keeps = inl none; said = IsCarried.said here }
    by_stop t r other (inr same_is) = record {
      keeps = inr
          (stop_keeps t (begun o l now)
          (subst (IsKeptOf s) (sym same_is) (kept_about s None fs tt of_s)) other ∙ same_is);
      said = IsCarried.said here;
    }

    by_event : (ev : Event) (v : Verdict) → (is_accepted v && disturbs s ev) ≡ false
        → AreInOrder None (fs ++ takes o l now v ev)
        → IsCarried (but e ev v ∷ now) (fs ++ takes o l now v ev)
    by_event (Event.Frame k body) (Accepted r) calm order =
        by_frame k body r (k == l && is_whole l now) refl (frame_taken o l now body) refl order
    by_event (Event.StopScope t) (Accepted r) calm order =
        subst (IsCarried (but e (Event.StopScope t) (Accepted r) ∷ now)) (sym (append-nil fs))
        (by_stop t r calm (IsCarried.keeps here))
    by_event Event.Restart (Accepted r) calm order = cc
    by_event ev (Accepted r) calm order =
        as_before now (but e ev (Accepted r) ∷ now) fs here refl refl
    by_event ev (Refused r) calm order =
        as_before now (but e ev (Refused r) ∷ now) fs here refl refl

  pub carried : (more : List Entry) → AreUndisturbed s more
      → AreInOrder None (taken_behind o l es more) → AreAbout s (taken_behind o l es more)
      → IsCarried (more ++ es) (taken_behind o l es more)
  carried [] calm order about = record { keeps = inl refl; said = refl }
  carried (e ∷ more) calm order about =
      let fs = taken_behind o l es more in
      let of_s = begins_about s fs _ about in
      by_event e (more ++ es) fs (carried more calm.1 (begins_in_order None fs _ order) of_s) of_s
      e.event e.verdict calm.0 order

scope_is : (m : Message) → scope_of m ≡ scope_said m
scope_is (Message.Discover s) = refl
scope_is (Message.Sync s rows) = refl
scope_is (Message.Join s rows) = refl
scope_is (Message.Leave s rows) = refl
scope_is (Message.Down s) = refl

-- so the parts of a message, accepted in their order with no restart and no stop of its scope
-- between them, put that one message there
pub parts_are_said : (o : Opening) (l : ℕ) (es more : List Entry) (m : Message)
    → AreUndisturbed (scope_of m) more → taken_behind o l es more ≡ parts m
    → messages o l (more ++ es) ≡ m ∷ messages o l es
parts_are_said o l es more m calm are =
    let order = subst (AreInOrder None) (sym are) (alone_in_order m) in
    let about = subst (AreAbout (scope_said m)) (sym are) (parts_about m) in
    IsCarried.said
    (carried o l (scope_said m) es more (subst (λ s. AreUndisturbed s more) (scope_is m) calm)
    order about) ∙ ap (λ fs. reverse (completed_by None fs) ++ messages o l es) are
    ∙ ap (λ ms. reverse ms ++ messages o l es) (parts_alone m)
