-- The nodes so far, and what a node lists.
use Rattle.std.proofs.Common.{ap, append_assoc, Bool, cond, Err, false, get_or, length, List, None}
use Rattle.std.proofs.Common.{not, Ok, refl, Some, sym, take, true, ℕ, [], ◌++◌, ◌+◌, ◌<◌, ◌∙◌, ◌∷◌}
use Rattle.std.proofs.Common.{◌≡◌}
use Rattle.std.specs.Prelude.{slice_get}
use Rattle.std.specs.List.{flat_map}
use Rattle.std.specs.Option.{option_map_or}
use Rattle.std.proofs.lemmas.Option.{slice_get-get_or}
use Rattle.std.proofs.lemmas.List.{append-nil, take_more}
use Rattle.std.proofs.lemmas.Grind.{flat_map-append}
use Rattle.policy_audit.specs.declared.reply.Reply.{Reply}
use Rattle.policy_audit.specs.declared.rule.Rule.{Rule}
use Rattle.policy_audit.specs.History.{History}
use Rattle.policy_audit.specs.Own.{is_running}
use Rattle.policy_audit.specs.Contents.{members}
use Rattle.node_core.specs.Reading.{IsAnswer}
use Rattle.world_script.specs.Showing.{listed_by, pids_in}
use Rattle.world_script.proofs.Places.{nobody}
use Rattle.policy_audit.specs.declared.event.Event.TheVariants as event
use Rattle.node_core.specs.declared.fault.CoreFault.TheVariants as core_fault

-- one node more
pub one_more : (f : History → List ℕ) (hs : List History) (k : ℕ) → k < length hs
    → flat_map f (take (k + 1) hs) ≡ flat_map f (take k hs) ++ option_map_or f (slice_get hs k) []
one_more f hs k low =
    ap (flat_map f) (take_more hs k nobody low) ∙ flat_map-append f (take k hs)
    (get_or hs k nobody ∷ [])
    ∙ ap (λ t. flat_map f (take k hs) ++ t) (append-nil (f (get_or hs k nobody))
    ∙ ap (λ o. option_map_or f o []) (sym (slice_get-get_or hs k nobody low)))

module _ (h : History) (s g : List ℕ) where
  -- what a node lists where it answers
  pub lists_answer : (r : Reply) → IsAnswer h (event.Members s g) (Ok r)
      → listed_by s g h ≡ pids_in r
  lists_answer r is = by (is_running h s) refl
    where
      by : (b : Bool) → is_running h s ≡ b → listed_by s g h ≡ pids_in r
      by true q = ap (λ b. cond b (members h s g) []) q ∙ ap pids_in (is 0).1
      by false q = absurd (let broken : Some Rule.NoScope ≡ None =
          sym (ap (λ b. cond (not b) (Some Rule.NoScope) None) q) ∙ (is 0).0 in cc)

  -- where it refuses
  pub lists_none : (rule : Rule) → IsAnswer h (event.Members s g) (Err (core_fault.Refused rule))
      → listed_by s g h ≡ []
  lists_none rule is = by (is_running h s) refl
    where
      by : (b : Bool) → is_running h s ≡ b → listed_by s g h ≡ []
      by true q = absurd (let kept : None ≡ Some rule =
          sym (ap (λ b. cond (not b) (Some Rule.NoScope) None) q) ∙ is 0 in cc)
      by false q = ap (λ b. cond b (members h s g) []) q

-- the text of the nodes so far, and of one more
pub shows_on : (f : History → List ℕ) (hs : List History) (k : ℕ) (old head now new : List ℕ)
    → k < length hs → now ≡ old ++ head ++ flat_map f (take k hs)
    → new ≡ now ++ option_map_or f (slice_get hs k) []
    → new ≡ old ++ head ++ flat_map f (take (k + 1) hs)
shows_on f hs k old head now new low is more =
    let so_far = flat_map f (take k hs) in
    let next = option_map_or f (slice_get hs k) [] in
    more ∙ ap (λ t. t ++ next) is ∙ append_assoc (old ++ head) so_far next
    ∙ ap (λ t. old ++ head ++ t) (sym (one_more f hs k low))
