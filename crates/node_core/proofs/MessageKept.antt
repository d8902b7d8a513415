-- What a node keeps after a message, or a part of one, that is accepted.
use Rattle.node_core.proofs
use proofs.Words.{Accepted, always, and_parts, ap, arith, asks, AwaitMessage, awaits, begun}
use proofs.Words.{begun_after, Change, checks, Entry, entry_link, eq-eqb, Event, facts, false}
use proofs.Words.{first_broken, flip, frame_taken, framed_numbers, History, is_full, is_last}
use proofs.Words.{is_open, is_up, is_whole, IsAlone, IsChange, IsPlayed, IsState, IsStep, just}
use proofs.Words.{kept_climbs, KeptLink, link_words, LinkFacts, LinksFollow, List, may_tell}
use proofs.Words.{Message2, message_checks, message_owes, named_by, nat_eq, None, option_map_or}
use proofs.Words.{position, refl, Reply, Rule, set, Some, subst, sym, true, verdict, waiting, ℕ, []}
use proofs.Words.{◌++◌, ◌==◌, ◌∙◌, ◌≡◌}
use Rattle.policy_audit.proofs.Begun.{framed}
use Rattle.policy_audit.proofs.Onward.{message_taken_on}
use Rattle.policy_audit.proofs.LinkFrames.{message_links}
use proofs.Entered.{accepted_now, answered_now, made, next_now}
use proofs.KeptOn.{facts_same, one_follows, place_is, same_link}
use proofs.MessagePlaces.{IsUpHere}
use proofs.Told.{still_state}

-- the rules for a message on a link that awaits one
pub message_rules : (h : History) (seat l : ℕ) (body : List ℕ)
    → is_up l h.entries ≡ true → awaits l h.entries ≡ AwaitMessage
    → first_broken (checks h seat (Event.Frame l body))
    ≡ first_broken
    (option_map_or (message_checks h l) (frame_taken h.opening l h.entries body)
    (always Rule.BadFrame))
message_rules h seat l body up awaited = grind (arith, up, awaited)

-- no message but a Discover is owed one
pub unasked : (h : History) (l : ℕ) (body : List ℕ) (m : Message2)
    → frame_taken h.opening l h.entries body ≡ Some m → asks (Some m) ≡ false
    → may_tell h.opening h.entries (Event.Frame l body) ≡ false
unasked h l body m says quiet =
    grind (arith, says, quiet)

module _ (h : History) (seat l : ℕ) (body : List ℕ) (m : Message2)
    (space : is_full h ≡ false) (up : is_up l h.entries ≡ true)
    (awaited : awaits l h.entries ≡ AwaitMessage)
    (says : frame_taken h.opening l h.entries body ≡ Some m)
    (holds : first_broken (message_checks h l m) ≡ None)
    (cs : List Change) where
  abbrev pub entry : Entry
  entry = made h seat (Event.Frame l body) (Accepted Reply.Done) cs

  abbrev pub now : History
  now = just h entry

  pub its_verdict : Accepted Reply.Done ≡ verdict h seat (Event.Frame l body)
  its_verdict = accepted_now h seat (Event.Frame l body) space Reply.Done
      (grind (arith, message_rules h seat l body up awaited, says, holds)) (grind (arith, awaited))

  pub its_answered : IsStep h entry
  its_answered = answered_now h seat (Event.Frame l body) space (Accepted Reply.Done) cs its_verdict

  pub its_next : IsChange h now cs → IsAlone h entry
  its_next change =
      next_now h seat (Event.Frame l body) space (Accepted Reply.Done) cs its_verdict change

  -- ---- links

  -- what the policy's words say of each link is the same, but what is kept of this one's message
  abbrev with_message : LinkFacts → LinkFacts
  with_message f = record f { begun = begun_after f.begun m }

  its_facts : facts now l ≡ with_message (facts h l)
  its_facts =
      let it = message_taken_on h entry its_answered refl l body refl awaited in
      let whole = (and_parts (is_open l h.entries) (is_whole l h.entries) up).1 in
      grind (
        arith,
        (message_links h entry its_answered refl l body refl awaited l).open_is,
        it.whole,
        whole,
        it.awaits,
        awaited,
        it.peer,
        it.given,
        it.opened,
        framed h.opening h.entries entry l body refl refl whole,
        says,
      )

  others_facts : (j : ℕ) → (l == j) ≡ false → facts now j ≡ facts h j
  others_facts j apart =
      facts_same h now refl j (entry_link h.entries entry l j body refl apart)
      (message_links h entry its_answered refl l body refl awaited j).open_is

  waits : (j : ℕ) → (l == j) ≡ false → waiting now j ≡ waiting h j
  waits j apart =
      (message_links h entry its_answered refl l body refl awaited j).waiting_is
      ∙ grind (arith, apart)

  its_waits : waiting now l ≡ waiting h l ++ message_owes h l m
  its_waits =
      (message_links h entry its_answered refl l body refl awaited l).waiting_is
      ∙ grind (arith, eq-eqb l l refl, says)

  -- what is owed waits for the link, and its part is kept
  pub its_links : (kept : List KeptLink) → IsPlayed h → LinksFollow (link_words h) kept
      → (p : ℕ) (x y : KeptLink) → position (λ z. nat_eq z.number l) kept ≡ Some p → IsUpHere h l x
      → y.number ≡ x.number → y.state ≡ x.state → y.begun ≡ begun_after x.begun m
      → y.prepared ≡ [] → y.frames ≡ x.frames ++ message_owes h l m
      → LinksFollow (link_words now) (set kept p y)
  its_links kept legal t p x y q here number state begun idle frames =
      let place = place_is kept l p x q in
      let is : y.number ≡ l = number ∙ here.number in
      one_follows (link_words h) (link_words now) y
      (record {
        state = subst (λ n. IsState (facts now n) y.state) (sym is)
            (subst (λ f. IsState f y.state) (sym its_facts)
            (still_state (facts h l) _ y.state
            (subst (λ s. IsState (facts h l) s) (sym state)
            (subst (λ n. IsState (facts h n) x.state) here.number here.link.state))));
        begun = grind (arith, begun, here.link.begun, here.number, ap (λ f. f.begun) its_facts, is);
        frames = grind (arith, frames, here.link.frames, here.number, its_waits, is);
        idle = idle;
      })
      (λ z apart t.
      let unlike : (l == z.number) ≡ false =
      flip l z.number ∙ ap (λ n. nat_eq z.number n) (sym is) ∙ apart in
      same_link z (others_facts z.number unlike) (waits z.number unlike) t)
      kept p x t (kept_climbs h legal)
      (framed_numbers h entry refl its_answered l body refl (ap is_last awaited)
      (ap (λ a. named_by a body) awaited))
      place.0 (is ∙ sym place.1)
