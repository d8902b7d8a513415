-- What the calls of a door add to their passes: words that are drawn, an Opened, and what the
-- workers of a link call.
use Rattle.node_threads.proofs
use Rattle.node_threads.specs
use Rattle.std.proofs.Common.{ap, append_assoc, Bool, Err, false, inl, inr, List, None, Ok, Option}
use Rattle.std.proofs.Common.{refl, Some, subst, sym, true, ℕ, [], ◌++◌, ◌∙◌, ◌∷◌, ◌≡◌, ◌≢◌}
use Rattle.std.proofs.lemmas.List.Prefix.{front_rest}
use Rattle.std.proofs.lemmas.Grind.{flat_map-append}
use Rattle.rand_core.specs.Stream.{next_u32, Stream}
use specs.declared.pass.Call.{Call}
use specs.Calls.{Gains, Record}
use specs.Drawing.{AreNext, challenges, challenges_in, Draws, new_challenges}
use proofs.Answered.{accepted, Adds, gains_more, gains_none, leaves_gains, refused, strange}
use proofs.Answered.{unheard}
use Rattle.std.specs.List.{All}
use Rattle.std.proofs.lemmas.List.Elements.{All-append, All-cons, All-nil, All-weaker}
use Rattle.policy_audit.specs.declared.event.Event.{Event}
use Rattle.policy_audit.specs.declared.event.Event.TheVariants.{Frame, Lost, Take}
use specs.declared.cutter.Cutter.{Cutter}
use specs.declared.cutter.Cutter.TheVariants.{Handshake, Messages}
use specs.declared.ends.ReadEnd.{ReadEnd}
use specs.declared.ends.WriteEnd.{WriteEnd}
use Rattle.policy_audit.specs.declared.entry.Verdict.{Verdict}
use specs.declared.retreat.RetreatStep.{RetreatStep}
use specs.Ends.{reader_gives_up, writer_gives_up}
use specs.Entered.{IsEntry, verdict_in}
use specs.Reading.{AreFrames, IsRead}
use specs.Retreat.{Leaves}
use specs.Serving.{HasRead, HasWritten}
use Rattle.policy_audit.specs.declared.reply.Reply.TheVariants.{Link}
use Rattle.policy_audit.specs.declared.rule.Rule.{Rule}
use Rattle.node_core.specs.declared.fault.CoreFault.TheVariants.{OutOfMemory, Refused}
use specs.declared.fault.CallFault.{CallFault}
use specs.declared.fault.CallFault.TheVariants.{Core, StrangePass}
use specs.declared.accepting.AcceptEnd.{AcceptEnd}
use specs.declared.opening.LinkAnswer.{LinkAnswer}
use specs.Applied.{Called}
use specs.Accepting.{Asked, IsOfLink, IsRefusal, IsUnentered, IsUnopened, Opens, Serves}
use Rattle.policy_audit.specs.declared.event.Event.TheVariants as events
use Rattle.policy_audit.specs.declared.entry.Verdict.TheVariants as verdicts
use specs.declared.accepting.AcceptEnd.TheVariants as ends
use specs.declared.opening.LinkAnswer.TheVariants as answers

-- ---- words of a stream

pub draws_then : (stream mid left : Stream) (xs ys : List ℕ) → Draws stream xs mid
    → Draws mid ys left → Draws stream (xs ++ ys) left
draws_then stream mid left [] ys first then = subst (λ s. Draws s ys left) first then
draws_then stream mid left (x ∷ xs) ys first then =
    (first.0, draws_then (next_u32 stream).1 mid left xs ys first.1 then)

pub draws_one : (mid left : Stream) (word : ℕ) → (word, left) ≡ next_u32 mid
    → Draws mid (word ∷ []) left
draws_one mid left word drawn =
    (ap (λ (p : ℕ × Stream). p.0) drawn, ap (λ (p : ℕ × Stream). p.1) drawn)

-- the first of the words that were drawn
pub draws_first : (stream left : Stream) (xs ys : List ℕ) → Draws stream (xs ++ ys) left
    → AreNext stream xs
draws_first stream left [] ys draws = (stream, refl)
draws_first stream left (x ∷ xs) ys draws =
    let others = draws_first (next_u32 stream).1 left xs ys draws.1 in
    (others.0, (draws.0, others.1))

-- ---- challenges of calls

pub gained : (p p' : Record) (more : List Call) → Gains p more p'
    → new_challenges p p' ≡ challenges more
gained p p' more gains =
    ap challenges (front_rest p'.calls p.calls more (ap (λ (q : Record). q.calls) gains))

pub gained_none : (p p' : Record) → p' ≡ p → new_challenges p p' ≡ []
gained_none p p' same = gained p p' [] (gains_none p p' same)

-- calls after calls
pub gained_then : (p mid p' : Record) (xs ys : List Call) → Gains p xs mid → Gains mid ys p'
    → new_challenges p p' ≡ new_challenges p mid ++ new_challenges mid p'
gained_then p mid p' xs ys first then =
    gained p p' (xs ++ ys) (gains_more p mid p' xs ys first then)
    ∙ flat_map-append (λ (c : Call). challenges_in c.event) xs ys
    ∙ ap (λ ws. ws ++ challenges ys) (sym (gained p mid xs first))
    ∙ ap (λ ws. new_challenges p mid ++ ws) (sym (gained mid p' ys then))

module _ (link : ℕ) (P : Event → Type 0) (lost : P (Lost link)) where
  abbrev Holds : Call → Type 0
  Holds c = P c.event

  -- what holds of the link's loss holds of all that a worker calls as it leaves
  of_left : (b : Bool) (p : Record) (calls : List Call) (step : RetreatStep) (p' : Record) →
      Leaves link b p calls step p' → All (λ (c : Call). P c.event) calls
  of_left true p calls step p' leaves = by (verdict_in leaves.answer) calls leaves.enters.entry
    where
      by : (v : Option Verdict) (calls : List Call) → IsEntry (Lost link) v calls →
          All (λ (c : Call). P c.event) calls
      by None calls entry = rw entry (All-nil Holds)
      by (Some v) calls entry =
          rw entry.1 (All-cons Holds entry.0 [] (subst P (sym entry.2) lost) (All-nil Holds))
  of_left false p calls step p' leaves = rw leaves.0 (All-nil Holds)

  module _ (frame : (body : List ℕ) → P (Frame link body)) where
    of_frames : (bodies : List (List ℕ)) (calls : List Call) → AreFrames link bodies calls →
        All (λ (c : Call). P c.event) calls
    of_frames bodies [] are = All-nil Holds
    of_frames [] (c ∷ calls) are = cc
    of_frames (body ∷ bodies) (c ∷ calls) are =
        let first : c.event ≡ Frame link body = cc in
        let others : AreFrames link bodies calls = cc in
        All-cons Holds c calls (subst P (sym first) (frame body)) (of_frames bodies calls others)

    of_read : (bytes : List ℕ) (calls : List Call) (cutter : Cutter) →
        IsRead link bytes calls cutter → All (λ (c : Call). P c.event) calls
    of_read bytes calls (Handshake rest) read =
        of_frames read.handshake.bodies calls read.handshake.frames
    of_read bytes calls (Messages reader) read =
        let early = read.first ++ read.last ∷ [] in
        rw read.calls_are (All-append Holds early read.later
        (of_frames read.handshake.bodies early read.handshake.frames)
        (of_frames read.messages.bodies read.later read.messages.frames))

    -- what holds of the link's frames and its loss holds of all that its reader has called
    pub read_calls : (p p' : Record) (known : Option (List ℕ)) (end : ReadEnd) →
        HasRead link p known end p' →
        (more : List Call) × Gains p more p' × All (λ (c : Call). P c.event) more
    read_calls p p' known end has =
        let all = has.3 in
        let reads = all.reads in
        let gives_up = reader_gives_up all.stop in
        let left = leaves_gains link gives_up all.mid all.lost all.step p' all.leaves in
        let are = of_left gives_up all.mid all.lost all.step p' all.leaves in (
          reads.frames ++ all.lost,
          gains_more p all.mid p' reads.frames all.lost reads.gains left,
          All-append Holds reads.frames all.lost
              (of_read reads.used reads.frames reads.cutter reads.read) are,
        )

  -- what holds of the link's Take and its loss holds of all that its writer has called
  pub written_calls : P (Take link) → (p p' : Record) (known : Option (List ℕ)) (end : WriteEnd) →
      HasWritten link p known end p' →
      (more : List Call) × Gains p more p' × All (λ (c : Call). P c.event) more
  written_calls take p p' known end has =
      let all = has.1 in
      let writes = all.writes in
      let gives_up = writer_gives_up all.stop in
      let left = leaves_gains link gives_up all.mid all.lost all.step p' all.leaves in
      let are = of_left gives_up all.mid all.lost all.step p' all.leaves in (
        writes.takes ++ all.lost,
        gains_more p all.mid p' writes.takes all.lost writes.gains left,
        All-append Holds writes.takes all.lost
            (All-weaker (λ (c : Call). c.event ≡ Take link) Holds
            (λ c is. subst P (sym is) take) writes.takes writes.are_takes) are,
      )

-- ---- an Opened

pub opens_none : (p p' : Record) → p' ≡ p → Opens None p p'
opens_none p p' is = ([], All-nil IsRefusal, gains_none p p' is)

-- what comes after refused ones
pub opens_then : (link : Option ℕ) (p mid p' : Record) → Opens None p mid → Opens link mid p' →
    Opens link p p'
opens_then (Some link) p mid p' first then =
    let all = gains_more p mid p' first.0 (then.0 ++ then.1 ∷ []) first.2 then.4 in (
      first.0 ++ then.0,
      then.1,
      All-append IsRefusal first.0 then.0 first.1 then.2,
      then.3,
      rw (append_assoc first.0 then.0 (then.1 ∷ [])) all,
    )
opens_then None p mid p' first then = (
  first.0 ++ then.0,
  All-append IsRefusal first.0 then.0 first.1 then.1,
  gains_more p mid p' first.0 then.0 first.2 then.2,
)

-- no Opened ends so that the passes are used up
pub not_used : (end : AcceptEnd) → IsUnentered end → end ≢ ends.PassesUsed
not_used ends.PassesUsed is = absurd is
not_used end is = λ q. cc

module _ (p p' : Record) (challenge : ℕ) where
  -- the challenge of the one call that the pass has gained
  pub one_challenge : (v : Verdict) (a : Adds p (events.Opened challenge) v p') →
      new_challenges p p' ≡ challenge ∷ []
  one_challenge v a = gained p p' (a.0 ∷ []) a.3 ∙ ap (λ e. challenges_in e ++ []) a.1

  asked_none : (end : AcceptEnd) (answer : LinkAnswer) → answer ≡ answers.End end →
      IsUnentered end → p' ≡ p → Asked challenge p answer p'
  asked_none end answer is unentered same =
      rw is (opens_none p p' same, unentered, inr (gained_none p p' same))

  opens_refused : (rule : Rule) → Adds p (events.Opened challenge) (verdicts.Refused rule) p' →
      Opens None p p'
  opens_refused rule a =
      (a.0 ∷ [], All-cons IsRefusal a.0 [] (challenge, rule, a.1, a.2) (All-nil IsRefusal), a.3)

  -- an Opened that made a link
  pub asked_link : (link : ℕ) → Called p (events.Opened challenge) (Ok (Link link)) p' →
      Asked challenge p (answers.Link link) p'
  asked_link link called =
      let a = accepted p p' (events.Opened challenge) (Link link) called in (
        ([], a.0, All-nil IsRefusal, (challenge, a.1, a.2), a.3),
        one_challenge (verdicts.Accepted (Link link)) a,
      )

  -- an Opened without a reply
  pub asked_unopened : (fault : CallFault) (answer : LinkAnswer) → IsUnopened fault answer →
      Called p (events.Opened challenge) (Err fault) p' → Asked challenge p answer p'
  asked_unopened StrangePass answer is called =
      asked_none ends.StrangePass answer is tt (strange p p' (events.Opened challenge) called)
  asked_unopened (Core OutOfMemory) answer is called =
      asked_none ends.Memory answer is tt (unheard p p' (events.Opened challenge) called)
  asked_unopened (Core (Refused rule)) answer is called =
      elim (refused p p' (events.Opened challenge) rule called) [
        | inl full ↦ elim is [
          | inl end ↦ asked_none ends.EntriesFull answer end.1 tt full.0
          | inr room ↦ absurd (room.0 full.1)
        ]
        | inr a ↦
            let none = opens_refused rule a in
            let one = one_challenge (verdicts.Refused rule) a in
            elim is [
              | inl end ↦ rw end.1 (none, tt, inl one)
              | inr room ↦ rw room.1 (none, one)
            ]
      ]

-- ---- the workers of a link

-- a reader serves its link
pub serves_read : {link : ℕ} {p p' : Record} (known : Option (List ℕ)) (end : ReadEnd) →
    HasRead link p known end p' → Serves link p p'
serves_read {link} {p} {p'} known end has =
    let called =
    read_calls link (IsOfLink link) (inr (inr refl)) (λ body. inl (body, refl)) p p' known end
    has in
    record { more = called.0; are = called.2; gains = called.1 }

-- so does a writer
pub serves_written : {link : ℕ} {p p' : Record} (known : Option (List ℕ)) (end : WriteEnd) →
    HasWritten link p known end p' → Serves link p p'
serves_written {link} {p} {p'} known end has =
    let called =
    written_calls link (IsOfLink link) (inr (inr refl)) (inr (inl refl)) p p' known end has in
    record { more = called.0; are = called.2; gains = called.1 }
