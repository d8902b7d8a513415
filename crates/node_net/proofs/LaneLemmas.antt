-- What a lane's passes gain.
use Rattle.node_net.specs
use Rattle.std.proofs.Common.{ap, append-nil, arith, Err, IfSome, inl, inr, length, length-append}
use Rattle.std.proofs.Common.{List, None, Ok, Option, refl, Result, Some, subst, sym, ℕ, [], ◌++◌}
use Rattle.std.proofs.Common.{◌+◌, ◌<◌, ◌∙◌, ◌∷◌, ◌≡◌, ◌≤◌}
use Rattle.std.specs.List.{All, Contains}
use Rattle.std.proofs.lemmas.List.Elements.{All-append, All-cons, All-head, All-nil, All-tail}
use Rattle.std.proofs.lemmas.List.Elements.{All-weaker, Contains-append_left, Contains-append_right}
use Rattle.std.proofs.lemmas.Grind.{flat_map-append}
use Rattle.rand_core.specs.Stream.{next_u32}
use Rattle.rand_chacha.specs.ChaCha.{ChaCha}
use Rattle.policy_audit.specs.declared.event.Event.{Event}
use Rattle.policy_audit.specs.declared.event.Event.TheVariants.{Dial, Frame, Lost, Opened, Take}
use Rattle.policy_audit.specs.declared.reply.Reply.{Reply}
use Rattle.policy_audit.specs.declared.reply.Reply.TheVariants.{Link}
use Rattle.policy_audit.specs.declared.entry.Verdict.{Verdict}
use Rattle.node_core.specs.declared.fault.CoreFault.TheVariants.{OutOfMemory, Refused}
use Rattle.node_threads.specs.declared.fault.CallFault.{CallFault}
use Rattle.node_threads.specs.declared.fault.CallFault.TheVariants.{Core, StrangePass}
use Rattle.node_threads.specs.declared.ends.ReadEnd.{ReadEnd}
use Rattle.node_threads.specs.declared.ends.WriteEnd.{WriteEnd}
use Rattle.node_threads.specs.declared.pass.Call.{Call}
use Rattle.node_threads.specs.Applied.{Called}
use Rattle.node_threads.specs.Calls.{Gains, Record}
use Rattle.node_threads.specs.Serving.{HasRead, HasWritten}
use Rattle.node_threads.specs.Drawing.{challenges, challenges_in, Draws}
use Rattle.node_threads.proofs.Openings.{draws_one, draws_then, read_calls, written_calls}
use Rattle.node_threads.proofs.Answered.{accepted, Adds, gains_none, refused, strange, unheard}
use specs.LaneCalls.{AreOf, IsLane, IsLinkEvent, IsOpening, link_opened, Opens, OpensNext}
use specs.LaneCalls.{own_links, Pair}
use specs.LaneCalls.{words_of}
use Rattle.policy_audit.specs.declared.entry.Verdict.TheVariants as verdicts

-- ---- more links, more calls

more_links : (xs ys : List ℕ) (e : Event) → IsLinkEvent xs e → IsLinkEvent (xs ++ ys) e
more_links xs ys (Opened challenge) is = tt
more_links xs ys (Dial peer challenge) is = tt
more_links xs ys (Frame link body) is = Contains-append_left xs ys link is
more_links xs ys (Take link) is = Contains-append_left xs ys link is
more_links xs ys (Lost link) is = Contains-append_left xs ys link is
more_links xs ys e is = absurd is

still : (before more calls : List Call) → AreOf (own_links before) calls
    → AreOf (own_links (before ++ more)) calls
still before more calls are =
    rw (flat_map-append (λ (c : Call). link_opened c.event c.verdict) before more)
    (All-weaker (λ (c : Call). IsLinkEvent (own_links before) c.event)
    (λ (c : Call). IsLinkEvent (own_links before ++ own_links more) c.event)
    (λ c is. more_links (own_links before) (own_links more) c.event is) calls are)

abbrev Fits : List ℕ → Call → Type 0
Fits links c = IsLinkEvent links c.event

-- one after another, calls have their challenges one after another
challenges-append : (xs ys : List Call) → challenges (xs ++ ys) ≡ challenges xs ++ challenges ys
challenges-append xs ys = flat_map-append (λ (c : Call). challenges_in c.event) xs ys

-- a lane whose passes gain such calls is a lane
gains_lane : (lane lane' : Pair) (xs ys : List Call) → IsLane lane
    → Gains lane.reader xs lane'.reader → Gains lane.writer ys lane'.writer
    → AreOf (own_links (lane.reader.calls ++ xs)) xs
    → AreOf (own_links (lane.reader.calls ++ xs)) ys → challenges ys ≡ []
    → ((given : ChaCha) × Draws (words_of given) (challenges (lane.reader.calls ++ xs)
    ++ lane'.challenge ∷ []) (words_of lane'.left)) → IsLane lane'
gains_lane lane lane' xs ys is read written of_reader of_writer alone drawn =
    let r = lane.reader.calls in
    let w = lane.writer.calls in
    let reads : lane'.reader.calls ≡ r ++ xs = ap (λ (q : Record). q.calls) read in
    let writes : lane'.writer.calls ≡ w ++ ys = ap (λ (q : Record). q.calls) written in record {
      reader = rw reads (All-append (Fits (own_links (r ++ xs))) r xs (still r xs r is.reader)
          of_reader);
      writer = rw (reads, writes)
          (All-append (Fits (own_links (r ++ xs))) w ys (still r xs w is.writer) of_writer);
      reader_alone = rw writes (challenges-append w ys ∙ ap (λ cs. cs ++ challenges ys)
          is.reader_alone ∙ alone);
      drawn = rw reads drawn;
    }

-- ---- a new lane

-- a lane whose passes have made no calls, and whose generator has given one word
pub begins_lane : (lane : Pair) (source : ChaCha) → lane.reader.calls ≡ [] → lane.writer.calls ≡ []
    → (lane.challenge, words_of lane.left) ≡ next_u32 (words_of source) → IsLane lane
begins_lane lane source reader writer drawn = record {
  reader = rw reader (All-nil (Fits []));
  writer = rw (reader, writer) (All-nil (Fits []));
  reader_alone = rw writer refl;
  drawn = rw reader (source, draws_one (words_of source) (words_of lane.left) lane.challenge drawn);
}

-- ---- a link that is opened

opening_is : (links : List ℕ) (challenge : ℕ) (e : Event) → IsOpening challenge e
    → IsLinkEvent links e
opening_is links challenge (Opened c) is = tt
opening_is links challenge (Dial peer c) is = tt
opening_is links challenge e is = absurd is

opened_at : (link challenge : ℕ) (e : Event) → IsOpening challenge e
    → link_opened e (verdicts.Accepted (Link link)) ≡ link ∷ []
opened_at link challenge (Opened c) is = refl
opened_at link challenge (Dial peer c) is = refl
opened_at link challenge e is = absurd is

opened_with : (challenge : ℕ) (e : Event) → IsOpening challenge e → challenges_in e ≡ challenge ∷ []
opened_with challenge (Opened c) is = ap (λ n. n ∷ []) is
opened_with challenge (Dial peer c) is = ap (λ n. n ∷ []) is
opened_with challenge e is = absurd is

module _ (p p' : Record) (e : Event) (challenge : ℕ) (is : IsOpening challenge e) where
  -- one call more, which opens a link
  opens_one : (told : Option ℕ) (v : Verdict) (a : Adds p e v p')
      → ((link : ℕ) → told ≡ Some link → v ≡ verdicts.Accepted (Link link)) → Opens e told p p'
  opens_one told v a tells = record {
    more = a.0 ∷ [];
    gains = a.3;
    at_most_one = inr (a.0, refl, a.1);
    is_own = by told tells;
  }
    where
      by : (t : Option ℕ) → ((link : ℕ) → t ≡ Some link → v ≡ verdicts.Accepted (Link link))
          → IfSome t (Contains (own_links (a.0 ∷ [])))
      by None tells = tt
      by (Some link) tells = rw (a.1, a.2, tells link refl, opened_at link challenge e is)
          (0, omega arith, refl)

  opens_none : p' ≡ p → Opens e None p p'
  opens_none same =
      record { more = []; gains = gains_none p p' same; at_most_one = inl refl; is_own = tt }

  -- a link that the call was answered
  pub opens_told : (link : ℕ) → Called p e (Ok (Link link)) p' → Opens e (Some link) p p'
  opens_told link called = opens_one (Some link) (verdicts.Accepted (Link link))
      (accepted p p' e (Link link) called) (λ l q. cc)

  -- whatever the call was answered
  pub opens_untold : (answer : Result Reply CallFault) → Called p e answer p' → Opens e None p p'
  opens_untold (Ok reply) called = opens_one None (verdicts.Accepted reply)
      (accepted p p' e reply called) (λ l q. cc)
  opens_untold (Err StrangePass) called = opens_none (strange p p' e called)
  opens_untold (Err (Core OutOfMemory)) called = opens_none (unheard p p' e called)
  opens_untold (Err (Core (Refused rule))) called = elim (refused p p' e rule called) [
    | inl full ↦ opens_none full.0
    | inr a ↦ opens_one None (verdicts.Refused rule) a (λ l q. cc)
  ]

pub opens_own : (e : Event) (told : Option ℕ) (r r' : Record) → Opens e told r r'
    → IfSome told (Contains (own_links r'.calls))
opens_own e None r r' opens = tt
opens_own e (Some link) r r' opens =
    rw (
      opens.gains,
      flat_map-append (λ (c : Call). link_opened c.event c.verdict) r.calls opens.more,
    )
    (Contains-append_right (own_links r.calls) (own_links opens.more) link opens.is_own)

module _ (lane lane' : Pair) (e : Event) (told : Option ℕ) (opens : Opens e told lane.reader
    lane'.reader) (is : IsLane lane) (writer : lane'.writer ≡ lane.writer) where
  -- how many calls there are then
  counted : length lane'.reader.calls ≡ length lane.reader.calls + length opens.more
  counted = ap (λ (q : Record). length q.calls) opens.gains ∙ length-append lane.reader.calls
      opens.more

  -- a lane whose call made no entry, and which keeps its challenge
  pub keeps_lane : length lane'.reader.calls ≤ length lane.reader.calls
      → lane'.challenge ≡ lane.challenge → lane'.left ≡ lane.left → IsLane lane'
  keeps_lane few kept left = elim opens.at_most_one [
    | inl none ↦ gains_lane lane lane' [] [] is (rw none at opens.gains)
        (gains_none lane.writer lane'.writer writer)
        (All-nil (Fits (own_links (lane.reader.calls ++ []))))
        (All-nil (Fits (own_links (lane.reader.calls ++ [])))) refl
        (is.drawn.0, rw (kept, left, append-nil lane.reader.calls) is.drawn.1)
    | inr one ↦ absurd (omega (arith, few, counted, ap (λ (cs : List Call). length cs) one.1))
  ]

  -- a lane that has opened a link, or was refused, and has drawn the next challenge
  pub opens_lane : IsOpening lane.challenge e → length lane.reader.calls < length lane'.reader.calls
      → (lane'.challenge, words_of lane'.left) ≡ next_u32 (words_of lane.left) → IsLane lane'
  opens_lane opening many drawn = elim opens.at_most_one [
    | inl none ↦ absurd (omega (arith, many, counted, ap (λ (cs : List Call). length cs) none))
    | inr one ↦
        let r = lane.reader.calls in
        let links = own_links (r ++ one.0 ∷ []) in
        let with_it : challenges (r ++ one.0 ∷ []) ≡ challenges r ++ lane.challenge ∷ [] =
        challenges-append r (one.0 ∷ []) ∙ ap (λ cs. challenges r ++ (cs ++ []))
        (ap challenges_in one.2 ∙ opened_with lane.challenge e opening) in
        gains_lane lane lane' (one.0 ∷ []) [] is (rw one.1 at opens.gains)
        (gains_none lane.writer lane'.writer writer)
        (All-cons (Fits links) one.0 []
        (subst (IsLinkEvent links) (sym one.2) (opening_is links lane.challenge e opening))
        (All-nil (Fits links))) (All-nil (Fits links)) refl (
          is.drawn.0,
          rw with_it (draws_then (words_of is.drawn.0) (words_of lane.left) (words_of lane'.left)
              (challenges r ++ lane.challenge ∷ []) (lane'.challenge ∷ []) is.drawn.1
              (draws_one (words_of lane.left) (words_of lane'.left) lane'.challenge drawn)),
        )
  ]

  -- it has drawn for its call
  pub opened_next : length lane.reader.calls < length lane'.reader.calls
      → (lane'.challenge, words_of lane'.left) ≡ next_u32 (words_of lane.left)
      → OpensNext lane lane'
  opened_next many drawn = elim opens.at_most_one [
    | inl none ↦ absurd (omega (arith, many, counted, ap (λ (cs : List Call). length cs) none))
    | inr one ↦ (
      opens.more,
      opens.gains,
      writer,
      rw one.1 (refl, draws_one (words_of lane.left) (words_of lane'.left) lane'.challenge drawn),
    )
  ]

  -- it has made no call, and drawn nothing
  pub kept_next : length lane'.reader.calls ≤ length lane.reader.calls
      → lane'.challenge ≡ lane.challenge → lane'.left ≡ lane.left → OpensNext lane lane'
  kept_next few kept left = elim opens.at_most_one [
    | inl none ↦ (opens.more, opens.gains, writer, rw none (kept, left))
    | inr one ↦ absurd (omega (arith, few, counted, ap (λ (cs : List Call). length cs) one.1))
  ]

-- ---- a link that is served

-- calls of such a link, which open none
abbrev Serving : List ℕ → Event → Type 0
Serving links e = IsLinkEvent links e × (challenges_in e ≡ [])

served_of : (links : List ℕ) (calls : List Call) → All (λ (c : Call). Serving links c.event) calls
    → AreOf links calls
served_of links calls are = All-weaker (λ (c : Call). Serving links c.event) (Fits links)
    (λ c is. is.0) calls are

served_alone : (links : List ℕ) (calls : List Call)
    → All (λ (c : Call). Serving links c.event) calls → challenges calls ≡ []
served_alone links [] are = refl
served_alone links (c ∷ calls) are =
    ap (λ cs. cs ++ challenges calls) (All-head (λ (c : Call). Serving links c.event) c calls are).1
    ∙ served_alone links calls (All-tail (λ (c : Call). Serving links c.event) c calls are)

-- a lane that has served a link of its own, and opened none meanwhile
pub serves_lane : (link : ℕ) (lane lane' : Pair) (known out : Option (List ℕ)) (read : ReadEnd)
    (written : WriteEnd) → IsLane lane → lane'.challenge ≡ lane.challenge → lane'.left ≡ lane.left
    → Contains (own_links lane.reader.calls) link → HasRead link lane.reader known read lane'.reader
    → HasWritten link lane.writer out written lane'.writer → IsLane lane'
serves_lane link lane lane' known out read written is kept left own has_read has_written =
    let links = own_links lane.reader.calls in
    let reads = read_calls link (Serving links) (own, refl) (λ body. (own, refl)) lane.reader
    lane'.reader known read has_read in
    let writes = written_calls link (Serving links) (own, refl) (own, refl) lane.writer lane'.writer
    out written has_written in
    gains_lane lane lane' reads.0 writes.0 is reads.1 writes.1
    (still lane.reader.calls reads.0 reads.0 (served_of links reads.0 reads.2))
    (still lane.reader.calls reads.0 writes.0 (served_of links writes.0 writes.2))
    (served_alone links writes.0 writes.2) (
      is.drawn.0,
      rw (
        kept,
        left,
        challenges-append lane.reader.calls reads.0,
        served_alone links reads.0 reads.2,
        append-nil (challenges lane.reader.calls),
      ) is.drawn.1,
    )
