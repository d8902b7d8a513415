-- A reader's steps, one after another.
use Rattle.node_threads.proofs
use Rattle.node_threads.specs
use Rattle.std.proofs.Common.{ap, append-nil, append_assoc, arith, Bool, drop, Err, false, inl, inr}
use Rattle.std.proofs.Common.{length, List, None, Ok, Option, refl, Some, sym, take, true, ℕ, []}
use Rattle.std.proofs.Common.{◌++◌, ◌<◌, ◌||◌, ◌∙◌, ◌∷◌, ◌≡◌, ◌≢◌, ◌≤◌}
use Rattle.std.specs.Int.{w16}
use Rattle.std.specs.List.{list_any}
use Rattle.std.specs.Option.{option_to_list}
use Rattle.std.proofs.lemmas.List.{map-append, take-append-drop}
use Rattle.std.proofs.lemmas.List.Elements.{All-nil}
use Rattle.std.proofs.lemmas.List.Folds.{list_any-append}
use Rattle.handshake_frames.specs.Stream.{IsFed}
use Rattle.handshake_frames.proofs.StreamLemmas.{goes_on, IsPartial-empty, reads_16}
use Rattle.link_frames.specs.declared.fault.FeedFault.{FeedFault}
use Rattle.link_frames.specs.Stream.{SplitsLink}
use Rattle.link_frames.proofs.LinkLemmas.{goes_on as link_goes_on, IsRest-empty}
use Rattle.policy_audit.specs.declared.entry.Verdict.{Verdict}
use Rattle.node_core.specs.declared.fault.CoreFault.TheVariants.{OutOfMemory, Refused}
use specs.declared.fault.CallFault.{CallFault}
use specs.declared.fault.CallFault.TheVariants.{Core, StrangePass}
use Rattle.policy_audit.specs.declared.event.Event.TheVariants.{Frame}
use specs.declared.cutter.Cutter.{Cutter}
use specs.declared.cutter.Cutter.TheVariants.{Handshake, Messages}
use specs.declared.ends.ReadEnd.{ReadEnd}
use specs.declared.pass.Call.{Call}
use specs.Calls.{Gains, is_up, is_up_answer, Record}
use specs.Cutting.{CutsOff, is_done}
use specs.Ends.{end_of, read_end_of_feed, reader_gives_up}
use specs.Entered.{IsEntry, verdict_in}
use specs.Reading.{AreFrames, Gave, Handed, HasReason, IsRead, Moves, OfHandshake, ReadsOn, ReadsTo}
use specs.Reading.{Stops}
use proofs.Answered.{ends_at, ends_then, fault_refuses, gains_lighter, gains_more, gains_none}
use Rattle.link_frames.specs.declared.fault.FeedFault.TheVariants as faults
use Rattle.policy_audit.specs.declared.rule.Rule.TheVariants as rules
use specs.declared.ends.ReadEnd.TheVariants as ends

abbrev Bytes : Type 0
Bytes = List ℕ

frames_more : (link : ℕ) (bodies others : List Bytes) (calls more : List Call) →
    AreFrames link bodies calls → AreFrames link others more →
    AreFrames link (bodies ++ others) (calls ++ more)
frames_more link bodies others calls more a b =
    rw (map-append (λ (c : Call). c.event) calls more, map-append (Frame link) bodies others, a, b)
    refl

-- ---- one body at most

module _ (link : ℕ) (piece : Bytes) (used : ℕ) where
  handshake_more : {bytes rest : Bytes} {calls : List Call} (body : Option Bytes) (new : Bytes)
      (more : List Call) → OfHandshake link bytes calls rest → IsFed w16 rest piece used body new →
      AreFrames link (option_to_list body) more →
      OfHandshake link (bytes ++ take used piece) (calls ++ more) new
  handshake_more {bytes} {rest} {calls} body new more was fed frames = record {
    bodies = was.bodies ++ option_to_list body;
    splits = goes_on w16 reads_16 bytes was.bodies rest piece used body new was.splits fed;
    frames = frames_more link was.bodies (option_to_list body) calls more was.frames frames;
  }

  -- the frame of a body that was cut off is one more; in a handshake it isn't answered `Up`
  pub reads_more : (old : Cutter) (body : Option Bytes) (new : Cutter) (more : List Call) →
      CutsOff old piece used body new → AreFrames link (option_to_list body) more →
      (is_done new ≡ false → list_any is_up more ≡ false)
      → Moves link old (take used piece) more new
  reads_more (Handshake rest) body new more cuts frames early before calls was =
      rw cuts.1 (record {
        handshake = handshake_more body cuts.0 more was.handshake cuts.2 frames;
        none_up = rw (list_any-append is_up calls more, was.none_up, early (ap is_done cuts.1))
            refl;
      })
  reads_more (Messages reader) body new more cuts frames early before calls was =
      rw cuts.1 (record {
        early = was.early;
        late = was.late ++ take used piece;
        first = was.first;
        last = was.last;
        later = was.later ++ more;
        bytes_are = ap (λ bs. bs ++ take used piece) was.bytes_are
            ∙ append_assoc was.early was.late (take used piece);
        calls_are = ap (λ cs. cs ++ more) was.calls_are
            ∙ append_assoc (was.first ++ was.last ∷ []) was.later more;
        none_up = was.none_up;
        up = was.up;
        handshake = was.handshake;
        messages = record {
          bodies = was.messages.bodies ++ option_to_list body;
          splits = link_goes_on was.late was.messages.bodies reader.rest piece used body cuts.0.rest
              was.messages.splits cuts.2.fed;
          frames = frames_more link was.messages.bodies (option_to_list body) was.later more
              was.messages.frames frames;
        };
      })

  -- the frame that is answered `Up` ends the handshake
  pub comes_up : (old : Cutter) (body : Bytes) (mid : Cutter) (c : Call) →
      CutsOff old piece used (Some body) mid → is_done mid ≡ false → c.event ≡ Frame link body →
      is_up c ≡ true →
      Moves link old (take used piece) (c ∷ []) (Messages (record { rest = []; too_long = false }))
  comes_up (Handshake rest) body mid c cuts done event up before calls was = record {
    early = before ++ take used piece;
    late = [];
    first = calls;
    last = c;
    later = [];
    bytes_are = sym (append-nil (before ++ take used piece));
    calls_are = sym (append-nil (calls ++ c ∷ []));
    none_up = was.none_up;
    up = up;
    handshake = rw (← cuts.2.empty)
        (handshake_more (Some body) cuts.0 (c ∷ []) was.handshake cuts.2 (ap (λ e. e ∷ []) event));
    messages = record { bodies = []; splits = unread; frames = refl };
  }
    where
      unread : SplitsLink [] [] []
      unread = record {
        frames = [];
        splits = record { fit = All-nil _; whole = refl; partial = IsRest-empty.partial };
        given = refl;
        within = All-nil _;
        short = IsRest-empty.short;
      }
  comes_up (Messages reader) body mid c cuts done event up before calls was =
      let wrong : true ≡ false = sym (ap is_done cuts.1) ∙ done in cc

  -- some of a piece is used, but no more than there is
  pub cuts_within : (old : Cutter) (body : Option Bytes) (new : Cutter) →
      CutsOff old piece used body new → (used ≤ length piece) × (0 < length piece → 0 < used)
  cuts_within (Handshake rest) None new cuts =
      (omega (arith, cuts.2.whole), λ some. omega (arith, some, cuts.2.whole))
  cuts_within (Handshake rest) (Some body) new cuts = (cuts.2.within, λ some. cuts.2.onward)
  cuts_within (Messages reader) None new cuts =
      (omega (arith, cuts.2.fed.whole), λ some. omega (arith, some, cuts.2.fed.whole))
  cuts_within (Messages reader) (Some body) new cuts =
      (cuts.2.fed.within, λ some. cuts.2.fed.onward)

-- ---- one step after another

reads_no_more : {link : ℕ} {p p' : Record} {cutter : Cutter} → Gains p [] p' →
    ReadsOn link p cutter [] p' cutter
reads_no_more gains = record {
  more = [];
  gains = gains;
  moves = λ before calls was. rw (append-nil before, append-nil calls) was;
}

pub reads_none : {link : ℕ} {p p' : Record} {cutter : Cutter} → p' ≡ p →
    ReadsOn link p cutter [] p' cutter
reads_none {p} {p'} is = reads_no_more (gains_none p p' is)

-- the pass has then let calls go
pub reads_lighter : {link : ℕ} {p mid p' : Record} {old new : Cutter} {bytes : Bytes} →
    ReadsOn link p old bytes mid new → Gains mid [] p' → ReadsOn link p old bytes p' new
reads_lighter {p} {mid} {p'} reads gains = record {
  more = reads.more;
  gains = gains_lighter p mid p' reads.more reads.gains gains;
  moves = reads.moves;
}

pub reads_then : {link : ℕ} {p mid p' : Record} {old between new : Cutter} {xs ys : Bytes} →
    ReadsOn link p old xs mid between → ReadsOn link mid between ys p' new →
    ReadsOn link p old (xs ++ ys) p' new
reads_then {p} {mid} {p'} {xs} {ys} first then = record {
  more = first.more ++ then.more;
  gains = gains_more p mid p' first.more then.more first.gains then.gains;
  moves = λ before calls was.
      rw (← append_assoc before xs ys, ← append_assoc calls first.more then.more)
      (then.moves (before ++ xs) (calls ++ first.more) (first.moves before calls was));
}

-- the reason stays, whatever was called before
reason_then : (link : ℕ) (done : Bool) (p mid p' : Record) (xs ys : List Call) (stop : ReadEnd) →
    Gains p xs mid → HasReason link done mid ys stop p' → HasReason link done p (xs ++ ys) stop p'
reason_then link done p mid p' xs ys stop gains (inl own) = inl own
reason_then link done p mid p' xs ys stop gains (inr last) =
    inr (last.0, last.1, ends_then p xs gains last.2, last.3)

pub stops_then : {link : ℕ} {p mid p' : Record} {old between : Cutter} {bytes xs ys : Bytes}
    {stop : ReadEnd} → bytes ≡ xs ++ ys → ReadsOn link p old xs mid between →
    Stops link mid between ys stop p' → Stops link p old bytes stop p'
unfolding reads_then
stops_then {link} {p} {mid} {p'} {xs} {stop} is first stops = record {
  used = xs ++ stops.used;
  unused = stops.unused;
  cutter = stops.cutter;
  whole = is ∙ ap (λ bs. xs ++ bs) stops.whole ∙ sym (append_assoc xs stops.used stops.unused);
  reads = reads_then first stops.reads;
  reason = reason_then link (is_done stops.cutter) p mid p' first.more stops.reads.more stop
      first.gains stops.reason;
  unclosed = stops.unclosed;
}

-- nothing more was read
stops_none : {link : ℕ} {p p' : Record} {cutter : Cutter} {bytes : Bytes} {stop : ReadEnd} →
    Gains p [] p' → HasReason link (is_done cutter) p [] stop p' → stop ≢ ends.Closed →
    Stops link p cutter bytes stop p'
unfolding reads_no_more
stops_none {cutter} {bytes} gains reason unclosed = record {
  used = [];
  unused = bytes;
  cutter = cutter;
  whole = refl;
  reads = reads_no_more gains;
  reason = reason;
  unclosed = unclosed;
}

pub stops_here : {link : ℕ} {p p' : Record} {cutter : Cutter} {bytes : Bytes} {stop : ReadEnd} →
    p' ≡ p → HasReason link (is_done cutter) p [] stop p' → stop ≢ ends.Closed →
    Stops link p cutter bytes stop p'
stops_here {p} {p'} is reason unclosed = stops_none (gains_none p p' is) reason unclosed

-- ---- a body that was cut off

-- the piece had a body that is too long, or memory was wanting
pub stops_unfed : {link : ℕ} {p : Record} {cutter : Cutter} {piece : Bytes} (fault : FeedFault) →
    Stops link p cutter piece (read_end_of_feed fault) p
stops_unfed faults.TooLong = stops_here refl (inl refl) (λ q. cc)
stops_unfed faults.OutOfMemory = stops_here refl (inl refl) (λ q. cc)

-- bytes that have ended aren't an answer
unclosed : (fault : CallFault) (done : Bool) → end_of fault done ≢ Some ends.Closed
unclosed StrangePass done = λ q. cc
unclosed (Core OutOfMemory) done = λ q. cc
unclosed (Core (Refused rules.EntriesFull)) done = λ q. cc
unclosed (Core (Refused rules.NoSuchLink)) done = λ q. cc
unclosed (Core (Refused rule)) true = λ q. cc
unclosed (Core (Refused rule)) false = λ q. cc

-- a cutter stays of its kind
same_kind : (old : Cutter) (piece : Bytes) (used : ℕ) (body : Option Bytes) (new : Cutter) →
    CutsOff old piece used body new → is_done new ≡ is_done old
same_kind (Handshake rest) piece used body new cuts = ap is_done cuts.1
same_kind (Messages reader) piece used body new cuts = ap is_done cuts.1

module _ (link : ℕ) (piece : Bytes) (used : ℕ) (p p' : Record) (old mid : Cutter) where
  pub handed_none : (body : Option Bytes) → body ≡ None → CutsOff old piece used body mid → p' ≡ p →
      Handed link p old piece (Ok used) p' mid
  handed_none body none cuts is =
      let within = cuts_within link piece used old body mid cuts in (
        within.0,
        within.1,
        record {
          more = [];
          gains = gains_none p p' is;
          moves = reads_more link piece used old None mid [] (rw none at cuts) refl (λ q. refl);
        },
      )

  module _ (some : Option Bytes) (body : Bytes) (is : some ≡ Some body)
      (cuts : CutsOff old piece used some mid) where
    cut : CutsOff old piece used (Some body) mid
    cut = rw is at cuts

    within : (used ≤ length piece) × (0 < length piece → 0 < used)
    within = cuts_within link piece used old (Some body) mid cut

    -- the frame of the body is the one call more
    on : (c : Call) → c.event ≡ Frame link body → (is_done mid ≡ false → is_up c ≡ false) →
        Gains p (c ∷ []) p' → ReadsOn link p old (take used piece) p' mid
    on c event early gains = record {
      more = c ∷ [];
      gains = gains;
      moves = reads_more link piece used old (Some body) mid (c ∷ []) cut (ap (λ e. e ∷ []) event)
          (λ q. ap (λ b. b || false) (early q));
    }

    pub handed_on : (up done : Bool) → Gave link body done p (Ok up) p' →
        (is_done mid ≡ false → up ≡ false) → Handed link p old piece (Ok used) p' mid
    handed_on up done gave early =
        (within.0, within.1, on gave.0 gave.1 (λ q. gave.2 ∙ early q) gave.3)

    pub handed_up : (new : Cutter) (done : Bool) →
        new ≡ Messages (record { rest = []; too_long = false }) → Gave link body done p (Ok true) p'
        →
        is_done mid ≡ false → Handed link p old piece (Ok used) p' new
    handed_up new done messages gave early =
        let up = comes_up link piece used old body mid gave.0 cut early gave.1 gave.2 in
        (within.0, within.1, record { more = gave.0 ∷ []; gains = gave.3; moves = rw messages up })

    pub handed_end : (done : Bool) (stop : ReadEnd) → done ≡ is_done mid →
        Gave link body done p (Err stop) p' → Stops link p old piece stop p'
    unfolding on
    handed_end done stop kind gave = by (verdict_in (Err gave.0)) refl gave.2.entry
      where
        ended : end_of gave.0 (is_done mid) ≡ Some stop
        ended = rw kind at gave.3

        still_open : stop ≢ ends.Closed
        still_open = λ q. unclosed gave.0 (is_done mid) (ended ∙ ap (λ s. Some s) q)

        none : gave.1 ≡ [] → Stops link p old piece stop p'
        none is =
            let entered = rw is at gave.2 in
            let before = rw (same_kind old piece used (Some body) mid cut) at ended in
            stops_none entered.gains (inr (body, gave.0, ends_at entered, before)) still_open

        one : (c : Call) → gave.1 ≡ c ∷ [] → c.event ≡ Frame link body → is_up c ≡ false →
            Stops link p old piece stop p'
        one c is event down =
            let entered = rw is at gave.2 in record {
              used = take used piece;
              unused = drop used piece;
              cutter = mid;
              whole = sym (take-append-drop used piece);
              reads = on c event (λ q. down) entered.gains;
              reason = inr (body, gave.0, ends_at entered, ended);
              unclosed = still_open;
            }

        by : (v : Option Verdict) → verdict_in (Err gave.0) ≡ v → IsEntry (Frame link body) v gave.1
            →
            Stops link p old piece stop p'
        by None q entry = none entry
        by (Some v) q entry =
            one entry.0 entry.1 entry.2 (ap is_up_answer (entry.3 ∙ (fault_refuses gave.0 v q).1))

-- ---- the whole

unread : (link : ℕ) → IsRead link [] [] (Handshake [])
unread link = record {
  handshake = record {
    bodies = [];
    splits = record { fit = All-nil _; whole = refl; partial = IsPartial-empty w16 reads_16 };
    frames = refl;
  };
  none_up = refl;
}

-- all was read
pub reads_to_end : {link : ℕ} {p p' : Record} {bytes : Bytes} {cutter : Cutter} {stop : ReadEnd} →
    reader_gives_up stop ≡ true → ReadsOn link p (Handshake []) bytes p' cutter →
    ReadsTo link p bytes stop p'
reads_to_end {link} {bytes} {cutter} own reads = record {
  used = bytes;
  unused = [];
  frames = reads.more;
  cutter = cutter;
  whole = sym (append-nil bytes);
  read = reads.moves [] [] (unread link);
  gains = reads.gains;
  reason = inl own;
  closed = λ q. refl;
}

-- the reader stopped before
pub reads_to_stop : {link : ℕ} {p p' : Record} {bytes : Bytes} {stop : ReadEnd} →
    Stops link p (Handshake []) bytes stop p' → ReadsTo link p bytes stop p'
reads_to_stop {link} stops = record {
  used = stops.used;
  unused = stops.unused;
  frames = stops.reads.more;
  cutter = stops.cutter;
  whole = stops.whole;
  read = stops.reads.moves [] [] (unread link);
  gains = stops.reads.gains;
  reason = stops.reason;
  closed = λ q. absurd (stops.unclosed q);
}
