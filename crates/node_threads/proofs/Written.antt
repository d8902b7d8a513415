-- A writer's steps, one after another.
use Rattle.node_threads.proofs
use Rattle.node_threads.specs
use Rattle.std.proofs.Common.{ap, append-nil, Err, inl, inr, List, None, Ok, Option, refl, Some}
use Rattle.std.proofs.Common.{subst, sym, true, ℕ, [], ◌++◌, ◌∙◌, ◌∷◌, ◌≡◌}
use Rattle.std.specs.Io.KnownBytes.{Appends, Keeps}
use Rattle.std.specs.List.{flat_map}
use Rattle.std.proofs.KnownBytes.{Appends-kept, Appends-nil, Appends-trans}
use Rattle.std.proofs.lemmas.Grind.{flat_map-append}
use Rattle.std.proofs.lemmas.List.Elements.{All-append, All-cons, All-nil}
use Rattle.policy_audit.specs.OutFrame.{OutFrame}
use Rattle.policy_audit.specs.Wire.{wire_bytes}
use Rattle.policy_audit.specs.declared.event.Event.TheVariants.{Take}
use Rattle.policy_audit.specs.declared.reply.Reply.{Reply}
use Rattle.policy_audit.specs.declared.reply.Reply.TheVariants.{Out}
use Rattle.policy_audit.specs.declared.entry.Verdict.{Verdict}
use specs.declared.fault.CallFault.{CallFault}
use specs.declared.ends.WriteEnd.{WriteEnd}
use specs.declared.pass.Call.{Call}
use specs.Applied.{Called}
use specs.Calls.{Gains, Record}
use specs.Ends.{take_end, writer_gives_up}
use specs.Entered.{IsEntry, verdict_in}
use specs.Writing.{AreTakes, frames_in, HasReason, IsSent, Took, wires, WritesTo}
use proofs.Answered.{accepted, ends_at, ends_then, enters, fault_refuses, gains_lighter, gains_more}
use specs.declared.ends.WriteEnd.TheVariants as ends

wires-append : (xs ys : List Call) → wires (xs ++ ys) ≡ wires xs ++ wires ys
wires-append xs ys =
    let frames = λ (c : Call). frames_in c.verdict in
    ap (flat_map wire_bytes) (flat_map-append frames xs ys)
    ∙ flat_map-append wire_bytes (flat_map frames xs) (flat_map frames ys)

-- ---- so far

pub record HasWritten (link : ℕ) (p : Record) (known : Option (List ℕ)) (now : Option (List ℕ))
    (p' : Record) : Type 0 where
  pub takes : List Call
  pub are_takes : AreTakes link takes
  pub gains : Gains p takes p'
  pub written : Appends known now (wires takes)

abbrev Takes : ℕ → Call → Type 0
Takes link c = c.event ≡ Take link

one_take : (link : ℕ) (c : Call) → c.event ≡ Take link → AreTakes link (c ∷ [])
one_take link c is = All-cons (Takes link) c [] is (All-nil (Takes link))

reason_then : (link : ℕ) (p mid p' : Record) (xs ys : List Call)
    (known now later : Option (List ℕ)) (stop : WriteEnd) → Gains p xs mid →
    Appends known now (wires xs) → HasReason link mid ys now stop later p' →
    HasReason link p (xs ++ ys) known stop later p'
reason_then link p mid p' xs ys known now later stop gains written (inl own) = inl own
reason_then link p mid p' xs ys known now later stop gains written (inr sent) =
    let both = Appends-trans known now later (wires xs) (wires ys) written sent.1 in
    inr (by sent.0, rw (wires-append xs ys) both)
  where
    by : IsSent link mid ys stop p' → IsSent link p (xs ++ ys) stop p'
    by (inl stuck) = inl stuck
    by (inr last) = inr (last.0, ends_then p xs gains last.1, last.2)

module _ {link : ℕ} {p mid p' : Record} {known now later : Option (List ℕ)} where
  pub written_more : HasWritten link p known now mid → Took link mid now (Ok tt) later p' →
      HasWritten link p known later p'
  written_more was took =
      let one = took.0 ∷ [] in record {
        takes = was.takes ++ one;
        are_takes =
            All-append (Takes link) was.takes one was.are_takes (one_take link took.0 took.1);
        gains = gains_more p mid p' was.takes one was.gains took.2;
        written = rw (wires-append was.takes one)
            (Appends-trans known now later (wires was.takes) (wires one) was.written took.3);
      }

  pub writes_to : {stop : WriteEnd} → HasWritten link p known now mid →
      Took link mid now (Err stop) later p' → WritesTo link p known stop later p'
  writes_to {stop} was took = record {
    takes = was.takes ++ took.0;
    are_takes = All-append (Takes link) was.takes took.0 was.are_takes took.1;
    gains = gains_more p mid p' was.takes took.0 was.gains took.2;
    reason = reason_then link p mid p' was.takes took.0 known now later stop was.gains was.written
        took.3;
  }

-- the pass has then let calls go
pub written_lighter : {link : ℕ} {p mid p' : Record} {known now : Option (List ℕ)} →
    HasWritten link p known now mid → Gains mid [] p' → HasWritten link p known now p'
written_lighter {p} {mid} {p'} was gains = record {
  takes = was.takes;
  are_takes = was.are_takes;
  gains = gains_lighter p mid p' was.takes was.gains gains;
  written = was.written;
}

-- some link of the node is stuck
pub writes_stuck : {link : ℕ} {p p' : Record} {known now : Option (List ℕ)} →
    HasWritten link p known now p' → WritesTo link p known ends.StuckLink now p'
writes_stuck was = record {
  takes = was.takes;
  are_takes = was.are_takes;
  gains = was.gains;
  reason = inr (inl refl, was.written);
}

-- nothing is written after the stop
pub writes_kept : {link : ℕ} {p p' : Record} {known now later : Option (List ℕ)} {stop : WriteEnd} →
    Keeps now later → WritesTo link p known stop now p' → WritesTo link p known stop later p'
writes_kept {link} {p} {p'} {known} {now} {later} {stop} kept writes = record {
  takes = writes.takes;
  are_takes = writes.are_takes;
  gains = writes.gains;
  reason = by writes.reason;
}
  where
    by : HasReason link p writes.takes known stop now p' →
        HasReason link p writes.takes known stop later p'
    by (inl own) = inl own
    by (inr sent) = inr (sent.0, Appends-kept known now later (wires writes.takes) sent.1 kept)

-- ---- one Take

no_frames : (link : ℕ) (fault : CallFault) (v : Option Verdict) (calls : List Call) →
    verdict_in (Err fault) ≡ v → IsEntry (Take link) v calls → wires calls ≡ []
no_frames link fault None calls q entry = ap wires entry
no_frames link fault (Some v) calls q entry =
    ap wires entry.1 ∙ ap (λ w. flat_map wire_bytes (frames_in w ++ []))
    (entry.3 ∙ (fault_refuses fault v q).1)

entered_takes : (link : ℕ) (v : Option Verdict) (calls : List Call) →
    IsEntry (Take link) v calls → AreTakes link calls
entered_takes link None calls entry = rw entry (All-nil (Takes link))
entered_takes link (Some v) calls entry = rw entry.1 (one_take link entry.0 entry.2)

module _ (link : ℕ) (p p' : Record) where
  -- frames were answered, and not written
  pub took_unwritten : (reply : Reply) (stop : WriteEnd) (known known' : Option (List ℕ)) →
      writer_gives_up stop ≡ true → Called p (Take link) (Ok reply) p' →
      Took link p known (Err stop) known' p'
  took_unwritten reply stop known known' own called =
      let a = accepted p p' (Take link) reply called in
      (a.0 ∷ [], one_take link a.0 a.1, a.3, inl own)

  -- frames were answered, and written
  pub took_written : (frames : List OutFrame) (bytes : List ℕ) (known known' : Option (List ℕ)) →
      bytes ≡ flat_map wire_bytes frames → Appends known known' bytes →
      Called p (Take link) (Ok (Out frames)) p' → Took link p known (Ok tt) known' p'
  took_written frames bytes known known' are written called =
      let a = accepted p p' (Take link) (Out frames) called in
      let all : bytes ≡ flat_map wire_bytes (frames ++ []) = rw (append-nil frames) are in
      let sent = rw all at written in (
        a.0,
        a.1,
        a.3,
        subst (λ v. Appends known known' (flat_map wire_bytes (frames_in v ++ []))) (sym a.2) sent,
      )

  -- there was no reply, and nothing was written
  pub took_end : (fault : CallFault) (stop : WriteEnd) (known : Option (List ℕ)) →
      stop ≡ take_end fault → Called p (Take link) (Err fault) p' →
      Took link p known (Err stop) known p'
  took_end fault stop known is called =
      let all = enters p p' (Take link) (Err fault) called in
      let nothing = no_frames link fault (verdict_in (Err fault)) all.0 refl all.1.entry in (
        all.0,
        entered_takes link (verdict_in (Err fault)) all.0 all.1.entry,
        all.1.gains,
        inr (inr (fault, ends_at all.1, is), rw nothing (Appends-nil known)),
      )
