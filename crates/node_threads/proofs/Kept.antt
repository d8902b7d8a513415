-- A call that is kept in a pass, and what is told of it.
use Rattle.node_threads.specs
use Rattle.std.proofs.Common.{ap, arith, Err, false, IfErr, IfSome, length, length-append, List, Ok}
use Rattle.std.proofs.Common.{OnOk, Option, refl, Result, Some, ℕ, [], ◌++◌, ◌-◌, ◌∙◌, ◌∷◌, ◌≡◌}
use Rattle.std.specs.Prelude.{slice_get}
use specs.declared.pass.Call.{Call}
use Rattle.policy_audit.specs.declared.event.Event.{Event}
use Rattle.policy_audit.specs.declared.reply.Reply.{Reply}
use Rattle.policy_audit.specs.declared.entry.Verdict.{Verdict}
use Rattle.policy_audit.specs.declared.entry.Verdict.TheVariants.{Accepted, Refused}
use Rattle.policy_audit.specs.Policy.{is_full, next_number, verdict}
use specs.declared.fault.CallFault.{CallFault}
use specs.Room.{Room}
use specs.Applied.{Applied, Fits, IsAnswered, IsKept, room_after}
use specs.Calls.{last_reply, Record, reply_in, reply_of}

slice_get_push : (xs : List Call) (x : Call) → slice_get (xs ++ x ∷ []) (length xs) ≡ Some x
slice_get_push [] x = refl
slice_get_push (y ∷ xs) x = slice_get_push xs x

-- the last call is the one that was kept last
pub last_reply_push : (calls : List Call) (call : Call)
    → last_reply (calls ++ call ∷ []) ≡ reply_in call.verdict
last_reply_push calls call =
    let last : length (calls ++ call ∷ []) - 1 ≡ length calls =
    omega (arith, length-append calls (call ∷ [])) in
    ap (λ k. reply_of (slice_get (calls ++ call ∷ []) k)) last
    ∙ ap reply_of (slice_get_push calls call)

-- the call of an event that a seat was answered is kept
pub answered : (room room' : Room) (p : Record) (e : Event) (n : ℕ) (v : Verdict)
    (calls : List Call) → Fits room p → is_full room.history ≡ false
    → n ≡ next_number room.history → v ≡ verdict room.history p.seat e
    → room' ≡ room_after room p.seat e
    → calls ≡ p.calls ++ record { number = n; event = e; verdict = v } ∷ []
    → IsAnswered room p e v room' (record { seat = p.seat; calls = calls; gone = p.gone })
answered room room' p e n v calls fits free number policy room_is kept = record {
  fits = fits;
  policy = policy;
  room_is = room_is;
  pass_is = rw (free, kept, number) refl;
}

-- what is told of it
module _ (room room' : Room) (p p' : Record) (e : Event) (told : Result (Unit {0}) CallFault) where
  ok_by : (v : Verdict) (last : Option Reply) → last ≡ reply_in v → IsKept v told
      → IsAnswered room p e v room' p'
      → OnOk told (IfSome last (λ reply. Applied room p e (Ok reply) room' p'))
  ok_by (Accepted reply) last q t is = rw (t, q) is
  ok_by (Refused rule) last q t is = rw t tt

  pub told_ok : (v : Verdict) → last_reply p'.calls ≡ reply_in v → IsKept v told
      → IsAnswered room p e v room' p'
      → OnOk told (IfSome (last_reply p'.calls) (λ reply. Applied room p e (Ok reply) room' p'))
  told_ok v q t is = ok_by v (last_reply p'.calls) q t is

  pub told_refusal : (v : Verdict) → IsKept v told → IsAnswered room p e v room' p'
      → IfErr told (λ fault. Applied room p e (Err fault) room' p')
  told_refusal (Accepted reply) t is = rw t tt
  told_refusal (Refused rule) t is = rw t is
