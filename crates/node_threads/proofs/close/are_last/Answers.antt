use Rattle.node_threads.proofs
use Rattle.node_threads.specs
use Rattle.std.proofs.Common.{arith, length, List, None, refl, Some, subst, sym, ◌-◌, ◌<◌, ◌∙◌, ◌≡◌}
use Rattle.std.proofs.Common.{◌≤◌}
use Rattle.std.proofs.lemmas.List.{length-set}
use Rattle.policy_audit.specs.declared.entry.Entry.{Entry}
use Rattle.policy_audit.specs.Log.{kept_at}
use specs.declared.pass.Call.{Call}
use specs.Closing.{AreLast, at_seat, Precede}
use proofs.Settling.{at_read, before_last, last_before, last_of_none, precede_last}
use proofs.Walked.{holds_kept, up_to, up_to_next, up_to_none}
use Rattle.node_threads.proofs.close.are_last.Goals as goal

pub loop-entry-preserved : goal.loop-entry-preserved
loop-entry-preserved c =
    let seats = c.args.seats in
    let lists = c.loop-entry.left in
    let log = c.args.audit.now in
    let number = c.loop-entry.number in
    let e = c.in-Some.entry.now in
    let earlier = c.in-Some-earlier_calls.earlier in
    let invariant = c.loop-entry.invariant in
    let found : kept_at number log ≡ Some e = sym c.in-Some.ensures in
    let next = up_to_next log number e found in
    let es = up_to log.forgotten (number - 1) log.entries in
    let inside = holds_kept (λ (x : Entry). x.seat < seats) log number e c.requires.seated found in
    let long : seats ≤ length lists = omega (arith, invariant.0, c.requires.few) in
    let read = at_read lists e.seat _ (omega (arith, inside, long)) in
    let precede : Precede (at_seat e.seat lists) e earlier.now =
    subst (λ (cs : List Call). Precede cs e earlier.now) (sym read)
    c.in-Some-earlier_calls.ensures in (
      length-set lists e.seat earlier ∙ invariant.0,
      omega (arith, invariant.1),
      (
        λ told. last_before seats lists e es inside earlier long precede
            (subst (AreLast seats lists) next.1 (invariant.2.0 told)),
        λ told. invariant.2.1 (subst (AreLast seats lists) (sym next.1)
            (before_last seats lists e es inside earlier long precede told)),
      ),
    )

pub returns-in-None : goal.returns-in-None
returns-in-None c =
    let seats = c.args.seats in
    let lists = c.loop-entry.left in
    let log = c.args.audit.now in
    let number = c.loop-entry.number in
    let e = c.in-Some.entry.now in
    let invariant = c.loop-entry.invariant in
    let found : kept_at number log ≡ Some e = sym c.in-Some.ensures in
    let next = up_to_next log number e found in
    let es = up_to log.forgotten (number - 1) log.entries in
    let inside = holds_kept (λ (x : Entry). x.seat < seats) log number e c.requires.seated found in
    let long : seats ≤ length lists = omega (arith, invariant.0, c.requires.few) in
    let read = at_read lists e.seat _ (omega (arith, inside, long)) in (
      λ yes. cc,
      λ told.
          let some = precede_last seats lists e es inside
          (subst (AreLast seats lists) next.1 (invariant.2.0 told)) in
          absurd (c.in-None.ensures some.0
          (subst (λ (cs : List Call). Precede cs e some.0) read some.1)),
    )

pub returns : goal.returns
returns c =
    let seats = c.args.seats in
    let lists = c.loop-entry.left in
    let log = c.args.audit.now in
    let number = c.loop-entry.number in
    let invariant = c.loop-entry.invariant in
    let none : kept_at number log ≡ None = sym c.in_default.ensures in
    let nothing = up_to_none log number invariant.1 none in (
      λ yes. invariant.2.1 (subst (AreLast seats lists) (sym nothing) (last_of_none seats lists)),
      λ told. refl,
    )
