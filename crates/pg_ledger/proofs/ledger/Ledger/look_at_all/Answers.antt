use Rattle.pg_ledger.proofs
use Rattle.std.proofs.Common.{arith, List, refl, subst, sym, ◌∙◌, ◌≡◌}
use Rattle.policy_audit.specs.declared.entry.Entry.{Entry}
use proofs.Going.{notes_more, notes_none, on_err}
use Rattle.pg_ledger.specs.Following.{NotesBut}
use Rattle.pg_ledger.specs.Telling.{Told}
use Rattle.pg_ledger.proofs.ledger.Ledger.look_at_all.Goals as goal

pub loop-entry-init : goal.loop-entry-init
loop-entry-init g c =
    let are : c.args.entries ≡ c.into_iter-entry-iterator.result =
    grind (arith, c.into_iter-entry-iterator.ensures) in
    let t = c.args.self.now.account in (
      subst (λ (es : List Entry). NotesBut es c.args.entries t t) are
          (notes_none c.args.entries t),
      refl,
    )

pub loop-entry-preserved : goal.loop-entry-preserved
loop-entry-preserved g c = (
  notes_more c.in-Some.entry.now c.next.new.self c.args.entries c.args.self.now.account
      c.loop-entry.self.account c.look_at.new.self.account
      (rw c.in-Some.ensures.steps at c.loop-entry.invariant.0) c.in_ok-look_at.ensures.ok,
  c.in_ok-look_at.ensures.life ∙ c.loop-entry.invariant.1,
)

pub returns-clause-told : goal.returns-clause-told
returns-clause-told g c = rw c.in-None.ensures.steps.0 at c.loop-entry.invariant.0

pub returns-in_err-look_at-clause-part : goal.returns-in_err-look_at-clause-part
returns-in_err-look_at-clause-part g c =
    let part : (left : List Entry) × NotesBut left c.args.entries c.args.self.now.account
    c.look_at.new.self.account = (
      c.loop-entry.entry-iterator,
      subst (λ (t : Told). NotesBut c.loop-entry.entry-iterator c.args.entries
          c.args.self.now.account t) (sym c.in_err-look_at.ensures.same) c.loop-entry.invariant.0,
    ) in
    on_err _ part
