use Rattle.node_core.proofs
use proofs.Words.{ap, refl, Rule, sym, ℕ, ◌+◌, ◌∙◌}
use proofs.Answering.{accepts, refuses}
use proofs.Anew.{anew_now, creation_spent}
use proofs.kept.Kept.restart.Goals as goal

pub returns-then-creation : goal.returns-then-creation
returns-then-creation g c =
    refuses c.requires _ Rule.CreationSpent
    (creation_spent g.call.past g.call.seat (sym c.requires.keeps.follows.admission.creation
    ∙ sym c.creation.ensures ∙ c.if-creation.true)) refl

pub returns : goal.returns
returns g c =
    let h = g.call.past in
    let t = c.requires.keeps.follows in
    let gone = rw c.deref.ensures.value at c.in_ok-changes.ensures in
    accepts c.requires _ _ refl _ _ _ c.changed.ensures refl
    (rw (
      c.in_ok-self.ensures,
      c.new.ensures,
      c.clear.ensures.items,
      c.clear-2.ensures.items,
      c.clear-3.ensures,
    )
    (anew_now h g.call.seat _ t c.in_ok-changes.changes.items gone c.requires.space
    c.creation.result (c.creation.ensures ∙ t.admission.creation) c.if-creation.false
    c.args.self.now.opening (c.creation-creation.result + 1) c.requires.keeps.opening
    (ap (λ (n : ℕ). n + 1) c.creation-creation.ensures)))
