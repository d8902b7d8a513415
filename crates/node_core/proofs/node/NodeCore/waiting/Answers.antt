use Rattle.node_core.proofs
use proofs.Words.{ap, arith, Bool, cond, is_kept, IsLegal, length, None, Some, subst, sym, waiting}
use proofs.Words.{ℕ, ◌∙◌, ◌≡◌, ◌≤◌}
use Rattle.policy_audit.specs.Owed.{max_waiting}
use Rattle.policy_audit.proofs.Losses.{made_legal}
use Rattle.policy_audit.proofs.Silent.{all_few}
use proofs.Entered.{seen}
use proofs.MessagePlaces.{waits_none, waits_some}
use proofs.Searched.{links_in_order}
use proofs.StepAnswers.{its_history}
use proofs.node.NodeCore.waiting.Goals as goal

pub returns-in_err-place-clause-waiting : goal.returns-in_err-place-clause-waiting
returns-in_err-place-clause-waiting c =
    c.from_residual.ensures
    ∙ waits_none (seen (its_history c.self.view_is) c.self.invariant.follows) c.args.link
    (rw c.deref.ensures.value at (sym c.in_err-place.ensures))

pub returns-clause-waiting : goal.returns-clause-waiting
returns-clause-waiting c =
    ap (λ fs. Some (length fs)) c.frames.ensures
    ∙ waits_some (seen (its_history c.self.view_is) c.self.invariant.follows) c.args.link
    (rw c.deref.ensures.value at (sym c.in_ok-place.ensures)) c.index.ensures

-- as many as wait
few : (b : Bool) (n m : ℕ) → Some n ≡ cond b (Some m) None → m ≤ max_waiting → n ≤ max_waiting
few b n m is most = grind arith

pub returns-clause-few : goal.returns-clause-few
returns-clause-few c =
    let h = c.args.self.now.history in
    few (is_kept h c.args.link) _ (length (waiting h c.args.link))
    (returns-clause-waiting c)
    (all_few c.args.self.now.history
    (subst IsLegal (its_history c.self.view_is)
    (made_legal c.self.inside.kept.opening c.self.inside.audit.entries c.self.invariant.legal))
    c.args.link)

pub place_of-requires : goal.place_of-requires
place_of-requires c = rw c.deref.ensures.value (links_in_order c.self.invariant.follows)
