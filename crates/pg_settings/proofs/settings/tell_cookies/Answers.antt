use Rattle.pg_settings.proofs
use Rattle.std.proofs.Common.{ap, List, sym, ℕ, ◌++◌, ◌∙◌, [], ◌∷◌}
use Rattle.policy_audit.specs.declared.event.Event.TheVariants.{SetCookieFor}
use proofs.Taken.{said_more}
use Rattle.pg_settings.proofs.settings.tell_cookies.Goals as goal

pub loop-index-preserved : goal.loop-index-preserved
loop-index-preserved c =
    let pair : List ℕ × List ℕ = (c.in-Some.peer.now, c.in-Some.cookie.now) in
    said_more (λ p. SetCookieFor p.0 p.1) c.args.admission.now.peers c.loop-index.index pair
    c.args.told.now.items c.loop-index.told.items c.push.new.self.items
    (sym c.in-Some.ensures.value) c.loop-index.invariant
    (c.in_ok-push.ensures.items
    ∙ ap (λ n. c.loop-index.told.items ++ SetCookieFor n c.in_ok-try_clone-2.field-0 ∷ [])
    c.in_ok-try_clone.ensures
    ∙ ap (λ k. c.loop-index.told.items ++ SetCookieFor c.in-Some.peer.now k ∷ [])
    c.in_ok-try_clone-2.ensures)
