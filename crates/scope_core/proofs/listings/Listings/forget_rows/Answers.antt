use Rattle.scope_core.proofs
use proofs.Words.{ap, arith, has_members, length, List, list_any, same, true, ℕ, ◌∙◌, ◌≡◌}
use proofs.Kept.{forgets_end, still_listed}
use proofs.Indexed.{got_named}
use proofs.listings.Listings.forget_rows.Goals as goal

pub returns : goal.returns
returns c = λ before after listed stays.
    let all = c.into_iter-group-iterator.result in
    let start = c.into_iter-group-iterator.ensures.into_iter_gives
    ∙ c.iter-group-items.ensures.rest in
    let got = λ (g : List ℕ) (h : has_members g c.args.rows.now.node c.args.rows.now.rows ≡ true).
    ap (list_any (λ e. same e.0 g)) start
    ∙ got_named g c.groups.result.now.entries (c.groups.ensures g h) in
    let forgot = forgets_end (λ g e. same e.0 g) all c.args.self.now c.loop-group.group-iterator
    c.loop-group.self (ap length c.in-None.ensures.steps.0) c.loop-group.invariant in
    still_listed c.args.self.now c.loop-group.self before after listed
    (λ g. list_any (λ e. same e.0 g) all) forgot (λ g e. stays g (grind (arith, got g)))
