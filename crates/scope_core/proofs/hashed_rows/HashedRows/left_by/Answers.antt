use Rattle.scope_core.proofs
use proofs.Words.{ap, arith, changes_left_by, entries_of, found, has_row, IfOk-weaker, is_among}
use proofs.Words.{is_some, IsDifference, key_of, refl, true}
use proofs.Words.{keys_of, List, NodeTable, row_in, subst, sym, text_cmp, ℕ, [], ◌∙◌, ◌≡◌}
use proofs.HashedWrites.{row_of}
use proofs.Outcomes.{if_both}
use proofs.ProcessRows.{found_among, in_keys, none_beside, process_leaves, sorted_rises}
use Rattle.scope_core.proofs.hashed_rows.HashedRows.left_by.Goals.{After-left_from}
use proofs.hashed_rows.HashedRows.left_by.Goals as goal

-- the index has the groups of the rows of the process
listed : (c : After-left_from) (g : List ℕ)
    → is_among g (keys_of (entries_of c.in-Some-get.groups.now))
    ≡ has_row c.self.inside.counts.entries (row_in g c.args.pid.now)
listed c g = sym (in_keys g (entries_of c.in-Some-get.groups.now))
    ∙ ap (λ o. is_some (found text_cmp o g)) c.in-Some-get.ensures.value
    ∙ (rw c.in-Some.is at c.self.invariant.by_process) c.of.result g
    ∙ row_of c.self.inside.counts.node g c.args.pid.now c.of.result c.self.inside.counts.entries
    (rw (← c.self.view_is) at c.requires.own) c.of.ensures

pub returns : goal.returns
returns c =
    let es = c.self.inside.counts.entries in
    let p = c.args.pid.now in
    let gs = keys_of (entries_of c.in-Some-get.groups.now) in
    rw (← c.self.view_is) (if_both c.left_from.result (λ changes is sorted before after goes none.
    subst (IsDifference before after)
    (sym (is ∙ ap (λ (t : NodeTable). changes_left_by t.rows p gs) (sym c.self.view_is)))
    (process_leaves es c.self.invariant.once p gs (sorted_rises gs sorted)
    (λ g h. listed c g ∙ h) before after goes none)) c.left_from.ensures.changes
    c.left_from.ensures.ordered)

pub returns-then-len-eq1 : goal.returns-then-len-eq1
returns-then-len-eq1 c =
    let own = rw (← c.self.view_is) at c.requires.own in
    let there = sym (ap is_some c.in-Some-get.ensures.value) in
    IfOk-weaker c.all_left.result _ _ (λ changes all before after goes none.
    all before after (λ g p.
    let others = none_beside (rw c.in-Some.is at c.self.invariant) c.args.pid.now own
    (grind arith) (rw c.of.ensures at there) g p in
    goes g p ∙ rw (← c.self.view_is) (grind (arith, others))) none)
    c.all_left.ensures

pub returns-in_default-get : goal.returns-in_default-get
returns-in_default-get c =
    let es = c.self.inside.counts.entries in
    let p = c.args.pid.now in
    let own = rw (← c.self.view_is) at c.requires.own in
    let none = λ (h : List ℕ). ap (λ o. is_some (found text_cmp o h)) c.in_default-get.ensures.value
    ∙ (rw c.in-Some.is at c.self.invariant.by_process) c.of.result h
    ∙ row_of c.self.inside.counts.node h p c.of.result es own c.of.ensures in
    rw (← c.self.view_is, c.new.ensures.items)
    (process_leaves es c.self.invariant.once p [] tt (λ g h. none g ∙ h))

pub returns-in_default : goal.returns-in_default
returns-in_default c =
    let table = c.self.inside in
    let es = table.counts.entries in
    let p = c.args.pid.now in
    let own = rw (← c.self.view_is) at c.requires.own in
    let gs = keys_of table.groups.entries in
    let all = λ (g : List ℕ) (h : has_row es (row_in g p) ≡ true).
    found_among g (key_of p) table.groups (ap is_some (c.self.invariant.by_group g (key_of p))
    ∙ row_of table.counts.node g p (key_of p) es own refl ∙ h) in
    rw (← c.self.view_is) (if_both c.left_under.result (λ changes is sorted before after goes none.
    subst (IsDifference before after)
    (sym (is ∙ ap (λ (t : NodeTable). changes_left_by t.rows p gs) (sym c.self.view_is)))
    (process_leaves es c.self.invariant.once p gs (sorted_rises gs sorted) all before after
    goes none)) c.left_under.ensures.changes c.left_under.ensures.ordered)
