-- Where a ledger goes on, and how far it comes.
use Rattle.pg_ledger.proofs
use Rattle.pg_ledger.specs
use Rattle.std.proofs.Common.{ap, append_assoc, arith, Bool, cond, drop, false, length, List}
use Rattle.std.proofs.Common.{max, refl, reverse, subst, sym, true}
use Rattle.std.proofs.Common.{ℕ, [], ◌++◌, ◌<◌, ◌^◌, ◌==◌, ◌∙◌, ◌∷◌, ◌≡◌}
use Rattle.std.proofs.lemmas.List.{append-nil, length-append, length-reverse, reverse-append}
use Rattle.std.proofs.lemmas.List.{reverse-reverse}
use Rattle.policy_audit.specs.declared.opening.Opening.{Opening}
use Rattle.policy_audit.specs.declared.entry.Entry.{Entry}
use Rattle.policy_audit.specs.History.{audited, creation, entered, History, past}
use Rattle.policy_audit.specs.Log.{later_than}
use Rattle.policy_audit.specs.Policy.{history, IsLegal, IsLegalIn}
use Rattle.policy_audit.proofs.Losses.{made_entered}
use Rattle.node_core.specs.Recorded.{Recorded}
use proofs.Going.{legal_part}
use specs.Telling.{nothing, Told, told_of}
use specs.Following.{goes_on_at, IsBehind, IsBetween, NotesBut}

drop_first : (xs ys : List Entry) → drop (length xs) (xs ++ ys) ≡ ys
drop_first [] ys = refl
drop_first (x ∷ xs) ys = drop_first xs ys

module _ (t : Told) (life : ℕ) (h : History) (node : Recorded) (behind : IsBehind t life h node)
    (legal : IsLegal node.history) (fits : node.history.opening.entries < 2 ^ 32) where
  abbrev k : History
  k = node.history

  abbrev g : History
  g = goes_on_at life h k

  abbrev o : Opening
  o = k.opening

  abbrev before : List Entry
  before = behind.kept.earlier.before

  abbrev since : List Entry
  since = behind.kept.earlier.since

  -- it was told of what it goes on behind
  begun : cond (life == creation k) t nothing ≡ told_of (history o before)
  begun = by (life == creation k) behind.kept.earlier.is
    where
      by : (b : Bool) → cond b h (past k.opening []) ≡ history o before
          → cond b t nothing ≡ told_of (history o before)
      by true is = behind.told ∙ ap told_of is
      by false is = ap told_of is

  all_legal : IsLegalIn o (since ++ before)
  all_legal = subst (IsLegalIn o) behind.kept.earlier.audit legal.entries

  many : entered g.entries ≡ length before
  many = ap (λ (x : History). entered x.entries) behind.kept.earlier.is
      ∙ made_entered o before (legal_part o since before all_legal)

  -- so many entries it was told of, and so it looks at those since
  pub seen_is : (cond (life == creation k) t nothing).entries ≡ length before
  seen_is = ap (λ (x : Told). x.entries) begun
      ∙ made_entered o before (legal_part o since before all_legal)

  pub looks_at : later_than (max (cond (life == creation k) t nothing).entries node.forgotten)
      (audited k.entries) ≡ reverse since
  looks_at =
      let at : max (cond (life == creation k) t nothing).entries node.forgotten
      ≡ length (reverse before) =
      omega (arith, seen_is, many, behind.kept.kept, length-reverse before) in
      ap (λ n. drop n (reverse (audited k.entries))) at
      ∙ ap (λ es. drop (length (reverse before)) (reverse es)) behind.kept.earlier.audit
      ∙ ap (drop (length (reverse before))) (reverse-append since before)
      ∙ drop_first (reverse before) (reverse since)

  -- those that it looks at, where it was told of u
  looked : (u : Told) (es : List Entry) → u ≡ cond (life == creation k) t nothing
      → es ≡ later_than (max u.entries node.forgotten) (audited k.entries) → es ≡ reverse since
  looked u es is are = are
      ∙ ap (λ (x : Told). later_than (max x.entries node.forgotten) (audited k.entries)) is
      ∙ looks_at

  -- once it has noted all of them, it is told of the whole history
  pub comes_up : (u t' : Told) (es : List Entry) → u ≡ cond (life == creation k) t nothing
      → es ≡ later_than (max u.entries node.forgotten) (audited k.entries)
      → NotesBut [] es u t' → t' ≡ told_of k
  comes_up u t' es is are notes =
      let noted : reverse notes.noted ≡ since =
      ap reverse (sym (append-nil notes.noted) ∙ sym notes.are ∙ looked u es is are)
      ∙ reverse-reverse since in
      let all = ap (λ es. es ++ before) noted in
      notes.told o before (subst (IsLegalIn o) (sym all) all_legal) fits (is ∙ begun)
      ∙ ap (λ es. told_of (history o es)) (all ∙ sym behind.kept.earlier.audit)
      ∙ ap told_of (sym legal.whole)

  -- and else of what that was at the last entry that it has noted
  pub stops_between : (u t' : Told) (left es : List Entry) → u ≡ cond (life == creation k) t nothing
      → es ≡ later_than (max u.entries node.forgotten) (audited k.entries)
      → NotesBut left es u t' → IsBetween t' node
  stops_between u t' left es is are notes =
      let now : List Entry = reverse notes.noted ++ before in
      let order : since ≡ reverse left ++ reverse notes.noted =
      sym (reverse-reverse since) ∙ ap reverse (sym (looked u es is are) ∙ notes.are)
      ∙ reverse-append notes.noted left in
      let audit : audited k.entries ≡ reverse left ++ now =
      behind.kept.earlier.audit ∙ ap (λ es. es ++ before) order
      ∙ append_assoc (reverse left) (reverse notes.noted) before in
      let part : IsLegalIn o now =
      legal_part o (reverse left) now (subst (IsLegalIn o) audit legal.entries) in
      let long = length-append (reverse notes.noted) before in
      record {
        once = history o now;
        told = notes.told o before part fits (is ∙ begun);
        kept = record {
          earlier = record { before = now; since = reverse left; audit = audit; is = refl };
          kept = omega (arith, behind.kept.kept, many, made_entered o now part, long);
        };
      }
