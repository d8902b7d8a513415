-- What is told of a node's history, and of what it was before.
use Rattle.pg_ledger.specs
use Rattle.std.proofs.Common.{ap, append_assoc, arith, Bool, cond, false, List}
use Rattle.std.proofs.Common.{refl, reverse, subst, sym, true}
use Rattle.std.proofs.Common.{ℕ, [], ◌++◌, ◌<◌, ◌^◌, ◌∙◌, ◌∷◌, ◌≡◌, ◌≤◌}
use Rattle.std.proofs.lemmas.List.{reverse-append}
use Rattle.std.specs.Prelude.{Err, Ok, OnErr, Result}
use Rattle.policy_audit.specs.declared.opening.Opening.{Opening}
use Rattle.policy_audit.specs.declared.entry.Entry.{Entry}
use Rattle.policy_audit.specs.History.{entered, History, is_accepted, is_entered, just}
use Rattle.policy_audit.specs.History.{lose, past}
use Rattle.policy_audit.specs.Owed.{slow_links, with_entry}
use Rattle.policy_audit.specs.Policy.{history, IsLegalIn}
use Rattle.policy_audit.proofs.Losses.{history_opening, legal_room, made_legal}
use Rattle.policy_audit.proofs.Losses.{next_entered}
use specs.Telling.{NotesEntry, Told, told_of}
use specs.Following.{NotesAll, NotesBut}

-- losses that come with an entry say nothing
losses_silent : (o : Opening) (es : List Entry) (ls : List ℕ)
    → told_of (past o (lose ls es)) ≡ told_of (past o es)
losses_silent o es [] = refl
losses_silent o es (l ∷ ls) = losses_silent o es ls

pub told_with : (h : History) (e : Entry) → told_of (with_entry h e) ≡ told_of (just h e)
told_with h e = by (is_accepted e.verdict)
  where
    by : (b : Bool)
        → told_of (cond b (past h.opening (lose (slow_links (just h e)) (e ∷ h.entries)))
        (just h e)) ≡ told_of (just h e)
    by true = losses_silent h.opening (e ∷ h.entries) (slow_links (just h e))
    by false = refl

few_more : (h : History) (e : Entry) → is_entered e ≡ true
    → (told_of h).refused ≤ (told_of h).entries
    → (told_of (just h e)).refused ≤ (told_of (just h e)).entries
few_more h e real few = grind (arith, real, few)

-- no more entries were refused than there are
pub few_refused : (o : Opening) (es : List Entry) → IsLegalIn o es
    → (told_of (history o es)).refused ≤ (told_of (history o es)).entries
few_refused o [] legal = omega arith
few_refused o (e ∷ es) legal = subst (λ (t : Told). t.refused ≤ t.entries)
    (sym (told_with (history o es) e))
    (few_more (history o es) e (next_entered (history o es) e legal.0) (few_refused o es legal.1))

pub few_entries : (o : Opening) (es : List Entry) → IsLegalIn o es
    → (told_of (history o es)).entries ≤ o.entries
few_entries o es legal =
    subst (λ (p : Opening). entered (history o es).entries ≤ p.entries) (history_opening o es)
    (legal_room (history o es) (made_legal o es legal))

-- the older entries of a legal audit are one, too
pub legal_part : (o : Opening) (since before : List Entry) → IsLegalIn o (since ++ before)
    → IsLegalIn o before
legal_part o [] before legal = legal
legal_part o (e ∷ since) before legal = legal_part o since before legal.1

-- ---- noting entry by entry

note_none : (t : Told) → NotesAll [] t t
note_none t o before legal few is = is

newest_first : (es : List Entry) (e : Entry) (before : List Entry)
    → reverse (es ++ e ∷ []) ++ before ≡ e ∷ (reverse es ++ before)
newest_first es e before = ap (λ xs. xs ++ before) (reverse-append es (e ∷ []))

note_more : (es : List Entry) (e : Entry) (t u v : Told) → NotesAll es t u → NotesEntry e u v
    → NotesAll (es ++ e ∷ []) t v
note_more es e t u v all one o before legal few is =
    let now : List Entry = reverse es ++ before in
    let order = newest_first es e before in
    let more : IsLegalIn o (e ∷ now) = subst (IsLegalIn o) order legal in
    let told : u ≡ told_of (history o now) = all o before more.1 few is in
    let refused = few_refused o now more.1 in
    let entries = few_entries o now more.1 in
    one (history o now) told (next_entered (history o now) e more.0)
    (subst (λ (x : Told). x.refused ≤ x.entries) (sym told) refused)
    (subst (λ (x : Told). x.entries < 2 ^ 32) (sym told) (omega (arith, entries, few)))
    ∙ sym (told_with (history o now) e)
    ∙ ap (λ es. told_of (history o es)) (sym order)

pub notes_none : (es : List Entry) (t : Told) → NotesBut es es t t
notes_none es t = record { noted = []; are = refl; told = note_none t }

pub notes_more : (e : Entry) (left es : List Entry) (t u v : Told) → NotesBut (e ∷ left) es t u
    → NotesEntry e u v → NotesBut left es t v
notes_more e left es t u v before one = record {
  noted = before.noted ++ e ∷ [];
  are = before.are ∙ sym (append_assoc before.noted (e ∷ []) left);
  told = note_more before.noted e t u v before.told one;
}

-- what holds in any case holds of an error
pub on_err : {T E P : Type 0} (r : Result T E) → P → OnErr r P
on_err (Ok x) p = tt
on_err (Err e) p = p
