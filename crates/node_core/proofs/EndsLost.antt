-- What is kept once the links that end are lost, one after the other, the oldest first.
use Rattle.node_core.proofs
use Rattle.node_core.specs
use proofs.Words.{ap, arith, Climbs, cond, Entry, eqb-true, Follows, History, List, list_all}
use proofs.Words.{listed, lose, loss, ltb-true, nat_lt, Parts, past, Pid, refl, reverse, Running}
use proofs.Words.{subst, sym, true, without_number, ℕ, [], ◌++◌, ◌∙◌, ◌∷◌, ◌≡◌}
use Rattle.policy_audit.proofs.KeptNumbers.{reverse_first}
use Rattle.policy_audit.proofs.LostWords.{lost_same, lost_up}
use specs.declared.slow.End.{End}
use specs.Ending.{AreCutAll, without_ends}
use proofs.Ends.{AreUp, goes, numbers}
use proofs.SlowLinks.{lost, lost_follows, lost_lists}

-- the entries with the losses of these links, the first of them lost first
abbrev pub lose_ends : List End → List Entry → List Entry
lose_ends [] es = es
lose_ends (x ∷ xs) es = lose_ends xs (loss x.number ∷ es)

lose_behind : (ls : List ℕ) (l : ℕ) (es : List Entry)
    → lose ls (loss l ∷ es) ≡ lose (ls ++ l ∷ []) es
lose_behind [] l es = refl
lose_behind (k ∷ ks) l es = ap (λ xs. loss k ∷ xs) (lose_behind ks l es)

pub lose_reverse : (ends : List End) (es : List Entry)
    → lose_ends ends es ≡ lose (reverse (numbers ends)) es
lose_reverse [] es = refl
lose_reverse (x ∷ xs) es =
    lose_reverse xs (loss x.number ∷ es) ∙ lose_behind (reverse (numbers xs)) x.number es
    ∙ ap (λ ls. lose ls es) (sym (reverse_first x.number (numbers xs)))

-- those that are lost next are up still
still_up : (k : History) (j : ℕ) (xs : List End) → list_all (λ l. nat_lt j l) (numbers xs) ≡ true
    → AreUp k xs → AreUp (past k.opening (loss j ∷ k.entries)) xs
still_up k j [] less a = tt
still_up k j (x ∷ xs) less a = (
  record {
    up =
        lost_up k.entries (j ∷ []) x.number
        ∙ grind (arith, a.0.up, ltb-true j x.number, eqb-true j x.number);
    peer = (lost_same k.entries (j ∷ []) x.number).peer ∙ a.0.peer;
    other = a.0.other;
  },
  still_up k j xs (grind arith) a.1,
)

-- what is kept then, and who is listed
pub ends_follow : (ends : List End) (k : History) (parts : Parts) → Follows k parts
    → Climbs (numbers ends) → AreUp k ends
    → (scopes : List Running) → AreCutAll ends parts.scopes scopes
    → Follows (past k.opening (lose_ends ends k.entries))
    (record parts { scopes = scopes; links = without_ends ends parts.links })
    × ((s g : List ℕ) (p : Pid) → listed (past k.opening (lose_ends ends k.entries)) s g p
    ≡ cond (goes p ends) 0 (listed k s g p))
ends_follow [] k parts t c a scopes cuts =
    (subst (λ rs. Follows k (record parts { scopes = rs })) (sym cuts) t, λ s g p. refl)
ends_follow (x ∷ xs) k parts t c a scopes cuts =
    let next = lost t x.number x.peer a.0 in
    let kept : Parts = record parts {
      scopes = cuts.0;
      links = without_number x.number parts.links;
    } in
    let all =
    ends_follow xs next kept (lost_follows t x.number x.peer a.0 cuts.0 cuts.1) c.1
    (still_up k x.number xs c.0 a.1) scopes cuts.2 in (
      all.0,
      λ s g p. all.1 s g p
          ∙ ap (cond (goes p xs) 0) (lost_lists t x.number x.peer a.0 s g p) ∙ (grind arith),
    )
