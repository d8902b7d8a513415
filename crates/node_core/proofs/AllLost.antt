-- Links that end because too many frames wait for them: one end more, and one scope more.
use Rattle.node_core.proofs
use Rattle.node_core.specs
use proofs.Words.{AllByRecursion, AllZip, ap, append-nil, arith, Bool, Change, cond}
use proofs.Words.{count_after_drop, count_of, false, filter, filter_append, flat_map, GroupChange}
use proofs.Words.{is_empty, IsCutOff, IsDifference, IsProper, KeptLink, List, list_any, not, refl}
use proofs.Words.{Running, subst, sym, Table, true, without_number, ℕ, [], ◌++◌, ◌∙◌, ◌∷◌, ◌≡◌}
use Rattle.std.proofs.lemmas.List.Concat.{flat_map-append}
use Rattle.dist_types.proofs.Listings.{all_append}
use Rattle.indexmap.proofs.SetLemmas.{AllZip-push}
use Rattle.policy_audit.specs.Changes.{groups_in}
use specs.declared.slow.End.{End}
use specs.Ending.{AreCutAll, AreLostGroups, AreWithLost, ends_of, is_overfull, IsLossOf}
use specs.Ending.{without_ends}
use proofs.LostChanges.{ends_left}

-- where too many frames wait for no link, none ends
pub none_ends : (links : List KeptLink) → list_any is_overfull links ≡ false → ends_of links ≡ []
none_ends [] e = refl
none_ends (x ∷ links) e = grind (arith, none_ends links)

-- ---- one end more

pub cut_more : (es : List End) (e : End) (old mid new : List Running) → AreCutAll es old mid
    → AllZip (IsCutOff e.number e.peer) mid new → AreCutAll (es ++ e ∷ []) old new
cut_more [] e old mid new c z =
    (new, subst (λ rs. AllZip (IsCutOff e.number e.peer) rs new) c z, refl)
cut_more (f ∷ es) e old mid new c z = (c.0, c.1, cut_more es e c.0 mid new c.2 z)

pub ends_more : (es : List End) (e : End) (ks : List KeptLink)
    → without_ends (es ++ e ∷ []) ks ≡ without_number e.number (without_ends es ks)
ends_more [] e ks = refl
ends_more (f ∷ es) e ks = ends_more es e (without_number f.number ks)

-- what the leaving of the peer changes in the table
abbrev IsLoss : Table → End → List GroupChange → Type 0
IsLoss t e gs = IsDifference (count_of t) (count_after_drop t e.peer) gs

pub lost_more : (t : Table) (es : List End) (e : End) (lost more : List GroupChange)
    → AreLostGroups t es lost → IsLoss t e more → AreLostGroups t (es ++ e ∷ []) (lost ++ more)
lost_more t es e lost more l d =
    let all = flat_map-append (λ ls. ls) l.lists (more ∷ []) in
    let last = ap (λ xs. flat_map (λ ls. ls) l.lists ++ xs) (append-nil more) in
    record {
      lists = l.lists ++ more ∷ [];
      each = AllZip-push (IsLoss t) es l.lists e more l.each d;
      all = ap (λ xs. xs ++ more) l.all ∙ sym (all ∙ last);
    }

-- ---- one scope

groups_proper : (s : List ℕ) (own : List Change)
    → AllByRecursion (λ c. AllByRecursion IsProper c.groups) own
    → AllByRecursion IsProper (groups_in s own)
groups_proper s [] a = tt
groups_proper s (c ∷ own) a =
    grind (arith, all_append IsProper c.groups (groups_in s own), groups_proper s own a.1)

lists_proper : (t : Table) (es : List End) (lists : List (List GroupChange))
    → AllZip (IsLoss t) es lists → AllByRecursion IsProper (flat_map (λ ls. ls) lists)
lists_proper t [] [] a = tt
lists_proper t (e ∷ es) (ls ∷ lists) a = all_append IsProper ls (flat_map (λ ls. ls) lists)
    (IsDifference.proper a.0) (lists_proper t es lists a.1)
lists_proper t es lists a = absurd a

pub loss_proper : (t : Table) (es : List End) (s : List ℕ) (own : List Change)
    (lost groups : List GroupChange) → AllByRecursion (λ c. AllByRecursion IsProper c.groups) own
    → AreLostGroups t es lost → groups ≡ groups_in s own ++ lost → AllByRecursion IsProper groups
loss_proper t es s own lost groups a l e =
    let proper = lists_proper t es l.lists l.each in
    subst (AllByRecursion IsProper) (sym e) (all_append IsProper (groups_in s own) lost
    (groups_proper s own a) (subst (AllByRecursion IsProper) (sym l.all) proper))

-- a scope that stops loses nothing with the links
pub none_lost : (t : Table) (stops : Bool) (ends : List End) → stops ≡ true
    → AreLostGroups t (filter (λ e. not stops) ends) []
none_lost t stops ends e =
    subst (λ es. AreLostGroups t es []) (sym (ends_left stops ends ∙ ap (λ b. cond b [] ends) e))
    (record { lists = []; each = tt; all = refl })

-- and another what the leaving of each peer changes
pub all_lost : (t : Table) (stops : Bool) (ends : List End) (lost : List GroupChange)
    → stops ≡ false → AreLostGroups t ends lost
    → AreLostGroups t (filter (λ e. not stops) ends) lost
all_lost t stops ends lost e l =
    subst (λ es. AreLostGroups t es lost) (grind (arith, e, ends_left stops ends)) l

-- ---- one scope more, which changes or not

module _ (ends : List End) (stops : List ℕ → Bool) (own : List Change) where
  pub one_loss : (rs : List Running) (cs : List Change) (r : Running) (gs : List GroupChange)
      → AreWithLost ends stops own rs cs
      → IsLossOf ends stops own r (record { scope = r.scope; groups = gs })
      → AreWithLost ends stops own (rs ++ r ∷ [])
      (cs ++ cond (not (is_empty gs)) (record { scope = r.scope; groups = gs } ∷ []) [])
  one_loss rs cs r gs a l =
      let c : Change = record { scope = r.scope; groups = gs } in
      let here = filter_append (λ c. not (is_empty c.groups)) a.all (c ∷ []) in
      record {
        all = a.all ++ c ∷ [];
        each = AllZip-push (IsLossOf ends stops own) rs a.all r c a.each l;
        some = ap (λ xs. xs ++ cond (not (is_empty gs)) (c ∷ []) []) a.some ∙ sym here;
      }
