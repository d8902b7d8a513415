-- Events with which links end: what they change, and what is kept once those links are gone.
use Rattle.node_core.proofs
use Rattle.node_core.specs
use proofs.Words.{Accepted, ap, audit_of, Bool, Change, Climbs, committed, cond, creation, Entry}
use proofs.Words.{Event, Follows, History, IsAlone, IsChange, IsNext, just, KeptLink, List, listed}
use proofs.Words.{lose, map, None, Option, Parts, past, Pid, Reply, reverse, rules, Running}
use proofs.Words.{slow_links, Some, subst, sym, with_entry, ℕ, [], ◌&&◌, ◌==◌, ◌∙◌, ◌≡◌}
use Rattle.group_monitors.specs.Follows.{FollowsPolicy}
use specs.declared.slow.End.{End}
use specs.declared.slow.Ending.{Ending}
use specs.Ending.{AreCutAll, AreEnded, AreWithLost, ends_of, IsEnding, without_ends}
use proofs.Entered.{made}
use proofs.SlowLinks.{recast}
use proofs.Ends.{AreUp, committed_ends, ends_climb, ends_up, goes, goes_far, goes_once, numbers}
use proofs.Ends.{slow_ends}
use proofs.EndsLost.{ends_follow, lose_ends, lose_reverse}
pub use proofs.LostChanges.{LeavesPeers}
use proofs.LostChanges.{lost_change}

module _ {h : History} {old : Parts} (was : Follows h old) (seat : ℕ) (ev : Event) where
  -- the entry of the event with these changes
  abbrev pub done : List Change → Entry
  done cs = made h seat ev (Accepted Reply.Done) cs

  module _ {own : List Change} {parts : Parts}
      (alone : IsAlone h (done own) × Follows (just h (done own)) parts)
      (monitors : (cs : List Change)
      → FollowsPolicy (audit_of (just h (done cs))) parts.monitors) where
    -- the entry with the whole change, and the links that end with it
    module _ (cs : List Change) (ends : List End) (are : ends_of parts.links ≡ ends) where
      abbrev k : History
      k = just h (done cs)

      now : Follows k parts
      now =
          recast {h = h} {seat = seat} {ev = ev} {v = Accepted Reply.Done} {cs = own} alone.1 cs
          (monitors cs)

      climb : Climbs (numbers ends)
      climb =
          subst (λ xs. Climbs (numbers xs)) are
          (ends_climb k now.sound.played parts.links now.links)

      up : AreUp k ends
      up = subst (AreUp k) are (ends_up k parts.links now.links.each)

      abbrev final : History
      final = past h.opening (lose_ends ends k.entries)

      slow_are : slow_links k ≡ reverse (numbers ends)
      slow_are =
          slow_ends k now.sound.played parts.links now.links ∙ ap (λ xs. reverse (numbers xs)) are

      -- theirs are the losses that come with the entry
      final_is : with_entry h (done cs) ≡ final
      final_is =
          ap (past h.opening)
          (ap (λ ls. lose ls k.entries) slow_are ∙ sym (lose_reverse ends k.entries))

      abbrev AreListed : Type 0
      AreListed =
          (s g : List ℕ) (p : Pid) → listed final s g p ≡ cond (goes p ends) 0 (listed k s g p)

      finish : (scopes : List Running) (links : List KeptLink) → AreCutAll ends parts.scopes scopes
          → links ≡ without_ends ends parts.links → (AreListed → IsChange h final cs)
          → IsNext h (done cs)
          × Follows (with_entry h (done cs)) (record parts { scopes = scopes; links = links })
      finish scopes links cuts is change =
          let all = ends_follow ends k parts now climb up scopes cuts in (
            record {
              room = alone.0.room;
              number = alone.0.number;
              verdict = alone.0.verdict;
              change = subst (λ x. IsChange h x cs) (sym final_is) (change all.1);
            },
            subst (λ x. Follows x (record parts { scopes = scopes; links = links })) (sym final_is)
                (subst (λ xs. Follows final (record parts { scopes = scopes; links = xs })) (sym is)
                all.0),
          )

      -- what the entry changes by itself doesn't hang on the change that it records
      own_change : (xs : List Change) → IsChange h (just h (done own)) xs → IsChange h k xs
      own_change xs t = search rules

      whole_change : {stops : List ℕ → Bool} → LeavesPeers h (just h (done own)) stops
          → (xs : List Change) → IsChange h (just h (done own)) xs
          → AreWithLost ends stops xs old.scopes cs → AreListed → IsChange h final cs
      whole_change {stops} leaves xs change lost lists =
          lost_change h k final stops
          (search rules) ends
          (λ p. goes_once k now.sound.played p ends climb up)
          (λ p q.
          ap (λ b. b && p.creation == creation h) (goes_far k now.sound.played p ends up q))
          lists xs (own_change xs change) old.scopes was.scopes cs lost

    module _ {stops : List ℕ → Bool} (leaves : LeavesPeers h (just h (done own)) stops)
        (Own : List Change → Type 0)
        (owned : (cs : List Change) → Own cs → IsChange h (just h (done own)) cs)
        (prepared : List KeptLink) (is : parts.links ≡ map committed prepared) where
      -- the entry with its own change, and what is kept then, give that with the whole change, and
      -- what is kept after its losses
      pub ends_with : (ending : Option Ending)
          → IsEnding (ends_of prepared) stops Own old.scopes ending
          → {scopes : List Running} {links : List KeptLink} {cs : List Change}
          → AreEnded ending own parts.scopes parts.links scopes links cs
          → IsNext h (done cs)
          × Follows (with_entry h (done cs)) (record parts { scopes = scopes; links = links })
      ends_with None none {scopes} {links} {cs} ended =
          let are = ap ends_of is ∙ committed_ends prepared ∙ none in
          let change = subst (IsChange h (just h (done own))) (sym ended.0) alone.0.change in
          finish cs [] are scopes links ended.1 ended.2 (λ lists. own_change cs [] are cs change)
      ends_with (Some e) endings {scopes} {links} {cs} ended =
          let ends = e.ends.items in
          let are = ap ends_of is ∙ committed_ends prepared ∙ sym endings.2 in
          let own_cs = endings.0 in
          let lost : AreWithLost ends stops own_cs old.scopes cs =
          subst (λ (x : List End × List Change). AreWithLost x.0 stops own_cs old.scopes x.1)
          (λ i. (sym endings.2 i, sym ended.0 i)) endings.3 in
          finish cs ends are scopes links ended.1 ended.2
          (whole_change cs ends are leaves own_cs (owned own_cs endings.1) lost)
