-- A scope that stops.
use Rattle.node_core.proofs
use proofs.Words.{Accepted, AllByRecursion, ap, AreTold, arith, broken_off, committed, cond, Entry}
use proofs.Words.{Event, false, filter, Follows, GroupChange, History, if_among, if_some, is_full}
use proofs.Words.{is_running, IsDifference, IsRunningOf, IsStep, just, KeptLink, link_words, List}
use proofs.Words.{listed, map, Message, no_count, not, Parts, refl, Reply, Running, running_stopped}
use proofs.Words.{said_in, same, same_decides, same_sym, scope_words, shown_numbers, stopped_links}
use proofs.Words.{subst, sym, told_numbers, true, waiting, ℕ, [], ◌++◌, ◌∙◌, ◌∷◌, ◌≡◌}
use Rattle.node_core.specs.Ending.{ends_of}
use Rattle.group_monitors.specs.Monitors.{without_scope}
use Rattle.policy_audit.proofs.HeardNow.{stopped_heard}
use Rattle.policy_audit.proofs.RowsAfter.{stopped_rows}
use proofs.Ended.{Turns}
use proofs.PeersKept.{monitors_drop, stop_leaves}
use proofs.Entered.{accepted_next, answered_by, made, sound_now}
use proofs.OneScope.{scope_change}
use proofs.Starting.{names}
use proofs.Told.{down_alike, map_map, stopped_follow, visible_told}

-- ---- links where nothing is kept of messages of one scope

pub both_ways : (s : List ℕ) (xs : List KeptLink)
    → map (broken_off s) (map committed xs) ≡ map committed (map (broken_off s) xs)
both_ways s xs = map_map (broken_off s) committed xs ∙ sym (map_map committed (broken_off s) xs)

-- the same links end
pub ends_unbroken : (s : List ℕ) (xs : List KeptLink)
    → ends_of (map (broken_off s) xs) ≡ ends_of xs
ends_unbroken s [] = refl
ends_unbroken s (x ∷ xs) = grind (arith, ends_unbroken s xs)

-- ---- scopes but one

-- the scopes but this one
abbrev pub all_but : List ℕ → List Running → List Running
all_but s rs = filter (λ r. not (same r.scope s)) rs

names_left : (s : List ℕ) (rs : List Running)
    → names (all_but s rs) ≡ filter (λ t. not (same t s)) (names rs)
names_left s [] = refl
names_left s (r ∷ rs) = grind (arith, names_left s rs)

module _ (h : History) (seat : ℕ) (s : List ℕ) (gs : List GroupChange) where
  abbrev e : Entry
  e = made h seat (Event.StopScope s) (Accepted Reply.Done) (if_some s gs)

  abbrev pub stopped : History
  stopped = just h e

  module _ (parts : Parts) (t : Follows h parts) (runs : is_running h s ≡ true)
      (groups : IsDifference (listed h s) no_count gs) where
    module _ (its : IsStep h e) where
      still : (r : Running) → same r.scope s ≡ false → IsRunningOf (scope_words h) r
          → IsRunningOf (scope_words stopped) r
      still r other q = record {
        own = q.own;
        rows =
            λ g p. q.rows g p
            ∙ sym (stopped_rows h t.sound.played e its refl s refl r.scope g p
            ∙ rw other);
        heard = λ l. q.heard l
            ∙ sym ((stopped_heard h e refl s refl l r.scope).heard_is
            ∙ grind (arith, same_sym s r.scope, other));
        told = λ l. q.told l ∙ sym ((stopped_heard h e refl s refl l r.scope).told_is
            ∙ grind (arith, same_sym s r.scope, other));
      }

      all_still : (rs : List Running) → AllByRecursion (IsRunningOf (scope_words h)) rs
          → AllByRecursion (IsRunningOf (scope_words stopped)) (all_but s rs)
      all_still [] a = tt
      all_still (r ∷ rs) a = grind (arith, still r, all_still rs a.1)

    pub stop_now : is_full h ≡ false → (links : List KeptLink)
        → AreTold (if_among (shown_numbers parts.links) (said_in (Message.Down s))) parts.links
        links
        → Turns h seat (Event.StopScope s) (if_some s gs)
        (record parts {
          scopes = all_but s parts.scopes;
          links = map (broken_off s) links;
          monitors = without_scope s parts.monitors;
        }) (λ u. same s u) (λ x. x ≡ if_some s gs)
    stop_now space links tells =
        let next = accepted_next h seat (Event.StopScope s) space Reply.Done (if_some s gs)
        (rw runs) refl (λ its. scope_change h stopped s gs
        (subst (λ f. IsDifference (listed h s) f gs)
        (λ i g p. sym (stopped_rows h t.sound.played e its refl s refl s g p
        ∙ ap (λ b. cond b 0 (listed h s g p)) ((same_decides s s).1 refl)) i) groups)
        (λ u g p other.
        sym (stopped_rows h t.sound.played e its refl s refl u g p
        ∙ rw other))) in
        let its = answered_by next in record {
          alone = next;
          follows = record {
            sound = sound_now h e t.sound next;
            admission = t.admission;
            processes = t.processes;
            scopes = record {
              running = names_left s parts.scopes ∙ ap (filter (λ u. not (same u s)))
                  t.scopes.running ∙ sym (running_stopped h e refl s refl);
              each = all_still its parts.scopes t.scopes.each;
            };
            links = stopped_follow (link_words h) (link_words stopped)
                (if_among (shown_numbers parts.links) (said_in (Message.Down s))) s (λ l. refl)
                (told_numbers h e its refl refl
                (λ l. (stopped_links h e its refl s refl l).kept_is)) parts.links links
                (λ l parted way. ap (λ fs. waiting h l ++ fs)
                (visible_told h parts.links t.sound.played t.links (Message.Down s) (down_alike s) l
                parted))
                tells t.links;
            monitors = monitors_drop h seat parts.monitors t.monitors s (if_some s gs);
          };
          leaves = stop_leaves h seat (if_some s gs) t.sound.played s its;
          monitors = monitors_drop h seat parts.monitors t.monitors s;
          owned = λ x is. rw is next.change;
        }
