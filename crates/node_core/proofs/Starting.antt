-- A scope that starts.
use Rattle.node_core.proofs
use proofs.Words.{Accepted, AllByRecursion, ap, AreTold, arith, Bool, checks, count_of, Entry}
use proofs.Words.{Event, false, first_broken, Follows, get_or, heard, History, if_among, insert}
use proofs.Words.{is_among, is_full, is_number, is_running, IsRunningOf, IsStep, just, KeptLink}
use proofs.Words.{le-ltb, length, length-map, Less, link_words, List, listed, lt-ltb, map, Message}
use proofs.Words.{no_change, Parts, Pid, placed, put_scope, refl, Reply, Rises, Rule, Running}
use proofs.Words.{running_among, running_scopes, running_started, said_in, same_decides}
use proofs.Words.{scope_words, ScopesFollow, shown_numbers, Some, started_links, stopped_lists, suc}
use proofs.Words.{sym, text_cmp, texts_total, told, told_numbers, true, waiting, zero, ℕ, [], ◌++◌}
use proofs.Words.{◌<◌, ◌∙◌, ◌∷◌, ◌≡◌, ◌≤◌}
use Rattle.std.proofs.lemmas.Map.Lookups.{exact_bytes}
use Rattle.std.specs.Ordering.{is_lt}
use Rattle.std.specs.List.Sorted.{IsPartitionedBy, IsPartitionPoint}
use Rattle.policy_audit.proofs.KeptLinks.{heard_runs', told_runs}
use Rattle.policy_audit.proofs.RowsAfter.{started_rows}
use Rattle.scope_core.proofs.Rising.{all_map, all_unmapped}
use proofs.Entered.{accepted_next, answered_by, made, step_follows}
use proofs.Ended.{Turns}
use proofs.PeersKept.{monitors_stay, start_leaves}
use proofs.KeptOn.{each_at}
use proofs.Told.{discover_alike, told_follow, visible_told}

-- ---- a scope put among others

pub put_each : (P : Running → Type 0) (r : Running) (xs : List Running) → P r → AllByRecursion P xs
    → AllByRecursion P (put_scope r xs)
put_each P r [] p a = (p, tt)
put_each P r (x ∷ xs) p a = grind (arith, put_each P r xs p a.1)

-- the names of the scopes
abbrev pub names : List Running → List (List ℕ)
names rs = map (λ r. r.scope) rs

pub put_names : (r : Running) (xs : List Running) → is_among r.scope (names xs) ≡ false
    → names (put_scope r xs) ≡ placed text_cmp r.scope (names xs)
put_names r [] none = refl
put_names r (x ∷ xs) none =
    grind (
      arith,
      put_names r xs,
      texts_total.antisymm x.scope r.scope,
      exact_bytes r.scope x.scope,
      same_decides x.scope r.scope,
    )

-- whether a scope comes before s
abbrev pub is_before : List ℕ → Running → Bool
is_before s r = is_lt (text_cmp r.scope s)

all_names : (P : List ℕ → Type 0) (rs : List Running) (j : ℕ) (d : Running)
    → AllByRecursion P (names rs) → j < length rs → P (get_or rs j d).scope
all_names P rs j d a l = each_at (λ r. P r.scope) rs j d (all_unmapped P (λ r. r.scope) rs a) l

rising_before : (s : List ℕ) (rs : List Running) → Rises text_cmp (names rs)
    → (i j : ℕ) (d : Running) → i ≤ j → j < length rs → is_before s (get_or rs i d) ≡ false
    → is_before s (get_or rs j d) ≡ false
rising_before s [] r i j d l h n = absurd (omega arith)
rising_before s (x ∷ xs) r zero zero d l h n = n
rising_before s (x ∷ xs) r zero (suc j) d l h n =
    grind (
      arith,
      texts_total.trans x.scope (get_or xs j d).scope s
          (all_names (λ t. text_cmp x.scope t ≡ Less) xs j d r.0 (omega arith)),
    )
rising_before s (x ∷ xs) r (suc i) zero d l h n = absurd (omega arith)
rising_before s (x ∷ xs) r (suc i) (suc j) d l h n =
    rising_before s xs r.1 i j d (omega arith) (omega arith) n

pub before_partitions : (s : List ℕ) (rs : List Running) → Rises text_cmp (names rs)
    → IsPartitionedBy (is_before s) rs
before_partitions s rs r i j d l h e = grind (arith, rising_before s rs r i j d l h)

pub put_at : (r : Running) (rs : List Running) (i : ℕ) → i ≤ length rs
    → IsPartitionPoint (λ y. is_before r.scope y ≡ true) (λ y. is_before r.scope y ≡ false) rs i
    → insert rs i r ≡ put_scope r rs
put_at r [] zero l p = refl
put_at r [] (suc i) l p = absurd (omega arith)
put_at r (x ∷ xs) zero l p = grind (arith, p.1 0 x)
put_at r (x ∷ xs) (suc i) l p =
    ap (λ ys. x ∷ ys)
    (put_at r xs i (omega arith) (
      (λ k d a b. p.0 (suc k) d (omega arith) (omega arith)),
      (λ k d a b. p.1 (suc k) d (omega arith) (omega arith)),
    ))
    ∙ grind (arith, p.0 0 x)

-- ---- a start

pub running_length : (h : History) (rs : List Running) → ScopesFollow (scope_words h) rs
    → length (running_scopes h) ≡ length rs
running_length h rs t = ap length (sym t.running) ∙ length-map rs (λ r. r.scope)

module _ (h : History) (seat : ℕ) (s : List ℕ) where
  abbrev e : Entry
  e = made h seat (Event.StartScope s) (Accepted Reply.Done) []

  abbrev pub started : History
  started = just h e

  module _ (parts : Parts) (t : Follows h parts) (stopped : is_running h s ≡ false) where
    pub scopes_full : 64 ≤ length parts.scopes
        → first_broken (checks h seat (Event.StartScope s)) ≡ Some Rule.ScopesFull
    scopes_full many = grind (arith, le-ltb, running_length h parts.scopes t.scopes)

    module _ (its : IsStep h e) where
      still : (r : Running) → IsRunningOf (scope_words h) r → IsRunningOf (scope_words started) r
      still r q = record {
        own = q.own;
        rows =
            λ g p. q.rows g p ∙ sym (started_rows h t.sound.played e its refl s refl r.scope g p);
        heard = q.heard;
        told = q.told;
      }

      new_one : (r : Running) → r.scope ≡ s → r.table.own ≡ h.opening.name
          → ((g : List ℕ) (p : Pid) → count_of r.table g p ≡ 0) → r.heard.items ≡ []
          → r.told.items ≡ [] → IsRunningOf (scope_words started) r
      new_one r named own none unheard untold = record {
        own = own;
        rows =
            λ g p. none g p
            ∙ sym (ap (λ x. listed started x g p) named
            ∙ started_rows h t.sound.played e its refl s refl s g p
            ∙ stopped_lists h s g p stopped);
        heard =
            λ l. ap (is_number l) unheard
            ∙ grind (arith, heard_runs' h t.sound.played l s)
            ∙ ap (λ x. heard h.opening l x h.entries) (sym named);
        told =
            λ l. ap (is_number l) untold
            ∙ grind (arith, told_runs h t.sound.played l s)
            ∙ ap (λ x. told h.opening l x h.entries) (sym named);
      }

    pub start_now : is_full h ≡ false → length parts.scopes < 64 → (r : Running) → r.scope ≡ s
        → r.table.own ≡ h.opening.name → ((g : List ℕ) (p : Pid) → count_of r.table g p ≡ 0)
        → r.heard.items ≡ [] → r.told.items ≡ []
        → (links : List KeptLink)
        → AreTold (if_among (shown_numbers parts.links) (said_in (Message.Discover s)))
        parts.links links
        → Turns h seat (Event.StartScope s) []
        (record parts { scopes = put_scope r parts.scopes; links = links }) (λ u. false)
        (λ x. x ≡ [])
    start_now space few r named own none unheard untold links tells =
        let next = accepted_next h seat (Event.StartScope s) space Reply.Done []
        (grind (arith, lt-ltb, running_length h parts.scopes t.scopes)) refl
        (λ its. no_change h started
        (λ u g p. sym (started_rows h t.sound.played e its refl s refl u g p))) in
        let its = answered_by next in
        let others = all_map (IsRunningOf (scope_words h)) (IsRunningOf (scope_words started))
        (still its) parts.scopes t.scopes.each in record {
          alone = next;
          follows = step_follows t next refl t.admission t.processes
              (record {
                running =
                    put_names r parts.scopes (ap (λ x. is_among x (names parts.scopes)) named
                    ∙ ap (is_among s) t.scopes.running ∙ running_among h s ∙ stopped)
                    ∙ (λ i. placed text_cmp (named i) (t.scopes.running i))
                    ∙ sym (running_started h e refl s refl);
                each = put_each (IsRunningOf (scope_words started)) r parts.scopes
                    (new_one its r named own none unheard untold) others;
              })
              (told_follow (link_words h) (link_words started)
              (if_among (shown_numbers parts.links) (said_in (Message.Discover s))) (λ l. refl)
              (told_numbers h e its refl refl (λ l. (started_links h e its refl s refl l).kept_is))
              parts.links links
              (λ l parted way. ap (λ fs. waiting h l ++ fs)
              (visible_told h parts.links t.sound.played t.links (Message.Discover s)
              (discover_alike s) l
              parted))
              tells t.links);
          leaves = start_leaves h seat [] t.sound.played s its;
          monitors = monitors_stay h seat parts.monitors t.monitors (Event.StartScope s) refl;
          owned = λ x is. rw is next.change;
        }
