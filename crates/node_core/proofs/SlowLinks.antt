-- Links for which too many frames wait: which they are, and what is kept once one of them is lost.
use Rattle.node_core.proofs
use Rattle.policy_audit.proofs as policy
use proofs.Words.{AllByRecursion, AllZip, and_parts, ap, arith, audit_of, audited, Bool, Change}
use proofs.Words.{cond, Entry, eqb-true, Event, facts, false, filter, Follows, follows_other}
use proofs.Words.{History, is_accepted, is_entered, is_kept, is_open, is_slow, is_some, is_whole}
use proofs.Words.{IsCutOff, IsLegal, IsLinkOf, IsPlayed, IsState, IsStep, just, KeptLink, length}
use proofs.Words.{lie, link_words, links, LinksFollow, LinkState, List, listed, loss, ltb-true, map}
use proofs.Words.{max_waiting, nat_lt, next_number, no_value, Parts, past, Pid, refl, reverse}
use proofs.Words.{rules, Running, same, set, slow_links, Some, subst, suc, sym, true, up_peer}
use proofs.Words.{Verdict, with_entry, without_number, zero, ℕ, [], ◌&&◌, ◌+◌, ◌<◌, ◌∙◌, ◌∷◌, ◌≡◌}
use proofs.Words.{◌≤◌}
use Rattle.group_monitors.specs.Follows.{concerns_monitors, FollowsPolicy}
use Rattle.group_monitors.specs.declared.monitor.Monitor.{Monitor}
use Rattle.std.proofs.lemmas.List.{reverse-reverse}
use policy.KeptNumbers.{filter_both, reverse_filter}
use policy.Losses.{alone, legal_few}
use policy.Early.{early}
use policy.RowsAfter.{lost_rows}
use proofs.Entered.{audit_size, made}
use proofs.Losing.{gone_by, gone_links, gone_scopes, IsUpWith}

-- ---- which they are

-- too many frames wait for the link, which is up
abbrev pub is_slow_link : KeptLink → Bool
is_slow_link x = nat_lt max_waiting (length x.frames) && is_some (up_peer x.state)

few_enough : (n : ℕ) → n ≤ 6 → nat_lt max_waiting n ≡ false
few_enough n le = grind (arith, ltb-true max_waiting n, le)

none_pass : (test : ℕ → Bool) → ((l : ℕ) → test l ≡ false) → (ls : List ℕ) → filter test ls ≡ []
none_pass test none [] = refl
none_pass test none (l ∷ ls) = grind (arith, none l, none_pass test none ls)

module _ (k : History) (played : IsPlayed k) where
  abbrev slow : ℕ → Bool
  slow = is_slow k.opening k.entries

  slow_by : (l : ℕ) (s : LinkState) (n : ℕ) → IsState (facts k l) s
      → (is_whole l k.entries ≡ false → n ≤ 6)
      → (nat_lt max_waiting n && is_some (up_peer s))
      ≡ (is_open l k.entries && nat_lt max_waiting n)
  slow_by l (LinkState.Up u) n a few = grind (arith, a)
  slow_by l LinkState.Ended n a few = grind (arith, a)
  slow_by l s n a few =
      grind (arith, few_enough n (few a.0.whole))

  slow_is : (x : KeptLink) → IsLinkOf (link_words k) x → is_slow_link x ≡ slow x.number
  slow_is x a =
      grind (
        arith,
        slow_by x.number x.state (length x.frames) a.state,
        early k played x.number,
        a.frames,
      )

  slow_each : (kept : List KeptLink) → AllByRecursion (IsLinkOf (link_words k)) kept
      → map (λ x. x.number) (filter is_slow_link kept) ≡ filter slow (map (λ x. x.number) kept)
  slow_each [] a = refl
  slow_each (x ∷ xs) a = grind (arith, slow_is x a.0, slow_each xs a.1)

  slow_numbers : (kept : List KeptLink) → LinksFollow (link_words k) kept
      → map (λ x. x.number) (filter is_slow_link kept) ≡ reverse (slow_links k)
  slow_numbers kept t =
      slow_each kept t.each ∙ ap (filter slow) t.numbers
      ∙ sym (reverse_filter slow (filter (is_kept k) (links k.entries)))
      ∙ ap reverse (sym (filter_both (is_kept k) slow (links k.entries))
      ∙ (λ i. filter (λ l. kept_too l i) (links k.entries)))
    where
      kept_too : (l : ℕ) → (is_kept k l && slow l) ≡ slow l
      kept_too l = grind arith

  -- the slow links are those of the kept ones for which too many frames wait, the newest first
  pub slow_are : (kept : List KeptLink) → LinksFollow (link_words k) kept
      → slow_links k ≡ reverse (map (λ x. x.number) (filter is_slow_link kept))
  slow_are kept t = sym (ap reverse (slow_numbers kept t) ∙ reverse-reverse (slow_links k))

-- of the links of a legal history none is slow
no_names : (xs : List KeptLink) → map (λ x. x.number) xs ≡ [] → xs ≡ []
no_names [] q = refl
no_names (x ∷ xs) q = grind (arith, q)

pub none_kept_slow : (h : History) → IsLegal h → IsPlayed h → (kept : List KeptLink)
    → LinksFollow (link_words h) kept → filter is_slow_link kept ≡ []
none_kept_slow h legal played kept t =
    no_names (filter is_slow_link kept)
    (slow_numbers h played kept t ∙ ap reverse
    (none_pass (is_slow h.opening h.entries) (legal_few h legal) (links h.entries)))

-- where none would be, an entry has no losses
pub none_lost : (h : History) (e : Entry) → IsPlayed (just h e) → (kept : List KeptLink)
    → LinksFollow (link_words (just h e)) kept → filter is_slow_link kept ≡ []
    → with_entry h e ≡ just h e
none_lost h e played kept t none =
    alone h e (slow_are (just h e) played kept t ∙ ap (λ xs. reverse (map (λ x. x.number) xs)) none)

-- one link alone is changed
pub one_slow : (xs : List KeptLink) (p : ℕ) (y : KeptLink) → p < length xs
    → filter is_slow_link xs ≡ []
    → filter is_slow_link (set xs p y) ≡ cond (is_slow_link y) (y ∷ []) []
one_slow [] p y less none = absurd (omega arith)
one_slow (x ∷ xs) zero y less none = grind (arith, none)
one_slow (x ∷ xs) (suc p) y less none =
    let less_on : p < length xs = omega arith in
    grind (arith, none, one_slow xs p y less_on)

-- ---- what is kept once one is lost

-- an entry with the next number is one of the audit, where the monitors are read
module _ (h : History) (seat : ℕ) (ev : Event) (v : Verdict) (cs : List Change) where
  pub audit_with : audit_of (just h (made h seat ev v cs)) ≡ just (audit_of h) (made h seat ev v cs)
  audit_with =
      let es = audited h.entries in
      ap (λ b. past h.opening (cond b (made h seat ev v cs ∷ es) es)) real
    where
      real : is_entered (made h seat ev v cs) ≡ true
      real = grind (arith, eqb-true (next_number h) 0)

  pub monitors_still : (ms : List (ℕ × Monitor)) → FollowsPolicy (audit_of h) ms
      → (is_accepted v && concerns_monitors ev) ≡ false
      → FollowsPolicy (audit_of (just h (made h seat ev v cs))) ms
  monitors_still ms t quiet =
      subst (λ k. FollowsPolicy k ms) (sym audit_with)
      (follows_other (audit_of h) (made h seat ev v cs) ms
      (ap (λ n. n + 1) (sym (audit_size h.entries))) t quiet)

-- but for the monitors, what is kept doesn't hang on the change that an entry records
pub recast : {h : History} {seat : ℕ} {ev : Event} {v : Verdict} {cs : List Change} {parts : Parts}
    → Follows (just h (made h seat ev v cs)) parts → (ds : List Change)
    → FollowsPolicy (audit_of (just h (made h seat ev v ds))) parts.monitors
    → Follows (just h (made h seat ev v ds)) parts
recast t ds monitors = search rules

-- the loss of an open link is a step
pub lost_opens : (h : History) (j : ℕ) → is_open j h.entries ≡ true → IsStep h (loss j)
lost_opens h j opens = record { number = λ q. lie q; judged = grind (arith, opens) }

module _ {h : History} {parts : Parts} (t : Follows h parts) (j : ℕ) (n : List ℕ)
    (up : IsUpWith h j n) where
  -- the history with the loss of link j, which is up with n
  abbrev pub lost : History
  lost = past h.opening (loss j ∷ h.entries)

  pub lost_step : IsStep h (loss j)
  lost_step = lost_opens h j (and_parts (is_open j h.entries) (is_whole j h.entries) up.up).0

  pub lost_lists : (s g : List ℕ) (p : Pid)
      → listed lost s g p ≡ cond (same p.node n) 0 (listed h s g p)
  lost_lists = lost_rows h t.sound.played (loss j) lost_step refl j n refl up.up up.peer up.other

  -- the scopes are cut off from it, and it isn't kept
  pub lost_follows : (scopes : List Running) → AllZip (IsCutOff j n) parts.scopes scopes
      → Follows lost (record parts { scopes = scopes; links = without_number j parts.links })
  lost_follows scopes cuts =
      let gone = gone_by h 0 0 j [] in
      record {
        sound = record {
          played = (lost_step, t.sound.played);
          fits = t.sound.fits;
          few = t.sound.few;
          few_spawned = t.sound.few_spawned;
          links = t.sound.links;
        };
        admission = t.admission;
        processes = t.processes;
        scopes =
            gone_scopes h lost j gone (Some n) (λ q. no_value q) lost_lists
            parts.scopes scopes cuts t.scopes;
        links = gone_links h lost j gone parts.links t.links;
        monitors = t.monitors;
      }
