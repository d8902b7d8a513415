-- Room that is made for a message, and the answer to a Discover.
use Rattle.node_core.proofs
use proofs.Words.{Accepted, AnswersDiscover, ap, arith, begun_with, Bool, can_be_told, checks, cond}
use proofs.Words.{count_of, early_checks, Event, false, first_broken, Follows, frame_taken, get_or}
use proofs.Words.{get_or_default, HasBecome, History, is_full, is_up, IsAlone, IsLinkOf}
use proofs.Words.{IsRowListing, just, kept_climbs, KeptLink, leb-true, link_place, link_version}
use proofs.Words.{link_words, LinksFollow, List, local_rows, local_total, max_rows, Message2}
use proofs.Words.{message_checks, message_owes, None, OutFrame, Parts, refl, Reply, Rule, rules}
use proofs.Words.{Running, running_rises, same, scope_place, scope_words, ScopesFollow, set, Some}
use proofs.Words.{subst, sym, takes_parts, true, with_frames, with_number, with_room, ℕ, [], ◌++◌}
use proofs.Words.{◌==◌, ◌∙◌, ◌≡◌, ◌≤◌}
use Rattle.policy_audit.proofs.OwnRows.{sync_listing}
use proofs.Entered.{made}
use proofs.KeptOn.{one_follows, place_is}
use proofs.OneScope.{one_scope_follows}
use proofs.Scopes.{own_counts}
use proofs.MessagePlaces.{IsScopeHere, IsUpHere, same_there, scope_here, up_here}
use proofs.MessageKept.{its_links}
use proofs.MessageRefused.{says_broken}
use proofs.RowsGone.{rows_total}
use proofs.MessageScopes.{becomes_running, counted, discovered_follows, discovered_next}
use proofs.MessageScopes.{heard_there, told_there}

-- ---- nothing but room has changed

pub roomed_links : {h : History} {parts : Parts} → Follows h parts → (l : ℕ) → is_up l h.entries
    ≡ true → {p : ℕ} {x a : KeptLink} → link_place l parts.links ≡ Some p
    → x ≡ get_or parts.links p x → a ≡ with_room x a.room
    → LinksFollow (link_words h) (set parts.links p a)
roomed_links {h} {parts} t l up {p} {x} {a} q is same =
    let here = up_here t l up q is in
    let place = place_is parts.links l p x q in
    one_follows (link_words h) (link_words h) a
    (subst (IsLinkOf (link_words h)) (sym same) (search rules))
    (λ z apart u. u) parts.links p x t.links (kept_climbs h t.sound.played) refl place.0
    (ap (λ z. z.number) same ∙ here.number ∙ sym place.1)

-- nor has anything at all
pub same_links : {h : History} {parts : Parts} → Follows h parts → (l : ℕ) → is_up l h.entries
    ≡ true → {p : ℕ} {x a : KeptLink} → link_place l parts.links ≡ Some p
    → x ≡ get_or parts.links p x → a ≡ x → LinksFollow (link_words h) (set parts.links p a)
same_links t l up {p} {x} {a} q is same =
    roomed_links t l up q is (same ∙ ap (λ (z : KeptLink). with_room x z.room) (sym same))

pub same_scope : {h : History} {parts : Parts} → Follows h parts
    → (s : List ℕ) {p : ℕ} {r y : Running} → scope_place s parts.scopes ≡ Some p → r
    ≡ get_or parts.scopes p r
    → HasBecome r y (count_of r.table) r.heard.items r.told.items
    → ScopesFollow (scope_words h) (set parts.scopes p y)
same_scope {h} {parts} t s {p} {r} {y} q is b =
    let there = scope_here t s q is in
    one_scope_follows (scope_words h) (scope_words h) s y
    (becomes_running h s r there.named there.running h refl y (count_of r.table) r.heard.items
    r.told.items b
    (counted h s r there.named there.running) (heard_there h s r there.named there.running)
    (told_there h s r there.named there.running))
    (b.scope ∙ there.named) (λ z apart u. u) parts.scopes p r t.scopes (running_rises h) refl
    there.within (ap (λ z. z.scope) (sym there.is) ∙ there.named)

pub still_scope : {h : History} {parts : Parts} → Follows h parts → (s : List ℕ) {p : ℕ}
    {r : Running} → scope_place s parts.scopes ≡ Some p → r ≡ get_or parts.scopes p r
    → ScopesFollow (scope_words h) (set parts.scopes p r)
still_scope t s q is =
    same_scope t s q is (record {
      scope = refl;
      rows = record { own = refl; counts = λ g x. refl };
      heard = refl;
      told = refl;
    })

pub follows_with : {h : History} {parts : Parts} → Follows h parts
    → {rs : List Running} {kept : List KeptLink} → ScopesFollow (scope_words h) rs
    → LinksFollow (link_words h) kept
    → Follows h (record parts { scopes = rs; links = kept })
follows_with t scopes links = search rules

-- ---- the answer to a Discover

-- own rows that can be said are few, or go in parts
pub few_told : {h : History} {parts : Parts} → Follows h parts → (s : List ℕ) {p : ℕ}
    {r o : Running} → scope_place s parts.scopes ≡ Some p → r ≡ get_or parts.scopes p r
    → o ≡ get_or parts.scopes p o → (parted : Bool) → can_be_told r.table parted ≡ true
    → parted ≡ false → local_total o.table ≤ max_rows
few_told t s at r_is o_is parted fits none =
    grind (arith, leb-true, same_there (scope_here t s at r_is) o_is)

module _ {h : History} {parts : Parts} (t : Follows h parts) (seat l : ℕ) (body : List ℕ)
    (space : is_full h ≡ false) (up : is_up l h.entries ≡ true)
    {pl : ℕ} {x : KeptLink} (placed : link_place l parts.links ≡ Some pl)
    (x_is : x ≡ get_or parts.links pl x)
    (s : List ℕ) {p : ℕ} {r : Running} (at : scope_place s parts.scopes ≡ Some p)
    (r_is : r ≡ get_or parts.scopes p r)
    (early : first_broken (early_checks h l (Message2.Discover s)) ≡ None) where
  its_link : IsUpHere h l x
  its_link = up_here t l up placed x_is

  its_scope : IsScopeHere h parts.scopes s p r
  its_scope = scope_here t s at r_is

  -- whether its rules hold: whether all own rows can be said on the link
  pub asked_is : first_broken (message_checks h l (Message2.Discover s))
      ≡ cond (can_be_told r.table (takes_parts x.state)) None (Some Rule.RowsFull)
  asked_is =
      let total = rows_total h s r its_scope.named its_scope.running t.sound.played in
      grind (arith, its_link.introduced.said.1.version_is, total, its_link.is)

  -- they can't
  pub asked_calm : frame_taken h.opening l h.entries body ≡ Some (Message2.Discover s)
      → can_be_told r.table (takes_parts x.state) ≡ false
      → first_broken (checks h seat (Event.Frame l body)) ≡ Some Rule.RowsFull
  asked_calm says full =
      says_broken h seat l body (Message2.Discover s) Rule.RowsFull up its_link.awaited says
      (asked_is ∙ rw full)

  module _ (says : frame_taken h.opening l h.entries body ≡ Some (Message2.Discover s))
      (told : can_be_told r.table (takes_parts x.state) ≡ true) where
    pub holds : first_broken (message_checks h l (Message2.Discover s)) ≡ None
    holds = asked_is ∙ rw told

    answer_is : {frames : List OutFrame} → AnswersDiscover r (takes_parts x.state) l s frames
        → frames ≡ message_owes h l (Message2.Discover s)
    answer_is a =
        let rows_are : a.rows ≡ local_rows h s =
        sync_listing h s a.rows
        (subst (λ f. IsRowListing f a.rows)
        (own_counts h s r its_scope.named its_scope.running t.sound.played) a.own) in
        let heard_is = heard_there h s r its_scope.named its_scope.running l in
        let parted : takes_parts x.state ≡ (link_version h.opening l h.entries == 2) =
        ap takes_parts its_link.is ∙ ap (λ v. v == 2) its_link.introduced.said.1.version_is in
        grind (arith, a.frames_are, rows_are, parted, heard_is)

    -- seen again at its place
    again : {v : KeptLink} → v ≡ get_or parts.links pl v → v ≡ x
    again {v} v_is =
        v_is ∙ get_or_default parts.links pl v x (place_is parts.links l pl x placed).0 ∙ sym x_is

    -- the link has been given room and then the frames
    pub answered_now : {o y : Running} {v a z : KeptLink} {frames : List OutFrame}
        → o ≡ get_or parts.scopes p o → v ≡ get_or parts.links pl v
        → HasBecome o y (count_of o.table) o.heard.items (with_number l o.told.items)
        → AnswersDiscover o (takes_parts x.state) l s frames
        → a ≡ with_room v a.room → z ≡ with_room (begun_with (with_frames a frames) None) z.room
        → IsAlone h (made h seat (Event.Frame l body) (Accepted Reply.Done) [])
        × Follows (just h (made h seat (Event.Frame l body) (Accepted Reply.Done) []))
        (record parts { scopes = set parts.scopes p y; links = set parts.links pl z })
    answered_now {o} {y} {v} {a} {z} {frames} o_is v_is became answered same owed =
        let one = same_there its_scope o_is in
        let becomes = rw one at became in
        let answer = answer_is (rw one at answered) in
        let is : z ≡ with_room (begun_with (with_frames x frames) None) z.room =
        owed
        ∙ ap (λ w. with_room (begun_with (with_frames w frames) None) z.room)
        (same ∙ ap (λ w. with_room w a.room) (again v_is)) in (
          discovered_next t seat l body space up placed x_is s y at r_is says holds,
          discovered_follows t seat l body space up placed x_is s y at r_is says holds becomes
              (set parts.links pl z)
              (its_links h seat l body (Message2.Discover s) space up its_link.awaited says holds []
              parts.links t.sound.played t.links pl x z placed its_link
              (ap (λ w. w.number) is) (ap (λ w. w.state) is) (ap (λ w. w.begun) is)
              (ap (λ w. w.prepared) is ∙ its_link.link.idle)
              (ap (λ w. w.frames) is ∙ ap (λ fs. x.frames ++ fs) answer)),
        )
