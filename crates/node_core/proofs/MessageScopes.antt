-- What each accepted message makes of its scope and of its link.
use Rattle.node_core.proofs
use Rattle.policy_audit.proofs as policy
use proofs.Words.{Accepted, and-true, ap, append-nil, arith, begun, begun_after, Bool, completed}
use proofs.Words.{cond, CoreFault, count_after_drop, count_of, count_with, early_checks, Entry}
use proofs.Words.{eqb-true, Event, false, first_broken, flip, Follows, frame_taken, get_or}
use proofs.Words.{GroupChange, HasBecome, heard, heard_with, History, if_some, is_full, is_number}
use proofs.Words.{is_up, IsAlone, IsCalmFault, IsCutOff, IsDifference, IsHeardNow, IsRowFault}
use proofs.Words.{IsRunningOf, IsStep, just, KeptLink, link_place, link_words, LinksFollow, List}
use proofs.Words.{listed, Message, Message2, message_checks, message_owes, nat_eq, no_change, None}
use proofs.Words.{not, occurrences, Option, option_and_then, PartKind, Parts, peer_of, Pid, refl}
use proofs.Words.{Reply, Row, row, row_limit, rows_so_far, Running, running_rises, said_at, same}
use proofs.Words.{same_decides, same_row, same_sym, scope_place, scope_words, set, Some, subst, sym}
use proofs.Words.{table_refusal, told, true, up_peer, with_number, without, ℕ, [], ◌&&◌, ◌++◌, ◌+◌}
use proofs.Words.{◌-◌, ◌==◌, ◌||◌, ◌∙◌, ◌∷◌, ◌≡◌}
use Rattle.std.proofs.lemmas.List.Folds.{list_any-append}
use policy.HeardSaid.{discovered_heard, downed_heard, joined_heard, left_heard, synced_heard}
use policy.MessageRows.{added_rows, discovered_rows, downed_rows, synced_rows, taken_rows}
use policy.MessageRows.{unsaid_rows}
use policy.HeardNow.{unsaid_heard}
use proofs.Entered.{made, step_follows}
use proofs.MessagePlaces.{IsScopeHere, IsUpHere, same_there, scope_here, up_here}
use proofs.MessageRefused.{begun_is, limit_is, peer_is, rows_calm, table_is, table_silent}
use proofs.OneScope.{one_scope_follows, scope_change}
use proofs.ScopesCutOff.{number_left}
use proofs.MessageKept.{its_answered, its_links, its_next}

-- ---- numbers

number_on : (j l : ℕ) (ns : List ℕ) → is_number j (with_number l ns) ≡ ((l == j) || is_number j ns)
number_on j l ns = grind (arith, eqb-true l j, flip j l, list_any-append (nat_eq j) ns (l ∷ []))

-- ---- the scope of a message

module _ (h : History) (s : List ℕ) (r : Running) (named : r.scope ≡ s)
    (u : IsRunningOf (scope_words h) r) where
  pub counted : (g : List ℕ) (p : Pid) → count_of r.table g p ≡ listed h s g p
  counted g p = u.rows g p ∙ ap (λ t. listed h t g p) named

  pub heard_there : (j : ℕ) → is_number j r.heard.items ≡ heard h.opening j s h.entries
  heard_there j = u.heard j ∙ ap (λ t. heard h.opening j t h.entries) named

  pub told_there : (j : ℕ) → is_number j r.told.items ≡ told h.opening j s h.entries
  told_there j = u.told j ∙ ap (λ t. told h.opening j t h.entries) named

  module _ (k : History) (opening : k.opening ≡ h.opening) (y : Running) (count : List ℕ → Pid → ℕ)
      (hs ts : List ℕ) (b : HasBecome r y count hs ts) (rows : (g : List ℕ) (p : Pid)
      → count g p ≡ listed k s g p) where
    pub becomes_running : ((j : ℕ) → is_number j hs ≡ heard k.opening j s k.entries)
        → ((j : ℕ) → is_number j ts ≡ told k.opening j s k.entries) → IsRunningOf (scope_words k) y
    becomes_running hears tells =
        let same_name : s ≡ y.scope = sym (b.scope ∙ named) in
        record {
          own = b.rows.own ∙ u.own ∙ ap (λ o. o.name) (sym opening);
          rows = λ g p. b.rows.counts g p ∙ rows g p ∙ ap (λ t. listed k t g p) same_name;
          heard = λ j. ap (is_number j) b.heard ∙ hears j
              ∙ ap (λ t. heard k.opening j t k.entries) same_name;
          told = λ j. ap (is_number j) b.told ∙ tells j
              ∙ ap (λ t. told k.opening j t k.entries) same_name;
        }

    difference_is : (groups : List GroupChange)
        → IsDifference (count_of r.table) (count_of y.table) groups
        → IsDifference (listed h s) (listed k s) groups
    difference_is groups d =
        subst (λ (f : (List ℕ → Pid → ℕ) × (List ℕ → Pid → ℕ)). IsDifference f.0 f.1 groups)
        (λ i. (λ g p. counted g p i, λ g p. (b.rows.counts g p ∙ rows g p) i)) d

-- ---- the messages

module _ {h : History} {parts : Parts} (t : Follows h parts) (seat l : ℕ) (body : List ℕ)
    (space : is_full h ≡ false) (up : is_up l h.entries ≡ true)
    {pl : ℕ} {x : KeptLink} (placed : link_place l parts.links ≡ Some pl)
    (x_is : x ≡ get_or parts.links pl x)
    (s : List ℕ) {p : ℕ} {r : Running} (y : Running) (at : scope_place s parts.scopes ≡ Some p)
    (r_is : r ≡ get_or parts.scopes p r) where
  here : IsUpHere h l x
  here = up_here t l up placed x_is

  there : IsScopeHere h parts.scopes s p r
  there = scope_here t s at r_is

  -- what a body completes is said on the link
  on_link : {m : Message2} {o : Option Message} → frame_taken h.opening l h.entries body ≡ Some m
      → completed (begun h.opening l h.entries) m ≡ o → said_at h.opening l h.entries body ≡ o
  on_link says done =
      ap (option_and_then (completed (begun h.opening l h.entries))) says ∙ done

  -- all that is kept of the link's message, with these rows
  abbrev pub all_rows : PartKind → ℕ → List Row → List Row
  all_rows kind number rows = rows_so_far x.begun kind s number rows

  all_are : (kind : PartKind) (number : ℕ) (rows : List Row)
      → rows_so_far (begun h.opening l h.entries) kind s number rows ≡ all_rows kind number rows
  all_are kind number rows = ap (λ b. rows_so_far b kind s number rows) (sym (begun_is here))

  -- the link after the message: nothing is owed to it
  abbrev pub IsLinkAfter : Message2 → KeptLink → Type 0
  IsLinkAfter m z = z ≡ record x { begun = begun_after x.begun m; room = z.room }

  abbrev entry : List GroupChange → Entry
  entry gs = made h seat (Event.Frame l body) (Accepted Reply.Done) (if_some s gs)

  abbrev after_it : List GroupChange → History
  after_it gs = just h (entry gs)

  -- the message is the next entry, and what is kept then follows
  abbrev pub IsKept : List GroupChange → KeptLink → Type 0
  IsKept gs z =
      IsAlone h (entry gs)
      × Follows (after_it gs)
      (record parts { scopes = set parts.scopes p y; links = set parts.links pl z })

  -- a message of which is known what it makes of a count, and of whether a link is heard and told,
  -- here and at other scopes
  module _ (m : Message2) (says : frame_taken h.opening l h.entries body ≡ Some m)
      (holds : first_broken (message_checks h l m) ≡ None) (gs : List GroupChange)
      (counts : ℕ → List ℕ → Pid → ℕ) (hears tells : Bool → Bool → Bool) (plain : (b : Bool)
      → (hears b false ≡ b) × (tells b false ≡ b))
      (rows : IsStep h (entry gs) → (u g : List ℕ) (q : Pid)
      → listed (after_it gs) u g q
      ≡ cond (same u s) (counts (listed h u g q) g q) (listed h u g q))
      (talk : IsStep h (entry gs) → (j : ℕ) (u : List ℕ)
      → IsHeardNow (after_it gs) j u (hears (heard h.opening j u h.entries) (l == j && same s u))
      (tells (told h.opening j u h.entries) (l == j && same s u)))
      (hs ts : List ℕ) (b : HasBecome r y (λ g q. counts (count_of r.table g q) g q) hs ts)
      (heard_so : (j : ℕ) → is_number j hs ≡ hears (is_number j r.heard.items) (l == j))
      (told_so : (j : ℕ) → is_number j ts ≡ tells (is_number j r.told.items) (l == j)) where
    so : IsStep h (entry gs)
    so = its_answered h seat l body m space up here.awaited says holds (if_some s gs)

    itself : same s s ≡ true
    itself = (same_decides s s).1 refl

    its_own : (j : ℕ) → (l == j) ≡ (l == j && same s s)
    its_own j = grind (arith, itself)

    elsewhere : (j : ℕ) (u : List ℕ) → same u s ≡ false → (l == j && same s u) ≡ false
    elsewhere j u apart = grind (arith, same_sym s u)

    rows_here : (g : List ℕ) (q : Pid)
        → counts (count_of r.table g q) g q ≡ listed (after_it gs) s g q
    rows_here g q =
        grind (arith, counted h s r there.named there.running g q, rows so s g q, itself)

    rows_apart : (u : List ℕ) → same u s ≡ false → (g : List ℕ) (q : Pid)
        → listed (after_it gs) u g q ≡ listed h u g q
    rows_apart u apart g q = rows so u g q ∙ grind (arith, apart)

    still : (z : Running) → same z.scope s ≡ false → IsRunningOf (scope_words h) z
        → IsRunningOf (scope_words (after_it gs)) z
    still z apart u = record {
      own = u.own;
      rows = λ g q. u.rows g q ∙ sym (rows_apart z.scope apart g q);
      heard = λ j. grind (
        arith,
        u.heard j,
        (talk so j z.scope).heard_is,
        elsewhere j z.scope apart,
        (plain (heard h.opening j z.scope h.entries)).0,
      );
      told = λ j. grind (
        arith,
        u.told j,
        (talk so j z.scope).told_is,
        elsewhere j z.scope apart,
        (plain (told h.opening j z.scope h.entries)).1,
      );
    }

    follows : IsAlone h (entry gs) → (kept : List KeptLink)
        → LinksFollow (link_words (after_it gs)) kept
        → Follows (after_it gs) (record parts { scopes = set parts.scopes p y; links = kept })
    follows next kept links = step_follows t next refl t.admission t.processes
        (one_scope_follows (scope_words h) (scope_words (after_it gs)) s y
        (becomes_running h s r there.named there.running (after_it gs) refl y
        (λ g q. counts (count_of r.table g q) g q) hs ts b rows_here
        (λ j. heard_so j
        ∙ (λ i. hears (heard_there h s r there.named there.running j i) (its_own j i))
        ∙ sym (talk so j s).heard_is)
        (λ j. told_so j
        ∙ (λ i. tells (told_there h s r there.named there.running j i) (its_own j i))
        ∙ sym (talk so j s).told_is))
        (b.scope ∙ there.named) still parts.scopes p r t.scopes (running_rises h) refl there.within
        (ap (λ z. z.scope) (sym there.is) ∙ there.named))
        links

    -- its change is the difference of the scope
    changed_next : IsDifference (count_of r.table) (count_of y.table) gs → IsAlone h (entry gs)
    changed_next differ =
        its_next h seat l body m space up here.awaited says holds (if_some s gs)
        (scope_change h (after_it gs) s gs
        (difference_is h s r there.named there.running (after_it gs) refl y
        (λ g q. counts (count_of r.table g q) g q) hs ts b rows_here gs differ)
        (λ u g q apart. sym (rows_apart u apart g q)))

    -- nothing is owed to it
    silent : message_owes h l m ≡ [] → {z : KeptLink} → IsLinkAfter m z
        → IsDifference (count_of r.table) (count_of y.table) gs → IsKept gs z
    silent nothing {z} is differ = (
      changed_next differ,
      follows (changed_next differ) (set parts.links pl z)
          (its_links h seat l body m space up here.awaited says holds (if_some s gs) parts.links
          t.sound.played t.links pl x z placed here (ap (λ w. w.number) is)
          (ap (λ w. w.state) is) (ap (λ w. w.begun) is) (ap (λ w. w.prepared) is ∙ here.link.idle)
          (ap (λ w. w.frames) is ∙ sym (append-nil x.frames)
          ∙ ap (λ fs. x.frames ++ fs) (sym nothing))),
    )

  -- ---- a Discover

  module _ (says : frame_taken h.opening l h.entries body ≡ Some (Message2.Discover s))
      (holds : first_broken (message_checks h l (Message2.Discover s)) ≡ None) where
    listed_so : IsStep h (entry []) → (u g : List ℕ) (q : Pid)
        → listed (after_it []) u g q ≡ listed h u g q
    listed_so so =
        discovered_rows h t.sound.played (entry []) so refl l body refl here.far.peer here.awaited
        here.introduced.peer.peer here.introduced.peer.other s (on_link says refl)

    pub discovered_next : IsAlone h (entry [])
    discovered_next =
        its_next h seat l body (Message2.Discover s) space up here.awaited says holds []
        (no_change h (after_it [])
        (λ u g q. sym
        (listed_so (its_answered h seat l body (Message2.Discover s) space up here.awaited
        says holds []) u g q)))

    pub discovered_follows : HasBecome r y (count_of r.table) r.heard.items
        (with_number l r.told.items) → (kept : List KeptLink)
        → LinksFollow (link_words (after_it [])) kept
        → Follows (after_it []) (record parts { scopes = set parts.scopes p y; links = kept })
    discovered_follows b =
        follows (Message2.Discover s) says holds [] (λ n g q. n) (λ b c. b) (λ b c. c || b)
        (λ b. (refl, refl)) (λ so u g q. listed_so so u g q ∙ grind arith)
        (λ so j u. discovered_heard h t.sound.played (entry []) so refl l body refl here.awaited j
        u s (on_link says refl))
        r.heard.items (with_number l r.told.items) b (λ j. refl) (λ j. number_on j l r.told.items)
        discovered_next

  -- the peer of the link is n
  module _ {n : List ℕ} (far : Some n ≡ up_peer x.state) where
    of : peer_of l h.entries ≡ Some n
    of = here.introduced.peer.peer ∙ ap Some (sym (peer_is here far))

    other : same n h.opening.name ≡ false
    other = ap (λ m. same m h.opening.name) (peer_is here far) ∙ here.introduced.peer.other

    -- ---- rows

    -- a part that breaks no rule early breaks what its rows so far break by the table
    pub table_here : (kind : PartKind) (number : ℕ) (last : Bool) (rows : List Row)
        → first_broken (early_checks h l (Message2.Part kind s number last rows)) ≡ None
        → first_broken (message_checks h l (Message2.Part kind s number last rows))
        ≡ table_refusal r.table n kind (all_rows kind number rows) (row_limit x.state)
    table_here kind number last rows early =
        table_is h l s r there.named there.running n of kind number last rows early
        ∙ (λ i. table_refusal r.table n kind (all_are kind number rows i) (sym (limit_is here) i))

    pub refused_calm : (kind : PartKind) (number : ℕ) (last : Bool) (rows : List Row)
        → frame_taken h.opening l h.entries body ≡ Some (Message2.Part kind s number last rows)
        → first_broken (early_checks h l (Message2.Part kind s number last rows)) ≡ None
        → (f : CoreFault)
        → IsRowFault (table_refusal r.table n kind (all_rows kind number rows) (row_limit x.state))
        f
        → IsCalmFault h seat (Event.Frame l body) f
    refused_calm kind number last rows says early =
        rows_calm h seat l body up here.awaited (Message2.Part kind s number last rows) says
        (table_refusal r.table n kind (all_rows kind number rows) (row_limit x.state))
        (table_here kind number last rows early)
        (table_silent r.table n kind (all_rows kind number rows) (row_limit x.state))

    module _ (number : ℕ) (rows : List Row) where
      abbrev last_part : PartKind → Message2
      last_part kind = Message2.Part kind s number true rows

      -- what a part makes, the last or another, which leaves the scope as it was
      pub went_on : (last : Bool) (kind : PartKind)
          → frame_taken h.opening l h.entries body ≡ Some (Message2.Part kind s number last rows)
          → first_broken (early_checks h l (Message2.Part kind s number last rows)) ≡ None
          → table_refusal r.table n kind (all_rows kind number rows) (row_limit x.state) ≡ None
          → (gs : List GroupChange)
          → HasBecome r y (count_with last kind r.table n (all_rows kind number rows))
          (heard_with last kind l r.heard.items) r.told.items
          → IsDifference (count_of r.table) (count_of y.table) gs → {z : KeptLink}
          → IsLinkAfter (Message2.Part kind s number last rows) z → IsKept gs z
      went_on true PartKind.Sync says early fits gs b differ is =
          let all = all_rows PartKind.Sync number rows in
          let said = on_link says
          (ap (λ rs. Some (Message.Sync s rs)) (all_are PartKind.Sync number rows)) in
          silent (last_part PartKind.Sync) says
          (table_here PartKind.Sync number true rows early ∙ fits) gs
          (λ k g q. cond (same q.node n) (occurrences same_row (row g q) all) k) (λ b c. c || b)
          (λ b c. b) (λ b. (refl, refl))
          (λ so. synced_rows h t.sound.played (entry gs) so refl l body refl n here.awaited of other
          s all said)
          (λ so j u. synced_heard h t.sound.played (entry gs) so refl l body refl here.awaited j u s
          all said)
          (with_number l r.heard.items) r.told.items b (λ j. number_on j l r.heard.items)
          (λ j. refl) refl is differ
      went_on true PartKind.Join says early fits gs b differ is =
          let all = all_rows PartKind.Join number rows in
          let said = on_link says
          (ap (λ rs. Some (Message.Join s rs)) (all_are PartKind.Join number rows)) in
          silent (last_part PartKind.Join) says
          (table_here PartKind.Join number true rows early ∙ fits) gs
          (λ k g q. k + occurrences same_row (row g q) all) (λ b c. b) (λ b c. b)
          (λ b. (refl, refl))
          (λ so. added_rows h t.sound.played (entry gs) so refl l body refl n here.awaited of other
          s all said)
          (λ so j u. joined_heard h t.sound.played (entry gs) so refl l body refl here.awaited j u s
          all said)
          r.heard.items r.told.items b (λ j. refl) (λ j. refl) refl is differ
      went_on true PartKind.Leave says early fits gs b differ is =
          let all = all_rows PartKind.Leave number rows in
          let said = on_link says
          (ap (λ rs. Some (Message.Leave s rs)) (all_are PartKind.Leave number rows)) in
          silent (last_part PartKind.Leave) says
          (table_here PartKind.Leave number true rows early ∙ fits) gs
          (λ k g q. k - occurrences same_row (row g q) all) (λ b c. b) (λ b c. b)
          (λ b. (refl, refl))
          (λ so. taken_rows h t.sound.played (entry gs) so refl l body refl n here.awaited of other
          s all said)
          (λ so j u. left_heard h t.sound.played (entry gs) so refl l body refl here.awaited j u s
          all said)
          r.heard.items r.told.items b (λ j. refl) (λ j. refl) refl is differ
      went_on false kind says early fits gs b differ is =
          silent (Message2.Part kind s number false rows) says
          (table_here kind number false rows early ∙ fits) gs (λ k g q. k) (λ b c. b) (λ b c. b)
          (λ b. (refl, refl))
          (λ so u g q. unsaid_rows h t.sound.played (entry gs) so refl l body refl n here.awaited of
          other (on_link says refl) u g q ∙ grind arith)
          (λ so j u. unsaid_heard h t.sound.played (entry gs) so refl l body refl here.awaited
          (on_link says refl) j u)
          r.heard.items r.told.items b (λ j. refl) (λ j. refl) refl is differ

    -- ---- a Down

    pub downed : frame_taken h.opening l h.entries body ≡ Some (Message2.Down s)
        → first_broken (early_checks h l (Message2.Down s)) ≡ None → (gs : List GroupChange)
        → IsCutOff l n r y → {o : Running} → o ≡ get_or parts.scopes p o
        → IsDifference (count_of o.table) (count_after_drop o.table n) gs → {z : KeptLink}
        → IsLinkAfter (Message2.Down s) z → IsKept gs z
    downed says early gs cut {o} o_is differ {z} is =
        silent (Message2.Down s) says early gs (λ k g q. cond (same q.node n) 0 k)
        (λ b c. b && not c) (λ b c. b && not c) (λ b. (and-true b, and-true b))
        (λ so. downed_rows h t.sound.played (entry gs) so refl l body refl n here.awaited of
        other s (on_link says refl))
        (λ so j u. downed_heard h t.sound.played (entry gs) so refl l body refl here.awaited j
        u s (on_link says refl))
        (without l r.heard.items) (without l r.told.items)
        (record { scope = cut.scope; rows = cut.rows; heard = cut.heard; told = cut.told })
        (λ j. number_left j l r.heard.items) (λ j. number_left j l r.told.items) refl is
        (subst (λ f. IsDifference (count_of r.table) f gs) (λ i g q. sym (cut.rows.counts g q) i)
        (rw (same_there there o_is) at differ))
