-- The rules that a message breaks, by what a node keeps of its link and of its scope.
use Rattle.node_core.proofs
use proofs.Words.{All, and_parts, ap, are_counted, are_of_peer, arith, AwaitMessage, awaits, Begun}
use proofs.Words.{begun, begun_after, begun_with, Bool, checks, cond, CoreFault, early_checks}
use proofs.Words.{Entry, Event, false, filter, first_broken, flat_map, flip, frame_taken, get_or}
use proofs.Words.{groups, heard, History, is_from, is_number, is_open, is_running, is_shown, is_up}
use proofs.Words.{is_whole, IsCalmFault, IsGroupListing, IsPidListing, IsPlayed, IsRowFault}
use proofs.Words.{IsRunningOf, KeptLink, length, List, list_all, listed, max_rows, members}
use proofs.Words.{Message2, message_checks, message_taken, nat_le, no_value, node_total, None}
use proofs.Words.{Option, option_map_or, PartKind, peer_limit, peer_of, peer_rows, Pid, refl}
use proofs.Words.{refusal_owes, refuses_calmly, Row, row_limit, rows_before, rows_of, rows_so_far}
use proofs.Words.{Rule, Running, same, same_decides, same_sym, says_in, scope_in, scope_words}
use proofs.Words.{so_far, Some, subst, sym, Table, table_refusal, takes_parts, true, up_peer, ℕ, []}
use proofs.Words.{◌&&◌, ◌==◌, ◌∙◌, ◌≡◌}
use Rattle.std.proofs.lemmas.List.Folds.{list_all-append, list_all_at}
use Rattle.scope_core.proofs.Members.{length-members}
use Rattle.policy_audit.specs.Sides.{is_visible}
use Rattle.policy_audit.proofs.Begun.{are_peers, kept_peers}
use Rattle.policy_audit.specs.Hearing.{rows_kept}
use Rattle.policy_audit.proofs.Onward.{whole_is_message}
use Rattle.node_core.specs.Messages.{refusal}
use proofs.Found.{some_is}
use proofs.Scopes.{counts_listed, groups_listing, members_listing}
use proofs.MessagePlaces.{IsUpHere}
use proofs.MessageKept.{message_rules}

-- ---- checks

-- what a message breaks early, it breaks first
pub early_broken : (h : History) (l : ℕ) (m : Message2) (r : Rule)
    → first_broken (early_checks h l m) ≡ Some r → first_broken (message_checks h l m) ≡ Some r
early_broken h l (Message2.Discover s) r q = grind arith
early_broken h l (Message2.Part PartKind.Sync s number last rows) r q = grind arith
early_broken h l (Message2.Part PartKind.Join s number last rows) r q = grind arith
early_broken h l (Message2.Part PartKind.Leave s number last rows) r q = grind arith
early_broken h l (Message2.Down s) r q = q

-- a frame that is a message breaks what the message does
pub says_broken : (h : History) (seat l : ℕ) (body : List ℕ) (m : Message2) (r : Rule)
    → is_up l h.entries ≡ true → awaits l h.entries ≡ AwaitMessage
    → frame_taken h.opening l h.entries body ≡ Some m
    → first_broken (message_checks h l m) ≡ Some r
    → first_broken (checks h seat (Event.Frame l body)) ≡ Some r
says_broken h seat l body m r up awaited says q =
    grind (arith, message_rules h seat l body up awaited, says, q)

-- the link is not visible
pub hidden_first : (h : History) (l : ℕ) (m : Message2) → is_visible h l ≡ false
    → first_broken (early_checks h l m) ≡ Some Rule.HiddenLink
hidden_first h l m q = grind arith

-- or the scope doesn't run
pub stopped_first : (h : History) (l : ℕ) (m : Message2) → is_visible h l ≡ true
    → is_running h (scope_in m) ≡ false → first_broken (early_checks h l m) ≡ Some Rule.NoScope
stopped_first h l (Message2.Discover s) v q = rw (v, q) refl
stopped_first h l (Message2.Part kind s number last rows) v q = rw (v, q) refl
stopped_first h l (Message2.Down s) v q = rw (v, q) refl

-- and each row is of its link's peer
pub rows_from : (h : History) (l : ℕ) (kind : PartKind) (s : List ℕ) (number : ℕ) (last : Bool)
    (rows : List Row)
    → first_broken (early_checks h l (Message2.Part kind s number last rows)) ≡ None
    → list_all (λ r. is_from l h.entries r.pid) rows ≡ true
rows_from h l kind s number last rows q = grind arith

module _ {h : History} {l : ℕ} {x : KeptLink} (here : IsUpHere h l x) where
  -- whether the link is visible
  pub visible_is : is_shown x.state ≡ is_visible h l
  visible_is = (let gave = here.introduced.said.1 in
      grind (arith, here.is, gave.visible_is, gave.said))

  from_is : (p : Pid)
      → is_from l h.entries p ≡ (same p.node here.far.peer && p.creation == here.far.creation)
  from_is p = (let gave = here.introduced.said.1 in
      grind (
        arith,
        here.introduced.peer.peer,
        gave.said,
        gave.creation_is,
        same_sym here.far.peer p.node,
        flip here.far.creation p.creation,
      ))

  -- whether rows are of its peer
  pub of_peer_is : (rows : List Row)
      → are_of_peer x.state rows ≡ list_all (λ r. is_from l h.entries r.pid) rows
  of_peer_is rows = ap (λ s. are_of_peer s rows) here.is
      ∙ sym (λ i. list_all (λ r. from_is r.pid i) rows)

  -- then each of their processes is of that node
  pub all_of_peer : (rows : List Row) → list_all (λ r. is_from l h.entries r.pid) rows ≡ true
      → All (λ r. r.pid.node ≡ here.far.peer) rows
  all_of_peer rows q k d within =
      grind (
        arith,
        list_all_at (λ r. is_from l h.entries r.pid) rows k d,
        from_is (get_or rows k d).pid,
        same_decides (get_or rows k d).pid.node here.far.peer,
      )

  -- what is kept of its message
  pub begun_is : x.begun ≡ begun h.opening l h.entries
  begun_is = here.link.begun ∙ ap (λ n. begun h.opening n h.entries) here.number

  -- which message a body says on it
  pub taken_is : (body : List ℕ)
      → says_in (takes_parts x.state) body ≡ frame_taken h.opening l h.entries body
  taken_is body =
      ap (λ s. says_in (takes_parts s) body) here.is
      ∙ ap (λ v. message_taken v body) here.introduced.said.1.version_is

  -- how many rows its peer may have
  pub limit_is : row_limit x.state ≡ peer_limit h l
  limit_is =
      ap row_limit here.is
      ∙ ap (λ v. cond (v == 2) 65536 max_rows) here.introduced.said.1.version_is

  -- the first rule that is broken, but for those that the table tells
  pub refusal_is : (hs : List ℕ) (m : Message2) → is_visible h l ≡ true
      → is_running h (scope_in m) ≡ true → is_number l hs ≡ heard h.opening l (scope_in m) h.entries
      → first_broken (early_checks h l m) ≡ refusal x hs m
  refusal_is hs (Message2.Discover s) v q hears = rw (v, q) refl
  refusal_is hs (Message2.Part PartKind.Sync s number last rows) v q hears =
      rw (v, q) (grind (arith, of_peer_is rows, begun_is))
  refusal_is hs (Message2.Part PartKind.Join s number last rows) v q hears =
      rw (v, q) (grind (arith, of_peer_is rows, begun_is, here.number, hears))
  refusal_is hs (Message2.Part PartKind.Leave s number last rows) v q hears =
      rw (v, q) (grind (arith, of_peer_is rows, begun_is, here.number, hears))
  refusal_is hs (Message2.Down s) v q hears = rw (v, q) refl

-- ---- refusals end no link

module _ (h : History) (l : ℕ) (body : List ℕ) (up : is_up l h.entries ≡ true) where
  pub calm : (r : Rule) → refusal_owes r ≡ [] → refuses_calmly h (Event.Frame l body) r ≡ true
  calm r nothing = grind arith

silent : (a b c : Bool) (r : Rule)
    → cond a (Some Rule.NotHeard)
    (cond b (Some Rule.PartOrder) (cond c (Some Rule.ForeignPid) None)) ≡ Some r
    → refusal_owes r ≡ []
silent true b c r q = ap refusal_owes (sym (some_is q))
silent false true c r q = ap refusal_owes (sym (some_is q))
silent false false true r q = ap refusal_owes (sym (some_is q))
silent false false false r q = no_value (sym q)

-- what a message breaks early is owed nothing
pub refusal_silent : (x : KeptLink) (hs : List ℕ) (m : Message2) (r : Rule)
    → refusal x hs m ≡ Some r → refusal_owes r ≡ []
refusal_silent x hs (Message2.Discover s) r q = no_value (sym q)
refusal_silent x hs (Message2.Part kind s number last rows) r q = silent _ _ _ r q
refusal_silent x hs (Message2.Down s) r q = no_value (sym q)

-- ---- all rows of a message so far are of the peer

before_from : (l : ℕ) (es : List Entry) (b : Option Begun) (kind : PartKind) (s : List ℕ)
    (number : ℕ) → are_peers l es (rows_kept b) ≡ true
    → are_peers l es (rows_before b kind s number) ≡ true
before_from l es b kind s number q = grind arith

pub all_from : (h : History) → IsPlayed h → (l : ℕ) (kind : PartKind) (s : List ℕ) (number : ℕ)
    (last : Bool) (rows : List Row)
    → first_broken (early_checks h l (Message2.Part kind s number last rows)) ≡ None
    → list_all (λ r. is_from l h.entries r.pid) (so_far h l kind s number rows) ≡ true
all_from h legal l kind s number last rows q =
    let b = begun h.opening l h.entries in
    let kept = before_from l h.entries b kind s number (kept_peers h.opening h.entries legal l) in
    let own = rows_from h l kind s number last rows q in
    list_all-append (λ r. is_from l h.entries r.pid) (rows_before b kind s number) rows
    ∙ (λ i. kept i && own i)

module _ {h : History} {l : ℕ} {x : KeptLink} (here : IsUpHere h l x) (legal : IsPlayed h)
    (kind : PartKind) (s : List ℕ) (number : ℕ) (last : Bool) (rows : List Row)
    (early : first_broken (early_checks h l (Message2.Part kind s number last rows)) ≡ None) where
  pub its_rows : All (λ r. r.pid.node ≡ here.far.peer) rows
  its_rows = all_of_peer here rows (rows_from h l kind s number last rows early)

  -- so are all of the message that the link keeps with the part
  pub gathered_rows : {a : KeptLink} {n : List ℕ}
      → a ≡ begun_with x (begun_after x.begun (Message2.Part kind s number false rows))
      → Some n ≡ up_peer a.state → All (λ r. r.pid.node ≡ n) (rows_kept a.begun)
  gathered_rows {a} {n} is far =
      let one : n ≡ here.far.peer =
      some_is (far ∙ ap (λ (z : KeptLink). up_peer z.state) is ∙ ap up_peer here.is) in
      let all = all_of_peer here (rows_so_far x.begun kind s number rows)
      (ap (λ b. list_all (λ r. is_from l h.entries r.pid) (rows_so_far b kind s number rows))
      (begun_is here)
      ∙ all_from h legal l kind s number last rows early) in
      subst (λ m. All (λ r. r.pid.node ≡ m) (rows_kept a.begun)) (sym one)
      (subst (λ rs. All (λ r. r.pid.node ≡ here.far.peer) rs)
      (sym (ap (λ (z : KeptLink). rows_kept z.begun) is)) all)

-- ---- what the table tells

module _ (h : History) (l : ℕ) (s : List ℕ) (r : Running) (named : r.scope ≡ s)
    (t : IsRunningOf (scope_words h) r) where
  pub total_is : (n : List ℕ) → peer_of l h.entries ≡ Some n
      → peer_rows h l s ≡ node_total r.table n
  total_is n of =
      (λ i. length
      (filter (λ p.
      (ap (λ o. option_map_or {T = List ℕ} {U = Bool} (λ m. same m p.node) o false) of
      ∙ same_sym n p.node) i) (flat_map (members h s) (groups h s))))
      ∙ length-members r.table n (groups h s) (members h s)
      (subst (λ f. IsGroupListing f (groups h s)) (sym (counts_listed h s r named t))
      (groups_listing h s)) (λ g. subst (λ f. IsPidListing (f g) (members h s g))
      (sym (counts_listed h s r named t)) (members_listing h s g))

  pub counted_is : (rows : List Row)
      → are_counted r.table rows
      ≡ list_all (λ w. nat_le (rows_of w.group w.pid rows) (listed h s w.group w.pid)) rows
  counted_is rows =
      λ i. list_all (λ w. nat_le (rows_of w.group w.pid rows)
      (counts_listed h s r named t i w.group w.pid)) rows

  -- a part that breaks no rule early breaks what its rows so far break by the table
  pub table_is : (n : List ℕ) → peer_of l h.entries ≡ Some n → (kind : PartKind) (number : ℕ)
      (last : Bool) (rows : List Row)
      → first_broken (early_checks h l (Message2.Part kind s number last rows)) ≡ None
      → first_broken (message_checks h l (Message2.Part kind s number last rows))
      ≡ table_refusal r.table n kind (so_far h l kind s number rows) (peer_limit h l)
  table_is n of PartKind.Sync number last rows q = grind arith
  table_is n of PartKind.Join number last rows q = grind (arith, total_is n of)
  table_is n of PartKind.Leave number last rows q =
      grind (arith, counted_is (so_far h l PartKind.Leave s number rows))

-- what the table tells is owed nothing
pub table_silent : (t : Table) (n : List ℕ) (kind : PartKind) (rows : List Row) (limit : ℕ)
    (r : Rule) → table_refusal t n kind rows limit ≡ Some r → refusal_owes r ≡ []
table_silent t n PartKind.Sync rows limit r q = grind arith
table_silent t n PartKind.Join rows limit r q = grind arith
table_silent t n PartKind.Leave rows limit r q = grind arith

-- what the table refuses is the first rule that is broken, and ends no link
pub rows_calm : (h : History) (seat l : ℕ) (body : List ℕ) → is_up l h.entries ≡ true
    → awaits l h.entries ≡ AwaitMessage → (m : Message2)
    → frame_taken h.opening l h.entries body ≡ Some m → (broken : Option Rule)
    → first_broken (message_checks h l m) ≡ broken
    → ((r : Rule) → broken ≡ Some r → refusal_owes r ≡ []) → (f : CoreFault)
    → IsRowFault broken f → IsCalmFault h seat (Event.Frame l body) f
rows_calm h seat l body up awaited m says broken q silent (CoreFault.Refused r) is = (
  says_broken h seat l body m r up awaited says (q ∙ is),
  calm h l body up r (silent r is),
)
rows_calm h seat l body up awaited m says broken q silent CoreFault.OutOfMemory is = tt

-- ---- the peer of a link that is up

pub peer_is : {h : History} {l : ℕ} {x : KeptLink} (here : IsUpHere h l x) {n : List ℕ}
    → Some n ≡ up_peer x.state → n ≡ here.far.peer
peer_is here q = some_is (q ∙ ap up_peer here.is)

pub has_peer : {h : History} {l : ℕ} {x : KeptLink} → IsUpHere h l x → None ≡ up_peer x.state → ⊥
has_peer here q = no_value {P = ⊥} (sym (q ∙ ap up_peer here.is))

-- a link that is up awaits messages
pub up_awaits : (h : History) (l : ℕ) → is_up l h.entries ≡ true → awaits l h.entries ≡ AwaitMessage
up_awaits h l up =
    (whole_is_message l h.entries (and_parts (is_open l h.entries) (is_whole l h.entries) up).0).0
    (and_parts (is_open l h.entries) (is_whole l h.entries) up).1

-- a body that is no message
pub frame_unread : (h : History) (seat l : ℕ) (body : List ℕ) → is_up l h.entries ≡ true
    → frame_taken h.opening l h.entries body ≡ None
    → first_broken (checks h seat (Event.Frame l body)) ≡ Some Rule.BadFrame
frame_unread h seat l body up none =
    grind (arith, message_rules h seat l body up (up_awaits h l up), none)
