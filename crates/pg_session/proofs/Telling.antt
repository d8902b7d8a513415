-- What is told unasked, piece by piece.
use Rattle.pg_session.specs
use Rattle.std.proofs.Common.{ap, append-nil, append_assoc, Err, false, inl, inr, List, map, None}
use Rattle.std.proofs.Common.{Ok, Option, refl, Result, subst, sym, true, ℕ, [], ◌++◌, ◌∙◌, ◌∷◌}
use Rattle.std.proofs.Common.{◌≡◌}
use Rattle.std.specs.List.{filter, flat_map}
use Rattle.std.proofs.lemmas.List.Elements.{All-append, All-cons, All-nil, filter-append}
use Rattle.std.proofs.lemmas.Grind.{flat_map-append}
use Rattle.policy_audit.specs.declared.event.Event.TheVariants.{Updates}
use Rattle.policy_audit.specs.declared.reply.Reply.{Reply}
use Rattle.policy_audit.specs.declared.reply.Update.{Update}
use Rattle.node_core.specs.declared.fault.CoreFault.TheVariants.{OutOfMemory, Refused}
use Rattle.node_threads.specs.declared.fault.CallFault.{CallFault}
use Rattle.node_threads.specs.declared.fault.CallFault.TheVariants.{Core, StrangePass}
use Rattle.node_threads.specs.declared.pass.Call.{Call}
use Rattle.node_threads.specs.Applied.{Called}
use Rattle.node_threads.specs.Calls.{Record}
use Rattle.node_threads.proofs.Answered.{accepted, gains_more, gains_none, refused, strange}
use Rattle.node_threads.proofs.Answered.{unheard}
use Rattle.pg_text.specs.declared.down_reason.DownReason.{DownReason}
use specs.declared.notice.Peer.{Peer}
use specs.Asked.{is_fetch}
use specs.Notices.{Becomes, BecomesAll, change, changes_in, changes_of, down, ended, fetched, gone}
use specs.Notices.{is_change, Known, Notice, notice_line, restarted, stopped, Tells, TellsMore}
use specs.Notices.{TellsNews, up}
use Rattle.policy_audit.specs.declared.reply.Reply.TheVariants as replies

-- ---- who is up

becomes_more : (k mid k' : Known) (ns ms : List Notice) → BecomesAll k ns mid → BecomesAll mid ms k'
    → BecomesAll k (ns ++ ms) k'
becomes_more k mid k' [] ms first then = subst (λ x. BecomesAll x ms k') first then
becomes_more k mid k' (n ∷ ns) ms first then =
    (first.0, first.1, becomes_more first.0 mid k' ns ms first.2 then)

-- updates change nothing of it
becomes_changes : (k : Known) (monitor : ℕ) (us : List Update)
    → BecomesAll k (map (change monitor) us) k
becomes_changes k monitor [] = refl
becomes_changes k monitor (u ∷ us) = (k, refl, becomes_changes k monitor us)

becomes_answered : (k : Known) (monitor : ℕ) (r : Reply) → BecomesAll k (changes_of monitor r) k
becomes_answered k monitor (replies.Updates us) = becomes_changes k monitor us
becomes_answered k monitor r = refl

-- all are gone
becomes_none : (reason : DownReason) (ps : List Peer) (anew : Option ℕ)
    → BecomesAll (record { peers = ps; anew = anew }) (map (gone reason) ps)
    (record { peers = []; anew = anew })
becomes_none reason [] anew = refl
becomes_none reason (p ∷ ps) anew = (
  record { peers = ps; anew = anew },
  (p, [], ps, refl, refl, refl, refl),
  becomes_none reason ps anew,
)

-- once a new life is told nothing but a new life is to be told
told_stays : (k k' : Known) (n : Notice) → Becomes k n k' → k.anew ≡ None → k'.anew ≡ None
told_stays k k' (change monitor u) same told = ap (λ (x : Known). x.anew) same ∙ told
told_stays k k' (ended monitor) same told = ap (λ (x : Known). x.anew) same ∙ told
told_stays k k' (stopped scope) same told = ap (λ (x : Known). x.anew) same ∙ told
told_stays k k' (up n c visible) becomes told = ap (λ (x : Known). x.anew) becomes.4 ∙ told
told_stays k k' (down n c reason) becomes told = ap (λ (x : Known). x.anew) becomes.6 ∙ told
told_stays k k' (restarted c) becomes told = ap (λ (x : Known). x.anew) becomes.1

pub all_told : (k k' : Known) (ns : List Notice) → BecomesAll k ns k' → k.anew ≡ None
    → k'.anew ≡ None
all_told k k' [] same told = ap (λ (x : Known). x.anew) same ∙ told
all_told k k' (n ∷ ns) becomes told = all_told becomes.0 k' ns becomes.2
    (told_stays k becomes.0 n becomes.1 told)

-- ---- lines

abbrev Asks : Call → Type 0
Asks c = is_fetch c.event ≡ true

pub news_none : (k : Known) (out : List ℕ) → TellsNews k out k out
news_none k out = λ p. record {
  more = [];
  notices = [];
  gains = gains_none p p refl;
  asks = All-nil Asks;
  lines = sym (append-nil out);
  changes = refl;
  becomes = refl;
}

pub news_one : (k k' : Known) (n : Notice) (out out' : List ℕ) → Becomes k n k'
    → is_change n ≡ false → out' ≡ out ++ notice_line n → TellsNews k out k' out'
news_one k k' n out out' becomes other is = λ p. record {
  more = [];
  notices = n ∷ [];
  gains = gains_none p p refl;
  asks = All-nil Asks;
  lines = rw (append-nil (notice_line n)) is;
  changes = rw other refl;
  becomes = (k', becomes, refl);
}

no_changes : (reason : DownReason) (ps : List Peer) → filter is_change (map (gone reason) ps) ≡ []
no_changes reason [] = refl
no_changes reason (p ∷ ps) = no_changes reason ps

-- all peers are gone
pub news_all_gone : (reason : DownReason) (ps : List Peer) (anew : Option ℕ) (out out' : List ℕ)
    → out' ≡ out ++ flat_map notice_line (map (gone reason) ps)
    → TellsNews (record { peers = ps; anew = anew }) out (record { peers = []; anew = anew }) out'
news_all_gone reason ps anew out out' is = λ p. record {
  more = [];
  notices = map (gone reason) ps;
  gains = gains_none p p refl;
  asks = All-nil Asks;
  lines = is;
  changes = no_changes reason ps;
  becomes = becomes_none reason ps anew;
}

-- a line of three parts
pub in_line : (out a b c out' : List ℕ) → out' ≡ out ++ a ++ b ++ c → out' ≡ out ++ (a ++ b ++ c)
in_line out a b c out' is = is ∙ ap (λ o. o ++ c) (append_assoc out a b) ∙ append_assoc out (a ++ b)
    c

-- lines behind lines
lines_more : (out mid out' : List ℕ) (ns ms : List Notice) → mid ≡ out ++ flat_map notice_line ns
    → out' ≡ mid ++ flat_map notice_line ms → out' ≡ out ++ flat_map notice_line (ns ++ ms)
lines_more out mid out' ns ms first then =
    rw (flat_map-append notice_line ns ms) (then ∙ ap (λ o. o ++ flat_map notice_line ms) first
    ∙ append_assoc out (flat_map notice_line ns) (flat_map notice_line ms))

pub tells_more : (p mid p' : Record) (k k1 k' : Known) (out out1 out' : List ℕ)
    → Tells p k out mid k1 out1 → Tells mid k1 out1 p' k' out' → Tells p k out p' k' out'
tells_more p mid p' k k1 k' out out1 out' first then = record {
  more = first.more ++ then.more;
  notices = first.notices ++ then.notices;
  gains = gains_more p mid p' first.more then.more first.gains then.gains;
  asks = All-append Asks first.more then.more first.asks then.asks;
  lines = lines_more out out1 out' first.notices then.notices first.lines then.lines;
  changes = rw (
    filter-append is_change first.notices then.notices,
    flat_map-append (λ (c : Call). changes_in c.event c.verdict) first.more then.more,
    first.changes,
    then.changes,
  ) refl;
  becomes = becomes_more k k1 k' first.notices then.notices first.becomes then.becomes;
}

pub news_more : (k k1 k' : Known) (out out1 out' : List ℕ) → TellsNews k out k1 out1
    → TellsNews k1 out1 k' out' → TellsNews k out k' out'
news_more k k1 k' out out1 out' first then = λ p. tells_more p p p k k1 k' out out1 out' (first p)
    (then p)

pub more_more : (out out1 out' : List ℕ) → TellsMore out out1 → TellsMore out1 out'
    → TellsMore out out'
more_more out out1 out' first then = λ k. news_more k k k out out1 out' (first k) (then k)

-- ---- with calls

pub tells_news : (p p' : Record) (k k' : Known) (out out' : List ℕ) → p' ≡ p
    → TellsNews k out k' out' → Tells p k out p' k' out'
tells_news p p' k k' out out' same news = subst (λ q. Tells p k out q k' out') (sym same) (news p)

-- news, and then what monitors tell
pub tells_then : (p p1 p' : Record) (k k0 k1 k2 : Known) (out out1 out' : List ℕ) → p1 ≡ p → k0 ≡ k
    → k2 ≡ k1 → TellsNews k0 out k1 out1 → Tells p1 k2 out1 p' k2 out' → Tells p k out p' k2 out'
tells_then p p1 p' k k0 k1 k2 out out1 out' same from to news told =
    tells_more p p1 p' k k2 k2 out out1 out'
    (subst (λ x. Tells p x out p1 k2 out1) from (subst (λ x. Tells p k0 out p1 x out1) (sym to)
    (tells_news p p1 k0 k1 out out1 same news))) told

-- ---- what is known, by its parts

abbrev pub known : List Peer → Option ℕ → Known
known ps anew = record { peers = ps; anew = anew }

-- one more peer
pub added : (k : Known) (ps ps' : List Peer) (anew : Option ℕ) (p : Peer) → known ps anew ≡ k
    → ps' ≡ ps ++ p ∷ [] → known ps' anew ≡ record k { peers = k.peers ++ p ∷ [] }
added k ps ps' anew p is more =
    subst (λ (x : Known). known ps' anew ≡ record x { peers = x.peers ++ p ∷ [] }) is
    (ap (λ (qs : List Peer). known qs anew) more)

-- one less
pub news_gone : (k : Known) (ps before after ps' : List Peer) (anew : Option ℕ) (p : Peer)
    (reason : DownReason) (out out' : List ℕ) → known ps anew ≡ k → ps ≡ before ++ p ∷ after
    → ps' ≡ before ++ after
    → out' ≡ out ++ notice_line (gone reason p) → TellsNews k out (known ps' anew) out'
news_gone k ps before after ps' anew p reason out out' is split less line =
    subst (λ (x : Known). TellsNews x out (known ps' anew) out') is
    (news_one (known ps anew) (known ps' anew) (gone reason p) out out'
    (p, before, after, refl, refl, split, ap (λ (qs : List Peer). known qs anew) less) refl line)

-- none any more
pub news_all : (k : Known) (ps told ps' : List Peer) (anew : Option ℕ) (reason : DownReason) (out
    out' : List ℕ) → known ps anew ≡ k → told ≡ ps → ps' ≡ []
    → out' ≡ out ++ flat_map notice_line (map (gone reason) told)
    → TellsNews k out (known ps' anew) out'
news_all k ps told ps' anew reason out out' is all none lines =
    subst (λ (x : Known). TellsNews x out (known ps' anew) out') is
    (subst (λ (qs : List Peer). TellsNews (known ps anew) out (known qs anew) out') (sym none)
    (subst (λ (qs : List Peer). TellsNews (known qs anew) out (known [] anew) out') all
    (news_all_gone reason told anew out out' lines)))

-- all of these are updates
all_changes : (k : ℕ) (us : List Update) → filter is_change (map (change k) us) ≡ map (change k) us
all_changes k [] = refl
all_changes k (u ∷ us) = ap (λ ns. change k u ∷ ns) (all_changes k us)

only_changes : (k : ℕ) (r : Reply) → filter is_change (changes_of k r) ≡ changes_of k r
only_changes k (replies.Updates us) = all_changes k us
only_changes k r = refl

-- the answer to a call, told
module _ (k : ℕ) (known : Known) (p p' : Record) (out out' : List ℕ) where
  unchanged : p' ≡ p → out' ≡ out ++ [] → Tells p known out p' known out'
  unchanged same is =
      record {
        more = [];
        notices = [];
        gains = gains_none p p' same;
        asks = All-nil Asks;
        lines = is;
        changes = refl;
        becomes = refl;
      }

  pub tells_fetched : (answer : Result Reply CallFault) → Called p (Updates k) answer p'
      → out' ≡ out ++ flat_map notice_line (fetched k answer) → Tells p known out p' known out'
  tells_fetched (Ok r) called is =
      let a = accepted p p' (Updates k) r called in
      record {
        more = a.0 ∷ [];
        notices = changes_of k r;
        gains = a.3;
        asks = All-cons Asks a.0 [] (rw a.1 refl) (All-nil Asks);
        lines = is;
        changes = rw (a.1, a.2, append-nil (changes_of k r)) (only_changes k r);
        becomes = becomes_answered known k r;
      }
  tells_fetched (Err StrangePass) called is = unchanged (strange p p' (Updates k) called) is
  tells_fetched (Err (Core OutOfMemory)) called is = unchanged (unheard p p' (Updates k) called) is
  tells_fetched (Err (Core (Refused rule))) called is =
      elim (refused p p' (Updates k) rule called) [
        | inl full ↦ unchanged full.0 is
        | inr a ↦ record {
          more = a.0 ∷ [];
          notices = [];
          gains = a.3;
          asks = All-cons Asks a.0 [] (rw a.1 refl) (All-nil Asks);
          lines = is;
          changes = rw (a.1, a.2) refl;
          becomes = refl;
        }
      ]
