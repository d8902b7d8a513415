-- `==` of events, answers and verdicts is equality of values.
use Rattle.policy_audit.proofs
use Rattle.policy_audit.specs
use proofs.Words.{Accepted, and_from, and_parts, ap, arith, beq, Bool, booleans_Decides, eq-eqb}
use proofs.Words.{eqb-true, Event, GroupPids, List, OutFrame, Pid, pointwise, refl, Refused}
use proofs.Words.{Reply, same, same_decides, same_pid, same_pid_decides, sym, true, Update, Verdict}
use proofs.Words.{ℕ, [], ◌&&◌, ◌==◌, ◌↔◌, ◌∷◌, ◌≡◌}
use denote.Enum.Bare.{same_true, true_same}
use Rattle.std.proofs.Common.{rules}
use specs.contracts.rule.Rule.{the_type as the_rule}
use proofs.Accepted.{lie}
use specs.contracts.event.EventPartialEq.TheImpl as event_eq
use specs.contracts.reply.ReplyPartialEq.TheImpl as reply_eq
use specs.contracts.reply.GroupPidsPartialEq.TheImpl as group_pids_eq
use specs.contracts.reply.UpdatePartialEq.TheImpl as update_eq
use specs.contracts.out_frame.OutFramePartialEq.TheImpl as out_frame_eq
use specs.contracts.entry.VerdictPartialEq.TheImpl as verdict_eq

-- lists of things that are the same are the same
exact_list : {A : Type 0} (alike : A → A → Bool) → ((a b : A) → alike a b ≡ true → a ≡ b)
    → (xs ys : List A) → pointwise alike xs ys ≡ true → xs ≡ ys
exact_list alike exact [] [] q = refl
exact_list alike exact (x ∷ xs) (y ∷ ys) q = grind (arith, exact x y, exact_list alike exact xs ys)
exact_list alike exact xs ys q = lie (sym q)

text : (a b : List ℕ) → same a b ≡ true → a ≡ b
text a b q = (same_decides a b).0 q

texts : (a b : List (List ℕ)) → pointwise same a b ≡ true → a ≡ b
texts = exact_list same text

exact_pid : (p q : Pid) → same_pid p q ≡ true → p ≡ q
exact_pid p q e = (same_pid_decides p q).0 e

pids : (a b : List Pid) → pointwise same_pid a b ≡ true → a ≡ b
pids = exact_list same_pid exact_pid

and_three : (a b c : Bool) → (a && (b && c)) ≡ true → (a ≡ true) × (b ≡ true) × (c ≡ true)
and_three a b c q = grind arith

bools : (a b : Bool) → beq a b ≡ true → a ≡ b
bools a b q = (booleans_Decides a b).0 q

exact_event : (a b : Event) → event_eq.ghosts.eq a b ≡ true → a ≡ b
exact_event Event.Restart Event.Restart q = refl
exact_event (Event.SetCookie a) (Event.SetCookie b) q = ap Event.SetCookie (text a b q)
exact_event (Event.SetCookieFor a c) (Event.SetCookieFor b d) q =
    grind (arith, text a b, text c d)
exact_event (Event.Allow a) (Event.Allow b) q = ap Event.Allow (texts a b q)
exact_event (Event.StartScope a) (Event.StartScope b) q = ap Event.StartScope (text a b q)
exact_event (Event.StopScope a) (Event.StopScope b) q = ap Event.StopScope (text a b q)
exact_event Event.Spawn Event.Spawn q = refl
exact_event (Event.Exit a) (Event.Exit b) q = ap Event.Exit (exact_pid a b q)
exact_event (Event.Join a c x) (Event.Join b d y) q =
    grind (arith, text a b, text c d, pids x y)
exact_event (Event.Leave a c x) (Event.Leave b d y) q =
    grind (arith, text a b, text c d, pids x y)
exact_event (Event.Members a c) (Event.Members b d) q =
    grind (arith, text a b, text c d)
exact_event (Event.LocalMembers a c) (Event.LocalMembers b d) q =
    grind (arith, text a b, text c d)
exact_event (Event.Groups a) (Event.Groups b) q = ap Event.Groups (text a b q)
exact_event (Event.LocalGroups a) (Event.LocalGroups b) q = ap Event.LocalGroups (text a b q)
exact_event (Event.Monitor a c) (Event.Monitor b d) q =
    grind (arith, text a b, text c d)
exact_event (Event.MonitorScope a) (Event.MonitorScope b) q = ap Event.MonitorScope (text a b q)
exact_event (Event.Demonitor a) (Event.Demonitor b) q = ap Event.Demonitor (eqb-true a b q)
exact_event (Event.Updates a) (Event.Updates b) q = ap Event.Updates (eqb-true a b q)
exact_event (Event.Dial a c) (Event.Dial b d) q =
    grind (arith, text a b, eqb-true c d)
exact_event (Event.Opened a) (Event.Opened b) q = ap Event.Opened (eqb-true a b q)
exact_event (Event.Lost a) (Event.Lost b) q = ap Event.Lost (eqb-true a b q)
exact_event (Event.Take a) (Event.Take b) q = ap Event.Take (eqb-true a b q)
exact_event (Event.Disconnect a) (Event.Disconnect b) q = ap Event.Disconnect (text a b q)
exact_event (Event.Frame a c) (Event.Frame b d) q =
    grind (arith, eqb-true a b, text c d)
exact_event a b q = lie (sym q)

exact_group : (a b : GroupPids) → group_pids_eq.ghosts.eq a b ≡ true → a ≡ b
exact_group a b q =
    (let both = and_parts _ _ q in
    λ i. record { group = text a.group b.group both.0 i; pids = pids a.pids b.pids both.1 i })

exact_update : (a b : Update) → update_eq.ghosts.eq a b ≡ true → a ≡ b
exact_update a b q =
    (let all = and_three (same a.group b.group) (beq a.leave b.leave)
    (pointwise same_pid a.pids b.pids) q in
    λ i. record {
      group = text a.group b.group all.0 i;
      leave = bools a.leave b.leave all.1 i;
      pids = pids a.pids b.pids all.2 i;
    })

exact_frame : (a b : OutFrame) → out_frame_eq.ghosts.eq a b ≡ true → a ≡ b
exact_frame a b q = (let both = and_parts _ _ q in
    λ i. record { wide = bools a.wide b.wide both.0 i; body = text a.body b.body both.1 i })

exact_reply : (a b : Reply) → reply_eq.ghosts.eq a b ≡ true → a ≡ b
exact_reply Reply.Done Reply.Done q = refl
exact_reply (Reply.Pid p) (Reply.Pid r) q = ap Reply.Pid (exact_pid p r q)
exact_reply (Reply.Link k) (Reply.Link l) q = ap Reply.Link (eqb-true k l q)
exact_reply (Reply.Up n c v) (Reply.Up m d w) q =
    grind (arith, text n m, eqb-true c d, bools v w)
exact_reply (Reply.Pids ps) (Reply.Pids qs) q = ap Reply.Pids (pids ps qs q)
exact_reply (Reply.Groups gs) (Reply.Groups hs) q = ap Reply.Groups (texts gs hs q)
exact_reply (Reply.Ref k ps) (Reply.Ref l qs) q =
    grind (arith, eqb-true k l, pids ps qs)
exact_reply (Reply.ScopeRef k gs) (Reply.ScopeRef l hs) q =
    grind (arith, eqb-true k l, exact_list group_pids_eq.ghosts.eq exact_group gs hs)
exact_reply (Reply.Updates us) (Reply.Updates vs) q =
    ap Reply.Updates (exact_list update_eq.ghosts.eq exact_update us vs q)
exact_reply (Reply.Out fs) (Reply.Out gs) q =
    ap Reply.Out (exact_list out_frame_eq.ghosts.eq exact_frame fs gs q)
exact_reply a b q = lie (sym q)

exact_verdict : (a b : Verdict) → verdict_eq.ghosts.eq a b ≡ true → a ≡ b
exact_verdict (Accepted r) (Accepted s) q = ap Accepted (exact_reply r s q)
exact_verdict (Refused r) (Refused s) q = ap Refused (same_true the_rule (search rules) r s q)
exact_verdict a b q = lie (sym q)

-- ---- what is the same is found equal

itself : (a : List ℕ) → same a a ≡ true
itself a = (same_decides a a).1 refl

list_itself : {A : Type 0} (alike : A → A → Bool) → ((a : A) → alike a a ≡ true) → (xs : List A)
    → pointwise alike xs xs ≡ true
list_itself alike each [] = refl
list_itself alike each (x ∷ xs) = grind (arith, each x, list_itself alike each xs)

texts_itself : (ns : List (List ℕ)) → pointwise same ns ns ≡ true
texts_itself = list_itself same itself

pid_itself : (p : Pid) → same_pid p p ≡ true
pid_itself p = (same_pid_decides p p).1 refl

pids_itself : (ps : List Pid) → pointwise same_pid ps ps ≡ true
pids_itself = list_itself same_pid pid_itself

number_itself : (n : ℕ) → (n == n) ≡ true
number_itself n = eq-eqb n n refl

bool_itself : (b : Bool) → beq b b ≡ true
bool_itself b = (booleans_Decides b b).1 refl

ruleset itselves = (
  and_from,
  itself,
  pid_itself,
  number_itself,
  bool_itself,
  texts_itself,
  pids_itself,
)

event_itself : (a : Event) → event_eq.ghosts.eq a a ≡ true
event_itself Event.Restart = refl
event_itself a = search itselves

group_itself : (a : GroupPids) → group_pids_eq.ghosts.eq a a ≡ true
group_itself a = search itselves

update_itself : (a : Update) → update_eq.ghosts.eq a a ≡ true
update_itself a = search itselves

frame_itself : (a : OutFrame) → out_frame_eq.ghosts.eq a a ≡ true
frame_itself a = search itselves

reply_itself : (a : Reply) → reply_eq.ghosts.eq a a ≡ true
reply_itself Reply.Done = refl
reply_itself (Reply.ScopeRef n gs) =
    grind (arith, number_itself, list_itself group_pids_eq.ghosts.eq group_itself gs)
reply_itself (Reply.Updates us) = list_itself update_eq.ghosts.eq update_itself us
reply_itself (Reply.Out fs) = list_itself out_frame_eq.ghosts.eq frame_itself fs
reply_itself a = search itselves

verdict_itself : (a : Verdict) → verdict_eq.ghosts.eq a a ≡ true
verdict_itself (Accepted r) = reply_itself r
verdict_itself (Refused r) = true_same the_rule r r refl

-- ---- both ways

pub events_equal : (a b : Event) → (event_eq.ghosts.eq a b ≡ true) ↔ (a ≡ b)
events_equal a b = grind (arith, exact_event, event_itself)

pub replies_equal : (a b : Reply) → (reply_eq.ghosts.eq a b ≡ true) ↔ (a ≡ b)
replies_equal a b = grind (arith, exact_reply, reply_itself)

pub verdicts_equal : (a b : Verdict) → (verdict_eq.ghosts.eq a b ≡ true) ↔ (a ≡ b)
verdicts_equal a b = grind (arith, exact_verdict, verdict_itself)
