-- What a call adds to the calls of a connection.
use Rattle.pg_session.specs
use Rattle.std.proofs.Common.{ap, arith, Bool, cond, Err, false, IfSome, inl, inr, List, None, Ok}
use Rattle.std.proofs.Common.{OnErr, OnOk, Option, option_to_list, refl, Result, Some, subst, sym}
use Rattle.std.proofs.Common.{true, ℕ}
use Rattle.std.proofs.Common.{[], ◌&&◌, ◌++◌, ◌||◌, ◌∙◌, ◌∷◌, ◌≡◌, ◌⊎◌}
use Rattle.std.specs.List.{All, list_all}
use Rattle.std.proofs.lemmas.List.Elements.{All-append, All-cons, All-nil, All-weaker}
use Rattle.std.proofs.lemmas.List.Folds.{list_any-append}
use Rattle.std.proofs.lemmas.Grind.{flat_map-append}
use Rattle.dist_types.specs.declared.pid.Pid.{Pid}
use Rattle.dist_types.specs.Listing.{same_pid}
use Rattle.dist_types.proofs.Orders.{same_pid_decides}
use Rattle.policy_audit.specs.declared.event.Event.{Event}
use Rattle.policy_audit.specs.declared.event.Event.TheVariants.{Demonitor, Exit}
use Rattle.policy_audit.specs.declared.reply.Reply.{Reply}
use Rattle.node_core.specs.declared.fault.CoreFault.TheVariants.{OutOfMemory, Refused}
use Rattle.node_threads.specs.declared.fault.CallFault.{CallFault}
use Rattle.node_threads.specs.declared.fault.CallFault.TheVariants.{Core, StrangePass}
use Rattle.node_threads.specs.declared.pass.Call.{Call}
use Rattle.node_threads.specs.Applied.{Called}
use Rattle.node_threads.specs.Calls.{Record}
use Rattle.node_threads.proofs.Answered.{accepted, gains_more, gains_none, refused, strange}
use Rattle.node_threads.proofs.Answered.{unheard}
use Rattle.pg_text.specs.Asked.{moved_pids}
use specs.declared.caller.Outcome.{Outcome}
use specs.Asked.{ends, is_call, is_end, is_fetch, is_made}
use specs.Kinds.{stake_by, watches_after}
use specs.Processes.{exited_by, has, made_in, moves_only, OwnAfter, spawned}
use specs.Answers.{Answers}
use specs.Calls.{AreConnections, call_line, GoesOn, GoesOnBy, IsCalled, IsSeat, LeavesMonitor}
use specs.Calls.{may_call, Seat}
use specs.Outcomes.{CameFrom, IsOutcome, Kept, lack_of}
use specs.declared.caller.Lack.{Lack}
use Rattle.policy_audit.specs.declared.reply.Reply.TheVariants as replies
use specs.declared.caller.Outcome.TheVariants as outcomes
use specs.declared.request.Request.TheVariants as requests

pub on_ok : {T E A B : Type 0} (r : Result T E) → (A → B) → OnOk r A → OnOk r B
on_ok (Ok x) then holds = then holds
on_ok (Err e) then holds = tt

pub on_err : {T E A : Type 0} (r : Result T E) → A → OnErr r A
on_err (Ok x) holds = tt
on_err (Err e) holds = holds

or_true : (b : Bool) → (b || true) ≡ true
or_true true = refl
or_true false = refl

same_itself : (p : Pid) → same_pid p p ≡ true
same_itself p = grind (arith, same_pid_decides p p)

-- ---- more processes

module _ (own own' : List Pid) (more : (p : Pid) → has own p ≡ true → has own' p ≡ true) where
  has_all : (ps : List Pid) → list_all (has own) ps ≡ true → list_all (has own') ps ≡ true
  has_all [] all = refl
  has_all (p ∷ ps) all = by (has own p) refl all (has_all ps)
    where
      by : (b : Bool) → has own p ≡ b → (b && list_all (has own) ps) ≡ true
          → (list_all (has own) ps ≡ true → list_all (has own') ps ≡ true)
          → (has own' p && list_all (has own') ps) ≡ true
      by true is all others = rw (more p is) (others all)
      by false is all others = cc

  -- who may call that with fewer processes may with more
  pub may_still : (e : Event) → may_call own e ≡ true → may_call own' e ≡ true
  may_still e may = by (is_made e) refl may
    where
      by : (b : Bool) → is_made e ≡ b → (b && moves_only own e) ≡ true
          → (is_made e && moves_only own' e) ≡ true
      by true is may = rw is (has_all (moved_pids e) may)
      by false is may = cc

-- who may call that by a line, and has these processes, may call it with more
pub may_own : (own all : List Pid) (e : Event) → ((p : Pid) → has own p ≡ true → has all p ≡ true)
    → is_call e ≡ true → moves_only own e ≡ true → may_call all e ≡ true
may_own own all e more call moves = may_still own all more e (rw (call, moves) (by (is_fetch e)))
  where
    by : (b : Bool) → ((b || true) && true) ≡ true
    by true = refl
    by false = refl

pub may_exit : (all : List Pid) (p : Pid) → has all p ≡ true → may_call all (Exit p) ≡ true
may_exit all p is = rw is refl

-- the last of some processes is one of them
pub has_last : (ps qs : List Pid) (r : Option Pid) → ps ≡ qs ++ option_to_list r
    → IfSome r (λ p. has ps p ≡ true)
has_last ps qs None is = tt
has_last ps qs (Some p) is = rw (is, list_any-append (same_pid p) qs (p ∷ []), same_itself p)
    (or_true (has qs p))

-- ---- more calls

pub spawned_still : (p p' : Record) → GoesOn p p' → (q : Pid) → has (spawned p.calls) q ≡ true
    → has (spawned p'.calls) q ≡ true
spawned_still p p' on q is =
    rw (
      on.1,
      flat_map-append (λ (c : Call). made_in c.verdict) p.calls on.0,
      list_any-append (same_pid q) (spawned p.calls) (spawned on.0),
      is,
    ) refl

pub may_go_on : (p p' : Record) (e : Event) → GoesOn p p' → may_call (spawned p.calls) e ≡ true
    → may_call (spawned p'.calls) e ≡ true
may_go_on p p' e on may = may_still (spawned p.calls) (spawned p'.calls) (spawned_still p p' on) e
    may

abbrev pub goes_none : (p p' : Record) → p' ≡ p → GoesOn p p'
goes_none p p' same = ([], gains_none p p' same)

-- ---- a call

module _ (p p' : Record) (e : Event) where
  -- it adds calls of its event alone
  gained : (answer : Result Reply CallFault) → Called p e answer p'
      → (on : GoesOn p p') × All (λ (c : Call). c.event ≡ e) on.0
  gained (Ok reply) called =
      let a = accepted p p' e reply called in (
        (a.0 ∷ [], a.3),
        All-cons (λ (c : Call). c.event ≡ e) a.0 [] a.1 (All-nil (λ (c : Call). c.event ≡ e)),
      )
  gained (Err StrangePass) called =
      (goes_none p p' (strange p p' e called), All-nil (λ (c : Call). c.event ≡ e))
  gained (Err (Core OutOfMemory)) called =
      (goes_none p p' (unheard p p' e called), All-nil (λ (c : Call). c.event ≡ e))
  gained (Err (Core (Refused rule))) called = elim (refused p p' e rule called) [
    | inl full ↦ (goes_none p p' full.0, All-nil (λ (c : Call). c.event ≡ e))
    | inr a ↦ (
      (a.0 ∷ [], a.3),
      All-cons (λ (c : Call). c.event ≡ e) a.0 [] a.1 (All-nil (λ (c : Call). c.event ≡ e)),
    )
  ]

  pub called_on : IsCalled p e p' → GoesOn p p'
  called_on called = (gained called.0 called.1).0

  -- a connection that may call it goes on
  pub called_connections : AreConnections p.calls → may_call (spawned p.calls) e ≡ true
      → IsCalled p e p' → AreConnections p'.calls
  called_connections are may called =
      let g = gained called.0 called.1 in
      let May : Call → Type 0 = λ c. may_call (spawned p'.calls) c.event ≡ true in
      subst (All May) (sym (ap (λ (r : Record). r.calls) g.0.1)) (All-append May p.calls g.0.0
      (All-weaker (λ (c : Call). may_call (spawned p.calls) c.event ≡ true) May
      (λ c is. may_go_on p p' c.event g.0 is) p.calls are)
      (All-weaker (λ (c : Call). c.event ≡ e) May (λ c is. rw is (may_go_on p p' e g.0 may)) g.0.0
      g.1))

  -- a process that it was answered was spawned
  spawned_now : (q : Pid) → Called p e (Ok (replies.Pid q)) p' → has (spawned p'.calls) q ≡ true
  spawned_now q called =
      let a = accepted p p' e (replies.Pid q) called in
      rw (
        a.3,
        flat_map-append (λ (c : Call). made_in c.verdict) p.calls (a.0 ∷ []),
        list_any-append (same_pid q) (spawned p.calls) (spawned (a.0 ∷ [])),
        a.2,
        same_itself q,
      ) (or_true (has (spawned p.calls) q))

  pub came_still : (o : Outcome) → GoesOn p p' → CameFrom (spawned p.calls) o
      → CameFrom (spawned p'.calls) o
  came_still (outcomes.Process q) on came = spawned_still p p' on q came
  came_still (outcomes.Refused lack) on came = tt
  came_still outcomes.Done on came = tt
  came_still (outcomes.Monitor n) on came = tt

  pub came_now : (answer : Result Reply CallFault) (o : Outcome) → Called p e answer p'
      → IsOutcome answer o → CameFrom (spawned p'.calls) o
  came_now (Err fault) o called is = subst (CameFrom (spawned p'.calls)) (sym is) tt
  came_now (Ok (replies.Pid q)) o called is = subst (CameFrom (spawned p'.calls)) (sym is)
      (spawned_now q called)
  came_now (Ok (replies.Ref n ps)) o called is = subst (CameFrom (spawned p'.calls)) (sym is) tt
  came_now (Ok (replies.ScopeRef n gs)) o called is = subst (CameFrom (spawned p'.calls)) (sym is)
      tt
  came_now (Ok r) o called is = subst (CameFrom (spawned p'.calls)) (sym is) tt

  pub came_after : (answer : Result Reply CallFault) (o o' : Outcome) → Called p e answer p'
      → IsOutcome answer o' ⊎ (o' ≡ o) → CameFrom (spawned p.calls) o
      → CameFrom (spawned p'.calls) o'
  came_after answer o o' called (inl is) came = came_now answer o' called is
  came_after answer o o' called (inr same) came = subst (CameFrom (spawned p'.calls)) (sym same)
      (came_still o (called_on (answer, called)) came)

-- ---- calls of some events alone

abbrev Passes : (Event → Bool) → Call → Type 0
Passes test c = test c.event ≡ true

module _ (test : Event → Bool) where
  pub by_none : (p p' : Record) → p' ≡ p → GoesOnBy test p p'
  by_none p p' same =
      record { more = []; gains = gains_none p p' same; only = All-nil (Passes test) }

  pub by_further : (p mid p' : Record) → GoesOnBy test p mid → GoesOnBy test mid p'
      → GoesOnBy test p p'
  by_further p mid p' first then = record {
    more = first.more ++ then.more;
    gains = gains_more p mid p' first.more then.more first.gains then.gains;
    only = All-append (Passes test) first.more then.more first.only then.only;
  }

  pub by_call : (p p' : Record) (e : Event) → IsCalled p e p' ⊎ (p' ≡ p) → test e ≡ true
      → GoesOnBy test p p'
  by_call p p' e (inl called) passes = let g = gained p p' e called.0 called.1 in record {
    more = g.0.0;
    gains = g.0.1;
    only =
        All-weaker (λ (c : Call). c.event ≡ e) (Passes test)
        (λ c is. subst (λ (x : Event). test x ≡ true) (sym is) passes) g.0.0 g.1;
  }
  by_call p p' e (inr same) passes = by_none p p' same

pub ends_its_own : (n : ℕ) → ends n (Demonitor n) ≡ true
ends_its_own n = grind arith

-- who ends a monitor ends something
pub ends_something : (n : ℕ) (p p' : Record) → GoesOnBy (ends n) p p' → GoesOnBy is_end p p'
ends_something n p p' by = record {
  more = by.more;
  gains = by.gains;
  only = All-weaker (Passes (ends n)) (Passes is_end) (λ c. is_one c.event) by.more by.only;
}
  where
    is_one : (e : Event) → ends n e ≡ true → is_end e ≡ true
    is_one (Exit p) is = refl
    is_one (Demonitor k) is = refl
    is_one e is = cc

-- and so does who leaves a monitor, if there was one
pub leaves_something : (was : Bool) (seat seat' : Seat) → LeavesMonitor was seat seat'
    → GoesOnBy is_end seat.pass seat'.pass
leaves_something true seat seat' (w, ws, goes) = ends_something w.number seat.pass seat'.pass goes
leaves_something false seat seat' (none, same) = by_none is_end seat.pass seat'.pass
    (ap (λ (s : Seat). s.pass) same)

-- ---- what a connection has

pub kept_after : (answer : Result Reply CallFault) (o : Outcome) (exits : Option Pid) (own
    own' : List Pid) → IsOutcome answer o → Kept o exits own own' → OwnAfter answer exits own own'
kept_after (Err fault) o exits own own' is keeps = subst (λ r. Kept r exits own own') is keeps
kept_after (Ok (replies.Pid p)) o exits own own' is keeps = subst (λ r. Kept r exits own own') is
    keeps
kept_after (Ok replies.Done) o (Some p) own own' is keeps = subst (λ r. Kept r (Some p) own own') is
    keeps
kept_after (Ok replies.Done) o None own own' is keeps = subst (λ r. Kept r None own own') is keeps
kept_after (Ok (replies.Ref n ps)) o (Some p) own own' is keeps =
    subst (λ r. Kept r (Some p) own own') is keeps
kept_after (Ok (replies.Ref n ps)) o None own own' is keeps = subst (λ r. Kept r None own own') is
    keeps
kept_after (Ok (replies.ScopeRef n gs)) o (Some p) own own' is keeps =
    subst (λ r. Kept r (Some p) own own') is keeps
kept_after (Ok (replies.ScopeRef n gs)) o None own own' is keeps = subst (λ r. Kept r None own own')
    is keeps
kept_after (Ok r) o (Some p) own own' is keeps = subst (λ r. Kept r (Some p) own own') is keeps
kept_after (Ok r) o None own own' is keeps = subst (λ r. Kept r None own own') is keeps

-- it has spawned what it has then
pub kept_seat : (o : Outcome) (exits : Option Pid) (own own' all : List Pid) → CameFrom all o
    → Kept o exits own own' → ((q : Pid) → has own q ≡ true → has all q ≡ true) → (q : Pid)
    → has own' q ≡ true → has all q ≡ true
kept_seat (outcomes.Process p) exits own own' all came keeps were q is =
    by (same_pid p q) refl (sym (keeps q) ∙ is)
  where
    by : (b : Bool) → same_pid p q ≡ b → cond b true (has own q) ≡ true → has all q ≡ true
    by true same is = subst (λ r. has all r ≡ true) ((same_pid_decides p q).0 same) came
    by false same is = were q is
kept_seat (outcomes.Refused lack) exits own own' all came keeps were q is =
    were q (subst (λ ps. has ps q ≡ true) keeps is)
kept_seat outcomes.Done (Some p) own own' all came keeps were q is =
    by (same_pid p q) (sym (keeps q) ∙ is)
  where
    by : (b : Bool) → cond b false (has own q) ≡ true → has all q ≡ true
    by true is = cc
    by false is = were q is
kept_seat outcomes.Done None own own' all came keeps were q is =
    were q (subst (λ ps. has ps q ≡ true) keeps is)
kept_seat (outcomes.Monitor n) (Some p) own own' all came keeps were q is =
    by (same_pid p q) (sym (keeps q) ∙ is)
  where
    by : (b : Bool) → cond b false (has own q) ≡ true → has all q ≡ true
    by true is = cc
    by false is = were q is
kept_seat (outcomes.Monitor n) None own own' all came keeps were q is =
    were q (subst (λ ps. has ps q ≡ true) keeps is)

-- what the answer of a call makes of a seat that has the processes which it moves
pub answers_call : (seat seat' : Seat) (e : Event) (out out' : List ℕ) (o : Outcome)
    (lack : Option Lack) (exits : Option Pid) → exits ≡ exited_by e
    → moves_only seat.own e ≡ true
    → seat'.watches ≡ watches_after o (stake_by e) seat.watches → lack ≡ lack_of o
    → (answer : Result Reply CallFault) × Called seat.pass e answer seat'.pass
    × IsOutcome answer o × (out' ≡ out ++ call_line answer)
    → Kept o exits seat.own seat'.own
    → Answers (Some (requests.Call e)) lack seat out seat' out'
answers_call seat seat' e out out' o lack exits is moves watches lacks x keeps = inl (
  moves,
  (
    x.0,
    o,
    x.1,
    x.2,
    lacks,
    subst (λ p. OwnAfter x.0 p seat.own seat'.own) is
        (kept_after x.0 o exits seat.own seat'.own x.2 keeps),
    watches,
    x.3,
  ),
)

-- it is a seat then
pub makes_seat : (seat seat' : Seat) (e : Event) (o : Outcome) (exits : Option Pid) → IsSeat seat
    → IsCalled seat.pass e seat'.pass → CameFrom (spawned seat'.pass.calls) o
    → Kept o exits seat.own seat'.own → IsSeat seat'
makes_seat seat seat' e o exits was called came keeps =
    kept_seat o exits seat.own seat'.own (spawned seat'.pass.calls) came keeps
    (λ q is. spawned_still seat.pass seat'.pass (called_on seat.pass seat'.pass e called) q
    (was q is))

-- a seat whose pass goes on, with no other processes than it had
pub goes_seat : (test : Event → Bool) (seat seat' : Seat) → IsSeat seat
    → GoesOnBy test seat.pass seat'.pass
    → ((q : Pid) → has seat'.own q ≡ true → has seat.own q ≡ true) → IsSeat seat'
goes_seat test seat seat' was by less =
    λ q is. spawned_still seat.pass seat'.pass (by.more, by.gains) q (was q (less q is))
