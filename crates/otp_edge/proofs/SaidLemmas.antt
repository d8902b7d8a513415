-- What a message can be, by how it begins.
use Rattle.otp_edge.proofs
use Rattle.otp_edge.specs
use proofs.Words.{ap, arith, drop, Err, IsList, IsPid, length, List, Ok, Pid, pid_bytes, refl}
use proofs.Words.{Result, sym, ℕ, ◌∙◌, ◌≡◌, ◌≢◌}
use Rattle.std.specs.Prelude.{codes, get_or, IfOk}
use Rattle.external_terms.specs.Terms.{SpellsTerm}
use specs.PgMessages.{AreGroups, AreMembers, discover, Groups, groups_of, headed, IsStated, join}
use specs.PgMessages.{join_inner, leave, leave_inner, Members, members_of, PgMessage, rows_in}
use specs.PgMessages.{rows_left, rows_stated, SpellsPg, Stated, sync, sync_inner}
use specs.Meaning.{meant}
use specs.declared.fault.HearFault.{HearFault}
use specs.declared.meaning.Said.{Said}
use specs.declared.meaning.Said.TheVariants as saids

-- what holds of what is given holds of more
pub ok_so : {T E : Type 0} (r : Result T E) (P Q : T → Type 0) → IfOk r P
    → ((x : T) → P x → Q x) → IfOk r Q
ok_so (Ok x) P Q is so = so x is
ok_so (Err e) P Q is so = tt

-- other arities, and first words of other lengths, begin other bytes
other_arity : (a b : ℕ) (s t x y : List ℕ) → a ≢ b → headed a s x ≡ headed b t y → ⊥
other_arity a b s t x y other same = other (ap (λ l. get_or (drop 1 l) 0 0) same)

other_word : (a m n : ℕ) (s t x y : List ℕ) → length s ≡ m → length t ≡ n → m ≢ n
    → headed a s x ≡ headed a t y → ⊥
other_word a m n s t x y long short other same =
    other (sym long ∙ ap (λ l. get_or (drop 3 l) 0 0) same ∙ short)

pub discover_only : (bytes rest : List ℕ) (m : PgMessage) → SpellsPg bytes m
    → bytes ≡ headed 2 (codes "discover") rest
    → (p : Pid) × IsPid p × (rest ≡ pid_bytes p) × (m ≡ discover p)
discover_only bytes rest (discover p) spelled begins =
    (p, spelled.within, ap (drop 12) (sym begins ∙ spelled.bytes), refl)
discover_only bytes rest (sync p ss) spelled begins =
    absurd (other_word 2 8 9 (codes "discover") (codes "$gen_cast") rest
    (sync_inner p ss) refl refl (λ e. omega arith) (sym begins ∙ spelled.bytes))
discover_only bytes rest (join p g ms) spelled begins =
    absurd (other_arity 2 4 (codes "discover") (codes "join") rest (join_inner p g ms)
    (λ e. omega arith) (sym begins ∙ spelled.bytes))
discover_only bytes rest (leave p ms gs) spelled begins =
    absurd (other_arity 2 4 (codes "discover") (codes "leave") rest (leave_inner p ms gs)
    (λ e. omega arith) (sym begins ∙ spelled.bytes))

pub sync_only : (bytes rest : List ℕ) (m : PgMessage) → SpellsPg bytes m
    → bytes ≡ headed 2 (codes "$gen_cast") rest
    → (p : Pid) × IsPid p × ((ss : List Stated) × IsList IsStated ss × (rest ≡ sync_inner p ss)
    × (m ≡ sync p ss))
sync_only bytes rest (discover p) spelled begins =
    absurd (other_word 2 9 8 (codes "$gen_cast") (codes "discover") rest
    (pid_bytes p) refl refl (λ e. omega arith) (sym begins ∙ spelled.bytes))
sync_only bytes rest (sync p ss) spelled begins = (
  p,
  spelled.within.0,
  (ss, spelled.within.1, ap (drop 13) (sym begins ∙ spelled.bytes), refl),
)
sync_only bytes rest (join p g ms) spelled begins =
    absurd (other_arity 2 4 (codes "$gen_cast") (codes "join") rest (join_inner p g ms)
    (λ e. omega arith) (sym begins ∙ spelled.bytes))
sync_only bytes rest (leave p ms gs) spelled begins =
    absurd (other_arity 2 4 (codes "$gen_cast") (codes "leave") rest (leave_inner p ms gs)
    (λ e. omega arith) (sym begins ∙ spelled.bytes))

pub join_only : (bytes rest : List ℕ) (m : PgMessage) → SpellsPg bytes m
    → bytes ≡ headed 4 (codes "join") rest
    → (p : Pid) × IsPid p × ((g : List ℕ) × SpellsTerm g × ((ms : Members) × AreMembers ms
    × (rest ≡ join_inner p g ms) × (m ≡ join p g ms)))
join_only bytes rest (discover p) spelled begins =
    absurd (other_arity 4 2 (codes "join") (codes "discover") rest (pid_bytes p)
    (λ e. omega arith) (sym begins ∙ spelled.bytes))
join_only bytes rest (sync p ss) spelled begins =
    absurd (other_arity 4 2 (codes "join") (codes "$gen_cast") rest (sync_inner p ss)
    (λ e. omega arith) (sym begins ∙ spelled.bytes))
join_only bytes rest (join p g ms) spelled begins = (
  p,
  spelled.within.0,
  (
    g,
    spelled.within.1,
    (ms, spelled.within.2, ap (drop 8) (sym begins ∙ spelled.bytes), refl),
  ),
)
join_only bytes rest (leave p ms gs) spelled begins =
    absurd (other_word 4 4 5 (codes "join") (codes "leave") rest
    (leave_inner p ms gs) refl refl (λ e. omega arith) (sym begins ∙ spelled.bytes))

pub leave_only : (bytes rest : List ℕ) (m : PgMessage) → SpellsPg bytes m
    → bytes ≡ headed 4 (codes "leave") rest
    → (p : Pid) × IsPid p × ((ms : Members) × AreMembers ms × ((gs : Groups) × AreGroups gs
    × (rest ≡ leave_inner p ms gs) × (m ≡ leave p ms gs)))
leave_only bytes rest (discover p) spelled begins =
    absurd (other_arity 4 2 (codes "leave") (codes "discover") rest (pid_bytes p)
    (λ e. omega arith) (sym begins ∙ spelled.bytes))
leave_only bytes rest (sync p ss) spelled begins =
    absurd (other_arity 4 2 (codes "leave") (codes "$gen_cast") rest (sync_inner p ss)
    (λ e. omega arith) (sym begins ∙ spelled.bytes))
leave_only bytes rest (join p g ms) spelled begins =
    absurd (other_word 4 5 4 (codes "leave") (codes "join") rest
    (join_inner p g ms) refl refl (λ e. omega arith) (sym begins ∙ spelled.bytes))
leave_only bytes rest (leave p ms gs) spelled begins = (
  p,
  spelled.within.0,
  (
    ms,
    spelled.within.1,
    (gs, spelled.within.2, ap (drop 9) (sym begins ∙ spelled.bytes), refl),
  ),
)

-- what is read behind a first word is meant
abbrev pub IsMeant : List ℕ → Said → Type 0
IsMeant term said = (m : PgMessage) × SpellsPg term m × (said ≡ meant m)

pub discover_meant : (bytes rest : List ℕ) (r : Result Said HearFault)
    → bytes ≡ headed 2 (codes "discover") rest
    → IfOk r (λ said. (p : Pid) × IsPid p × (rest ≡ pid_bytes p) × (said ≡ saids.Discover p))
    → IfOk r (IsMeant bytes)
discover_meant bytes rest (Ok said) begins found = (
  discover found.0,
  record {
    within = found.1;
    bytes = begins ∙ ap (headed 2 (codes "discover")) found.2;
  },
  found.3,
)
discover_meant bytes rest (Err e) begins found = tt

pub sync_meant : (bytes rest : List ℕ) (r : Result Said HearFault)
    → bytes ≡ headed 2 (codes "$gen_cast") rest
    → IfOk r (λ said. (p : Pid) × IsPid p × ((ss : List Stated) × IsList IsStated ss
    × (rest ≡ sync_inner p ss) × (said ≡ saids.Sync p (rows_stated ss)))) → IfOk r (IsMeant bytes)
sync_meant bytes rest (Ok said) begins found = (
  sync found.0 found.2.0,
  record {
    within = (found.1, found.2.1);
    bytes = begins ∙ ap (headed 2 (codes "$gen_cast")) found.2.2;
  },
  found.2.3,
)
sync_meant bytes rest (Err e) begins found = tt

pub join_meant : (bytes rest : List ℕ) (r : Result Said HearFault)
    → bytes ≡ headed 4 (codes "join") rest
    → IfOk r (λ said. (p : Pid) × IsPid p × ((g : List ℕ) × SpellsTerm g × ((ms : Members)
    × AreMembers ms × (rest ≡ join_inner p g ms)
    × (said ≡ saids.Join p (rows_in g (members_of ms)))))) → IfOk r (IsMeant bytes)
join_meant bytes rest (Ok said) begins found = (
  join found.0 found.2.0 found.2.2.0,
  record {
    within = (found.1, found.2.1, found.2.2.1);
    bytes = begins ∙ ap (headed 4 (codes "join")) found.2.2.2;
  },
  found.2.2.3,
)
join_meant bytes rest (Err e) begins found = tt

pub leave_meant : (bytes rest : List ℕ) (r : Result Said HearFault)
    → bytes ≡ headed 4 (codes "leave") rest
    → IfOk r (λ said. (p : Pid) × IsPid p × ((ms : Members) × AreMembers ms × ((gs : Groups)
    × AreGroups gs × (rest ≡ leave_inner p ms gs)
    × (said ≡ saids.Leave p (rows_left (members_of ms) (groups_of gs))))))
    → IfOk r (IsMeant bytes)
leave_meant bytes rest (Ok said) begins found = (
  leave found.0 found.2.0 found.2.2.0,
  record {
    within = (found.1, found.2.1, found.2.2.1);
    bytes = begins ∙ ap (headed 4 (codes "leave")) found.2.2.2;
  },
  found.2.2.3,
)
leave_meant bytes rest (Err e) begins found = tt

-- bytes that begin like none of the four messages
abbrev pub NeverHeaded : List ℕ → ℕ → List ℕ → Type 0
NeverHeaded bytes arity word = (rest : List ℕ) → bytes ≡ headed arity word rest → ⊥

pub no_message : (bytes : List ℕ) (m : PgMessage) → SpellsPg bytes m
    → NeverHeaded bytes 2 (codes "discover") → NeverHeaded bytes 2 (codes "$gen_cast")
    → NeverHeaded bytes 4 (codes "join") → NeverHeaded bytes 4 (codes "leave") → ⊥
no_message bytes (discover p) spelled no_discover no_sync no_join no_leave =
    no_discover (pid_bytes p) spelled.bytes
no_message bytes (sync p ss) spelled no_discover no_sync no_join no_leave =
    no_sync (sync_inner p ss) spelled.bytes
no_message bytes (join p g ms) spelled no_discover no_sync no_join no_leave =
    no_join (join_inner p g ms) spelled.bytes
no_message bytes (leave p ms gs) spelled no_discover no_sync no_join no_leave =
    no_leave (leave_inner p ms gs) spelled.bytes
