-- Whom a long body goes to, by what it begins with.
use Rattle.std.specs.Prelude.{◌≡◌, ◌≢◌, ◌⊎◌, ℕ, List, ◌∷◌, ◌++◌, All, codes}
use Rattle.dist_types.specs.declared.pid.Pid.{Pid}
use Rattle.external_terms.specs.Values.{atom_bytes}
use Rattle.otp_edge.specs.Bodies.{IsControl, pass_through, version}
use Rattle.otp_edge.specs.Opens.{IsOtherProcess, RunsNowhere}
use Rattle.otp_edge.specs.Processes.{IsPid, pid_bytes}
use Rattle.otp_edge.specs.declared.edge_state.Edge.{Edge}

-- it begins with a control message of that operation, as far as its second term
pub record BeginsWith (operation : ℕ) (second rest begin : List ℕ) : Type 0 where
  pub arity : ℕ
  pub first : List ℕ
  pub control : List ℕ
  pub is_control : IsControl arity operation first second rest control
  pub bytes : begin ≡ pass_through ∷ version ∷ control

-- the term is a process, and that of no scope here
pub record IsOtherTo (edge : Edge) (term : List ℕ) : Type 0 where
  pub to : Pid
  pub behind : List ℕ
  pub is_pid : IsPid to
  pub bytes : term ≡ pid_bytes to ++ behind
  pub other : All (IsOtherProcess to) edge.scopes.items

-- questions to that name are left alone
abbrev pub IsUnanswered : List ℕ → Type 0
IsUnanswered name = (name ≢ codes "net_kernel") × (name ≢ codes "global_name_server")

-- the first term is the name of no scope here, and isn't answered
pub record IsOtherName (edge : Edge) (terms : List ℕ) : Type 0 where
  pub name : List ℕ
  pub behind : List ℕ
  pub bytes : terms ≡ atom_bytes name ++ behind
  pub nowhere : RunsNowhere name edge.scopes.items
  pub unanswered : IsUnanswered name

-- the body goes to nobody here: it is a SEND or a SEND_SENDER to another process, or a REG_SEND to
-- another name
pub data GoesPast (edge : Edge) (begin : List ℕ) : Type 0 where
  to_process : (operation : ℕ) (second rest : List ℕ) → (operation ≡ 2) ⊎ (operation ≡ 22)
      → BeginsWith operation second rest begin → IsOtherTo edge second → GoesPast edge begin
  to_name : (second rest : List ℕ) → BeginsWith 6 second rest begin → IsOtherName edge rest
      → GoesPast edge begin
