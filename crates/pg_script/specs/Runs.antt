-- How a run of a script ends, and what it has written by then.
use Rattle.std.specs.Prelude.{◌≡◌, ℕ, Bool, List, ◌++◌, Option, Some, None, Ok, Err}
use Rattle.std.specs.declared.result.Result.{Result}
use Rattle.std.specs.Io.KnownBytes.{Appends}
use Rattle.policy_audit.specs.declared.opening.Opening.{Opening}
use Rattle.pg_script.specs.declared.script.RunFault.{RunFault}
use Rattle.pg_script.specs.declared.script.RunFault.TheVariants as faults
use Rattle.pg_script.specs.declared.keeping.KeepFault.{KeepFault}
use Rattle.pg_script.specs.declared.keeping.KeepFault.TheVariants as keep_faults
use Rattle.pg_script.specs.Transcript.{text, kept_text, Met, fault_in}

-- the whole text is written, as lines were met so
pub record Writes {M : Type 0} (text : List M → List ℕ) (old new : Option (List ℕ)) : Type 0 where
  pub met : List M
  pub appended : Appends old new (text met)

-- a part of the text is written, from its beginning
pub record Begins {M : Type 0} (text : List M → List ℕ) (old new : Option (List ℕ)) : Type 0 where
  pub met : List M
  pub written : List ℕ
  pub unwritten : List ℕ
  pub parts : text met ≡ written ++ unwritten
  pub appended : Appends old new written

-- how a run of a script ends whose text is this
abbrev pub Ends : {M U : Type 0} → (List M → List ℕ) → List ℕ → Option (List ℕ) → Option (List ℕ)
    → Result U RunFault → Type 0
Ends text script old new (Ok u) = (fault_in script ≡ None) × Writes text old new
Ends text script old new (Err (faults.Script k)) = (fault_in script ≡ Some k) × Writes text old new
Ends text script old new (Err faults.BadOpening) = ⊥
Ends text script old new (Err faults.Read) = Begins text old new
Ends text script old new (Err faults.Memory) = Begins text old new
Ends text script old new (Err faults.Write) = Begins text old new

-- how a run of a script ends, for some lack of memory in steps
abbrev pub RunsAs : {U : Type 0} → Opening → List ℕ → Option (List ℕ) → Option (List ℕ)
    → Result U RunFault → Type 0
RunsAs o script old new result = Ends (λ (lacking : List Bool). text lacking o script) script old
    new result

-- the same on a node that forgets, for some entries that were handed out: never one of the newest,
-- as many as are to be kept
abbrev pub KeepsAs : {U : Type 0} → ℕ → Opening → List ℕ → Option (List ℕ) → Option (List ℕ)
    → Result U KeepFault → Type 0
KeepsAs keep o script old new (Ok u) = Ends (λ (met : List Met). kept_text keep met o script) script
    old new (Ok u)
KeepsAs {U} keep o script old new (Err (keep_faults.Run fault)) =
    Ends {U = U} (λ (met : List Met). kept_text keep met o script) script old new (Err fault)
KeepsAs keep o script old new (Err keep_faults.Archive) =
    Begins (λ (met : List Met). kept_text keep met o script) old new
