-- How many entries are handed out, and a run of which not all could be kept.
use Rattle.pg_script.specs
use Rattle.std.proofs.Common.{ap, append-nil, arith, Err, IfSome, List, None, Ok, Option, Some, sym}
use Rattle.std.proofs.Common.{ℕ, [], ◌+◌, ◌-◌, ◌∙◌, ◌≡◌, ◌≤◌}
use Rattle.std.specs.Prelude.{IfNone, max, min}
use Rattle.policy_audit.specs.declared.entry.Entry.{Entry}
use Rattle.policy_audit.specs.History.{entered}
use Rattle.policy_audit.specs.Pages.{page_size}
use Rattle.node_core.specs.Recorded.{Recorded}
use specs.Playing.{forgotten_to, Playing}
use Rattle.pg_script.proofs.StepLemmas.{seated}
use Rattle.std.specs.declared.result.Result.{Result}
use Rattle.policy_audit.specs.declared.opening.Opening.{Opening}
use specs.declared.script.RunFault.{RunFault}
use specs.declared.keeping.KeepFault.{KeepFault}
use specs.Transcript.{kept_text, Met}
use specs.Runs.{Begins, Ends, KeepsAs, Writes}
use specs.declared.script.RunFault.TheVariants as faults
use specs.declared.keeping.KeepFault.TheVariants as keep_faults

-- a whole text is a beginning of it
whole_begins : {M : Type 0} (text : List M → List ℕ) (old new : Option (List ℕ))
    → Writes text old new → Begins text old new
whole_begins text old new w = record {
  met = w.met;
  written = text w.met;
  unwritten = [];
  parts = sym (append-nil (text w.met));
  appended = w.appended;
}

-- however a run ends, a beginning was written
ends_begin : {M U : Type 0} (text : List M → List ℕ) (script : List ℕ) (old new : Option (List ℕ))
    (r : Result U RunFault) → Ends text script old new r → Begins text old new
ends_begin text script old new (Ok u) e = whole_begins text old new e.1
ends_begin text script old new (Err (faults.Script k)) e = whole_begins text old new e.1
ends_begin text script old new (Err faults.BadOpening) e = absurd e
ends_begin text script old new (Err faults.Read) e = e
ends_begin text script old new (Err faults.Memory) e = e
ends_begin text script old new (Err faults.Write) e = e

pub keeps_begin : {U : Type 0} (keep : ℕ) (o : Opening) (script : List ℕ)
    (old new : Option (List ℕ)) (r : Result U KeepFault) → KeepsAs keep o script old new r
    → Begins (λ (met : List Met). kept_text keep met o script) old new
keeps_begin {U} keep o script old new (Ok u) e =
    ends_begin {U = U} (λ (met : List Met). kept_text keep met o script) script old new (Ok u) e
keeps_begin {U} keep o script old new (Err (keep_faults.Run f)) e =
    ends_begin {U = U} (λ (met : List Met). kept_text keep met o script) script old new (Err f) e
keeps_begin keep o script old new (Err keep_faults.Archive) e = e

-- so many entries are handed out, which leave those that are to be kept
handed_out : (keep n : ℕ) (p : Playing) → p.forgotten ≤ n → n + keep ≤ entered p.history.entries
    → seated p.seat n p.history ≡ forgotten_to keep n p
handed_out keep n p before room =
    let is : n ≡ max p.forgotten (min n (entered p.history.entries - keep)) = omega arith in
    ap (λ (m : ℕ). seated p.seat m p.history) is

-- none is
kept_back : (keep : ℕ) (p : Playing) → p ≡ forgotten_to keep 0 p
kept_back keep p =
    let is : p.forgotten ≡ max p.forgotten (min 0 (entered p.history.entries - keep)) = omega arith
    in ap (λ (m : ℕ). seated p.seat m p.history) is

-- what is left of a node that hands out a page, or none
pub left_is : (X : List Entry → Type 0) (Y : Type 0) (keep seat : ℕ) (old new : Recorded)
    (r : Option (List Entry)) → new.history ≡ old.history
    → IfSome r (λ page. X page × (new.forgotten ≡ old.forgotten + page_size))
    → IfNone r ((new ≡ old) × Y)
    → old.forgotten + page_size + keep ≤ entered old.history.entries
    → (handed : ℕ) × (seated seat new.forgotten new.history
    ≡ forgotten_to keep handed (seated seat old.forgotten old.history))
left_is X Y keep seat old new (Some page) same p none room = (
  old.forgotten + page_size,
  ap (seated seat new.forgotten) same
      ∙ ap (λ (n : ℕ). seated seat n old.history) p.1
      ∙ handed_out keep (old.forgotten + page_size) (seated seat old.forgotten old.history)
      (omega arith) room,
)
left_is X Y keep seat old new None same p none room = (
  0,
  ap (λ (node : Recorded). seated seat node.forgotten node.history) none.0
      ∙ kept_back keep (seated seat old.forgotten old.history),
)
