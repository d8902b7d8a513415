-- What a step answers and leaves, as the transcript has it, and a text in whose steps memory never
-- lacks.
use Rattle.pg_script.specs
use Rattle.std.proofs.Common.{ap, Bool, cond, Err, false, List, Ok, OnOk, refl, Result, sym, true}
use Rattle.std.proofs.Common.{ℕ, [], ◌++◌, ◌+◌, ◌∷◌, ◌≡◌}
use Rattle.policy_audit.specs.declared.event.Event.{Event}
use Rattle.policy_audit.specs.declared.reply.Reply.{Reply}
use Rattle.policy_audit.specs.History.{History}
use Rattle.node_core.specs.declared.fault.CoreFault.{CoreFault}
use Rattle.node_core.specs.Step.{IsStepped}
use specs.Playing.{opened_with, Playing}
use Rattle.pg_text.specs.Answers.{fault_line, step_line, verdict_line}
use specs.Transcript.{answer_to, is_fault, left_by, line_left, line_text, text, text_by}
use Rattle.std.specs.List.{list_any}
use Rattle.policy_audit.specs.declared.opening.Opening.{Opening}
use Rattle.pg_text.specs.Lines.{lines_of}
use Rattle.node_core.specs.declared.fault.CoreFault.TheVariants as faults
use Rattle.pg_text.specs.declared.command.Command.TheVariants as command

-- the same seat asks a node that has seen this, and has handed out so many entries
abbrev pub seated : ℕ → ℕ → History → Playing
seated seat forgotten h = record { history = h; seat = seat; forgotten = forgotten }

-- what a step answers is the policy's line, or that memory lacked
pub stepped_line : (h : History) (seat n : ℕ) (e : Event) (new : History)
    (r : Result Reply CoreFault) → IsStepped h seat e new r
    → (lacks : Bool) × (step_line r ≡ answer_to lacks (seated seat n h) (command.Step e))
    × (seated seat n new ≡ left_by lacks (seated seat n h) (command.Step e))
unfolding IsStepped
stepped_line h seat n e new (Ok reply) is =
    (false, ap verdict_line (sym is.0), ap (seated seat n) is.1)
stepped_line h seat n e new (Err (faults.Refused rule)) is =
    (false, ap verdict_line (sym is.0), ap (seated seat n) is.1)
stepped_line h seat n e new (Err faults.OutOfMemory) is =
    (true, rw is.0 refl, rw is.0 (ap (seated seat n) is.1))

-- what follows where a call succeeded
pub on_ok : {T E : Type 0} (r : Result T E) {P Q : Type 0} → (P → Q) → OnOk r P → OnOk r Q
on_ok (Ok x) f p = f p
on_ok (Err e) f p = tt

-- the text of lines in whose steps memory lacks so
abbrev lines_text : List Bool → Playing → ℕ → List (List ℕ) → List ℕ
lines_text lacking p k lines = text_by false line_text line_left lacking p k lines

unlacking : (lines : List (List ℕ)) (lacking : List Bool) (h : Playing) (k : ℕ)
    → list_any (λ lacks. lacks) lacking ≡ false
    → lines_text lacking h k lines ≡ lines_text [] h k lines
unlacking [] lacking h k never = refl
unlacking (line ∷ lines) [] h k never = refl
unlacking (line ∷ lines) (true ∷ others) h k never = absurd (cc)
unlacking (line ∷ lines) (false ∷ others) h k never =
    ap (λ (t : List ℕ). cond (is_fault line) (fault_line k) (line_text false h line ++ t))
    (unlacking lines others (line_left false h line) (k + 1) never)

pub text-unlacking : (lacking : List Bool) (o : Opening) (script : List ℕ)
    → list_any (λ lacks. lacks) lacking ≡ false → text lacking o script ≡ text [] o script
text-unlacking lacking o script never = unlacking (lines_of script) lacking (opened_with o) 1 never
