-- The text that a script is answered.
use Rattle.std.specs.Prelude.{ℕ, ◌+◌, Bool, false, cond, List, [], ◌∷◌, ◌++◌, Option, Some, None}
use Rattle.std.specs.Prelude.{is_none, not, ◌&&◌}
use Rattle.policy_audit.specs.declared.opening.Opening.{Opening}
use Rattle.policy_audit.specs.History.{History, audited, entered}
use Rattle.policy_audit.specs.Policy.{verdict, after, is_full}
use Rattle.pg_text.specs.declared.command.Command.{Command}
use Rattle.pg_text.specs.declared.command.Command.TheVariants as command
use Rattle.pg_script.specs.Playing.{Playing, opened_with, forgotten_to}
use Rattle.pg_text.specs.Lines.{lines_of, is_quiet}
use Rattle.pg_text.specs.Commands.{said_by}
use Rattle.pg_text.specs.Answers.{verdict_line, memory_line, seat_line, size_line, found_line, fault_line}

-- memory lacks in a step, which a full audit never gets so far as to need
abbrev pub finds_none : Bool → History → Bool
finds_none lacks h = lacks && not (is_full h)

-- the line for a command. Where memory lacks in a step, it says so.
abbrev pub answer_to : Bool → Playing → Command → List ℕ
answer_to lacks p (command.Step event) = cond (finds_none lacks p.history) memory_line
    (verdict_line (verdict p.history p.seat event))
answer_to lacks p (command.Seat seat) = seat_line
answer_to lacks p command.Size = size_line (entered p.history.entries)
answer_to lacks p (command.Audit number) = found_line p.forgotten (audited p.history.entries) number

-- what a command leaves. A step where memory lacks leaves all as it was.
abbrev pub left_by : Bool → Playing → Command → Playing
left_by lacks p (command.Step event) =
    record p {
      history = cond (finds_none lacks p.history) p.history
          (after p.history p.seat event);
    }
left_by lacks p (command.Seat seat) = record p { seat = seat }
left_by lacks p command.Size = p
left_by lacks p (command.Audit number) = p

abbrev pub answer_of : Bool → Playing → Option Command → List ℕ
answer_of lacks p None = []
answer_of lacks p (Some command) = answer_to lacks p command

abbrev pub left_of : Bool → Playing → Option Command → Playing
left_of lacks p None = p
left_of lacks p (Some command) = left_by lacks p command

-- a line that has to say a command, and says none
abbrev pub is_fault : List ℕ → Bool
is_fault line = not (is_quiet line) && is_none (said_by line)

-- the answer to a line, and what the line leaves
abbrev pub line_text : Bool → Playing → List ℕ → List ℕ
line_text lacks p line = cond (is_quiet line) [] (answer_of lacks p (said_by line))

abbrev pub line_left : Bool → Playing → List ℕ → Playing
line_left lacks p line = cond (is_quiet line) p (left_of lacks p (said_by line))

-- what line k is owed: its answer, or that it can't be read
abbrev pub owed_line : Bool → Playing → ℕ → List ℕ → List ℕ
owed_line lacks p k line = cond (is_fault line) (fault_line k) (line_text lacks p line)

-- how the first of some lines is met, and how the others are; past the end of the list as usual
abbrev pub at_first : {M : Type 0} → M → List M → M
at_first usual [] = usual
at_first usual (met ∷ others) = met

abbrev pub at_others : {M : Type 0} → List M → List M
at_others [] = []
at_others (met ∷ others) = others

-- the answers to lines in turn, of which the first is line k, up to the first fault, where a line
-- that is met so is answered by `text` and leaves what `left` says
abbrev pub text_by : {M : Type 0} → M → (M → Playing → List ℕ → List ℕ)
    → (M → Playing → List ℕ → Playing) → List M → Playing → ℕ → List (List ℕ) → List ℕ
text_by usual text left met p k [] = []
text_by usual text left met p k (line ∷ lines) =
    cond (is_fault line) (fault_line k)
    (text (at_first usual met) p line
    ++ text_by usual text left (at_others met) (left (at_first usual met) p line) (k + 1) lines)

-- the number of the first line that has a fault
abbrev pub fault_from : ℕ → List (List ℕ) → Option ℕ
fault_from k [] = None
fault_from k (line ∷ lines) = cond (is_fault line) (Some k) (fault_from (k + 1) lines)

-- the text of a whole script, where memory lacks in the steps of these lines
abbrev pub text : List Bool → Opening → List ℕ → List ℕ
text lacking o script = text_by false line_text line_left lacking (opened_with o) 1
    (lines_of script)

-- the number of a script's first line with a fault
abbrev pub fault_in : List ℕ → Option ℕ
fault_in script = fault_from 1 (lines_of script)

-- ---- on a node that forgets

-- whether memory lacks in a line's step, and how many entries are handed out behind the line
pub record Met : Type 0 where
  pub lacks : Bool
  pub handed : ℕ

abbrev pub met_usually : Met
met_usually = record { lacks = false; handed = 0 }

abbrev pub met_text : Met → Playing → List ℕ → List ℕ
met_text m p line = line_text m.lacks p line

-- `keep` of the newest entries are never handed out
abbrev pub met_left : ℕ → Met → Playing → List ℕ → Playing
met_left keep m p line = forgotten_to keep m.handed (line_left m.lacks p line)

-- the text of a whole script where lines are met so
abbrev pub kept_text : ℕ → List Met → Opening → List ℕ → List ℕ
kept_text keep met o script =
    text_by met_usually met_text (met_left keep) met (opened_with o) 1 (lines_of script)
