use Rattle.pg_script.specs
use Rattle.std.proofs.Common.{ap, Bool, List, OnOk, subst, ℕ, ◌++◌, ◌∙◌, ◌≡◌}
use specs.Playing.{Playing}
use specs.Transcript.{answer_to, left_by}
use Rattle.pg_script.proofs.StepLemmas.{on_ok, seated, stepped_line}
use Rattle.pg_text.specs.declared.command.Command.TheVariants as command
use Rattle.pg_script.proofs.console.Console.step.Goals as goal

pub returns : goal.returns
returns c =
    let node = c.self.inside in
    let line = stepped_line node.core.history node.seat node.core.forgotten c.args.event
    c.step-stepped.new.self.history c.step-stepped.result c.step-stepped.ensures.stepped in
    subst (λ (p : Playing). OnOk c.put_step-added.result
    ((lacks : Bool) × (c.put_step-added.new.out.items ≡ c.args.out.now.items ++ answer_to lacks p
    (command.Step c.args.event))
    × (seated node.seat c.step-stepped.new.self.forgotten c.step-stepped.new.self.history
    ≡ left_by lacks p (command.Step c.args.event))))
    c.self.view_is
    (on_ok c.put_step-added.result
    (λ out. (
      line.0,
      out ∙ ap (λ (l : List ℕ). c.args.out.now.items ++ l) line.1,
      ap (λ (n : ℕ). seated node.seat n c.step-stepped.new.self.history)
          c.step-stepped.ensures.forgotten ∙ line.2,
    ))
    c.put_step-added.ensures)
