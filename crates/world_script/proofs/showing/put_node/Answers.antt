use Rattle.std.proofs.Common.{Err, OnOk, subst, sym, ◌++◌, ◌∙◌, ◌≡◌}
use Rattle.policy_audit.specs.declared.event.Event.{Event}
use Rattle.node_core.specs.Reading.{IsAnswer}
use Rattle.world_script.specs.Showing.{node_text}
use Rattle.world_script.proofs.Shown.{lists_answer, lists_none}
use Rattle.world_script.proofs.showing.put_node.Goals as goal

pub returns-in-Ok : goal.returns-in-Ok
returns-in-Ok c =
    subst (λ pids. OnOk c.put_listed.result (c.put_listed.new.out.items ≡ c.args.out.now.items
    ++ node_text c.args.node.now.opening.name pids))
    (c.pids_in.ensures ∙ sym (lists_answer c.args.node.now c.args.scope.now c.args.group.now
    c.in-Ok.reply c.in-Ok.ensures)) c.put_listed.ensures

pub returns-in-Err-Refused : goal.returns-in-Err-Refused
returns-in-Err-Refused c =
    let refused =
    subst (λ f. IsAnswer c.args.node.now (Event.Members c.args.scope.now c.args.group.now)
    (Err f)) c.in-Err-Refused.field-0-is c.in-Err-Refused.ensures in
    subst (λ pids. OnOk c.put_listed-in-Err-Refused.result
    (c.put_listed-in-Err-Refused.new.out.items ≡ c.args.out.now.items ++ node_text
    c.args.node.now.opening.name pids))
    (sym (lists_none c.args.node.now c.args.scope.now c.args.group.now c.in-Err-Refused.field-0-0
    refused)) c.put_listed-in-Err-Refused.ensures
