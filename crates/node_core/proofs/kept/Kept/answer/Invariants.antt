use Rattle.node_core.proofs.kept.Kept.answer.Given as goal

abbrev pub ghost-restart : goal.ghost-restart
ghost-restart g a = g.call

abbrev pub ghost-set_cookie : goal.ghost-set_cookie
ghost-set_cookie g a = g.call

abbrev pub ghost-set_cookie_for : goal.ghost-set_cookie_for
ghost-set_cookie_for g a = g.call

abbrev pub ghost-allow : goal.ghost-allow
ghost-allow g a = g.call

abbrev pub ghost-start_scope : goal.ghost-start_scope
ghost-start_scope g a = g.call

abbrev pub ghost-stop_scope : goal.ghost-stop_scope
ghost-stop_scope g a = g.call

abbrev pub ghost-spawn : goal.ghost-spawn
ghost-spawn g a = g.call

abbrev pub ghost-exit : goal.ghost-exit
ghost-exit g a = g.call

abbrev pub ghost-join : goal.ghost-join
ghost-join g a = g.call

abbrev pub ghost-leave : goal.ghost-leave
ghost-leave g a = g.call

abbrev pub ghost-members : goal.ghost-members
ghost-members g a = g.call

abbrev pub ghost-local_members : goal.ghost-local_members
ghost-local_members g a = g.call

abbrev pub ghost-groups : goal.ghost-groups
ghost-groups g a = g.call

abbrev pub ghost-local_groups : goal.ghost-local_groups
ghost-local_groups g a = g.call

abbrev pub ghost-monitor : goal.ghost-monitor
ghost-monitor g a = g.call

abbrev pub ghost-monitor_scope : goal.ghost-monitor_scope
ghost-monitor_scope g a = g.call

abbrev pub ghost-demonitor : goal.ghost-demonitor
ghost-demonitor g a = g.call

abbrev pub ghost-updates : goal.ghost-updates
ghost-updates g a = g.call

abbrev pub ghost-dial : goal.ghost-dial
ghost-dial g a = g.call

abbrev pub ghost-opened : goal.ghost-opened
ghost-opened g a = g.call

abbrev pub ghost-lost : goal.ghost-lost
ghost-lost g a = g.call

abbrev pub ghost-take : goal.ghost-take
ghost-take g a = g.call

abbrev pub ghost-disconnect : goal.ghost-disconnect
ghost-disconnect g a = g.call

abbrev pub ghost-frame : goal.ghost-frame
ghost-frame g a = g.call
