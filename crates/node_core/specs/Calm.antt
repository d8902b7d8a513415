-- Events that leave links alone.
use Rattle.std.specs.Prelude.{◌≡◌, ℕ, Bool, true, false, ◌&&◌, ◌||◌, not, Some}
use Rattle.policy_audit.specs.declared.event.Event.{Event}
use Rattle.policy_audit.specs.declared.event.Event.TheVariants as event
use Rattle.policy_audit.specs.declared.rule.Rule.{Rule}
use Rattle.policy_audit.specs.History.{History}
use Rattle.policy_audit.specs.Checks.{checks, first_broken}
use Rattle.policy_audit.specs.Links.{is_open}
use Rattle.policy_audit.specs.Sides.{is_whole}
use Rattle.policy_audit.specs.Owed.{refusal_owes}
use Rattle.dist_types.specs.Difference.{is_empty}
use Rattle.node_core.specs.declared.fault.CoreFault.{CoreFault}
use Rattle.node_core.specs.declared.fault.CoreFault.TheVariants as faults

-- the event asks for rows alone
abbrev pub is_query : Event → Bool
is_query (event.Members s g) = true
is_query (event.LocalMembers s g) = true
is_query (event.Groups s) = true
is_query (event.LocalGroups s) = true
is_query e = false

-- the refused event is no frame, or a frame of a link that isn't unfinished, to which nothing is
-- owed
abbrev pub refuses_calmly : History → Event → Rule → Bool
refuses_calmly h (event.Frame l body) r = (not (is_open l h.entries) || is_whole l h.entries)
    && is_empty (refusal_owes r)
refuses_calmly h e r = true

-- where a rule is named, it is the first that the event breaks, and no link ends
abbrev pub IsCalmFault : History → ℕ → Event → CoreFault → Type 0
IsCalmFault h seat e (faults.Refused r) = (first_broken (checks h seat e) ≡ Some r)
    × (refuses_calmly h e r ≡ true)
IsCalmFault h seat e faults.OutOfMemory = Unit {0}
