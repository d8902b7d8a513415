-- Why a change is refused, by the rules as they would be after it. Want of memory comes last.
use Rattle.std.specs.Prelude.{◌<◌, ◌≤◌, length}
use Rattle.admission_rules.specs.declared.fault.CookieFault.{CookieFault}
use Rattle.admission_rules.specs.declared.fault.CookieFault.TheVariants as cookie
use Rattle.admission_rules.specs.declared.fault.AllowFault.{AllowFault}
use Rattle.admission_rules.specs.declared.fault.AllowFault.TheVariants as allow
use Rattle.admission_rules.specs.Admission.{AdmissionRules, max_peers, max_allowed}

-- why a cookie for a node is refused
abbrev pub IsCookieFault : CookieFault → AdmissionRules → Type 0
IsCookieFault cookie.CookiesFull after = max_peers < length after.peers
IsCookieFault cookie.OutOfMemory after = length after.peers ≤ max_peers

-- why names are refused
abbrev pub IsAllowFault : AllowFault → AdmissionRules → Type 0
IsAllowFault allow.AllowFull after = max_allowed < length after.allowed
IsAllowFault allow.OutOfMemory after = length after.allowed ≤ max_allowed
