-- What goes with a link.
use Rattle.std.specs.Prelude.{◌≡◌, ℕ, cond, List, [], Option, Some, None}
use Rattle.std.specs.List.{AllZip}
use Rattle.scope_core.specs.Calls.{count_after_drop}
use Rattle.policy_audit.specs.declared.change.Change.{Change}
use Rattle.node_core.specs.declared.running.Running.{Running}
use Rattle.node_core.specs.Links.{KeptLink, is_ended, without_number}
use Rattle.node_core.specs.Parting.{ArePartings, IsCutOff}

-- the links but this one, if it has ended
abbrev pub without_ended : KeptLink → List KeptLink → List KeptLink
without_ended link links = cond (is_ended link.state) (without_number link.number links) links

-- the changes of all scopes where a link is gone that is up with this peer, if it is up
abbrev pub AreLost : Option (List ℕ) → List Running → List Change → Type 0
AreLost None rs cs = cs ≡ []
AreLost (Some n) rs cs = ArePartings (λ t. count_after_drop t n) rs cs

-- the scopes where link l is gone that is up with this peer, if it is up
abbrev pub AreCut : ℕ → Option (List ℕ) → List Running → List Running → Type 0
AreCut l None old new = new ≡ old
AreCut l (Some n) old new = AllZip (IsCutOff l n) old new
