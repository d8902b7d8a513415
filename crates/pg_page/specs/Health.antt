-- Whether a node does its work.
use Rattle.std.specs.Prelude.{ℕ, Bool, true, false, List, codes}
use Rattle.pg_page.specs.declared.health.Health.{Health}
use Rattle.pg_page.specs.declared.health.Health.TheVariants as health

-- the end comes before the want of memory
abbrev pub health_of : Bool → Bool → Health
health_of true wants_memory = health.Draining
health_of false true = health.NoMemory
health_of false false = health.Well

-- the status of the answer: what asks for it takes any but 200 for ill
abbrev pub health_status : Health → ℕ
health_status health.Well = 200
health_status health.Draining = 503
health_status health.NoMemory = 503

-- and its line
abbrev pub health_line : Health → List ℕ
health_line health.Well = codes "ok\n"
health_line health.Draining = codes "draining\n"
health_line health.NoMemory = codes "no memory\n"
