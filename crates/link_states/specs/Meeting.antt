-- Two nodes that can link.
use Rattle.std.specs.Prelude.{◌≡◌, ◌≢◌, ◌<◌, ◌^◌}
use Rattle.dist_types.specs.Text.{IsNodeName}
use Rattle.admission_rules.specs.Admission.{AdmissionRules, cookie_of, IsAllowed}

-- the first may dial the second: two nodes with one cookie for each other, of which the second
-- allows the first
pub record MayDial (a b : AdmissionRules) : Type 0 where
  pub dialler : IsNodeName a.own
  pub acceptor : IsNodeName b.own
  pub creation_of_dialler : a.creation < 2 ^ 32
  pub creation_of_acceptor : b.creation < 2 ^ 32
  pub other : a.own ≢ b.own
  pub allowed : IsAllowed b a.own
  pub cookie : cookie_of a b.own ≡ cookie_of b a.own
