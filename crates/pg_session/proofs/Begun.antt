-- Monitors as they began, however they stand.
use Rattle.std.proofs.Common.{ap, get_or, List, map, None, Option, refl, set, Some, suc}
use Rattle.std.proofs.Common.{zero, ℕ, [], ◌∙◌, ◌∷◌, ◌≡◌}
use Rattle.policy_audit.specs.declared.entry.Entry.{Entry}
use Rattle.policy_audit.specs.Monitors.{Target}
use Rattle.pg_session.specs.declared.watch.Watch.{Watch}
use Rattle.pg_session.specs.declared.watched.Watched.{Watched}
use Rattle.pg_session.specs.Watched.{Awaits}
use Rattle.pg_session.specs.Watching.{aged, as_begun, begun, noted, target}

-- one of them stands otherwise
pub begun_set : (ws : List Watch) (i : ℕ) (d w : Watch)
    → (w.number ≡ (get_or ws i d).number) × (target w ≡ target (get_or ws i d))
    → map as_begun (set ws i w) ≡ map as_begun ws
begun_set [] i d w still = refl
begun_set (v ∷ ws) zero d w still =
    ap (λ n. begun n w.scope w.group ∷ map as_begun ws) still.0
    ∙ ap (λ (t : Target). begun v.number t.scope t.group ∷ map as_begun ws) still.1
begun_set (v ∷ ws) (suc i) d w still = ap (λ rest. as_begun v ∷ rest) (begun_set ws i d w still)

pub begun_noted : (es : List Entry) (ws : List Watch)
    → map as_begun (map (noted es) ws) ≡ map as_begun ws
begun_noted es [] = refl
begun_noted es (w ∷ ws) = ap (λ rest. as_begun w ∷ rest) (begun_noted es ws)

pub begun_aged : (stale : ℕ) (ws : List Watch)
    → map as_begun (map (aged stale) ws) ≡ map as_begun ws
begun_aged stale [] = refl
begun_aged stale (w ∷ ws) = ap (λ rest. as_begun w ∷ rest) (begun_aged stale ws)

pub begun_awaited : (es : List Entry) (ws vs : List Watch) (d : Option Watched)
    → Awaits es ws d vs → map as_begun vs ≡ map as_begun ws
begun_awaited es ws vs None is = ap (map as_begun) is ∙ begun_noted es ws
begun_awaited es ws vs (Some d) is = ap (map as_begun) is.0
