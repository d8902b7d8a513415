-- How a monitor stands behind entries, one after another.
use Rattle.std.proofs.Common.{Bool, false, List, map, refl, true, ◌||◌, [], ◌∷◌}
use Rattle.std.proofs.Common.{◌≡◌}
use Rattle.policy_audit.specs.declared.entry.Entry.{Entry}
use Rattle.pg_session.specs.declared.watch.Watch.{Watch}
use Rattle.pg_session.specs.Watching.{is_any_later, is_touched, noted, stops, target}

or_first : (o a rest : Bool) → (o || (a || rest)) ≡ ((o || (a || false)) || rest)
or_first true a rest = refl
or_first false true rest = refl
or_first false false rest = refl

-- the first of them, and then the others
pub noted_first : (e : Entry) (es : List Entry) (w : Watch)
    → noted (e ∷ es) w ≡ noted es (noted (e ∷ []) w)
noted_first e es w =
    rw (
      or_first w.is_over _ (is_any_later w (stops w.scope) es),
      or_first w.is_due _ (is_any_later w (is_touched (target w)) es),
    ) refl

or_none : (o : Bool) → (o || false) ≡ o
or_none true = refl
or_none false = refl

-- no entry changes nothing
pub noted_none : (ws : List Watch) → map (noted []) ws ≡ ws
noted_none [] = refl
noted_none (w ∷ ws) = rw (or_none w.is_over, or_none w.is_due, noted_none ws) refl

pub all_noted_first : (e : Entry) (es : List Entry) (ws : List Watch)
    → map (noted es) (map (noted (e ∷ [])) ws) ≡ map (noted (e ∷ es)) ws
all_noted_first e es [] = refl
all_noted_first e es (w ∷ ws) = rw (noted_first e es w, all_noted_first e es ws) refl
