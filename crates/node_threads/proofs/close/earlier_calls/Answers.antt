use Rattle.std.proofs.Common.{arith, inl, length, List, refl, [], ◌∷◌, ◌≡◌}
use Rattle.node_threads.specs.declared.pass.Call.{Call}
use Rattle.node_threads.proofs.close.earlier_calls.Goals as goal

nothing : (calls : List Call) → length calls ≡ 0 → calls ≡ []
nothing [] q = refl
nothing (c ∷ calls) q = absurd (omega (arith, q))

pub returns-in-None : goal.returns-in-None
returns-in-None c =
    let none = nothing c.args.calls.now c.in-None.ensures.cases in inl (none, none)
