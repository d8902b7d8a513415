use Rattle.std.proofs.Common.{ap, arith, length, sym, ◌∙◌, ◌≡◌}
use Rattle.world_script.proofs.Places.{placed}
use Rattle.world_script.proofs.named_world.NamedWorld.place.Goals as goal

pub returns-then-is_named : goal.returns-then-is_named
returns-then-is_named c =
    let count : c.self.inside.count ≡ length c.args.self.now.nodes = c.self.invariant
    ∙ ap (λ w. length w.nodes) c.self.view_is in
    placed c.args.name.now c.args.self.now.nodes c.loop-place.place
    (omega (arith, c.loop-place-test.true, count)) c.loop-place.invariant
    (λ low. sym c.is_named.ensures ∙ c.if-is_named.true)

pub returns : goal.returns
returns c =
    let count : c.self.inside.count ≡ length c.args.self.now.nodes = c.self.invariant
    ∙ ap (λ w. length w.nodes) c.self.view_is in
    placed c.args.name.now c.args.self.now.nodes c.self.inside.count (omega (arith, count))
    (λ k low. c.loop-place.invariant k (omega (arith, low, c.loop-place-test.false)))
    (λ low. absurd (omega (arith, low, count)))
