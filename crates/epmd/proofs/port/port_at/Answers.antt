use Rattle.std.proofs.Common.{◌++◌, ◌∷◌}
use Rattle.std.specs.Int.{to_be_bytes, w16}
use Rattle.handshake_frames.specs.Spelling.{counted}
use Rattle.epmd.proofs.port.port_at.Goals as goal

-- the two numbers that an answer spells would have been found
pub returns-in_err-highest-clause-only : goal.returns-in_err-highest-clause-only
returns-in_err-highest-clause-only c = λ port behind.
    let name = counted w16 port.name ++ behind.extra in
    let numbers = to_be_bytes w16 port.highest ++ to_be_bytes w16 port.lowest ++ name in
    let first = c.in_ok-port.ensures.only port.port (port.kind ∷ (port.protocol ∷ numbers))
    behind.fits.port behind.is in
    let second = c.in_ok-kind.ensures.only port.kind port.protocol numbers first.1 in
    absurd (c.in_err-highest.ensures.only port.highest port.lowest name behind.fits.highest
    behind.fits.lowest second.2)
