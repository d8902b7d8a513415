use Rattle.node_threads.specs
use Rattle.std.proofs.Common.{List, ℕ, []}
use Rattle.std.specs.Io.KnownBytes.{Consumes}
use specs.declared.cutter.Cutter.TheVariants.{Handshake}
use specs.Reading.{ReadsOn}
use Rattle.node_threads.proofs.reading.read_on.Given as goal

-- all that came so far was read
abbrev pub invariant-loop : goal.invariant-loop
invariant-loop g l = (bytes : List ℕ) × Consumes (g.I.Read.remaining l.fn.input)
    (g.I.Read.remaining l.input) bytes × ReadsOn l.work.link l.fn.pass (Handshake []) bytes l.pass
    l.cutter
