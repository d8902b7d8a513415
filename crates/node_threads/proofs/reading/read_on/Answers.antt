use Rattle.node_threads.proofs
use Rattle.std.proofs.Common.{append-nil, refl, take, [], ◌++◌}
use Rattle.std.specs.Io.KnownBytes.{Consumes}
use Rattle.std.proofs.KnownBytes.{Consumes-kept, Consumes-trans}
use proofs.Steps.{reads_lighter, reads_then, reads_to_end, reads_to_stop, stops_then}
use Rattle.node_threads.proofs.reading.read_on.Goals as goal

pub returns-in-Ok-eq0-clause-bytes : goal.returns-in-Ok-eq0-clause-bytes
returns-in-Ok-eq0-clause-bytes g c =
    let so_far = c.loop.invariant in
    let was = g.I.Read.remaining c.args.input.now in
    let mid = g.I.Read.remaining c.loop.input in
    let now = g.I.Read.remaining c.read.new.self in
    let none : Consumes mid now [] =
    rw c.in-Ok-eq0.field-0-test at (rw c.in-Ok-eq0.is at c.read.ensures.bytes).0 in
    let all = rw (append-nil so_far.0) at (Consumes-trans was mid now so_far.0 [] so_far.1 none) in
    (so_far.0, all, reads_to_end refl so_far.2)

pub returns-in-Err-2-clause-bytes : goal.returns-in-Err-2-clause-bytes
returns-in-Err-2-clause-bytes g c =
    let so_far = c.loop.invariant in
    let mid = g.I.Read.remaining c.loop.input in (
      so_far.0,
      Consumes-kept _ mid _ so_far.0 so_far.1 c.in-Err-2.ensures.bytes,
      reads_to_end refl so_far.2,
    )

pub returns-in-Err-hand_in_all-clause-bytes : goal.returns-in-Err-hand_in_all-clause-bytes
returns-in-Err-hand_in_all-clause-bytes g c =
    let so_far = c.loop.invariant in
    let mid = g.I.Read.remaining c.loop.input in
    let piece = take c.in-Ok.count c.read.new.buf in (
      so_far.0 ++ piece,
      Consumes-trans _ mid _ so_far.0 piece so_far.1 c.in-Ok.ensures.bytes.0,
      reads_to_stop (stops_then refl so_far.2 c.in-Err-hand_in_all.ensures.ended),
    )

pub loop-preserved : goal.loop-preserved
loop-preserved g c =
    let so_far = c.loop.invariant in
    let mid = g.I.Read.remaining c.loop.input in
    let piece = take c.in-Ok.count c.read.new.buf in (
      so_far.0 ++ piece,
      Consumes-trans _ mid _ so_far.0 piece so_far.1 c.in-Ok.ensures.bytes.0,
      reads_lighter (reads_then so_far.2 c.in_default.ensures.ok) c.lighten.ensures,
    )

pub returns-clause-bytes : goal.returns-clause-bytes
returns-clause-bytes g c =
    let so_far = c.loop.invariant in (so_far.0, so_far.1, reads_to_end refl so_far.2)
