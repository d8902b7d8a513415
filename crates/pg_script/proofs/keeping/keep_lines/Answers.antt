use Rattle.pg_script.proofs
use Rattle.pg_script.specs
use Rattle.std.proofs.Common.{ap, Bool, Err, inl, inr, length, refl, rules, ℕ, ◌<◌, ◌∙◌}
use Rattle.std.specs.Io.BufRead.{drop_through, strip_last}
use Rattle.std.proofs.lemmas.Option.{IfSome_then}
use Rattle.std.proofs.lemmas.Result.{err_from_is_err_and}
use specs.Transcript.{line_text, Met, met_left, met_text, met_usually}
use specs.Playing.{forgotten_to, Playing}
use proofs.Played.{came, if_known, played_end, played_next, played_part, played_start, played_told}
use Rattle.pg_script.proofs.keeping.keep_lines.Goals as goal

abbrev met_so : Bool → ℕ → Met
met_so lacks handed = record { lacks = lacks; handed = handed }

pub loop-turn-init : goal.loop-turn-init
loop-turn-init g c = λ o opened. if_known (g.R.Read.remaining c.args.reader.now)
    (λ script tells. (
      script,
      tells,
      rw opened (played_start met_usually met_text (met_left c.args.keep) o script
          (g.W.Write.contents c.args.writer.now)),
    ))

pub loop-turn-preserved : goal.loop-turn-preserved
loop-turn-preserved g c = λ o opened. IfSome_then (g.R.Read.remaining c.args.reader.now)
    (c.loop-turn.invariant o opened) (λ script kept.
    let read = rw kept.1 at c.in_ok-read_line.ensures.read in
    let some : 0 < length c.read_line.new.line.items = search rules in
    let is = c.without_feed-said.ensures ∙ ap (strip_last 10) (c.as_slice.ensures.value ∙ read.0) in
    let answered = c.in_ok-answer_line.ensures.ok in
    let left = c.forget-page.ensures.left in
    let said = line_text answered.0 c.loop-turn.console c.without_feed-said.result.now in (
      drop_through 10 kept.0,
      read.1,
      played_next kept.2 said (met_so answered.0 left.0) (came kept.0 (rw read.0 at some)) is
          answered.1 refl
          (left.1 ∙ ap (λ (p : Playing). forgotten_to c.args.keep left.0 p) answered.3) answered.2,
    ))

pub returns-in_err-read_line-clause-text : goal.returns-in_err-read_line-clause-text
returns-in_err-read_line-clause-text g c =
    λ o opened. IfSome_then (g.R.Read.remaining c.args.reader.now)
    (c.loop-turn.invariant o opened) (λ script kept.
    let failed = err_from_is_err_and c.from_residual.result c.from_residual.ensures.1 in
    rw (failed.1, failed.2)
    (elim c.in_err-read_line.ensures.fault
    [ inl e ↦ rw e (played_part kept.2) | inr e ↦ rw e (played_part kept.2) ]))

-- the script is at its end
pub returns-then-not-branch-clause-text : goal.returns-then-not-branch-clause-text
returns-then-not-branch-clause-text g c =
    λ o opened. IfSome_then (g.R.Read.remaining c.args.reader.now)
    (c.loop-turn.invariant o opened)
    (λ script kept. played_end kept.2
    (rw kept.1 at c.in_ok-read_line.ensures.ended (search rules)))

-- a line that was not answered
pub returns-in_err-answer_line-clause-text : goal.returns-in_err-answer_line-clause-text
returns-in_err-answer_line-clause-text g c =
    λ o opened. IfSome_then (g.R.Read.remaining c.args.reader.now)
    (c.loop-turn.invariant o opened) (λ script kept.
    let read = rw kept.1 at c.in_ok-read_line.ensures.read in
    let some : 0 < length c.read_line.new.line.items = search rules in
    let is = c.without_feed-said.ensures ∙ ap (strip_last 10) (c.as_slice.ensures.value ∙ read.0) in
    let failed = err_from_is_err_and c.from_residual-in_err-answer_line.result
    c.from_residual-in_err-answer_line.ensures.1 in
    let faulty = c.in_err-answer_line.ensures in
    rw (failed.1, failed.2) (played_told kept.2 c.in_err-answer_line.field-0.0
    (came kept.0 (rw read.0 at some)) is faulty.fault
    (λ e. faulty.told (ap Err e)) (λ e. ap g.W.Write.contents (faulty.untold (ap Err e)))
    (λ e. let begun = faulty.begun (ap Err e) in
    (met_so begun.0 0, begun.1, begun.2))))

-- entries that could not be kept
pub returns-in_err-keep_page-clause-text : goal.returns-in_err-keep_page-clause-text
returns-in_err-keep_page-clause-text g c =
    λ o opened. IfSome_then (g.R.Read.remaining c.args.reader.now)
    (c.loop-turn.invariant o opened) (λ script kept.
    let read = rw kept.1 at c.in_ok-read_line.ensures.read in
    let some : 0 < length c.read_line.new.line.items = search rules in
    let is = c.without_feed-said.ensures ∙ ap (strip_last 10) (c.as_slice.ensures.value ∙ read.0) in
    let answered = c.in_ok-answer_line.ensures.ok in
    let failed = err_from_is_err_and c.from_residual-in_err-keep_page.result
    c.from_residual-in_err-keep_page.ensures.1 in
    let left = c.forget-page.ensures.left in
    rw (failed.1, failed.2) (played_part (played_next kept.2 {next = c.forget-page.new.self}
    {then = g.W.Write.contents c.answer_line.new.writer}
    (line_text answered.0 c.loop-turn.console c.without_feed-said.result.now)
    (met_so answered.0 left.0) (came kept.0 (rw read.0 at some)) is answered.1 refl
    (left.1 ∙ ap (λ (p : Playing). forgotten_to c.args.keep left.0 p) answered.3) answered.2)))

pub returns-clause-text : goal.returns-clause-text
returns-clause-text g c = λ o opened. IfSome_then (g.R.Read.remaining c.args.reader.now)
    (c.loop-turn.invariant o opened) (λ script kept. played_part kept.2)
