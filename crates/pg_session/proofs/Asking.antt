-- A request that is what the line says.
use Rattle.pg_session.specs
use Rattle.std.proofs.Common.{Bool, false, inr, IsTrue, List, None, Option, refl, Some, subst, sym}
use Rattle.std.proofs.Common.{true, ℕ, ◌++◌, ◌↔◌, ◌≡◌}
use Rattle.std.proofs.lemmas.Bool.{false≢true}
use specs.declared.caller.Lack.{Lack}
use specs.declared.request.Request.{Request}
use Rattle.node_threads.specs.Calls.{Record}
use Rattle.node_threads.specs.Room.{Room}
use Rattle.node_threads.specs.Applied.{Fits}
use specs.Calls.{Seat, stranger_line}
use specs.Answers.{Answers, AnswersRead, Makes}
use specs.declared.request.Request.TheVariants as request

-- what a node that doesn't know the pass answers
pub answers_stranger : (r : Request) (room : Room) (pass : Record) (knows : Bool) (out out' : List
    ℕ) → (IsTrue knows ↔ Fits room pass) → knows ≡ false → out' ≡ out ++ stranger_line
    → AnswersRead r pass out out'
answers_stranger r room pass knows out out' fits not is =
    (stranger_line, inr (room, by knows fits not, refl), is)
  where
    by : (b : Bool) → (IsTrue b ↔ Fits room pass) → b ≡ false → Fits room pass → ⊥
    by true fits not f = cc
    by false fits not f = false≢true (fits.1 f)

pub makes_none : (asked : Option Request) → (p p' : Seat) → p' ≡ p → Makes asked p p'
makes_none None p p' same = same
makes_none (Some (request.Call e)) p p' same = inr same
makes_none (Some (request.Query e)) p p' same = same
makes_none (Some request.Size) p p' same = same
makes_none (Some (request.Audit k)) p p' same = same
makes_none (Some request.Nodes) p p' same = same
makes_none (Some (request.Report report)) p p' same = same
makes_none (Some (request.Change change)) p p' same = same
makes_none (Some request.Help) p p' same = same
makes_none (Some request.Quit) p p' same = same
makes_none (Some request.Drain) p p' same = same

pub makes_as : (asked said : Option Request) → (p p' : Seat) → asked ≡ said → Makes said p p'
    → Makes asked p p'
makes_as asked said p p' is makes = subst (λ a. Makes a p p') (sym is) makes

pub answers_as : (asked said : Option Request) → (lack : Option Lack) → (p p' : Seat)
    → (out out' : List ℕ) → asked ≡ said → Answers said lack p out p' out'
    → Answers asked lack p out p' out'
answers_as asked said lack p p' out out' is answers =
    subst (λ a. Answers a lack p out p' out') (sym is) answers
