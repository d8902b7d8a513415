-- What the lines of a connection are answered.
use Rattle.std.specs.Prelude.{◌≡◌, ◌⊎◌, ◌≤◌, ℕ, true, false, List, ◌++◌, codes, Option, Some, None}
use Rattle.std.specs.Prelude.{Result}
use Rattle.std.specs.List.Sorted.{IsSorted, IsPermutation}
use Rattle.dist_types.specs.Order.{text_cmp}
use Rattle.policy_audit.specs.declared.reply.Reply.{Reply}
use Rattle.policy_audit.specs.History.{audited, entered}
use Rattle.node_core.specs.declared.fault.CoreFault.{CoreFault}
use Rattle.node_core.specs.Reading.{IsAnswer, up_names}
use Rattle.node_threads.specs.Calls.{Record}
use Rattle.node_threads.specs.Room.{Room, IsSound}
use Rattle.node_threads.specs.Applied.{Fits}
use Rattle.pg_text.specs.Answers.{spaced, step_line, size_line, found_line}
use Rattle.pg_session.specs.declared.caller.Lack.{Lack}
use Rattle.pg_session.specs.declared.request.Request.{Request}
use Rattle.pg_session.specs.declared.request.Request.TheVariants as request
use Rattle.pg_session.specs.Processes.{moves_only}
use Rattle.pg_session.specs.Calls.{Seat, IsCalled, AnswersCall, stranger_line}

-- the line for a call that speaks for a process that the connection doesn't have
abbrev pub strange_line : List ℕ
strange_line = codes "fault not yours\n"

-- the line for the peers that are up
abbrev pub nodes_line : List (List ℕ) → List ℕ
nodes_line names = codes "nodes" ++ spaced (λ n. n) names ++ codes "\n"

-- these names, ascending
abbrev pub IsInOrder : List (List ℕ) → List (List ℕ) → Type 0
IsInOrder names sorted = IsSorted text_cmp sorted × IsPermutation names sorted

-- a request for which the node is only read: its line, as this room has it
abbrev pub Reads : Request → Room → List ℕ → Type 0
Reads (request.Query e) room line =
    (answer : Result Reply CoreFault) × IsAnswer room.history e answer × (line ≡ step_line answer)
Reads request.Size room line = line ≡ size_line (entered room.history.entries)
Reads (request.Audit k) room line = (room.forgotten ≤ entered room.history.entries)
    × (line ≡ found_line room.forgotten (audited room.history.entries) k)
Reads request.Nodes room line = (names : List (List ℕ))
    × IsInOrder (up_names room.history) names × (line ≡ nodes_line names)
Reads r room line = Unit {0}

-- the line as a node has it whose audit has as many entries of the seat as this pass has calls;
-- where the node doesn't know the pass, as for a call with it
abbrev pub IsRead : Request → Record → List ℕ → Type 0
IsRead r pass line = ((room : Room) × IsSound room × Fits room pass × Reads r room line)
    ⊎ ((room : Room) × (Fits room pass → ⊥) × (line ≡ stranger_line))

-- such a line was added to these bytes
abbrev pub AnswersRead : Request → Record → List ℕ → List ℕ → Type 0
AnswersRead r pass out out' = (line : List ℕ) × IsRead r pass line × (out' ≡ out ++ line)

-- what a request that makes no call is answered, over this pass
abbrev pub Says : Option Request → Record → List ℕ → List ℕ → Type 0
Says None pass out out' = (reason : List ℕ) × (out' ≡ out ++ codes "fault " ++ reason)
Says (Some request.Help) pass out out' = (text : List ℕ) × (out' ≡ out ++ text)
Says (Some (request.Report report)) pass out out' = (text : List ℕ) × (out' ≡ out ++ text)
Says (Some (request.Change change)) pass out out' = (text : List ℕ) × (out' ≡ out ++ text)
Says (Some request.Quit) pass out out' = out' ≡ out ++ codes "ok\n"
Says (Some request.Drain) pass out out' = out' ≡ out ++ codes "ok\n"
Says (Some r) pass out out' = AnswersRead r pass out out'

-- what a request is answered, and what was wanting for its call: a call as the policy says, unless
-- it speaks for processes that the connection doesn't have; all else makes no call
abbrev pub Answers : Option Request → Option Lack → Seat → List ℕ → Seat → List ℕ → Type 0
Answers (Some (request.Call e)) lack seat out seat' out' =
    ((moves_only seat.own e ≡ true) × AnswersCall seat e lack out seat' out')
    ⊎ ((moves_only seat.own e ≡ false) × (lack ≡ None) × (seat' ≡ seat)
    × (out' ≡ out ++ strange_line))
Answers asked lack seat out seat' out' =
    (lack ≡ None) × (seat' ≡ seat) × Says asked seat.pass out out'

-- at most one call, of the event that the line says
abbrev pub Makes : Option Request → Seat → Seat → Type 0
Makes (Some (request.Call e)) seat seat' = IsCalled seat.pass e seat'.pass ⊎ (seat' ≡ seat)
Makes r seat seat' = seat' ≡ seat
