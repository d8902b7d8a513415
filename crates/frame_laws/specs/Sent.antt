-- What a node owed to a link over its whole life, what it handed out, and what came on the link.
use Rattle.std.specs.Prelude.{ℕ, cond, ◌==◌, List, [], ◌∷◌, ◌++◌, Option, map, slice_get}
use Rattle.std.specs.Option.{option_map}
use Rattle.policy_audit.specs.declared.opening.Opening.{Opening}
use Rattle.policy_audit.specs.declared.event.Event.{Event}
use Rattle.policy_audit.specs.declared.event.Event.TheVariants as event
use Rattle.policy_audit.specs.declared.reply.Reply.TheVariants as reply
use Rattle.policy_audit.specs.declared.entry.Verdict.{Verdict}
use Rattle.policy_audit.specs.declared.entry.Verdict.TheVariants.{Accepted}
use Rattle.policy_audit.specs.declared.entry.Entry.{Entry}
use Rattle.policy_audit.specs.OutFrame.{OutFrame}
use Rattle.policy_audit.specs.History.{History, past}
use Rattle.policy_audit.specs.Owed.{owed}

-- ---- what was owed

-- a frame that is owed, and the number of the entry that owes it: its source
pub record Owing : Type 0 where
  pub source : ℕ
  pub frame : OutFrame

-- a frame with its source
abbrev pub owing : ℕ → OutFrame → Owing
owing source frame = record { source = source; frame = frame }

-- what an entry owes to link l
abbrev pub owes : History → ℕ → Entry → List Owing
owes before l e = map (owing e.number) (owed before l e.number e.event e.verdict)

-- the same of all entries, the oldest first
abbrev pub out_in : Opening → ℕ → List Entry → List Owing
out_in o l [] = []
out_in o l (e ∷ es) = out_in o l es ++ owes (past o es) l e

-- the frames that the entries owe to link l, in their order; none is ever taken away
abbrev pub out : History → ℕ → List Owing
out h l = out_in h.opening l h.entries

-- the frames alone
abbrev pub frames_of : List Owing → List OutFrame
frames_of owings = map (λ x. x.frame) owings

-- the bodies of these frames
abbrev pub bodies_of : List Owing → List (List ℕ)
bodies_of owings = map (λ x. x.frame.body) owings

-- the source of the frame at a place, counted from 0
abbrev pub source_at : ℕ → List Owing → Option ℕ
source_at place owings = option_map (λ x. x.source) (slice_get owings place)

-- ---- what was handed out

-- what an accepted Take of link l hands out
abbrev pub handed : ℕ → Event → Verdict → List OutFrame
handed l (event.Take k) (Accepted (reply.Out frames)) = cond (k == l) frames []
handed l e v = []

-- all that the Takes of link l handed out, in their order
abbrev pub sent : ℕ → List Entry → List OutFrame
sent l [] = []
sent l (e ∷ es) = sent l es ++ handed l e.event e.verdict

-- ---- what came

-- the body of a frame that came on link l
abbrev pub came : ℕ → Event → List (List ℕ)
came l (event.Frame k body) = cond (k == l) (body ∷ []) []
came l e = []

-- the bodies of all frames that came on link l, in their order, whatever their verdict
abbrev pub delivered : ℕ → List Entry → List (List ℕ)
delivered l [] = []
delivered l (e ∷ es) = delivered l es ++ came l e.event
