-- When a link is open and up, read from the events and whether each was accepted: no recorded
-- answer is looked at.
use Rattle.std.specs.Prelude.{ℕ, Bool, true, false, cond, ◌&&◌, ◌||◌, not, nat_le, ◌==◌, List, [], ◌∷◌, length, get_or}
use Rattle.std.specs.List.{list_any}
use Rattle.std.specs.Option.{option_map_or}
use Rattle.handshake_frames.specs.Reading.{name_frame}
use Rattle.policy_audit.specs.declared.event.Event.{Event}
use Rattle.policy_audit.specs.declared.event.Event.TheVariants as event
use Rattle.policy_audit.specs.declared.entry.Verdict.{Verdict}
use Rattle.policy_audit.specs.declared.entry.Verdict.TheVariants.{Accepted, Refused}
use Rattle.policy_audit.specs.declared.entry.Entry.{Entry}
use Rattle.policy_audit.specs.Sides.{Taken, whole_side, opened, taken, is_peer, Awaited, AwaitMessage, is_last}
use Rattle.policy_audit.specs.Links.{is_opened_by, is_dial_to, share_peer, named_by, links}

-- where a link stands: whether it is open, and whether a link of its peer's name was up at its Name
pub record Stage : Type 0 where
  pub is_open : Bool
  pub was_up : Bool

-- The words below read a history whose links stand at these stages.

-- what link l awaits
abbrev pub awaits_at : (ℕ → Stage) → ℕ → List Entry → Awaited
awaits_at at l es = option_map_or (λ o. get_or (whole_side o.start (at l).was_up)
    (length (taken l es)) AwaitMessage) (opened l es) AwaitMessage

-- link l has a whole side of frames
abbrev pub is_whole_at : (ℕ → Stage) → ℕ → List Entry → Bool
is_whole_at at l es = option_map_or (λ o. nat_le (length (whole_side o.start (at l).was_up))
    (length (taken l es))) (opened l es) false

-- link l is open, with a whole side
abbrev pub is_up_at : (ℕ → Stage) → ℕ → List Entry → Bool
is_up_at at l es = (at l).is_open && is_whole_at at l es

-- a link of this name is up
abbrev pub name_up_at : (ℕ → Stage) → List ℕ → List Entry → Bool
name_up_at at n es = list_any (λ l. is_up_at at l es && is_peer n l es) (links es)

-- a frame accepted on link k gives up the own dial l
abbrev pub gives_up_at : (ℕ → Stage) → ℕ → List ℕ → ℕ → List Entry → Bool
gives_up_at at k body l es = option_map_or (λ f. not (name_up_at at f.name es)
    && (option_map_or (λ o. is_dial_to f.name o.start) (opened l es) false
    && not (is_whole_at at l es))) (named_by (awaits_at at k es) body) false

-- what ends link l, where it is open
abbrev pub ends_at : (ℕ → Stage) → ℕ → List Entry → Verdict → Event → Bool
ends_at at l es (Refused rule) (event.Frame k body) = k == l && not (is_whole_at at l es)
ends_at at l es (Refused rule) e = false
ends_at at l es (Accepted r) (event.Frame k body) = not (k == l)
    && cond (is_last (awaits_at at k es)) (is_whole_at at l es && share_peer k l es)
    (gives_up_at at k body l es)
ends_at at l es (Accepted r) (event.Lost k) = k == l
ends_at at l es (Accepted r) (event.Disconnect n) = is_whole_at at l es && is_peer n l es
ends_at at l es (Accepted r) event.Restart = true
ends_at at l es (Accepted r) e = false

-- whether a link of that name was up at the first of these frames, which comes with the next entry
-- if there were none before
abbrev pub was_up_after : (ℕ → Stage) → ℕ → List Entry → List Taken → List Taken → Bool
was_up_after at l es before [] = false
was_up_after at l es [] (name ∷ later) =
    option_map_or (λ f. name_up_at at f.name es) (name_frame name.body) false
was_up_after at l es (first ∷ others) (name ∷ later) = (at l).was_up

-- the stages of all links
abbrev pub stages : List Entry → ℕ → Stage
stages [] l = record { is_open = false; was_up = false }
stages (e ∷ es) l = record {
  is_open = is_opened_by l e || (not (ends_at (stages es) l es e.verdict e.event)
      && (stages es l).is_open);
  was_up = was_up_after (stages es) l es (taken l es) (taken l (e ∷ es));
}

-- a link of this name is up
abbrev pub name_up : List ℕ → List Entry → Bool
name_up n es = name_up_at (stages es) n es
