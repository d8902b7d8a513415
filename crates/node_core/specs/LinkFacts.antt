-- The links of a node are those of its history: each in the state that the policy's words give,
-- with the frames that wait for it.
use Rattle.std.specs.Prelude.{◌≡◌, ℕ, Bool, true, false, ◌&&◌, not, List, [], Option, Some, reverse}
use Rattle.std.specs.Prelude.{map}
use Rattle.std.specs.List.{filter, AllByRecursion}
use Rattle.dist_types.specs.Flags.{has_bit}
use Rattle.dist_types.specs.Listing.{same}
use Rattle.handshake_frames.specs.Frame.{Name}
use Rattle.link_frames.specs.Parts.{Begun}
use Rattle.link_states.specs.States.{Dialled}
use Rattle.policy_audit.specs.OutFrame.{OutFrame}
use Rattle.policy_audit.specs.History.{History}
use Rattle.policy_audit.specs.Sides.{peer_of, given, is_whole, Awaited, AwaitName, AwaitAnswer}
use Rattle.policy_audit.specs.Sides.{AwaitReply, AwaitStatus, AwaitChallenge, AwaitAck}
use Rattle.policy_audit.specs.Sides.{AwaitMessage, awaits}
use Rattle.policy_audit.specs.Links.{is_open, links}
use Rattle.policy_audit.specs.Hearing.{begun, link_version}
use Rattle.policy_audit.specs.Owed.{own_challenge, waiting, is_kept}
use Rattle.node_core.specs.declared.link_state.LinkState.{LinkState}
use Rattle.node_core.specs.declared.link_state.LinkState.TheVariants as state
use Rattle.node_core.specs.Links.{KeptLink}

-- what the policy's words say of a link, on a node of this name that is hidden or not
pub record LinkFacts : Type 0 where
  pub own : List ℕ
  pub hidden : Bool
  pub open_now : Bool
  pub whole : Bool
  pub awaited : Awaited
  pub peer : Option (List ℕ)
  pub said : Option Name
  pub version : ℕ
  pub challenge : ℕ
  pub begun : Option Begun

-- these words of link l
abbrev pub facts : History → ℕ → LinkFacts
facts h l = record {
  own = h.opening.name;
  hidden = h.opening.hidden;
  open_now = is_open l h.entries;
  whole = is_whole l h.entries;
  awaited = awaits l h.entries;
  peer = peer_of l h.entries;
  said = given l h.entries;
  version = link_version h.opening l h.entries;
  challenge = own_challenge l h.entries;
  begun = begun h.opening l h.entries;
}

-- the link is open, and awaits this
pub record Awaits (f : LinkFacts) (frame : Awaited) (is_done : Bool) : Type 0 where
  pub open_now : f.open_now ≡ true
  pub whole : f.whole ≡ is_done
  pub awaited : f.awaited ≡ frame

-- the link's peer is another node, of this name
pub record IsPeer (f : LinkFacts) (name : List ℕ) : Type 0 where
  pub peer : f.peer ≡ Some name
  pub other : same name f.own ≡ false

-- an end that dialled
pub record IsDialled (f : LinkFacts) (dial : Dialled) : Type 0 where
  pub peer : IsPeer f dial.peer
  pub challenge : dial.challenge ≡ f.challenge

-- what the peer gave: its name, its creation, flags that make the link visible or not, and a
-- version that makes the link's
pub record IsGiven (f : LinkFacts) (n : Name) (name : List ℕ) (creation : ℕ) (visible : Bool)
    (version : ℕ) : Type 0 where
  pub said : f.said ≡ Some n
  pub name_is : n.name ≡ name
  pub creation_is : creation ≡ n.creation
  pub visible_is : visible ≡ (not f.hidden && has_bit 0 n.flags)
  pub version_is : version ≡ f.version

-- an end whose peer has given its flags, its creation and its version
pub record IsIntroduced (f : LinkFacts) (name : List ℕ) (creation : ℕ) (visible : Bool)
    (version number : ℕ) : Type 0 where
  pub peer : IsPeer f name
  pub said : (n : Name) × IsGiven f n name creation visible version
  pub challenge : number ≡ f.challenge

-- the state is what these words say
abbrev pub IsState : LinkFacts → LinkState → Type 0
IsState f (state.Name challenge) = Awaits f AwaitName false × (challenge ≡ f.challenge)
IsState f (state.Answer s) = Awaits f AwaitAnswer false
    × IsIntroduced f s.peer s.creation s.visible s.version s.challenge
IsState f (state.Reply s) = Awaits f AwaitReply false
    × IsIntroduced f s.peer s.creation s.visible s.version s.challenge
IsState f (state.Status dial) = Awaits f AwaitStatus false × IsDialled f dial
IsState f (state.Challenge dial) = Awaits f AwaitChallenge false × IsDialled f dial
IsState f (state.Ack s) = Awaits f AwaitAck false
    × IsIntroduced f s.peer s.creation s.visible s.version s.challenge
IsState f (state.Up s) = Awaits f AwaitMessage true
    × IsIntroduced f s.peer s.creation s.visible s.version s.proof
IsState f state.Ended = f.open_now ≡ false

-- what the policy's words say of all links
pub record LinkWords : Type 0 where
  pub numbers : List ℕ
  pub facts : ℕ → LinkFacts
  pub waiting : ℕ → List OutFrame

-- the numbers of the kept links, the oldest first
abbrev pub kept_numbers : History → List ℕ
kept_numbers h = reverse (filter (is_kept h) (links h.entries))

-- these words of all links
abbrev pub link_words : History → LinkWords
link_words h = record { numbers = kept_numbers h; facts = facts h; waiting = waiting h }

-- a kept link: its state, what is kept of a message begun there, and the frames that wait for it;
-- none is prepared
pub record IsLinkOf (w : LinkWords) (link : KeptLink) : Type 0 where
  pub state : IsState (w.facts link.number) link.state
  pub begun : link.begun ≡ (w.facts link.number).begun
  pub frames : link.frames ≡ w.waiting link.number
  pub idle : link.prepared ≡ []

-- the links are the kept links
pub record LinksFollow (w : LinkWords) (kept : List KeptLink) : Type 0 where
  pub numbers : map (λ x. x.number) kept ≡ w.numbers
  pub each : AllByRecursion (IsLinkOf w) kept
