-- What is known at both ends of a wire: what came was owed at the other end, and who is there.
use Rattle.pg_world.proofs
use proofs.Words.{all_handed, ap, append_assoc, arith, asked_once, asked_own, bodies}
use proofs.Words.{bodies_of, but, ByDial, ByPeer, came, challenge_frame, creation}
use proofs.Words.{delivered, entered, entered_more, Entry, eqb-true, Event, false, frame_of}
use proofs.Words.{frames_of, FramesAreLate, given, HasGiven, hello_in, History, is_some, is_whole}
use proofs.Words.{is_whole_in, IsGiven, IsLate, IsNode, IsNumbered, IsPlayedIn, lie, List}
use proofs.Words.{map-append, moment, Name, name_frame, named_first, named_own, no_value, None}
use proofs.Words.{Opened, opened, Opening, opening_is, opening_low, opening_of, Option, option_map}
use proofs.Words.{option_map_or, out, OutFrame, Owing, own_hello, past, peer_of, refl}
use proofs.Words.{sent, slice_get, Some, stands_first, Start, sym, taken, true, unopened, Verdict}
use proofs.Words.{ℕ, [], ◌++◌, ◌<◌, ◌∙◌, ◌∷◌, ◌≡◌}
use proofs.Puts.{value_of}
use Rattle.policy_audit.specs.declared.event.Event.TheVariants as event

-- ---- openings

-- nothing came before a link was opened
pub none_early : (es : List Entry) → FramesAreLate es → (l : ℕ) → entered es < l
    → delivered l es ≡ []
none_early [] late l above = refl
none_early (e ∷ es) late l above =
    let more = entered_more e es in
    let below : entered es < l = omega (arith, above, more) in
    by e.event late.0 below (none_early es late.1 l below)
  where
    by : (ev : Event) → IsLate es ev → entered es < l → delivered l es ≡ []
        → delivered l es ++ came l ev ≡ []
    by (event.Frame k body) low below so_far = grind (arith, eqb-true k l)
    by ev low below so_far = grind arith

opened_early : (o : Opening) (es : List Entry) → IsPlayedIn o es → FramesAreLate es
    → (l : ℕ) (x : Opened) → opened l es ≡ Some x → delivered l x.before ≡ []
opened_early o [] legal late l x q = lie (sym (ap is_some q))
opened_early o (e ∷ es) legal late l x q = by_event e.event e.verdict legal.0.number
    (opened_early o es legal.1 late.1 l x) q
  where
    by_event : (ev : Event) (v : Verdict) → IsNumbered (past o es) e.number ev
        → (opened l es ≡ Some x → delivered l x.before ≡ [])
        → opened l (but e ev v ∷ es) ≡ Some x → delivered l x.before ≡ []
    by_event ev v number so_far q = grind (arith, none_early es late.1 l, eqb-true e.number l)

-- an opening stays
pub kept_opening : (o : Opening) (e : Entry) (es : List Entry) → IsPlayedIn o (e ∷ es) → (l : ℕ)
    (st : Start) → opening_of l es ≡ Some st → opening_of l (e ∷ es) ≡ Some st
kept_opening o e es legal l st q = grind (
  arith,
  unopened o es e l e.event e.verdict legal.0 (opening_low o es legal.1 l st q),
)

-- a whole link was opened
opened_so : (l : ℕ) (es : List Entry) (start : Start) → is_whole l es ≡ true
    → ((st : Start) → opening_of l es ≡ Some st → st ≡ start)
    → (before : List Entry) × (opened l es ≡ Some (record { start = start; before = before }))
opened_so l es start whole only = by (opened l es) refl
  where
    by : (o : Option Opened) → opened l es ≡ o
        → (before : List Entry) × (opened l es ≡ Some (record { start = start; before = before }))
    by (Some x) q = (
      x.before,
      q ∙ ap (λ st. Some (record { start = st; before = x.before }))
          (only x.start (opening_is es l x q)),
    )
    by None q = lie (sym whole ∙ ap
        (λ (y : Option Opened). option_map_or (λ o. is_whole_in o.start (taken l es)) y false) q)

-- something came on a whole link that was dialled
pub dialled_some : (h : History) → IsNode h → (l : ℕ) (n : List ℕ) (c : ℕ)
    → opening_of l h.entries ≡ Some (ByDial n c) → is_whole l h.entries ≡ true
    → (later : List (List ℕ)) → delivered l h.entries ++ later ≡ [] → ⊥
dialled_some h node l n c dialled whole later none =
    let x = opened_so l h.entries (ByDial n c) whole (λ st q. value_of (sym q ∙ dialled)) in
    let it = asked_once h.opening l h.entries node.legal n c x.0 x.1 whole in
    no_value (sym (stands_first (delivered l h.entries) later it.place it.body it.stands)
    ∙ ap (λ v. slice_get v it.place) none)

-- ---- the peer is the node at the other end

module _ (S : History) (a b : ℕ) (o : Opening) (start : Start) where
  -- what came is a beginning of what S owed, and the link was opened so, if it was
  record Since (es : List Entry) : Type 0 where
    later : List (List ℕ)
    carried : delivered b es ++ later ≡ bodies_of (out S a)
    only : (st : Start) → opening_of b es ≡ Some st → st ≡ start

  -- the peer has given what S says of itself
  record Greets (es : List Entry) : Type 0 where
    hello : given b es ≡ Some (own_hello (moment a S))
    gives : IsGiven b S.opening.name (creation (moment a S)) es

  greets : (es : List Entry) (f : Name) → f ≡ own_hello (moment a S) → given b es ≡ Some f
      → peer_of b es ≡ Some S.opening.name → Greets es
  greets es f is gives peer = record {
    hello = gives ∙ ap Some is;
    gives = record {
      peer = peer;
      creation_is = ap (option_map (λ g. g.creation)) gives ∙ ap (λ g. Some (Name.creation g)) is;
    };
  }

  -- what came stands among what S owed
  owed_there : (es : List Entry) → Since es → (place : ℕ) (body : List ℕ)
      → slice_get (delivered b es) place ≡ Some body
      → slice_get (bodies_of (out S a)) place ≡ Some body
  owed_there es since place body q = ap (λ v. slice_get v place) (sym since.carried)
      ∙ stands_first (delivered b es) since.later place body q

  abbrev Gives : Type 0
  Gives = (es : List Entry) → IsPlayedIn o es → FramesAreLate es → Since es → is_whole b es ≡ true
      → Greets es

  gives_all : Gives → (es : List Entry) → IsPlayedIn o es → FramesAreLate es → Since es
      → HasGiven b S.opening.name (creation (moment a S)) es
  gives_all one [] legal late since = tt
  gives_all one (e ∷ es) legal late since = (
    λ whole. Greets.gives (one (e ∷ es) legal late since whole),
    gives_all one es legal.1 late.1 (record {
      later = came b e.event ++ since.later;
      carried = sym (append_assoc (delivered b es) (came b e.event) since.later) ∙ since.carried;
      only = λ st q. since.only st (kept_opening o e es legal b st q);
    }),
  )

module _ (S : History) (node : IsNode S) (a : ℕ) (o : Opening) (b c : ℕ) where
  -- opened by the dialling node S: its Name came first
  one_named : (n : List ℕ) (d : ℕ) → opening_of a S.entries ≡ Some (ByDial n d)
      → Gives S a b o (ByPeer c)
  one_named n d dialled es legal late since whole =
      let x = opened_so b es (ByPeer c) whole since.only in
      let it = named_first o b es legal c x.0 (opened_early o es legal late b _ x.1) x.1 whole in
      let own = named_own S.opening S.entries node a n d dialled in
      let frame = frame_of (out S a) 0 it.body
      (owed_there S a b o (ByPeer c) es since 0 it.body it.stands) in
      let same : frame.owing ≡ own.first = value_of (sym frame.stands ∙ own.stands) in
      let is : it.hello ≡ own_hello (moment a S) = value_of (sym it.says
      ∙ ap name_frame (sym frame.body_is ∙ ap (λ f. f.frame.body) same) ∙ own.says) in
      greets S a b o (ByPeer c) es it.hello is it.given_is
      (it.peer ∙ ap (λ f. Some (Name.name f)) is)

  -- dialled to the node S, whose Challenge came
  one_asked : (d : ℕ) → opening_of a S.entries ≡ Some (ByPeer d)
      → Gives S a b o (ByDial S.opening.name c)
  one_asked d accepted es legal late since whole =
      let x = opened_so b es (ByDial S.opening.name c) whole since.only in
      let it = asked_once o b es legal S.opening.name c x.0 x.1 whole in
      let frame = frame_of (out S a) it.place it.body
      (owed_there S a b o (ByDial S.opening.name c) es since it.place it.body it.stands) in
      let is = asked_own S.opening S.entries node a d accepted it.place frame.owing frame.stands
      it.challenge (ap challenge_frame frame.body_is ∙ it.says) in
      greets S a b o (ByDial S.opening.name c) es (hello_in it.challenge) is it.given_is it.peer

-- ---- both ends

pub bodies_all : (xs : List Owing) → bodies (frames_of xs) ≡ bodies_of xs
bodies_all [] = refl
bodies_all (x ∷ xs) = ap (λ v. x.frame.body ∷ v) (bodies_all xs)

-- all that was owed is what was handed out, and the rest
pub all_owed : (S : History) (a : ℕ) (rest : List OutFrame)
    → sent a S.entries ++ rest ≡ frames_of (out S a)
    → bodies (sent a S.entries) ++ bodies rest ≡ bodies_of (out S a)
all_owed S a rest all = sym (map-append (λ f. f.body) (sent a S.entries) rest) ∙ ap bodies all
    ∙ bodies_all (out S a)

-- a beginning of what the sender owed came at the receiver, whose peer has given the sender's name
-- and creation
pub record IsJoined (S : History) (a : ℕ) (R : History) (b : ℕ) : Type 0 where
  pub later : List (List ℕ)
  pub carried : delivered b R.entries ++ later ≡ bodies_of (out S a)
  pub gives : HasGiven b S.opening.name (creation (moment a S)) R.entries
  pub hello : is_whole b R.entries ≡ true → given b R.entries ≡ Some (own_hello (moment a S))

module _ (S R : History) (sender : IsNode S) (receiver : IsNode R) (late : FramesAreLate R.entries)
    (a b : ℕ) (q : List OutFrame) (carries : delivered b R.entries ++ bodies q ≡ bodies
    (sent a S.entries)) where
  joined : (start : Start) → opening_of b R.entries ≡ Some start → Gives S a b R.opening start
      → IsJoined S a R b
  joined start opens gives =
      let out_of = all_handed S.opening S.entries sender.legal a in
      let since : Since S a b R.opening start R.entries = record {
        later = bodies q ++ bodies out_of.rest;
        carried = sym (append_assoc (delivered b R.entries) (bodies q) (bodies out_of.rest))
            ∙ ap (λ v. v ++ bodies out_of.rest) carries
            ∙ all_owed S a out_of.rest out_of.all;
        only = λ st p. value_of (sym p ∙ opens);
      } in record {
        later = since.later;
        carried = since.carried;
        gives = gives_all S a b R.opening start gives R.entries receiver.legal late since;
        hello = λ whole. Greets.hello (gives R.entries receiver.legal late since whole);
      }

  pub joined_acceptor : (n : List ℕ) (d c : ℕ) → opening_of a S.entries ≡ Some (ByDial n d)
      → opening_of b R.entries ≡ Some (ByPeer c) → IsJoined S a R b
  joined_acceptor n d c there here =
      joined (ByPeer c) here (one_named S sender a R.opening b c n d there)

  pub joined_dialler : (d c : ℕ) → opening_of a S.entries ≡ Some (ByPeer d)
      → opening_of b R.entries ≡ Some (ByDial S.opening.name c) → IsJoined S a R b
  joined_dialler d c there here =
      joined (ByDial S.opening.name c) here (one_asked S sender a R.opening b c d there)
