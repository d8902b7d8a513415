-- What is drawn from a generator for the links of a door.
use Rattle.node_threads.proofs
use Rattle.node_threads.specs
use Rattle.std.proofs.Common.{ap, append-nil, append_assoc, false, inl, inr, is_some, List, None}
use Rattle.std.proofs.Common.{Option, refl, Some, sym, true, ℕ, [], ◌++◌, ◌∙◌, ◌∷◌, ◌≡◌, ◌⊎◌}
use Rattle.std.specs.List.{All, AllZip}
use Rattle.std.specs.Option.{unwrap_or}
use Rattle.std.proofs.lemmas.List.Elements.{All-head, All-tail}
use Rattle.rand_core.specs.Stream.{next_u32, Stream}
use Rattle.policy_audit.specs.declared.event.Event.{Event}
use specs.declared.accepting.AcceptEnd.{AcceptEnd}
use specs.declared.serving.Pair.{Pair}
use specs.declared.accepting.Held.{Held}
use specs.declared.accepting.Held.TheVariants.{Ended}
use specs.declared.accepting.Stop.{Stop}
use specs.declared.pass.Call.{Call}
use specs.Calls.{Gains, Record}
use specs.Drawing.{AreNext, challenges, challenges_in, Draws, new_challenges}
use specs.Accepting.{Finishes, IsAtWork, IsOfLink, IsUnentered, Opens, Turns}
use specs.Challenges.{AllWillHave, DrawnSoFar, HaveDrawn, opened_with, Spends, WillHave}
use proofs.Openings.{draws_first, draws_one, draws_then, gained, gained_none, gained_then}
use proofs.Pairs.{at_work}

-- ---- an Opened

opened_gains : (told : Option ℕ) (p p' : Record) → Opens told p p' →
    (more : List Call) × Gains p more p'
opened_gains (Some link) p p' opens = (opens.0 ++ opens.1 ∷ [], opens.4)
opened_gains None p p' opens = (opens.0, opens.2)

opened_then : (told : Option ℕ) (p mid p' : Record) → Opens None p mid → Opens told mid p' →
    new_challenges p p' ≡ new_challenges p mid ++ new_challenges mid p'
opened_then told p mid p' first then =
    let gains = opened_gains told mid p' then in
    gained_then p mid p' first.0 gains.0 first.2 gains.1

-- frames, Takes and Losts of a link have none
no_challenge : (link : ℕ) (e : Event) → IsOfLink link e → challenges_in e ≡ []
no_challenge link e is = elim is [
  | inl frame ↦ ap challenges_in frame.1
  | inr other ↦ elim other [
    | inl take ↦ ap challenges_in take
    | inr lost ↦ ap challenges_in lost
  ]
]

abbrev IsCall : ℕ → Call → Type 0
IsCall link c = IsOfLink link c.event

no_challenges : (link : ℕ) (calls : List Call) → All (IsCall link) calls → challenges calls ≡ []
no_challenges link [] are = refl
no_challenges link (c ∷ calls) are =
    rw (no_challenge link c.event (All-head (IsCall link) c calls are))
    (no_challenges link calls (All-tail (IsCall link) c calls are))

module _ (stream mid left : Stream) (word : ℕ) (p q p' : Record) (first : Opens None p q)
    (draws : Draws stream (new_challenges p q) mid) (drawn : (word, left) ≡ next_u32 mid) where
  behind : Draws stream (new_challenges p q ++ word ∷ []) left
  behind =
      draws_then stream mid left (new_challenges p q) (word ∷ []) draws
      (draws_one mid left word drawn)

  -- one more Opened, with the next word
  pub opened_drawn : (told : Option ℕ) → Opens told q p' → new_challenges q p' ≡ word ∷ [] →
      Draws stream (new_challenges p p') left
  opened_drawn told then one = rw (opened_then told p q p' first then, one) behind

  -- and an end
  pub ended_drawn : (end : AcceptEnd) → Opens None q p' → IsUnentered end →
      (new_challenges q p' ≡ word ∷ []) ⊎ (new_challenges q p' ≡ []) →
      HaveDrawn end stream (new_challenges p p') left
  ended_drawn end then unentered asked = elim asked [
    | inl one ↦ inl (opened_drawn None then one)
    | inr none ↦
        let same = opened_then None p q p' first then in
        inr (unentered, (word, rw (same, none, append-nil (new_challenges p q)) behind))
  ]

-- ---- pairs that come back

-- a pair that has opened a link, and is at work
pub will_have : (link : ℕ) (pair : Pair) (opened : Record) (held : Held) →
    Opens (Some link) pair.reader opened →
    IsAtWork link (record { reader = opened; writer = pair.writer }) held →
    WillHave pair (new_challenges pair.reader opened) held
will_have link pair opened held opens work = λ pair' finishes.
    let both : Pair = record { reader = opened; writer = pair.writer } in
    let serves = (at_work link both held pair' work finishes).reader in
    let first = opens.0 ++ opens.1 ∷ [] in
    let more = gained opened pair'.reader serves.more serves.gains in
    let none = more ∙ no_challenges link serves.more serves.are in
    gained_then pair.reader opened pair'.reader first serves.more opens.4 serves.gains
    ∙ ap (λ ws. new_challenges pair.reader opened ++ ws) none
    ∙ append-nil (new_challenges pair.reader opened)

-- a pair that rests
pub rests : (pair pair' : Pair) →
    WillHave pair (new_challenges pair.reader pair'.reader) (Ended pair')
rests pair pair' = λ back finishes. ap (λ (q : Pair). new_challenges pair.reader q.reader) finishes

pub spent : (pair : Pair) (stop : Option Stop) (stream left : Stream) (words : List ℕ)
    (held : Held) → is_some stop ≡ false → WillHave pair words held → Draws stream words left →
    Spends pair stop stream held stop left
spent pair None stream left words held none will draws = (words, will, draws)
spent pair (Some stop) stream left words held none will draws = cc

-- where there was an end, a pair draws nothing
pub spent_none : (pair : Pair) (stop : Option Stop) (stream : Stream) → is_some stop ≡ true →
    Spends pair stop stream (Ended pair) stop stream
spent_none pair None stream ended = cc
spent_none pair (Some stop) stream ended =
    (rw (gained_none pair.reader pair.reader refl) at (rests pair pair), refl)

-- a pair at whose turn the end comes
pub spent_last : (pair : Pair) (reader : Record) (stop : Option Stop) (last : Stop)
    (stream left : Stream) → is_some stop ≡ false →
    HaveDrawn last.end stream (new_challenges pair.reader reader) left →
    Spends pair stop stream (Ended (record { reader = reader; writer = pair.writer })) (Some last)
    left
spent_last pair reader None last stream left none drawn =
    let pair' : Pair = record { reader = reader; writer = pair.writer } in
    (new_challenges pair.reader reader, rests pair pair', drawn)
spent_last pair reader (Some stop) last stream left none drawn = cc

one_has_more : (pairs : List Pair) (held : List Held) (words more : List ℕ) (pair : Pair)
    (one : Held) → AllWillHave pairs words held → WillHave pair more one →
    AllWillHave (pairs ++ pair ∷ []) (words ++ more) (held ++ one ∷ [])
one_has_more [] [] words more pair one all will =
    (more, [], ap (λ ws. ws ++ more) all ∙ sym (append-nil more), will, refl)
one_has_more (p ∷ pairs) (h ∷ held) words more pair one all will = (
  all.0,
  all.1 ++ more,
  ap (λ ws. ws ++ more) all.2 ∙ append_assoc all.0 all.1 more,
  all.3,
  one_has_more pairs held all.1 more pair one all.4 will,
)
one_has_more pairs held words more pair one all will = absurd all

-- when all are back
all_have : (pairs : List Pair) (words : List ℕ) (held : List Held) (back : List Pair) →
    AllWillHave pairs words held → AllZip Finishes held back → opened_with pairs back ≡ words
all_have [] words [] [] all back = sym all
all_have [] words [] (b ∷ bs) all back = absurd back
all_have [] words (h ∷ held) bs all back = absurd all
all_have (p ∷ pairs) words [] bs all back = absurd all
all_have (p ∷ pairs) words (h ∷ held) [] all back = absurd back
all_have (p ∷ pairs) words (h ∷ held) (b ∷ bs) all back =
    rw (all.3 b back.0, all_have pairs all.1 held bs all.4 back.1) (sym all.2)

none_opened : (pairs : List Pair) → opened_with pairs pairs ≡ []
none_opened [] = refl
none_opened (p ∷ pairs) = rw (gained_none p.reader p.reader refl) (none_opened pairs)

pub none_drawn : (pairs : List Pair) (stream : Stream) → AreNext stream (opened_with pairs pairs)
none_drawn pairs stream = rw (none_opened pairs) (stream, refl)

-- ---- the pairs of a door, in turn

pub are_next : (end : AcceptEnd) (stream left : Stream) (words : List ℕ) →
    HaveDrawn end stream words left → AreNext stream words
are_next end stream left words drawn = elim drawn [
  | inl all ↦ (left, all)
  | inr one ↦ draws_first stream left words (one.1.0 ∷ []) one.1.1
]

so_far_then : (stop : Option Stop) (stream mid left : Stream) (xs ys : List ℕ) →
    Draws stream xs mid → DrawnSoFar stop mid ys left → DrawnSoFar stop stream (xs ++ ys) left
so_far_then None stream mid left xs ys first then = draws_then stream mid left xs ys first then
so_far_then (Some stop) stream mid left xs ys first then = elim then [
  | inl all ↦ inl (draws_then stream mid left xs ys first all)
  | inr one ↦
      let word = one.1.0 ∷ [] in
      let all = draws_then stream mid left xs (ys ++ word) first one.1.1 in
      inr (one.0, (one.1.0, rw (append_assoc xs ys word) all))
]

-- one pair more
pub drawn_more : (place : ℕ) (stop stop' : Option Stop) (stream mid left : Stream)
    (pairs : List Pair) (held : List Held) (words : List ℕ) (pair : Pair) (one : Held) →
    AllWillHave pairs words held → DrawnSoFar stop stream words mid →
    Turns pair place stop one stop' → Spends pair stop mid one stop' left →
    (all : List ℕ) × AllWillHave (pairs ++ pair ∷ []) all (held ++ one ∷ [])
    × DrawnSoFar stop' stream all left
drawn_more place None stop' stream mid left pairs held words pair one will so_far turns spends = (
  words ++ spends.0,
  one_has_more pairs held words spends.0 pair one will spends.1,
  so_far_then stop' stream mid left words spends.0 so_far spends.2,
)
drawn_more place (Some stop) stop' stream mid left pairs held words pair one will so_far turns
    spends
    = (
      words ++ [],
      one_has_more pairs held words [] pair one will spends.0,
      rw (turns.0, spends.1, append-nil words) so_far,
    )

-- all are back; without an end before, none was an Opened without an entry
pub all_drawn : (stop : Option Stop) (end : Stop) (stream left : Stream) (pairs : List Pair)
    (words : List ℕ) (held : List Held) (back : List Pair) → AllWillHave pairs words held →
    DrawnSoFar stop stream words left → AllZip Finishes held back →
    HaveDrawn (unwrap_or stop end).end stream (opened_with pairs back) left
all_drawn None end stream left pairs words held back will so_far finishes =
    inl (rw (all_have pairs words held back will finishes) so_far)
all_drawn (Some stop) end stream left pairs words held back will so_far finishes =
    rw (all_have pairs words held back will finishes) so_far
