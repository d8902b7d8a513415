-- Where each entry tells what it does, the frames pass through the sender's rows.
use Rattle.frame_laws.proofs
use proofs.Words.{ap, AreThere, arith, Begun, begun_by, begun_of, bodies_of, Bool, Entry, has_rows}
use proofs.Words.{IsFew, IsNode, IsPlayedIn, IsStep, length, lie, List, map, Message, Message2}
use proofs.Words.{message_of, message_taken, moment, None, Opening, Option, out_in, OutFrame, owed}
use proofs.Words.{owes, Owing, owing, own, Part, PartKind, parts_from, PassesThrough, past, Pid}
use proofs.Words.{refl, Row, rows_so_far, said_frames, same_decides, seen, slice_get}
use proofs.Words.{slice_get_within, so_far_behind, Some, Speaks, subst, suc, sym, take}
use proofs.Words.{take-append-add, take-append-le, take-length, take-map, told, true, view_of, ℕ}
use proofs.Words.{[], ◌++◌, ◌+◌, ◌<◌, ◌∙◌, ◌∷◌, ◌≡◌}
use proofs.Calm.{AllCalm, FewBehind, frames_apart, frames_seen, is_part, message_ends, message_seen}
use proofs.Calm.{no_rows_at, rows_part, seen_apart, seen_frames, ThereBehind}
use proofs.Orderly.{out_orderly, said_more}
use proofs.Pieces.{begun_apart, completed_apart, cuts, IsPiece, piece_at, pieces, pieces_are}
use proofs.Pieces.{value_of}
use proofs.Places.{earlier_moment, InFirst, InSecond, owed_here, part, Parted, this_moment}
use proofs.Sources.{is_entry}
use proofs.Spoken.{node_before}
use proofs.Telling.{AllTell, Ended, EntryTells, fewer_of, IsTold, Silent, Spoke, WasSeen}
use proofs.Sayable.{IsReadAt, IsSayable, reads, reads_at, reads_length, said, said_take}

-- frames that one entry owes, behind whole messages
module _ (v : ℕ) (xs : List Owing) (ends : begun_of v (bodies_of xs) ≡ None) (n : ℕ)
    (fs : List OutFrame) where
  view_after : (s g : List ℕ) (p : Pid) → view_of v s g p (bodies_of (xs ++ map (owing n) fs))
      ≡ seen_frames v s g p fs (view_of v s g p (bodies_of xs))
  view_after = grind (arith, said_more, completed_apart, seen_apart)

  begun_after_them : begun_of v (bodies_of (xs ++ map (owing n) fs)) ≡ begun_by None (said v fs)
  begun_after_them = grind (arith, said_more, begun_apart)

-- what holds at a part, with the rows so far, where this was kept and the view was x
abbrev FewAt : ℕ → List ℕ → (List ℕ → Pid → Option ℕ) → Option Begun → Message2 → Type 0
FewAt v s x b (Part kind t number last rows) =
    IsFew v s x kind (rows_so_far b kind s number rows)
FewAt v s x b m = Unit {0}

abbrev ThereAt : List ℕ → (List ℕ → Pid → Option ℕ) → Option Begun → Message2 → Type 0
ThereAt s x b (Part PartKind.Leave t number last rows) =
    AreThere x (rows_so_far b PartKind.Leave s number rows)
ThereAt s x b m = Unit {0}

-- where one message says rows and the frames around it are calm
module _ {v : ℕ} {s : List ℕ} {front back fs : List OutFrame} (kind : PartKind) (rows : List Row)
    (early : AllCalm v s front) (late : AllCalm v s back)
    (can : IsSayable v (message_of kind s rows))
    (is : fs ≡ front ++ (said_frames v (message_of kind s rows) ++ back)) where
  abbrev whole_said : Message
  whole_said = message_of kind s rows

  abbrev block : List OutFrame
  block = said_frames v whole_said

  abbrev cut : List Message2
  cut = parts_from kind s 1 (cuts v rows) rows

  cut_is : pieces v whole_said ≡ cut
  cut_is = pieces_are v kind s rows

  in_all : (g : List ℕ) (p : Pid) (x : Option ℕ) → seen_frames v s g p fs x ≡ seen s g p whole_said
      x
  in_all g p x =
      grind (
        arith,
        frames_seen,
        frames_seen v s g p block back x (message_ends v whole_said can),
        message_seen v whole_said can s g p x,
      )

  -- a part of s stands in that message
  record IsWithin (m : ℕ) (f : OutFrame) : Type 0 where
    place : ℕ
    at : m ≡ length front + place
    stands : slice_get block place ≡ Some f

  within : (m : ℕ) (f : OutFrame) → slice_get fs m ≡ Some f
      → is_part s (message_taken v f.body) ≡ true → IsWithin m f
  within = grind (arith, part, no_rows_at)

  module _ {m : ℕ} {f : OutFrame} (it : IsWithin m f) where
    abbrev k : ℕ
    k = it.place

    read : IsReadAt v f (pieces v whole_said) k
    read = reads_at v block (pieces v whole_said) (reads v whole_said can) k f it.stands

    piece : IsPiece None kind s [] rows 0 cut k read.part
    piece = grind (arith, piece_at)

    taken_so : take m fs ≡ front ++ take k block
    taken_so = grind (arith, slice_get_within, take-append-add, take-append-le)

    said_so : said v (take k block) ≡ take k cut
    said_so = grind (arith, said_take, reads, cut_is)

    begun_so : begun_by None (said v (take m fs)) ≡ begun_by None (take k cut)
    begun_so = grind (arith, taken_so, frames_apart, begun_apart, said_so)

    view_so : (g : List ℕ) (p : Pid) (x : Option ℕ) → seen_frames v s g p (take m fs) x ≡ x
    view_so = grind (arith, taken_so, frames_seen, said_so, piece.none)

    -- the part that is read there
    says : message_taken v f.body
        ≡ Some (Part kind s piece.number piece.last piece.some)
    says = read.says ∙ ap Some piece.is

    -- behind its last part the message is said
    at_last : has_rows v s f.body ≡ true → (g : List ℕ) (p : Pid) (x : Option ℕ)
        → seen_frames v s g p (take (suc m) fs) x ≡ seen s g p whole_said x
    at_last has g p x =
        grind (
          arith,
          place_is,
          take-append-add front (block ++ back) (length block),
          take-append-le (length block) block back,
          take-length block,
          frames_seen,
          message_seen v whole_said can s g p x,
        )
      where
        last_is : piece.last ≡ true
        last_is = grind arith

        place_is : suc (length front + k) ≡ length front + length block
        place_is =
            let end = piece.ends last_is in
            let long = reads_length v block (pieces v whole_said) (reads v whole_said can)
            ∙ ap length cut_is in
            omega arith

    module _ {told_before : Bool} {was now : List ℕ → Pid → ℕ}
        (told_so : IsTold v s told_before was now kind rows) (x : List ℕ → Pid → Option ℕ)
        (before : WasSeen told_before was x) where
      few_at : FewAt v s x (begun_by None (take k cut))
          (Part kind s piece.number piece.last piece.some)
      few_at = rw piece.so_far
          (told_so.few x before piece.first piece.rest piece.whole_is)

      there_at : (j : PartKind) → kind ≡ j → ThereAt s x (begun_by None (take k cut))
          (Part j s piece.number piece.last piece.some)
      there_at PartKind.Leave leaves =
          subst (AreThere x)
          (sym (ap (λ j. rows_so_far (begun_by None (take k cut)) j s piece.number piece.some)
          (sym leaves) ∙ piece.so_far))
          (λ g p. (let all = told_so.there x before leaves g p in
          let less = fewer_of g p piece.first piece.rest rows piece.whole_is in
          (all.0, all.1, omega arith)))
      there_at j other = tt

module _ (v : ℕ) (o : Opening) (l : ℕ) (s : List ℕ) where
  module _ (e : Entry) (es : List Entry) (made : IsStep (past o es) e)
      (before : PassesThrough v (past o es) l s)
      (ends : begun_of v (bodies_of (out_in o l es)) ≡ None) where
    abbrev fs : List OutFrame
    fs = owed (past o es) l e.number e.event e.verdict

    abbrev view : List ℕ → Pid → Option ℕ
    view g p = view_of v s g p (bodies_of (out_in o l es))

    seen_before : WasSeen (told o l s es) (own (past o es) s) view
    seen_before = before.now

    now_seen : EntryTells v o l s e es → told o l s (e ∷ es) ≡ true → (g : List ℕ) (p : Pid)
        → seen_frames v s g p fs (view g p) ≡ Some (own (past o (e ∷ es)) s g p)
    now_seen (Silent calm stays) t g p = grind arith
    now_seen (Spoke front kind rows back is early late can it) t g p =
        in_all kind rows early late can is g p (view g p)
        ∙ it.says view seen_before g p
    now_seen (Ended none ends) t g p = cc

    then_seen : EntryTells v o l s e es → (m : ℕ) (x : OutFrame) → slice_get fs m ≡ Some x
        → has_rows v s x.body ≡ true → (g : List ℕ) (p : Pid)
        → seen_frames v s g p (take (suc m) fs) (view g p) ≡ Some (own (past o (e ∷ es)) s g p)
    then_seen (Silent calm stays) m x q has g p =
        lie (sym (rows_part v s x.body has) ∙ no_rows_at v s fs calm.no_rows m x q)
    then_seen (Spoke front kind rows back is early late can it) m x q has g p =
        at_last kind rows early late can is
        (within kind rows early late can is m x q (rows_part v s x.body has))
        has g p (view g p) ∙ it.says view seen_before g p
    then_seen (Ended none ends) m x q has g p =
        lie (sym (rows_part v s x.body has) ∙ no_rows_at v s fs none m x q)

    -- at a part: the view, and what is kept, are these; and with the rows so far these hold
    record PartSeen (m : ℕ) (f : Message2) : Type 0 where
      kept : Option Begun
      kept_is : begun_by None (said v (take m fs)) ≡ kept
      stays : (g : List ℕ) (p : Pid) → seen_frames v s g p (take m fs) (view g p) ≡ view g p
      few : FewAt v s view kept f
      there : ThereAt s view kept f

    part_seen : EntryTells v o l s e es → (m : ℕ) (x : OutFrame) → slice_get fs m ≡ Some x
        → (f : Message2) → message_taken v x.body ≡ Some f → is_part s (Some f) ≡ true
        → PartSeen m f
    part_seen (Silent calm stays) m x q f says its =
        grind (arith, no_rows_at v s fs calm.no_rows m x q)
    part_seen (Ended none ends) m x q f says its = grind (arith, no_rows_at v s fs none m x q)
    part_seen (Spoke front kind rows back is early late can it) m x q f taken_is its =
        let here = within kind rows early late can is m x q
        (ap (is_part s) taken_is ∙ its) in
        let same_part = value_of
        (sym (says kind rows early late can is here) ∙ taken_is) in
        record {
          kept = begun_by None (take here.place (parts_from kind s 1 (cuts v rows) rows));
          kept_is = begun_so kind rows early late can is here;
          stays = λ g p. view_so kind rows early late can is here g p
              (view g p);
          few = subst (FewAt v s view
              (begun_by None (take here.place (parts_from kind s 1 (cuts v rows) rows)))) same_part
              (few_at kind rows early late can is here it view seen_before);
          there = subst (ThereAt s view
              (begun_by None (take here.place (parts_from kind s 1 (cuts v rows) rows)))) same_part
              (there_at kind rows early late can is here it view seen_before kind refl);
        }

    module _ (tells : EntryTells v o l s e es) (legal : IsPlayedIn o es) where
      -- a place in what was owed before, or one in what is owed now
      earlier_take : (n : ℕ) (x : Owing) → n < length (out_in o l es)
          → take n (out_in o l (e ∷ es)) ≡ take n (out_in o l es)
      earlier_take = grind (arith, take-append-le)

      now_take : (n m : ℕ) → n ≡ length (out_in o l es) + m
          → take n (out_in o l (e ∷ es)) ≡ out_in o l es ++ map (owing e.number) (take m fs)
      now_take = grind (arith, take-append-add, take-map)

      -- behind that, while nothing completes
      now_view : (n m : ℕ) → n ≡ length (out_in o l es) + m → (f : Message2) → PartSeen m f
          → (g : List ℕ) (p : Pid)
          → view_of v s g p (bodies_of (take n (out_in o l (e ∷ es)))) ≡ view g p
      now_view = grind (arith, now_take, view_after)

      now_begun : (n m : ℕ) → n ≡ length (out_in o l es) + m → (f : Message2) → (it : PartSeen m f)
          → begun_of v (bodies_of (take n (out_in o l (e ∷ es)))) ≡ it.kept
      now_begun n m at = grind (arith, now_take n m at, begun_after_them)

      abbrev behind : ℕ → List (List ℕ)
      behind n = bodies_of (take n (out_in o l (e ∷ es)))

      abbrev Here : ℕ → Owing → Type 0
      Here n x = Parted (out_in o l es) (owes (past o es) l e) n x

      few : (n : ℕ) (x : Owing) → Here n x
          → (kind : PartKind) (number : ℕ) (last : Bool) (rows : List Row)
          → message_taken v x.frame.body ≡ Some (Part kind s number last rows)
          → FewBehind v s kind number rows (behind n)
      few n x (InFirst r less) kind number last rows says =
          rw (earlier_take n x less) (before.few n x r kind number last rows says)
      few n x (InSecond m at r) kind number last rows says =
          let here = owed_here e.number fs m x r in
          let f = Part kind s number last rows in
          let it = part_seen tells m x.frame here.frame f says ((same_decides s s).1 refl) in
          let all = rw (← now_begun n m at f it) at (PartSeen.few it) in (
            all.0,
            (λ g p. (let one = all.1 g p in (
              one.0,
              ap (seen s g p (message_of kind s (so_far_behind v (behind n) kind s number rows)))
                  (now_view n m at f it g p) ∙ one.1,
              one.2,
            ))),
            all.2,
          )

      there : (n : ℕ) (x : Owing) → Here n x → (number : ℕ) (last : Bool) (rows : List Row)
          → message_taken v x.frame.body ≡ Some (Part PartKind.Leave s number last rows)
          → ThereBehind v s number rows (behind n)
      there n x (InFirst r less) number last rows says g p =
          rw (earlier_take n x less) (before.there n x r number last rows says g p)
      there n x (InSecond m at r) number last rows says g p =
          let here = owed_here e.number fs m x r in
          let f = Part PartKind.Leave s number last rows in
          let it = part_seen tells m x.frame here.frame f says ((same_decides s s).1 refl) in
          let one = rw (← now_begun n m at f it) at (PartSeen.there it g p) in
          (one.0, now_view n m at f it g p ∙ one.1, one.2)

      moments : (n : ℕ) (x : Owing) → Here n x
          → has_rows v s x.frame.body ≡ true → (g : List ℕ) (p : Pid)
          → view_of v s g p (behind (n + 1))
          ≡ Some (own (moment x.source (past o (e ∷ es))) s g p)
      moments n x (InFirst r less) has g p =
          grind (
            arith,
            take-append-le,
            earlier_moment o e es x.source (is_entry o l es legal n x r).within,
          )
      moments n x (InSecond m at r) has g p =
          grind (
            arith,
            owed_here e.number fs m x r,
            now_take (n + 1) (suc m) (omega arith),
            view_after,
            then_seen tells m x.frame,
            this_moment o e es x.source,
          )

      now : told o l s (e ∷ es) ≡ true → (g : List ℕ) (p : Pid)
          → view_of v s g p (bodies_of (out_in o l (e ∷ es))) ≡ Some (own (past o (e ∷ es)) s g p)
      now t g p = view_after v (out_in o l es) ends e.number fs s g p ∙ now_seen tells t g p

  pub passes : (es : List Entry) → IsNode (past o es) → Speaks o l v es → AllTell v o l s es
      → PassesThrough v (past o es) l s
  passes [] node speaks tell = grind arith
  passes (e ∷ es) node speaks tell =
      let was = node_before o e es node in
      let before = passes es was speaks.1 tell.1 in
      let ends = (out_orderly o es was l v speaks.1).ends in
      let at = λ (n : ℕ) (x : Owing) (q : slice_get (out_in o l (e ∷ es)) n ≡ Some x).
      part (out_in o l es) (owes (past o es) l e) n x q in
      record {
        moments = λ n x q.
            moments e es node.legal.0 before ends tell.0 node.legal.1 n x (at n x q);
        now = now e es node.legal.0 before ends tell.0 node.legal.1;
        few = λ n x q. few e es node.legal.0 before ends tell.0 node.legal.1 n x (at n x q);
        there = λ n x q. there e es node.legal.0 before ends tell.0 node.legal.1 n x (at n x q);
      }
