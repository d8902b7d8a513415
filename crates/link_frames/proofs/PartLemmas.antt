-- The reader of version 2 gives a message exactly where the body spells it, and what parts make of
-- a message.
use Rattle.link_frames.proofs
use Rattle.link_frames.specs
use proofs.Words.{and_from, and_parts, ap, append-nil, arith}
use proofs.Words.{behind_text, Bool, cond, counted_rows_in, Decides-and, drop, Err, false}
use proofs.Words.{from_be_bytes, from_be_bytes-to_be_bytes_4, get_or, IsTrue, length, length-append}
use proofs.Words.{List, max_body, None, Ok, Option, refl, Result, Row}
use proofs.Words.{rows_bytes, Some, subst, sym, take}
use proofs.Words.{text_bytes, text_in, true, w32, ℕ, [], ◌&&◌, ◌++◌}
use proofs.Words.{◌+◌, ◌-◌, ◌==◌, ◌^◌, ◌↔◌, ◌∙◌, ◌∷◌, ◌≡◌, ◌≤◌}
use Rattle.std.specs.Str.{bytes_eq}
use Rattle.std.specs.Result.{IfOk, MatchResult}
use Rattle.std.proofs.lemmas.Slice.Eq.{bytes_eq-Decides}
use Rattle.dist_types.specs.Text.{IsText}
use Rattle.dist_types.proofs.LimitLemmas.{texts_compute}
use Rattle.handshake_frames.proofs.ReadingLemmas.{found_passes}
use specs.declared.fault.MessageFault.{MessageFault}
use specs.declared.part.PartKind.{PartKind}
use specs.declared.part.Message2.{Message2}
use specs.Parts.{HasSome, IsMessage2, IsPart, kind_byte, last_byte, message2_bytes, part_bytes}
use specs.Parts.{SpellsMessage2}
use specs.PartReading.{has_some, is_message2, messages2_in, part_in}
unfoldable use specs.PartReading.{message2}
use proofs.ReadingLemmas.{at_most, behind_text-text_bytes, below, counted_rows_in-rows_bytes}
use proofs.ReadingLemmas.{rows_compute, rows_within, text_alone, text_in-text_bytes}
use specs.declared.fault.MessageFault.TheVariants as faults
use specs.declared.message.Message.TheVariants as messages
use specs.declared.part.PartKind.TheVariants as kinds
use specs.declared.part.Message2.TheVariants as frames

-- ---- the limits as tests

some_computes : (kind : PartKind) (rows : List Row)
    → IsTrue (has_some kind rows) ↔ HasSome kind rows
some_computes kinds.Sync rows = (λ h. tt, λ h. refl)
some_computes kinds.Join rows = below 0 (length rows)
some_computes kinds.Leave rows = below 0 (length rows)

part_computes : (kind : PartKind) (scope : List ℕ) (number : ℕ) (last : Bool) (rows : List Row)
    → IsTrue (is_message2 (frames.Part kind scope number last rows)) ↔ IsPart kind scope number rows
part_computes kind scope number last rows =
    let all = Decides-and
    _ _ (Decides-and
    _ _ (Decides-and _ _ (Decides-and _ _ (texts_compute scope) (at_most 1 number))
    (below number (2 ^ 32))) (rows_compute rows)) (some_computes kind rows) in (
      λ h. let is = all.0 h in
          record {
            text = is.0.0.0.0;
            from_one = is.0.0.0.1;
            fits = is.0.0.1;
            few = is.0.1;
            some = is.1;
          },
      λ is. all.1 ((((is.text, is.from_one), is.fits), is.few), is.some),
    )

pub message2_computes : (m : Message2) → IsTrue (is_message2 m) ↔ IsMessage2 m
message2_computes (frames.Discover scope) = texts_compute scope
message2_computes (frames.Part kind scope number last rows) = part_computes kind scope number last
    rows
message2_computes (frames.Down scope) = texts_compute scope

-- ---- a message

abbrev spells : List ℕ → Message2 → Bool
spells body m = bytes_eq (message2_bytes m) body && is_message2 m

spells_true : (m : Message2) → IsMessage2 m → spells (message2_bytes m) m ≡ true
spells_true m is = and_from _ _ ((bytes_eq-Decides (message2_bytes m) (message2_bytes m)).1 refl)
    ((message2_computes m).1 is)

last_read : (last : Bool) → (last_byte last == 1) ≡ last
last_read true = refl
last_read false = refl

part_read : (kind other : PartKind) (scope : List ℕ) (number : ℕ) (last : Bool) (rows : List Row)
    → IsPart kind scope number rows
    → part_in other (message2_bytes (frames.Part kind scope number last rows)) ≡ frames.Part other
    scope number last rows
part_read kind other scope number last rows is =
    let text : text_in (text_bytes scope ++ part_bytes number last rows) ≡ scope =
    text_in-text_bytes scope (part_bytes number last rows) in
    let behind : behind_text (text_bytes scope ++ part_bytes number last rows) ≡ part_bytes number
    last rows = behind_text-text_bytes scope (part_bytes number last rows) in
    let numbered : from_be_bytes w32 (take 4 (part_bytes number last rows)) ≡ number =
    from_be_bytes-to_be_bytes_4 number is.fits in
    let listed : counted_rows_in (rows_bytes rows) ≡ rows = counted_rows_in-rows_bytes rows
    is.few in
    rw (text, behind, numbered, last_read last, listed) refl

-- the first candidate that passes is found
first_found : (body : List ℕ) (m candidate : Message2) (rest : Option Message2) → candidate ≡ m
    → spells body m ≡ true → cond (spells body candidate) (Some candidate) rest ≡ Some m
first_found body m candidate rest same test =
    subst (λ x. cond (spells body x) (Some x) rest ≡ Some m) (sym same) (rw test)

spelled_so : (m : Message2) → IsMessage2 m → message2 (message2_bytes m) ≡ Some m
unfolding message2
spelled_so (frames.Discover scope) is =
    rw (text_alone scope, spells_true (frames.Discover scope) is)
spelled_so (frames.Part kinds.Sync scope number last rows) is = let m = frames.Part kinds.Sync scope
    number last rows in first_found (message2_bytes m) m
    _ _ (part_read kinds.Sync kinds.Sync scope number last rows is) (spells_true m is)
spelled_so (frames.Part kinds.Join scope number last rows) is = let m = frames.Part kinds.Join scope
    number last rows in first_found (message2_bytes m) m
    _ _ (part_read kinds.Join kinds.Join scope number last rows is) (spells_true m is)
spelled_so (frames.Part kinds.Leave scope number last rows) is = let m =
    frames.Part kinds.Leave scope number last rows in first_found (message2_bytes m) m
    _ _ (part_read kinds.Leave kinds.Leave scope number last rows is) (spells_true m is)
spelled_so (frames.Down scope) is = rw (text_alone scope, spells_true (frames.Down scope) is)

pub message2-spelled : (body : List ℕ) (m : Message2) → SpellsMessage2 body m
    → message2 body ≡ Some m
message2-spelled body m spelled = ap message2 spelled.bytes ∙ spelled_so m spelled.within

pub SpellsMessage2-read : (body : List ℕ) (m : Message2) → message2 body ≡ Some m
    → SpellsMessage2 body m
unfolding message2
SpellsMessage2-read body m read =
    let tests = and_parts _ _ (found_passes (spells body) (messages2_in body) m read) in
    record {
      within = (message2_computes m).0 tests.1;
      bytes = sym ((bytes_eq-Decides (message2_bytes m) body).0 tests.0);
    }

-- a body spells at most one message
pub one_message2 : (body : List ℕ) (m n : Message2) → SpellsMessage2 body m → SpellsMessage2 body n
    → m ≡ n
one_message2 body m n a b = cc (message2-spelled body m a, message2-spelled body n b)

pub message2_within : (m : Message2) → IsMessage2 m → length (message2_bytes m) ≤ max_body
message2_within (frames.Discover s) is = grind (arith, is.not_long)
message2_within (frames.Part kind s number last rows) is =
    grind (arith, length-append, is.text.not_long, rows_within rows is.few)
message2_within (frames.Down s) is = grind (arith, is.not_long)

-- each message begins with its kind and its scope
pub spelled_scope2 : (body : List ℕ) (m : Message2) → SpellsMessage2 body m
    → (scope : List ℕ) × IsText scope
    × ((later : List ℕ) × (drop 1 body ≡ text_bytes scope ++ later))
spelled_scope2 body (frames.Discover scope) spelled =
    (scope, spelled.within, ([], ap (drop 1) spelled.bytes ∙ sym (append-nil (text_bytes scope))))
spelled_scope2 body (frames.Part kind scope number last rows) spelled =
    (scope, spelled.within.text, (part_bytes number last rows, ap (drop 1) spelled.bytes))
spelled_scope2 body (frames.Down scope) spelled =
    (scope, spelled.within, ([], ap (drop 1) spelled.bytes ∙ sym (append-nil (text_bytes scope))))

unread2 : (body : List ℕ) (fault : MessageFault) (read : Option Message2) → message2 body ≡ read
    → ((m : Message2) → SpellsMessage2 body m → fault ≡ faults.OutOfMemory)
    → fault ≡ faults.BadFrame → read ≡ None
unread2 body fault None is only bad = refl
unread2 body fault (Some m) is only bad = absurd (cc (only m (SpellsMessage2-read body m is), bad))

-- a decoder that finds what is spelled answers as the reader that computes does
pub answers_as_read2 : (body : List ℕ) (r : Result Message2 MessageFault)
    → IfOk r (SpellsMessage2 body)
    → ((m : Message2) → SpellsMessage2 body m → MatchResult r (λ read. read ≡ m)
    (λ fault. fault ≡ faults.OutOfMemory))
    → MatchResult r (λ m. message2 body ≡ Some m) (λ fault. fault ≡ faults.BadFrame
    → message2 body ≡ None)
answers_as_read2 body (Ok m) found only = message2-spelled body m found
answers_as_read2 body (Err fault) found only = unread2 body fault (message2 body) refl only

-- ---- a kind and a scope, and what stands behind them

same_kinds : (kind other : PartKind) → kind_byte kind ≡ kind_byte other → kind ≡ other
same_kinds kinds.Sync kinds.Sync same = refl
same_kinds kinds.Join kinds.Join same = refl
same_kinds kinds.Leave kinds.Leave same = refl
same_kinds kind other same = absurd (omega arith)

behind_scope2 : (kind other : ℕ) (scope text rest later : List ℕ)
    → kind ∷ text_bytes scope ++ rest ≡ other ∷ text_bytes text ++ later → rest ≡ later
behind_scope2 kind other scope text rest later same = sym (behind_text-text_bytes scope rest)
    ∙ ap (λ b. behind_text (drop 1 b)) same ∙ behind_text-text_bytes text later

-- the part behind the scope of its kind
pub part_behind : (kind : PartKind) (m : Message2) (scope rest : List ℕ)
    → SpellsMessage2 (kind_byte kind ∷ text_bytes scope ++ rest) m
    → (number : ℕ) × (last : Bool) × ((rows : List Row) × IsPart kind scope number rows
    × (rest ≡ part_bytes number last rows))
part_behind kind (frames.Part other text number last rows) scope rest spelled =
    let kinds : kind ≡ other = same_kinds kind other (ap (λ b. get_or b 0 0) spelled.bytes) in
    let texts : scope ≡ text = sym (text_in-text_bytes scope rest) ∙ ap (λ b. text_in (drop 1 b))
    spelled.bytes ∙ text_in-text_bytes text (part_bytes number last rows) in
    let within : IsPart kind scope number rows = rw (kinds, texts) spelled.within in (
      number,
      last,
      (
        rows,
        within,
        behind_scope2 (kind_byte kind) (kind_byte other) scope text rest
            (part_bytes number last rows) spelled.bytes,
      ),
    )
part_behind kinds.Sync m scope rest spelled = let first : 0x53 ≡ get_or (message2_bytes m) 0 0 =
    ap (λ b. get_or b 0 0) spelled.bytes in absurd (omega arith)
part_behind kinds.Join m scope rest spelled = let first : 0x4A ≡ get_or (message2_bytes m) 0 0 =
    ap (λ b. get_or b 0 0) spelled.bytes in absurd (omega arith)
part_behind kinds.Leave m scope rest spelled = let first : 0x4C ≡ get_or (message2_bytes m) 0 0 =
    ap (λ b. get_or b 0 0) spelled.bytes in absurd (omega arith)
