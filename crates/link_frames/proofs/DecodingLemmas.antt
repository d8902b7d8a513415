-- What a decoder may answer, by what the body spells and what readers of fields found.
use Rattle.link_frames.proofs
use Rattle.link_frames.specs
use proofs.Words.{ap, append-nil, AreRows, arith, behind_text, drop, Err, get_or, IfSome, IsSomeAnd}
use proofs.Words.{length, List, Message, message, message_bytes, None, Ok, ok_or, Option, refl}
use proofs.Words.{Result, Row, rows_bytes, Some, SpellsMessage, sym, text_bytes, ℕ, [], ◌++◌, ◌<◌}
use proofs.Words.{◌∙◌, ◌∷◌, ◌≡◌}
use Rattle.std.specs.Result.{IfOk, MatchResult}
use Rattle.dist_types.specs.Text.{IsText}
use specs.declared.fault.MessageFault.{MessageFault}
use proofs.ReadingLemmas.{behind_text-text_bytes, message-spelled, SpellsMessage-read}
use specs.declared.fault.MessageFault.TheVariants as faults
use specs.declared.message.Message.TheVariants as messages

-- a field that is found is not refused
pub found_not_refused : {T E : Type 0} (o : Option T) (P : T → Type 0) (e f : E) → IsSomeAnd o P
    → ok_or o e ≡ Err f → ⊥
found_not_refused (Some x) P e f found refused = cc refused
found_not_refused None P e f found refused = found

-- and what holds of it holds of what is read
pub found_so : {T E : Type 0} (o : Option T) (P : T → Type 0) (e : E) (x : T) → IsSomeAnd o P
    → ok_or o e ≡ Ok x → P x
found_so (Some y) P e x found read = let same : y ≡ x = cc read in rw (← same) found
found_so None P e x found read = absurd found

-- so does what holds of every field that is found
pub read_so : {T E : Type 0} (o : Option T) (P : T → Type 0) (e : E) (x : T) → IfSome o P
    → ok_or o e ≡ Ok x → P x
read_so (Some y) P e x found read = let same : y ≡ x = cc read in rw (← same) found
read_so None P e x found read = absurd (cc read)

-- each message begins with its kind and its scope
pub spelled_scope : (body : List ℕ) (m : Message) → SpellsMessage body m
    → (scope : List ℕ) × IsText scope
    × ((later : List ℕ) × (drop 1 body ≡ text_bytes scope ++ later))
spelled_scope body (messages.Discover scope) spelled =
    (scope, spelled.within, ([], ap (drop 1) spelled.bytes ∙ sym (append-nil (text_bytes scope))))
spelled_scope body (messages.Sync scope rows) spelled =
    (scope, spelled.within.0, (rows_bytes rows, ap (drop 1) spelled.bytes))
spelled_scope body (messages.Join scope rows) spelled =
    (scope, spelled.within.0, (rows_bytes rows, ap (drop 1) spelled.bytes))
spelled_scope body (messages.Leave scope rows) spelled =
    (scope, spelled.within.0, (rows_bytes rows, ap (drop 1) spelled.bytes))
spelled_scope body (messages.Down scope) spelled =
    (scope, spelled.within, ([], ap (drop 1) spelled.bytes ∙ sym (append-nil (text_bytes scope))))

-- what stands behind equal texts is equal
behind_scope : (kind other : ℕ) (scope text rest later : List ℕ)
    → kind ∷ text_bytes scope ++ rest ≡ other ∷ text_bytes text ++ later → rest ≡ later
behind_scope kind other scope text rest later same = sym (behind_text-text_bytes scope rest)
    ∙ ap (λ b. behind_text (drop 1 b)) same ∙ behind_text-text_bytes text later

-- the rows behind the scope of a Sync
pub sync_rows : (m : Message) (scope rest : List ℕ)
    → SpellsMessage (0x53 ∷ text_bytes scope ++ rest) m
    → (rows : List Row) × AreRows rows × (rest ≡ rows_bytes rows)
sync_rows (messages.Sync text rows) scope rest spelled =
    (rows, spelled.within.1, behind_scope 0x53 0x53 scope text rest (rows_bytes rows) spelled.bytes)
sync_rows m scope rest spelled = let kinds : 0x53 ≡ get_or (message_bytes m) 0 0 =
    ap (λ b. get_or b 0 0) spelled.bytes in absurd (omega arith)

-- the rows behind the scope of a Join
pub join_rows : (m : Message) (scope rest : List ℕ)
    → SpellsMessage (0x4A ∷ text_bytes scope ++ rest) m
    → (rows : List Row) × AreRows rows × (0 < length rows) × (rest ≡ rows_bytes rows)
join_rows (messages.Join text rows) scope rest spelled = (
  rows,
  spelled.within.1,
  spelled.within.2,
  behind_scope 0x4A 0x4A scope text rest (rows_bytes rows) spelled.bytes,
)
join_rows m scope rest spelled = let kinds : 0x4A ≡ get_or (message_bytes m) 0 0 =
    ap (λ b. get_or b 0 0) spelled.bytes in absurd (omega arith)

-- the rows behind the scope of a Leave
pub leave_rows : (m : Message) (scope rest : List ℕ)
    → SpellsMessage (0x4C ∷ text_bytes scope ++ rest) m
    → (rows : List Row) × AreRows rows × (0 < length rows) × (rest ≡ rows_bytes rows)
leave_rows (messages.Leave text rows) scope rest spelled = (
  rows,
  spelled.within.1,
  spelled.within.2,
  behind_scope 0x4C 0x4C scope text rest (rows_bytes rows) spelled.bytes,
)
leave_rows m scope rest spelled = let kinds : 0x4C ≡ get_or (message_bytes m) 0 0 =
    ap (λ b. get_or b 0 0) spelled.bytes in absurd (omega arith)

unread : (body : List ℕ) (fault : MessageFault) (read : Option Message) → message body ≡ read
    → ((m : Message) → SpellsMessage body m → fault ≡ faults.OutOfMemory) → fault ≡ faults.BadFrame
    → read ≡ None
unread body fault None is only bad = refl
unread body fault (Some m) is only bad = absurd (cc (only m (SpellsMessage-read body m is)))

-- a decoder that finds what is spelled answers as the reader that computes does
pub answers_as_read : (body : List ℕ) (r : Result Message MessageFault)
    → IfOk r (SpellsMessage body)
    → ((m : Message) → SpellsMessage body m → MatchResult r (λ read. read ≡ m)
    (λ fault. fault ≡ faults.OutOfMemory))
    → MatchResult r (λ m. message body ≡ Some m) (λ fault. fault ≡ faults.BadFrame
    → message body ≡ None)
answers_as_read body (Ok m) found only = message-spelled body m found
answers_as_read body (Err fault) found only = unread body fault (message body) refl only
