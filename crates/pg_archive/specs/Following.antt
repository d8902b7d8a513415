-- What a line is read as, and how a life is played again.
use Rattle.std.specs.Prelude.{◌≡◌, ◌≢◌, ℕ, ◌+◌, List, ◌++◌, Option, IfSome, IsSomeAnd}
use Rattle.policy_audit.specs.declared.event.Event.{Event}
use Rattle.policy_audit.specs.declared.event.Event.TheVariants as event
use Rattle.policy_audit.specs.declared.entry.Entry.{Entry}
use Rattle.policy_audit.specs.History.{History, audited, entered}
use Rattle.policy_audit.specs.Log.{entry_at}
use Rattle.policy_audit.specs.Policy.{after}
use Rattle.pg_archive.specs.declared.asked.Asked.{Asked}
use Rattle.pg_archive.specs.declared.asked.Asked.TheVariants as asked
use Rattle.pg_archive.specs.declared.reading.Line.{Line}
use Rattle.pg_archive.specs.declared.reading.Line.TheVariants as line
use Rattle.pg_archive.specs.declared.replay.ReplayFault.{ReplayFault}
use Rattle.pg_archive.specs.declared.replay.ReplayFault.TheVariants as faults
use Rattle.pg_archive.specs.Entries.{life_text, judged_text, entry_text, text_of}
use Rattle.pg_archive.specs.Events.{told_head}

-- no cookie is made up: an event that sets one is told without it
abbrev pub HasNoCookie : Asked → Type 0
HasNoCookie (asked.Event (event.SetCookie cookie)) = ⊥
HasNoCookie (asked.Event (event.SetCookieFor peer cookie)) = ⊥
HasNoCookie told = Unit {0}

-- a line without its line feed is that of the life, or begins with what is told of the entry
abbrev pub IsRead : List ℕ → Line → Type 0
IsRead text (line.Life life) = text ≡ life_text life
IsRead text (line.Entry told) = HasNoCookie told.asked ×
    ((rest : List ℕ) × (text ≡ told_head told ++ rest))

-- the line of the entry of this number, where there is one
abbrev pub line_at : ℕ → History → Option (List ℕ)
line_at number h = text_of (entry_at number (audited h.entries))

-- the node has seen the event, and is as the written policy makes it
unfoldable pub Steps : History → ℕ → Event → History → Type 0
Steps old seat event new = new ≡ after old seat event

-- the line begins as that of the entry, up to what it changed
abbrev pub IsJudgedSo : Entry → List ℕ → Type 0
IsJudgedSo entry text = (rest : List ℕ) × (text ≡ judged_text entry ++ rest)

-- why a line isn't that of the entry of this number: it isn't judged so, or only its change differs
abbrev pub Differs : ReplayFault → ℕ → Option Entry → List ℕ → Type 0
Differs (faults.Order n) number found text = ⊥
Differs (faults.Verdict n) number found text = (n ≡ number) ×
    IfSome found (λ entry. IsJudgedSo entry text → ⊥)
Differs (faults.Change n) number found text = (n ≡ number) ×
    IsSomeAnd found (λ entry. IsJudgedSo entry text × (text ≢ entry_text entry))
Differs faults.Memory number found text = Unit {0}

-- why an entry doesn't follow: its number, and nothing was played; or its event was played, and its
-- line isn't that of the entry which that made
abbrev pub IsFault : ReplayFault → ℕ → ℕ → Event → List ℕ → History → History → Type 0
IsFault (faults.Order n) number seat event text old new = (n ≡ number) ×
    (number ≢ entered old.entries + 1) × (new ≡ old)
IsFault faults.Memory number seat event text old new = Unit {0}
IsFault fault number seat event text old new = (number ≡ entered old.entries + 1) ×
    Steps old seat event new × Differs fault number (entry_at number (audited new.entries)) text
