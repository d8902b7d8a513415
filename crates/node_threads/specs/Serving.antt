-- What both workers of a link have done.
use Rattle.std.specs.Prelude.{◌≡◌, ℕ, List, Option}
use Rattle.std.specs.Io.KnownBytes.{Consumes, IsAtEnd}
use Rattle.node_threads.specs.declared.ends.ReadEnd.{ReadEnd}
use Rattle.node_threads.specs.declared.ends.ReadEnd.TheVariants as ends
use Rattle.node_threads.specs.declared.ends.WriteEnd.{WriteEnd}
use Rattle.node_threads.specs.Calls.{Record}
use Rattle.node_threads.specs.Reading.{ReadsAs}
use Rattle.node_threads.specs.Writing.{WritesAs}

-- the reader of the link has read some of the bytes that there were; where they ended, all
abbrev pub HasRead : ℕ → Record → Option (List ℕ) → ReadEnd → Record → Type 0
HasRead link pass known end pass' = (bytes : List ℕ) × (left : Option (List ℕ))
    × Consumes known left bytes × ReadsAs link pass bytes end pass'
    × (end ≡ ends.Closed → IsAtEnd left)

-- the writer of the link has written
abbrev pub HasWritten : ℕ → Record → Option (List ℕ) → WriteEnd → Record → Type 0
HasWritten link pass known end pass' = (now : Option (List ℕ))
    × WritesAs link pass known end now pass'
