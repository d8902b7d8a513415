-- What is handed in of what a process of the peer's scope says, and what is known then.
use Rattle.std.specs.Prelude.{◌≡◌, ⊤, cond}
use Rattle.otp_edge.specs.ScopeEdges.{Seen, met, is_of, heard_of, may_state, nothing, only_word}
use Rattle.otp_edge.specs.declared.meaning.Said.{Said}
use Rattle.otp_edge.specs.declared.meaning.Said.TheVariants as saids
use Rattle.otp_edge.specs.declared.scope_edge.HeardWord.{HeardWord}
use Rattle.otp_edge.specs.declared.scope_edge.Run.{Run}
use Rattle.otp_edge.specs.declared.word.Word.{Word}
use Rattle.otp_edge.specs.declared.word.Word.TheVariants as words

abbrev pub heard_said : Run → Said → Seen → HeardWord
heard_said run (saids.Discover p) seen = cond (is_of run p) (heard_of p words.Discover seen) nothing
heard_said run (saids.Sync p rows) seen = cond (is_of run p) (heard_of p (words.Sync rows) seen)
    nothing
heard_said run (saids.Join p rows) seen =
    cond (may_state p rows seen) (only_word (words.Join rows)) nothing
heard_said run (saids.Leave p rows) seen =
    cond (may_state p rows seen) (only_word (words.Leave rows)) nothing

abbrev pub seen_said : Run → Said → Seen → Seen
seen_said run (saids.Discover p) seen = cond (is_of run p) (met p seen) seen
seen_said run (saids.Sync p rows) seen = cond (is_of run p) (met p seen) seen
seen_said run said seen = seen

-- the word is that of what was said, with all its rows
abbrev pub IsWordOf : Said → Word → Type 0
IsWordOf (saids.Discover p) words.Discover = ⊤
IsWordOf (saids.Sync p rows) (words.Sync given) = given ≡ rows
IsWordOf (saids.Join p rows) (words.Join given) = given ≡ rows
IsWordOf (saids.Leave p rows) (words.Leave given) = given ≡ rows
IsWordOf said word = ⊥
