-- What is handed in is what was said.
use Rattle.otp_edge.specs
use Rattle.otp_edge.proofs.Words.{Bool, false, refl, true}
use Rattle.std.specs.Prelude.{cond, IfSome}
use specs.HeardWords.{heard_said, IsWordOf}
use specs.ScopeEdges.{heard_of, is_of, may_state, nothing, only_word, Seen}
use specs.declared.meaning.Said.{Said}
use specs.declared.scope_edge.HeardWord.{HeardWord}
use specs.declared.scope_edge.Run.{Run}
use specs.declared.word.Word.{Word}
use specs.declared.meaning.Said.TheVariants as saids
use specs.declared.word.Word.TheVariants as words

word_if : (test : Bool) (P : Word → Type 0) (word : HeardWord) → IfSome word.word P
    → IfSome (cond test word nothing).word P
word_if true P word given = given
word_if false P word given = tt

pub word_of : (run : Run) (said : Said) (seen : Seen)
    → IfSome (heard_said run said seen).word (IsWordOf said)
word_of run (saids.Discover p) seen =
    word_if (is_of run p) (IsWordOf (saids.Discover p)) (heard_of p words.Discover seen) tt
word_of run (saids.Sync p rows) seen =
    word_if (is_of run p) (IsWordOf (saids.Sync p rows)) (heard_of p (words.Sync rows) seen) refl
word_of run (saids.Join p rows) seen =
    word_if (may_state p rows seen) (IsWordOf (saids.Join p rows)) (only_word (words.Join rows))
    refl
word_of run (saids.Leave p rows) seen =
    word_if (may_state p rows seen) (IsWordOf (saids.Leave p rows)) (only_word (words.Leave rows))
    refl
