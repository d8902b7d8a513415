-- What is known of a scope that runs here, and what comes of a word about it.
use Rattle.std.specs.Prelude.{◌≡◌, ⊤, ◌<◌, ◌≤◌, ℕ, All, cond, length, List, Option, Some, None}
use Rattle.dist_types.specs.declared.pid.Pid.{Pid}
use Rattle.link_frames.specs.declared.message.Message.{Message}
use Rattle.link_frames.specs.declared.message.Message.TheVariants as messages
use Rattle.otp_edge.specs.ScopeEdges.{Seen, seen_of}
use Rattle.otp_edge.specs.declared.heard.Heard.{Heard}
use Rattle.otp_edge.specs.declared.left.Left.{Left}
use Rattle.otp_edge.specs.declared.open_scope.OpenScope.{OpenScope}
use Rattle.otp_edge.specs.declared.open_scope.Watcher.{Watcher}
use Rattle.otp_edge.specs.declared.scope_edge.HeardWord.{HeardWord}
use Rattle.otp_edge.specs.declared.word.Word.{Word}
use Rattle.otp_edge.specs.declared.word.Word.TheVariants as words

-- ---- what is known

pub record Open : Type 0 where
  pub scope : List ℕ
  pub own : Pid
  pub seen : Seen
  pub reference : ℕ
  pub watchers : List Watcher

abbrev pub open_of : OpenScope → Open
open_of o = record {
  scope = o.scope;
  own = o.own;
  seen = seen_of o.seen;
  reference = o.reference;
  watchers = o.watchers.items;
}

abbrev pub with_seen : Seen → Open → Open
with_seen seen o = record {
  scope = o.scope;
  own = o.own;
  seen = seen;
  reference = o.reference;
  watchers = o.watchers;
}

-- its name, and the process by which the peer knows it
abbrev pub known_as : OpenScope → List ℕ × Pid
known_as o = (o.scope, o.own)

-- the scope has another name
abbrev pub IsOther : List ℕ → OpenScope → Type 0
IsOther name o = o.scope ≡ name → ⊥

-- no scope of that name runs here
abbrev pub RunsNowhere : List ℕ → List OpenScope → Type 0
RunsNowhere name all = All (IsOther name) all

-- the peer knows the scope by another process
abbrev pub IsOtherProcess : Pid → OpenScope → Type 0
IsOtherProcess p o = o.own ≡ p → ⊥

-- ---- what is handed in

-- the message of a word about a scope
abbrev pub message_of : List ℕ → Word → Message
message_of scope words.Discover = messages.Discover scope
message_of scope (words.Sync rows) = messages.Sync scope rows
message_of scope (words.Join rows) = messages.Join scope rows
message_of scope (words.Leave rows) = messages.Leave scope rows
message_of scope words.Down = messages.Down scope

-- of a word, unless it is a leave
abbrev pub message_in : List ℕ → Option Word → Option Message
message_in scope None = None
message_in scope (Some (words.Leave rows)) = None
message_in scope (Some word) = Some (message_of scope word)

-- a leave is kept until it is cut
abbrev pub left_in : List ℕ → Option Word → Option Left
left_in scope (Some (words.Leave rows)) = Some (record { scope = scope; rows = rows })
left_in scope word = None

-- what comes of a word about a scope
pub record ComesOf (scope : List ℕ) (word : HeardWord) (heard : Heard) : Type 0 where
  pub down : heard.down ≡ cond word.is_down (Some scope) None
  pub message : heard.message ≡ message_in scope word.word
  pub left : heard.left ≡ left_in scope word.word

-- nothing is handed in
pub record IsNothing (heard : Heard) : Type 0 where
  pub down : heard.down ≡ None
  pub message : heard.message ≡ None
  pub left : heard.left ≡ None

-- one message is handed in
pub record IsOnly (m : Message) (heard : Heard) : Type 0 where
  pub down : heard.down ≡ None
  pub message : heard.message ≡ Some m
  pub left : heard.left ≡ None

-- its rows are no more than so many, and those of a join or a leave one at least
abbrev pub HasRows : ℕ → Message → Type 0
HasRows most (messages.Sync scope rows) = length rows ≤ most
HasRows most (messages.Join scope rows) = (0 < length rows) × (length rows ≤ most)
HasRows most (messages.Leave scope rows) = (0 < length rows) × (length rows ≤ most)
HasRows most message = ⊤
