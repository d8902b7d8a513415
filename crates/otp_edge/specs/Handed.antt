-- What is handed in, as the bytes of a link that isn't in parts.
use Rattle.std.specs.Prelude.{◌≡◌, ◌⊎◌, ℕ, List, [], ◌++◌, Option, Some, None}
use Rattle.link_frames.specs.Spelling.{message_bytes}
use Rattle.link_frames.specs.declared.message.Message.{Message}
use Rattle.link_frames.specs.declared.message.Message.TheVariants as messages
use Rattle.otp_edge.specs.Bodies.{framed}
use Rattle.otp_edge.specs.Opens.{HasRows}
use Rattle.otp_edge.specs.declared.heard.Heard.{Heard}

-- a message behind its length; nothing where it has more rows than one may bring, or lacks some
abbrev pub IsFrame : Option Message → List ℕ → Type 0
IsFrame None bytes = bytes ≡ []
IsFrame (Some m) bytes = (HasRows 4096 m × (bytes ≡ framed (message_bytes m)))
    ⊎ ((HasRows 4096 m → ⊥) × (bytes ≡ []))

-- it is put behind what was there
pub record PutsFrame (m : Option Message) (before after : List ℕ) : Type 0 where
  pub frame : List ℕ
  pub is : IsFrame m frame
  pub behind : after ≡ before ++ frame

abbrev pub down_bytes : Option (List ℕ) → List ℕ
down_bytes None = []
down_bytes (Some scope) = framed (message_bytes (messages.Down scope))

-- a Down where there is one, and the message
abbrev pub AreFrames : Heard → List ℕ → Type 0
AreFrames heard out = PutsFrame heard.message (down_bytes heard.down) out
