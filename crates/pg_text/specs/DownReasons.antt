-- Why peers are down, as words.
use Rattle.std.specs.Prelude.{ℕ, List, codes}
use Rattle.pg_text.specs.declared.down_reason.DownReason.{DownReason}
use Rattle.pg_text.specs.declared.down_reason.DownReason.TheVariants as reasons

abbrev pub reason_word : DownReason → List ℕ
reason_word reasons.Closed = codes "closed"
reason_word reasons.Silent = codes "silent"
reason_word reasons.Slow = codes "slow"
reason_word reasons.Replaced = codes "replaced"
reason_word reasons.Unreadable = codes "unreadable"
reason_word reasons.Disconnected = codes "disconnected"
reason_word reasons.Restarted = codes "restarted"
