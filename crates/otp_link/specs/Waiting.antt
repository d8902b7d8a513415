-- Which bytes of a stock node wait to be used.
use Rattle.std.specs.Prelude.{ℕ, List, drop}
use Rattle.otp_link.specs.declared.inward.Inward.{Inward}

-- the bytes that have come, but for those that were used
abbrev pub waiting : Inward → List ℕ
waiting inward = drop inward.used inward.bytes.items
