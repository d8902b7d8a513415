-- The digest of the handshake (Distribution Protocol, Distribution Handshake).
use Rattle.std.specs.Prelude.{ℕ, List, ◌++◌, decimal}
use Rattle.md5.specs.Md5.{md5}

-- MD5 of the cookie's bytes and then the challenge in decimal, without leading zeros
abbrev pub digest_of : List ℕ → ℕ → List ℕ
digest_of cookie challenge = md5 (cookie ++ decimal challenge)
