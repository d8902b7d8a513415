-- The digests of RFC 1321's test suite and of the handshake, so that a wrong definition doesn't
-- check.
use Rattle.std.specs.Prelude.{codes, refl, [], ◌∷◌, ◌≡◌}
use Rattle.std.specs.Fmt.{digits}
use Rattle.md5.specs.Md5.{block_words, compress, digest_bytes, hash_after, md5, rounds}
use Rattle.cookie_digest.specs.Digest.{digest_of}

pub md5-of_nothing : md5 (codes "") ≡ 0xd4 ∷ 0x1d ∷ 0x8c ∷ 0xd9 ∷ 0x8f ∷ 0x00 ∷ 0xb2 ∷ 0x04 ∷ 0xe9
    ∷ 0x80 ∷ 0x09 ∷ 0x98 ∷ 0xec ∷ 0xf8 ∷ 0x42 ∷ 0x7e ∷ []
unfolding block_words rounds compress hash_after digest_bytes md5
md5-of_nothing = refl

pub md5-of_a : md5 (codes "a") ≡ 0x0c ∷ 0xc1 ∷ 0x75 ∷ 0xb9 ∷ 0xc0 ∷ 0xf1 ∷ 0xb6 ∷ 0xa8 ∷ 0x31 ∷ 0xc3
    ∷ 0x99 ∷ 0xe2 ∷ 0x69 ∷ 0x77 ∷ 0x26 ∷ 0x61 ∷ []
unfolding block_words rounds compress hash_after digest_bytes md5
md5-of_a = refl

pub md5-of_message_digest : md5 (codes "message digest") ≡ 0xf9 ∷ 0x6b ∷ 0x69 ∷ 0x7d ∷ 0x7c ∷ 0xb7
    ∷ 0x93 ∷ 0x8d ∷ 0x52 ∷ 0x5a ∷ 0x2f ∷ 0x31 ∷ 0xaa ∷ 0xf1 ∷ 0x61 ∷ 0xd0 ∷ []
unfolding block_words rounds compress hash_after digest_bytes md5
md5-of_message_digest = refl

pub digest_of-abc : digest_of (codes "abc") 123 ≡ 0xe9 ∷ 0x9a ∷ 0x18 ∷ 0xc4 ∷ 0x28 ∷ 0xcb ∷ 0x38
    ∷ 0xd5 ∷ 0xf2 ∷ 0x60 ∷ 0x85 ∷ 0x36 ∷ 0x78 ∷ 0x92 ∷ 0x2e ∷ 0x03 ∷ []
unfolding block_words rounds compress hash_after digest_bytes md5 digits
digest_of-abc = refl

pub digest_of-zero : digest_of (codes "abc") 0 ≡ 0x57 ∷ 0x75 ∷ 0x71 ∷ 0xbe ∷ 0x4d ∷ 0xe9 ∷ 0xdc
    ∷ 0xce ∷ 0x85 ∷ 0xa0 ∷ 0x41 ∷ 0xba ∷ 0x04 ∷ 0x10 ∷ 0xf2 ∷ 0x9f ∷ []
unfolding block_words rounds compress hash_after digest_bytes md5 digits
digest_of-zero = refl

-- the cookie and the challenge are the last text of the suite, which takes two blocks
pub digest_of-two_blocks : digest_of
    (codes "1234567890123456789012345678901234567890123456789012345678901234567890") 1234567890
    ≡ 0x57 ∷ 0xed ∷ 0xf4 ∷ 0xa2 ∷ 0x2b ∷ 0xe3 ∷ 0xc9 ∷ 0x55 ∷ 0xac ∷ 0x49 ∷ 0xda ∷ 0x2e ∷ 0x21
    ∷ 0x07 ∷ 0xb6 ∷ 0x7a ∷ []
unfolding block_words rounds compress hash_after digest_bytes md5 digits
digest_of-two_blocks = refl
