-- The worked bodies of the frames are read as what they say.
use Rattle.handshake_frames.specs
use Rattle.std.proofs.Common.{codes, List, refl, Some, ℕ, [], ◌++◌, ◌∷◌, ◌≡◌}
use specs.Frame.{Name}
use specs.Reading.{ack_frame, challenge_frame, name_frame, reply_frame, status_of}
use specs.declared.frame.StatusWord.TheVariants as word

-- the flags of bits 0 and 24, the creation 5, and `a@h`
head : List ℕ
head = 0x4E ∷ 0 ∷ 0 ∷ 0 ∷ 0 ∷ 1 ∷ 0 ∷ 0 ∷ 1 ∷ 0 ∷ 0 ∷ 0 ∷ 5 ∷ 0 ∷ 3 ∷ 0x61 ∷ 0x40 ∷ 0x68 ∷ []

said : ℕ → Name
said version =
    record { flags = 0x1000001; creation = 5; name = codes "a@h"; version = version }

-- nothing behind the name, and a byte other than 02, say version 1
read_bare : name_frame head ≡ Some (said 1)
unfolding name_frame head said
read_bare = refl

read_other : name_frame (head ++ 0xAA ∷ []) ≡ Some (said 1)
unfolding name_frame head said
read_other = refl

-- 02 says version 2, and 02 twice doesn't
read_2 : name_frame (head ++ 2 ∷ []) ≡ Some (said 2)
unfolding name_frame head said
read_2 = refl

read_2_twice : name_frame (head ++ 2 ∷ 2 ∷ []) ≡ Some (said 1)
unfolding name_frame head said
read_2_twice = refl

-- MD5 of `password123`
digest : List ℕ
digest = 0x48 ∷ 0x2C ∷ 0x81 ∷ 0x1D ∷ 0xA5 ∷ 0xD5 ∷ 0xB4 ∷ 0xBC ∷ 0x6D ∷ 0x49 ∷ 0x7F ∷ 0xFA ∷ 0x98
    ∷ 0x49 ∷ 0x1E ∷ 0x38 ∷ []

read_status : status_of (codes "sok_simultaneous") ≡ Some word.OkSimultaneous
unfolding status_of
read_status = refl

read_challenge : challenge_frame (0x4E ∷ 0 ∷ 0 ∷ 0 ∷ 0 ∷ 1 ∷ 0 ∷ 0 ∷ 1 ∷ 0 ∷ 0 ∷ 0 ∷ 0x7B ∷ 0 ∷ 0
    ∷ 0 ∷ 4 ∷ 0 ∷ 3 ∷ 0x62 ∷ 0x40 ∷ 0x68 ∷ 2 ∷ [])
    ≡ Some
    (record { flags = 0x1000001; challenge = 123; creation = 4; name = codes "b@h"; version = 2 })
unfolding challenge_frame
read_challenge = refl

read_reply : reply_frame (0x72 ∷ 0 ∷ 0 ∷ 0 ∷ 1 ∷ digest) ≡ Some
    (record { challenge = 1; digest = digest })
unfolding reply_frame digest
read_reply = refl

read_ack : ack_frame (0x61 ∷ digest) ≡ Some (record { digest = digest })
unfolding ack_frame digest
read_ack = refl
