-- What stands first, where there are two spellings.
use Rattle.otp_edge.proofs
use Rattle.otp_edge.specs
use proofs.Words.{ap, append_assoc, arith, IsList, IsPid, length, List, listed, Pid, pid_bytes}
use proofs.Words.{StandsFirst, sym, ℕ, [], ◌++◌, ◌<◌, ◌^◌, ◌∙◌, ◌∷◌, ◌≡◌, ◌≢◌}
use Rattle.std.specs.Prelude.{drop, get_or}
use Rattle.external_terms.specs.Terms.{SpellsTerm}
use Rattle.external_terms.specs.Values.{numbers_bytes, tuple_head}
use specs.PgMessages.{AreGroups, AreMembers, Groups, groups_bytes, IsStated, many, Members}
use specs.PgMessages.{members_bytes, numbers, one, Stated, stated_bytes, terms}

-- a list doesn't begin with this byte
no_list : {A : Type 0} (spell : A → List ℕ) (xs : List A) (later more : List ℕ) (byte : ℕ)
    → byte ≢ 106 → byte ≢ 108 → byte ∷ more ≡ listed spell xs ++ later → ⊥
no_list spell [] later more byte nil list same = nil (ap (λ l. get_or l 0 0) same)
no_list spell (x ∷ xs) later more byte nil list same = list (ap (λ l. get_or l 0 0) same)

-- ---- processes

one_only : (bytes : List ℕ) (p : Pid) (rest : List ℕ) → StandsFirst pid_bytes IsPid bytes p rest
    → (ms : Members) (later : List ℕ) → AreMembers ms → bytes ≡ members_bytes ms ++ later
    → (ms ≡ one p) × (later ≡ rest)
one_only bytes p rest first (one q) later are whole =
    let same = first.only q later are whole in (ap one same.0, same.1)
one_only bytes p rest first (many ps) later are whole = absurd (no_list pid_bytes ps later _ 88
    (λ e. omega arith) (λ e. omega arith) (sym first.bytes ∙ whole))

pub one_first : (bytes : List ℕ) (p : Pid) (rest : List ℕ)
    → StandsFirst pid_bytes IsPid bytes p rest
    → StandsFirst members_bytes AreMembers bytes (one p) rest
one_first bytes p rest first = record {
  within = first.within;
  bytes = first.bytes;
  only = one_only bytes p rest first;
}

many_only : (bytes : List ℕ) (ps : List Pid) (rest : List ℕ)
    → StandsFirst (listed pid_bytes) (IsList IsPid) bytes ps rest → (ms : Members)
    (later : List ℕ) → AreMembers ms → bytes ≡ members_bytes ms ++ later
    → (ms ≡ many ps) × (later ≡ rest)
many_only bytes ps rest first (one q) later are whole = absurd (no_list pid_bytes ps rest _ 88
    (λ e. omega arith) (λ e. omega arith) (sym whole ∙ first.bytes))
many_only bytes ps rest first (many qs) later are whole =
    let same = first.only qs later are whole in (ap many same.0, same.1)

pub many_first : (bytes : List ℕ) (ps : List Pid) (rest : List ℕ)
    → StandsFirst (listed pid_bytes) (IsList IsPid) bytes ps rest
    → StandsFirst members_bytes AreMembers bytes (many ps) rest
many_first bytes ps rest first = record {
  within = first.within;
  bytes = first.bytes;
  only = many_only bytes ps rest first;
}

-- what follows where one process doesn't stand in front
pub members_lack : (bytes : List ℕ) (Lack : Type 0)
    → ((p : Pid) (rest : List ℕ) → IsPid p → bytes ≡ pid_bytes p ++ rest → ⊥)
    → ((ps : List Pid) (rest : List ℕ) → IsList IsPid ps → bytes ≡ listed pid_bytes ps ++ rest
    → Lack) → (ms : Members) (rest : List ℕ) → AreMembers ms → bytes ≡ members_bytes ms ++ rest
    → Lack
members_lack bytes Lack single several (one p) rest are whole = absurd (single p rest are whole)
members_lack bytes Lack single several (many ps) rest are whole = several ps rest are whole

-- ---- groups

terms_only : (bytes : List ℕ) (gs : List (List ℕ)) (rest : List ℕ)
    → StandsFirst (listed (λ g. g)) (IsList SpellsTerm) bytes gs rest → (os : Groups)
    (later : List ℕ) → AreGroups os → bytes ≡ groups_bytes os ++ later
    → (os ≡ terms gs) × (later ≡ rest)
terms_only bytes gs rest first (terms hs) later are whole =
    let same = first.only hs later are whole in (ap terms same.0, same.1)
terms_only bytes gs rest first (numbers ns) later are whole = absurd (no_list (λ (g : List ℕ). g)
    gs rest _ 107 (λ e. omega arith) (λ e. omega arith) (sym whole ∙ first.bytes))

pub terms_first : (bytes : List ℕ) (gs : List (List ℕ)) (rest : List ℕ)
    → StandsFirst (listed (λ g. g)) (IsList SpellsTerm) bytes gs rest
    → StandsFirst groups_bytes AreGroups bytes (terms gs) rest
terms_first bytes gs rest first = record {
  within = first.within;
  bytes = first.bytes;
  only = terms_only bytes gs rest first;
}

-- how a string of numbers is read
abbrev pub ReadsNumbers : List ℕ → List ℕ → List ℕ → Type 0
ReadsNumbers bytes ns rest = (ms later : List ℕ) → length ms < 2 ^ 16
    → bytes ≡ numbers_bytes ms ++ later → (ns ≡ ms) × (rest ≡ later)

numbers_only : (bytes ns rest : List ℕ) → bytes ≡ numbers_bytes ns ++ rest
    → ReadsNumbers bytes ns rest → (os : Groups) (later : List ℕ) → AreGroups os
    → bytes ≡ groups_bytes os ++ later → (os ≡ numbers ns) × (later ≡ rest)
numbers_only bytes ns rest begins reads (terms hs) later are whole = absurd (no_list
    (λ (g : List ℕ). g) hs later _ 107 (λ e. omega arith) (λ e. omega arith) (sym begins ∙ whole))
numbers_only bytes ns rest begins reads (numbers ms) later are whole =
    let same = reads ms later are whole in (ap numbers (sym same.0), sym same.1)

pub numbers_first : (bytes ns rest : List ℕ) → length ns < 2 ^ 16
    → bytes ≡ numbers_bytes ns ++ rest → ReadsNumbers bytes ns rest
    → StandsFirst groups_bytes AreGroups bytes (numbers ns) rest
numbers_first bytes ns rest fits begins reads = record {
  within = fits;
  bytes = begins;
  only = numbers_only bytes ns rest begins reads;
}

-- what follows where no numbers stand in front
pub groups_lack : (bytes : List ℕ) (Lack : Groups → Type 0)
    → ((ns rest : List ℕ) → length ns < 2 ^ 16 → bytes ≡ numbers_bytes ns ++ rest → ⊥)
    → ((gs : List (List ℕ)) (rest : List ℕ) → IsList SpellsTerm gs
    → bytes ≡ listed (λ g. g) gs ++ rest → Lack (terms gs)) → (os : Groups) (rest : List ℕ)
    → AreGroups os → bytes ≡ groups_bytes os ++ rest → Lack os
groups_lack bytes Lack strings lists (terms gs) rest are whole = lists gs rest are whole
groups_lack bytes Lack strings lists (numbers ns) rest are whole =
    absurd (strings ns rest are whole)

-- ---- a group with its processes

pub stated_parts : (s : Stated) (later : List ℕ) → stated_bytes s ++ later
    ≡ tuple_head 2 ++ (s.group ++ (listed pid_bytes s.pids ++ later))
stated_parts s later = simp append_assoc

pub stated_first : (bytes rest term behind : List ℕ) (ps : List Pid) (last : List ℕ)
    → bytes ≡ tuple_head 2 ++ rest → StandsFirst (λ g. g) SpellsTerm rest term behind
    → StandsFirst (listed pid_bytes) (IsList IsPid) behind ps last
    → StandsFirst stated_bytes IsStated bytes (record { group = term; pids = ps }) last
stated_first bytes rest term behind ps last begins first second = record {
  within = record { group = first.within; pids = second.within };
  bytes = begins ∙ ap (λ l. tuple_head 2 ++ l) (first.bytes ∙ ap (λ l. term ++ l) second.bytes)
      ∙ sym (stated_parts (record { group = term; pids = ps }) last);
  only = λ s later is whole.
      let inside = ap (drop 2) (sym begins ∙ whole ∙ stated_parts s later) in
      let group = first.only s.group (listed pid_bytes s.pids ++ later) is.group inside in
      let pids = second.only s.pids later is.pids (sym group.1) in
      (λ i. record { group = group.0 i; pids = pids.0 i }, pids.1);
}
