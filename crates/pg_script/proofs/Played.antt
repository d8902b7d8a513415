-- What the loop over the lines keeps.
use Rattle.pg_script.specs
use Rattle.std.proofs.Common.{ap, append-nil, append_assoc, arith, Bool, cond, drop, Err, false}
use Rattle.std.proofs.Common.{IfSome, inl, inr, length, List, None, Option, refl, Some, subst, sym}
use Rattle.std.proofs.Common.{take, true, ℕ, [], ◌++◌, ◌+◌, ◌-◌, ◌<◌, ◌∙◌, ◌∷◌, ◌≡◌, ◌≤◌}
use Rattle.std.proofs.lemmas.List.{length-drop, take-append-drop, take_all}
use Rattle.std.proofs.Math.Seq.{take-add}
use Rattle.std.specs.Prelude.{◌⊎◌}
use Rattle.std.specs.Io.KnownBytes.{Appends}
use Rattle.std.specs.Io.BufRead.{drop_through, strip_last, take_through}
use Rattle.policy_audit.specs.declared.opening.Opening.{Opening}
use specs.Playing.{opened_with, Playing}
use Rattle.pg_text.specs.Answers.{fault_line}
use Rattle.pg_text.specs.Lines.{lines_of}
use specs.Transcript.{fault_from, fault_in, is_fault, text_by}
use specs.declared.script.RunFault.{RunFault}
use specs.Runs.{Begins, Ends, Writes}
use Rattle.pg_text.proofs.LineLemmas.{lines_step}
use specs.declared.script.RunFault.TheVariants as faults

-- the writer holds the answers to the lines before line k, and what is left of the script gives the
-- others, where a line that is met so is answered by `text` and leaves what `left` says
pub record Played {M : Type 0} (usual : M) (text : M → Playing → List ℕ → List ℕ)
    (left : M → Playing → List ℕ → Playing) (o : Opening) (script : List ℕ)
    (old holds : Option (List ℕ)) (now : Playing) (k : ℕ) (rest : List ℕ) : Type 0 where
  pub past : List M
  pub written : List ℕ
  pub appended : Appends old holds written
  pub whole : (later : List M) → text_by usual text left (past ++ later) (opened_with o) 1 (lines_of
      script) ≡ written ++ text_by usual text left later now k (lines_of rest)
  pub fault : fault_in script ≡ fault_from k (lines_of rest)

-- the text of a script whose lines are met so
abbrev pub whole_text : {M : Type 0} → M → (M → Playing → List ℕ → List ℕ)
    → (M → Playing → List ℕ → Playing) → Opening → List ℕ → List M → List ℕ
whole_text usual text left o script met =
    text_by usual text left met (opened_with o) 1 (lines_of script)

-- bytes that are added twice are added together
appends_then : (u v w : Option (List ℕ)) (a b : List ℕ) → Appends u v a → Appends v w b
    → Appends u w (a ++ b)
appends_then None v w a b x y = tt
appends_then (Some xs) None w a b x y = absurd x
appends_then (Some xs) (Some ys) None a b x y = y
appends_then (Some xs) (Some ys) (Some zs) a b x y = y ∙ ap (λ (t : List ℕ). t ++ b) x
    ∙ append_assoc xs a b

-- the first of some bytes, and then some of those that are left
pub sent_more : (u v w : Option (List ℕ)) (bytes : List ℕ) (sent count : ℕ) → sent ≤ length bytes
    → count ≤ length (take (length bytes - sent) (drop sent bytes))
    → Appends u v (take sent bytes)
    → Appends v w (take count (take (length bytes - sent) (drop sent bytes)))
    → (sent + count ≤ length bytes) × Appends u w (take (sent + count) bytes)
sent_more u v w bytes sent count within some first more =
    let left : take (length bytes - sent) (drop sent bytes) ≡ drop sent bytes = take_all
    (length bytes - sent) (drop sent bytes) (omega (arith, length-drop sent bytes)) in (
      omega (
        arith,
        within,
        length-drop sent bytes,
        subst (λ (xs : List ℕ). count ≤ length xs) left some,
      ),
      rw (take-add sent count bytes)
          (appends_then u v w (take sent bytes) (take count (drop sent bytes)) first
          (subst (λ (xs : List ℕ). Appends v w (take count xs)) left more)),
    )

pub appends_none : (u : Option (List ℕ)) → Appends u u []
appends_none None = tt
appends_none (Some xs) = sym (append-nil xs)

pub played_start : {M : Type 0} (usual : M) (text : M → Playing → List ℕ → List ℕ)
    (left : M → Playing → List ℕ → Playing) (o : Opening) (script : List ℕ)
    (old : Option (List ℕ)) → Played usual text left o script old old (opened_with o) 1 script
played_start usual text left o script old = record {
  past = [];
  written = [];
  appended = appends_none old;
  whole = λ later. refl;
  fault = refl;
}

-- what is left begins with a line
first_of : (rest : List ℕ) → 0 < length rest
    → lines_of rest ≡ strip_last 10 (take_through 10 rest) ∷ lines_of (drop_through 10 rest)
first_of [] some = absurd (omega arith)
first_of (b ∷ bytes) some = lines_step b bytes

-- which is this one
first_line : {line : List ℕ} (rest : List ℕ) → 0 < length rest
    → line ≡ strip_last 10 (take_through 10 rest)
    → lines_of rest ≡ line ∷ lines_of (drop_through 10 rest)
first_line rest some is = rw is (first_of rest some)

-- a text is cut within the second of its three parts
cut_second : (a b c : List ℕ) (n : ℕ) → a ++ (b ++ c) ≡ (a ++ take n b) ++ (drop n b ++ c)
cut_second a b c n = ap (λ (t : List ℕ). a ++ (t ++ c)) (sym (take-append-drop n b))
    ∙ ap (λ (t : List ℕ). a ++ t) (append_assoc (take n b) (drop n b) c)
    ∙ sym (append_assoc a (take n b) (drop n b ++ c))

-- what comes behind a choice comes behind each side, or belongs to it
cond_append : (b : Bool) (x y z : List ℕ) → cond b x (y ++ z) ≡ cond b x y ++ cond b [] z
cond_append true x y z = sym (append-nil x)
cond_append false x y z = refl

module _ {M : Type 0} {usual : M} {text : M → Playing → List ℕ → List ℕ}
    {left : M → Playing → List ℕ → Playing} {o : Opening} {k : ℕ} {script rest line : List ℕ}
    {old holds : Option (List ℕ)} {now : Playing}
    (p : Played usual text left o script old holds now k rest) where
  -- a line that was answered
  pub played_next : {next : Playing} {then : Option (List ℕ)} (bytes : List ℕ) (m : M)
      → 0 < length rest → line ≡ strip_last 10 (take_through 10 rest) → is_fault line ≡ false
      → bytes ≡ text m now line → next ≡ left m now line → Appends holds then bytes
      → Played usual text left o script old then next (k + 1) (drop_through 10 rest)
  played_next {next} {then} bytes m some is sound said leaves sent = record {
    past = p.past ++ m ∷ [];
    written = p.written ++ bytes;
    appended = appends_then old holds then p.written bytes p.appended sent;
    whole = λ later.
        ap (λ (l : List M). text_by usual text left l (opened_with o) 1 (lines_of script))
        (append_assoc p.past (m ∷ []) later)
        ∙ p.whole (m ∷ later)
        ∙ ap (λ (t : List ℕ). p.written ++ t) (step later)
        ∙ sym (append_assoc p.written bytes
        (text_by usual text left later next (k + 1) (lines_of (drop_through 10 rest))));
    fault = p.fault ∙ ap (fault_from k) (first_line rest some is) ∙ rw sound refl;
  }
    where
      step : (later : List M)
          → text_by usual text left (m ∷ later) now k (lines_of rest)
          ≡ bytes ++ text_by usual text left later next (k + 1) (lines_of (drop_through 10 rest))
      step later = ap (text_by usual text left (m ∷ later) now k) (first_line rest some is)
          ∙ rw (sound, said, leaves) refl

  -- a line that can't be read ends the text
  pub played_fault : {then : Option (List ℕ)} → 0 < length rest
      → line ≡ strip_last 10 (take_through 10 rest) → is_fault line ≡ true
      → Appends holds then (fault_line k)
      → (fault_in script ≡ Some k) × Writes (whole_text usual text left o script) old then
  played_fault {then} some is bad sent = (
    p.fault ∙ ap (fault_from k) (first_line rest some is) ∙ rw bad refl,
    record {
      met = p.past ++ [];
      appended = rw (p.whole [] ∙ ap (λ (t : List ℕ). p.written ++ t) last)
          (appends_then old holds then p.written (fault_line k) p.appended sent);
    },
  )
    where
      last : text_by usual text left [] now k (lines_of rest) ≡ fault_line k
      last = ap (text_by usual text left [] now k) (first_line rest some is) ∙ rw bad refl

  -- a beginning of what the line is owed is a beginning of the text
  pub played_begun : {then : Option (List ℕ)} (m : M) (n : ℕ) → 0 < length rest
      → line ≡ strip_last 10 (take_through 10 rest)
      → Appends holds then (take n (cond (is_fault line) (fault_line k) (text m now line)))
      → Begins (whole_text usual text left o script) old then
  played_begun {then} m n some is sent = record {
    met = p.past ++ m ∷ [];
    written = p.written ++ take n owed;
    unwritten = drop n owed ++ others;
    parts = p.whole (m ∷ []) ∙ ap (λ (t : List ℕ). p.written ++ t) step ∙ cut_second p.written
        owed others n;
    appended = appends_then old holds then p.written (take n owed) p.appended sent;
  }
    where
      owed : List ℕ
      owed = cond (is_fault line) (fault_line k) (text m now line)

      behind : List ℕ
      behind = text_by usual text left [] (left m now line) (k + 1)
          (lines_of (drop_through 10 rest))

      others : List ℕ
      others = cond (is_fault line) [] behind

      step : text_by usual text left (m ∷ []) now k (lines_of rest) ≡ owed ++ others
      step = ap (text_by usual text left (m ∷ []) now k) (first_line rest some is)
          ∙ cond_append (is_fault line) (fault_line k) (text m now line) behind

module _ {M : Type 0} {usual : M} {text : M → Playing → List ℕ → List ℕ}
    {left : M → Playing → List ℕ → Playing} {o : Opening} {k : ℕ} {script rest : List ℕ}
    {old holds : Option (List ℕ)} {now : Playing}
    (p : Played usual text left o script old holds now k rest) where
  -- nothing is left
  pub played_end : rest ≡ []
      → (fault_in script ≡ None) × Writes (whole_text usual text left o script) old holds
  played_end none = (
    p.fault ∙ ap (λ (r : List ℕ). fault_from k (lines_of r)) none,
    record {
      met = p.past ++ [];
      appended = rw (p.whole []
          ∙ ap (λ (r : List ℕ). p.written ++ text_by usual text left [] now k (lines_of r))
          none ∙ append-nil p.written) p.appended;
    },
  )

  -- something was written
  pub played_part : Begins (whole_text usual text left o script) old holds
  played_part = record {
    met = p.past ++ [];
    written = p.written;
    unwritten = text_by usual text left [] now k (lines_of rest);
    parts = p.whole [];
    appended = p.appended;
  }

  -- after a line that was not answered: it can't be read, and the text has its end; or memory
  -- lacked; or a beginning of what it is owed was written
  pub played_told : {then : Option (List ℕ)} {line : List ℕ} (fault : RunFault)
      → 0 < length rest → line ≡ strip_last 10 (take_through 10 rest)
      → (fault ≡ faults.Script k) ⊎ (fault ≡ faults.Memory) ⊎ (fault ≡ faults.Write)
      → (fault ≡ faults.Script k → (is_fault line ≡ true) × Appends holds then (fault_line k))
      → (fault ≡ faults.Memory → then ≡ holds)
      → (fault ≡ faults.Write → (m : M) × (n : ℕ) × Appends holds then
      (take n (cond (is_fault line) (fault_line k) (text m now line))))
      → Ends {U = Unit {0}} (whole_text usual text left o script) script old then (Err fault)
  played_told fault some is (inl e) told untold begun =
      rw e (played_fault p some is (told e).0 (told e).1)
  played_told fault some is (inr (inl e)) told untold begun = rw (e, untold e) played_part
  played_told fault some is (inr (inr e)) told untold begun =
      rw e (played_begun p (begun e).0 (begun e).1 some is (begun e).2)

-- a reader gave something
pub came : (rest : List ℕ) → 0 < length (take_through 10 rest) → 0 < length rest
came [] some = some
came (b ∷ bytes) some = omega arith

-- the same, with what the bytes are known to be
pub if_known : (known : Option (List ℕ)) {Q : List ℕ → Type 0}
    → ((xs : List ℕ) → known ≡ Some xs → Q xs) → IfSome known Q
if_known None f = tt
if_known (Some xs) f = f xs refl
