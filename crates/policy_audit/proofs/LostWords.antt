-- What is said after some losses of links.
use Rattle.policy_audit.proofs
use proofs.Words.{Accepted, ap, append-nil, arith, audited, Bool, Change, cond, entered}
use proofs.Words.{Entry, false, heard, History, is_local, is_open, is_running, is_up}
use proofs.Words.{IsSameLink, just, List, list_any, listed, listed_by, lose, None, not, Opening}
use proofs.Words.{Option, option_map_or, own, past, Pid, present_link, refl, Refused, slow_links}
use proofs.Words.{Some, sym, told, true, Verdict, waiting_in, with_entry, ℕ}
use proofs.Words.{[], ◌&&◌, ◌==◌, ◌∙◌, ◌∷◌, ◌≡◌}
use proofs.Walked.{but}

-- one of these links
abbrev pub is_one : ℕ → List ℕ → Bool
is_one l ls = list_any (λ k. k == l) ls

-- ---- after some losses

module _ (es : List Entry) where
  -- they are no entries
  pub lost_entered : (ls : List ℕ) → entered (lose ls es) ≡ entered es
  lost_entered [] = refl
  lost_entered (l ∷ ls) = lost_entered ls

  pub lost_audited : (ls : List ℕ) → audited (lose ls es) ≡ audited es
  lost_audited [] = refl
  lost_audited (l ∷ ls) = lost_audited ls

  pub lost_open : (ls : List ℕ) (k : ℕ)
      → is_open k (lose ls es) ≡ (not (is_one k ls) && is_open k es)
  lost_open [] k = refl
  lost_open (l ∷ ls) k = grind (arith, lost_open ls k)

  -- of each link the same is said
  pub lost_same : (ls : List ℕ) (k : ℕ) → IsSameLink k es (lose ls es)
  lost_same [] k = grind arith
  lost_same (l ∷ ls) k = grind (arith, lost_same ls k)

  pub lost_up : (ls : List ℕ) (k : ℕ) → is_up k (lose ls es) ≡ (not (is_one k ls) && is_up k es)
  lost_up ls k = grind (arith, lost_open ls k, (lost_same ls k).whole)

  pub lost_waiting : (o : Opening) (ls : List ℕ) (k : ℕ)
      → waiting_in o k (lose ls es) ≡ cond (is_one k ls) [] (waiting_in o k es)
  lost_waiting o [] k = refl
  lost_waiting o (l ∷ ls) k = grind (arith, lost_waiting o ls k, append-nil)

  pub lost_heard : (o : Opening) (ls : List ℕ) (k : ℕ) (s : List ℕ)
      → heard o k s (lose ls es) ≡ (not (is_one k ls) && heard o k s es)
  lost_heard o ls k s = grind (arith, lost_up ls k, (lost_same ls k).talk o)

  pub lost_told : (o : Opening) (ls : List ℕ) (k : ℕ) (s : List ℕ)
      → told o k s (lose ls es) ≡ (not (is_one k ls) && told o k s es)
  lost_told o ls k s = grind (arith, lost_up ls k, (lost_same ls k).talk o)

  -- a node's present link, unless it is one of these
  abbrev pub left_link : List ℕ → Option ℕ → Option ℕ
  left_link ls None = None
  left_link ls (Some l) = cond (is_one l ls) None (Some l)

  pub lost_present : (ls : List ℕ) (n : List ℕ)
      → present_link n (lose ls es) ≡ left_link ls (present_link n es)
  lost_present [] n = grind arith
  lost_present (l ∷ ls) n = grind (arith, lost_present ls n)

  -- who is listed by his present link, when that isn't one of these
  abbrev pub listed_left : Opening → List ℕ → List ℕ → List ℕ → Pid → ℕ
  listed_left o ls s g p =
      cond (is_local (past o es) p) (own (past o es) s g p)
      (cond (is_running (past o es) s)
      (option_map_or (listed_by (past o es) s g p) (left_link ls (present_link p.node es)) 0) 0)

  lost_local : (o : Opening) (ls : List ℕ) (p : Pid)
      → is_local (past o (lose ls es)) p ≡ is_local (past o es) p
  lost_local o [] p = refl
  lost_local o (l ∷ ls) p = lost_local o ls p

  lost_own : (o : Opening) (ls s g : List ℕ) (p : Pid)
      → own (past o (lose ls es)) s g p ≡ own (past o es) s g p
  lost_own o [] s g p = refl
  lost_own o (l ∷ ls) s g p = lost_own o ls s g p

  lost_running : (o : Opening) (ls s : List ℕ)
      → is_running (past o (lose ls es)) s ≡ is_running (past o es) s
  lost_running o [] s = refl
  lost_running o (l ∷ ls) s = lost_running o ls s

  lost_lists : (o : Opening) (ls s g : List ℕ) (p : Pid) (l : ℕ) → is_one l ls ≡ false
      → listed_by (past o (lose ls es)) s g p l ≡ listed_by (past o es) s g p l
  lost_lists o ls s g p l q =
      (let it = lost_same ls l in let up = lost_up ls l
      in grind (arith, it.given, it.peer, it.talk o, up, q))

  pub lost_listed : (o : Opening) (ls s g : List ℕ) (p : Pid)
      → listed (past o (lose ls es)) s g p ≡ listed_left o ls s g p
  lost_listed o ls s g p =
      (λ i. cond (lost_local o ls p i) (lost_own o ls s g p i)
      (cond (lost_running o ls s i)
      (option_map_or (listed_by (past o (lose ls es)) s g p) (lost_present ls p.node i) 0) 0))
      ∙ ap (λ n. cond (is_local (past o es) p) (own (past o es) s g p)
      (cond (is_running (past o es) s) n 0)) (by (present_link p.node es))
    where
      by : (x : Option ℕ)
          → option_map_or (listed_by (past o (lose ls es)) s g p) (left_link ls x) 0
          ≡ option_map_or (listed_by (past o es) s g p) (left_link ls x) 0
      by None = refl
      by (Some l) = by_one (is_one l ls) refl
        where
          by_one : (b : Bool) → is_one l ls ≡ b
              → option_map_or (listed_by (past o (lose ls es)) s g p) (cond b None (Some l)) 0
              ≡ option_map_or (listed_by (past o es) s g p) (cond b None (Some l)) 0
          by_one true q = refl
          by_one false q = lost_lists o ls s g p l q

-- ---- after an entry and its losses

-- an entry with another change
abbrev pub with_change : Entry → List Change → Entry
with_change e cs =
    record { number = e.number; seat = e.seat; event = e.event; verdict = e.verdict; change = cs }

-- what is listed then doesn't hang on the change that the entry records
pub change_unread : (h : History) (e : Entry) (cs : List Change) (s g : List ℕ) (p : Pid)
    → listed (with_entry h (with_change e cs)) s g p ≡ listed (with_entry h e) s g p
change_unread h e cs s g p = by e.verdict
  where
    by : (v : Verdict)
        → listed (with_entry h (with_change (but e e.event v) cs)) s g p
        ≡ listed (with_entry h (but e e.event v)) s g p
    by (Refused r) = refl
    by (Accepted r) =
        let k = just h (but e e.event (Accepted r)) in
        lost_listed (with_change (but e e.event (Accepted r)) cs ∷ h.entries) h.opening
        (slow_links k) s g p ∙ sym (lost_listed k.entries h.opening (slow_links k) s g p)
