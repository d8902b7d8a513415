-- What a call is answered: from the next entry, and from what follows it.
use Rattle.node_core.proofs
use Rattle.std.specs.Prelude.{IsErrAnd}
use Rattle.std.proofs.lemmas.Result.{err_from_is_err_and}
use proofs.Words.{Accepted, Answered, Answers, Call, Change, checks, CoreFault, Entry, Err, Event}
use proofs.Words.{false, first_broken, Follows, History, IsAlone, IsCalled, IsCalmFault, IsChange}
use proofs.Words.{IsLegal, IsNext, just, Keeps, Kept, List, may_tell, Ok, parts, refl, Refused}
use proofs.Words.{refuses_calmly, Reply, Result, Rule, Says, Some, subst, sym, true, with_entry, []}
use proofs.Words.{◌∙◌, ◌≡◌}
use Rattle.policy_audit.proofs.Losses.{legal_next, next_entered, same_opening}
use Rattle.policy_audit.proofs.Silent.{tells_none}
use Rattle.node_core.specs.Step.{Enters}
use proofs.Entered.{answered_by, made, next_now, refused_now}
use proofs.Calm.{calm_follows, refused_change}

module _ {h : History} (legal : IsLegal h) (x : Entry) {new : Kept}
    (named : new.opening ≡ h.opening) where
  -- what follows the history with the entry and its losses is kept
  enters_next : IsNext h x × Follows (with_entry h x) (parts new) → Enters h x new
  enters_next t = (
    t.0,
    record {
      opening = named ∙ sym (same_opening h x);
      legal = (legal_next h x (next_entered h x t.0)).1 (t.0, legal);
      follows = t.1;
    },
  )

  -- the same of an entry that has none
  enters_alone : with_entry h x ≡ just h x → IsAlone h x × Follows (just h x) (parts new)
      → Enters h x new
  enters_alone none t =
      let next = t.0 in
      enters_next (
        record {
          room = next.room;
          number = next.number;
          verdict = next.verdict;
          change = subst (λ k. IsChange h k x.change) (sym none) next.change;
        },
        subst (λ k. Follows k (parts new)) (sym none) t.1,
      )

-- a refusal that ends no link
module _ {call : Call} {kept : Kept} (called : IsCalled call kept) (e : Event) where
  pub refuses : (r : Rule) → first_broken (checks call.past call.seat e) ≡ Some r
      → refuses_calmly call.past e r ≡ true → Answers call e kept (Err (CoreFault.Refused r))
  unfolding Answers
  refuses r broken calm =
      let next = next_now call.past call.seat e called.space (Refused r) []
      (refused_now call.past call.seat e called.space r broken)
      (refused_change call.past call.seat e r calm) in
      enters_alone called.keeps.legal _ called.keeps.opening refl
      (next, calm_follows call.past call.seat e r calm called.keeps.follows next)

module _ {call : Call} {kept : Kept} (called : IsCalled call kept) (e : Event) where
  module _ (new : Kept) (same : new.opening ≡ kept.opening) where
    abbrev legal : IsLegal call.past
    legal = called.keeps.legal

    named : new.opening ≡ call.past.opening
    named = same ∙ called.keeps.opening

    module _ (a : Answered) (r : Reply) (cs : List Change) (says : Says a r cs) where
      abbrev entry : Entry
      entry = made call.past call.seat e (Accepted r) cs

      told : Enters call.past entry new → Answers call e new (Ok a)
      unfolding Answers
      told t = (
        says.1 ∙ sym says.0,
        subst (λ x. Enters call.past x new)
            (λ i. made call.past call.seat e (Accepted (sym says.0 i)) (sym says.2 i)) t,
      )

      -- an accepted event with which no slow link ends
      pub accepts_alone : with_entry call.past entry ≡ just call.past entry
          → IsAlone call.past entry × Follows (just call.past entry) (parts new)
          → Answers call e new (Ok a)
      accepts_alone none t = told (enters_alone legal entry named none t)

      -- one that owes no message to a link that was up
      pub accepts : may_tell call.past.opening call.past.entries e ≡ false
          → IsAlone call.past entry × Follows (just call.past entry) (parts new)
          → Answers call e new (Ok a)
      accepts quiet t = accepts_alone (tells_none call.past legal entry (answered_by t.0) quiet) t

      -- one that may: all that follows it follows the losses that come with it, too
      pub accepts_ending : IsNext call.past entry × Follows (with_entry call.past entry) (parts new)
          → Answers call e new (Ok a)
      accepts_ending t = told (enters_next legal entry named t)

    -- a refusal that ends its link
    pub ends : (r : Rule) → IsAlone call.past (made call.past call.seat e (Refused r) [])
        × Follows (just call.past (made call.past call.seat e (Refused r) [])) (parts new)
        → Answers call e new (Err (CoreFault.Refused r))
    unfolding Answers
    ends r t = enters_alone legal _ named refl t

    module _ (t : Follows call.past (parts new)) where
      abbrev still : Keeps call.past new
      still = record { opening = named; legal = legal; follows = t }

      -- want of memory, and as a `?` passes it on
      pub wants : Answers call e new (Err CoreFault.OutOfMemory)
      unfolding Answers
      wants = still

      pub wanted : (result : Result Answered CoreFault)
          → IsErrAnd result (λ fault. fault ≡ CoreFault.OutOfMemory) → Answers call e new result
      wanted result is = let failed = err_from_is_err_and result is in rw (failed.1, failed.2) wants

      -- that, or a refusal that ends no link
      pub fails : (f : CoreFault) → IsCalmFault call.past call.seat e f → Answers call e new (Err f)
      fails (CoreFault.Refused r) calm =
          refuses (record { keeps = still; space = called.space }) e r calm.0 calm.1
      fails CoreFault.OutOfMemory calm = wants

      pub failed : (f : CoreFault) → IsCalmFault call.past call.seat e f
          → (result : Result Answered CoreFault) → IsErrAnd result (λ fault. fault ≡ f)
          → Answers call e new result
      failed f calm result is = let passed = err_from_is_err_and result is in
          rw (passed.1, passed.2) (fails f calm)
