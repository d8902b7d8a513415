-- What a node owes to a link is honest.
use Rattle.frame_laws.proofs
use proofs.Words.{ap, bodies_of, creation, History, IsHonest, IsNode, List, message_taken, moment}
use proofs.Words.{out, Owing, PassesThrough, refl, slice_get, Some, Speaks, suc, take-map, zero, ℕ}
use proofs.Words.{[], ◌∙◌, ◌∷◌, ◌≡◌}
use proofs.FromHere.{rows_own}
use proofs.LinksTell.{all_tell}
use proofs.Orderly.{out_orderly}
use proofs.Through.{passes}

-- the frame of a body
pub record IsBodyOf (owings : List Owing) (place : ℕ) (body : List ℕ) : Type 0 where
  pub owing : Owing
  pub stands : slice_get owings place ≡ Some owing
  pub body_is : owing.frame.body ≡ body

pub frame_of : (owings : List Owing) (place : ℕ) (body : List ℕ)
    → slice_get (bodies_of owings) place ≡ Some body → IsBodyOf owings place body
frame_of [] place body q = cc
frame_of (x ∷ owings) zero body q = record { owing = x; stands = refl; body_is = (cc) }
frame_of (x ∷ owings) (suc place) body q = (let it = frame_of owings place body q in
    record { owing = it.owing; stands = it.stands; body_is = it.body_is })

pub node_honest : (h : History) → IsNode h → (l v : ℕ) → Speaks h.opening l v h.entries
    → (s : List ℕ) → IsHonest v h.opening.name (creation (moment l h)) s (bodies_of (out h l))
node_honest h node l v speaks s = record {
  own = λ place body m q says.
      let it = frame_of (out h l) place body q in
      rows_own h.opening h.entries node l v speaks place it.owing it.stands m
      (ap (message_taken v) it.body_is ∙ says);
  order = (out_orderly h.opening h.entries node l v speaks).order;
  few = λ place body q kind number last rows says.
      let it = frame_of (out h l) place body q in
      rw take-map
      (passed.few place it.owing it.stands kind number last rows
      (ap (message_taken v) it.body_is ∙ says));
  there = λ place body q number last rows says.
      let it = frame_of (out h l) place body q in
      rw take-map
      (passed.there place it.owing it.stands number last rows
      (ap (message_taken v) it.body_is ∙ says));
}
  where
    passed : PassesThrough v h l s
    passed = passes v h.opening l s h.entries node speaks
        (all_tell h.opening h.entries node l v speaks s)
