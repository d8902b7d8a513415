-- What a part makes of its link, which keeps it while its scope hears it.
use Rattle.node_core.proofs
use proofs.Words.{ap, arith, Begun, begun_after, begun_with, Bool, cond, CoreFault, count_of}
use proofs.Words.{count_with, early_checks, Event, false, first_broken, Follows, frame_taken}
use proofs.Words.{get_or, GroupChange, HasBecome, heard_with, History, is_full, is_up, IsCalmFault}
use proofs.Words.{IsDifference, IsRowFault, KeptLink, link_place, List, Message2, None, Option}
use proofs.Words.{PartKind, Parts, Row, row_limit, rows_kept, Running, scope_place, Some, subst}
use proofs.Words.{sym, table_refusal, true, up_peer, with_room, ℕ, ◌∙◌, ◌≡◌}
use proofs.MessageScopes.{IsKept, refused_calm, went_on}

-- the link, whatever its room
pub roomy : {z w : KeptLink} → z ≡ w → z ≡ with_room w z.room
roomy q = grind arith

-- a part that is taken back
pub taken_back : {x a z : KeptLink} {b u : Option Begun} → a ≡ begun_with x b
    → z ≡ begun_with a u → u ≡ x.begun → z ≡ x
taken_back is back was = grind arith

module _ {h : History} {parts : Parts} (t : Follows h parts) (seat l : ℕ) (body : List ℕ)
    (space : is_full h ≡ false) (up : is_up l h.entries ≡ true)
    {pl : ℕ} {x : KeptLink} (placed : link_place l parts.links ≡ Some pl)
    (x_is : x ≡ get_or parts.links pl x)
    (s : List ℕ) {p : ℕ} {r : Running} (y : Running) (at : scope_place s parts.scopes ≡ Some p)
    (r_is : r ≡ get_or parts.scopes p r)
    (last : Bool) (kind : PartKind) (number : ℕ) (rows : List Row)
    (says : frame_taken h.opening l h.entries body ≡ Some (Message2.Part kind s number last rows))
    (early : first_broken (early_checks h l (Message2.Part kind s number last rows)) ≡ None)
    {a : KeptLink}
    (is : a ≡ begun_with x (begun_after x.begun (Message2.Part kind s number false rows))) where
  module _ {n : List ℕ} (far : Some n ≡ up_peer a.state) where
    of : Some n ≡ up_peer x.state
    of = far ∙ ap (λ (z : KeptLink). up_peer z.state) is

    refusal_is : table_refusal r.table n kind (rows_kept a.begun) (row_limit a.state)
        ≡ table_refusal r.table n kind
        (rows_kept (begun_after x.begun (Message2.Part kind s number false rows)))
        (row_limit x.state)
    refusal_is =
        λ i. table_refusal r.table n kind (rows_kept (is i).begun) (row_limit (is i).state)

    pub part_calm : (f : CoreFault)
        → IsRowFault (table_refusal r.table n kind (rows_kept a.begun) (row_limit a.state)) f
        → IsCalmFault h seat (Event.Frame l body) f
    part_calm f why =
        refused_calm t seat l body space up placed x_is s y at r_is of kind number last rows says
        early f (subst (λ broken. IsRowFault broken f) refusal_is why)

    pub part_kept : table_refusal r.table n kind (rows_kept a.begun) (row_limit a.state) ≡ None
        → (gs : List GroupChange)
        → HasBecome r y (count_with last kind r.table n (rows_kept a.begun))
        (heard_with last kind l r.heard.items) r.told.items
        → IsDifference (count_of r.table) (count_of y.table) gs → {z : KeptLink}
        → z ≡ begun_with a (cond last None a.begun)
        → IsKept t seat l body space up placed x_is s y at r_is gs z
    part_kept fits gs b differ {z} settled =
        went_on t seat l body space up placed x_is s y at r_is of number rows last kind says early
        (sym refusal_is ∙ fits) gs
        (subst (λ rs. HasBecome r y (count_with last kind r.table n rs)
        (heard_with last kind l r.heard.items) r.told.items)
        (ap (λ (z : KeptLink). rows_kept z.begun) is) b)
        differ (roomy (settled ∙ (λ i. begun_with (is i) (cond last None (is i).begun))))
