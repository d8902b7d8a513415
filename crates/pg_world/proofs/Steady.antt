-- A world stays one with an entry of one node.
use Rattle.pg_world.proofs
use proofs.Words.{ap, arith, Bool, came, Carries, entered, eqb-false, eqb-true, false}
use proofs.Words.{FramesAreLate, handed, HasEnd, History, is_open, is_opened_by, IsEnd, IsNode}
use proofs.Words.{IsWired, IsWorld, just, lie, link_at, List, node_at, Nodes, other, refl, shared}
use proofs.Words.{Side, slice_get, slice_set, Some, Speaks, SpeaksShared, subst, sym, true, Wire}
use proofs.Words.{world, ℕ, [], ◌<◌, ◌==◌, ◌∙◌, ◌∷◌, ◌≡◌}
use proofs.Entering.{after, carries_as_before, ends_low, legal, Makes, none_came, none_handed}
use proofs.Entering.{same_ends, SameEnds, stays_wired, was}
use proofs.Sharing.{shares_after}
use proofs.Puts.{found, get_other, get_same, IsFound, Kept, Put, value_of}
use Rattle.frame_laws.proofs.OneVersion.{never_whole}
use Rattle.pg_world.specs.declared.side.Side.TheVariants as side

module _ {w : Nodes} (m : Makes w) where
  open m use {sound, i, h, e, here}

  -- what holds of each history holds so
  each : (P : History → Type 0) → ((k : ℕ) (g : History) → slice_get w.nodes k ≡ Some g → P g)
      → P (just h e) → (k : ℕ) (g : History) → slice_get (after m) k ≡ Some g → P g
  each P all this k g q = by (found w.nodes i (just h e) h here k g q)
    where
      by : IsFound w.nodes i (just h e) k g → P g
      by (Put is its) = subst P its this
      by (Kept apart its) = all k g its

  nodes_after : (k : ℕ) (g : History) → slice_get (after m) k ≡ Some g → IsNode g
  nodes_after = each IsNode sound.nodes (let node = sound.nodes i h here in record {
    legal = (m.step, node.legal);
    room = m.room;
    name = node.name;
    creation = node.creation;
    entries = node.entries;
    links = node.links;
    written = (m.written, node.written);
  })

  late_after : (k : ℕ) (g : History) → slice_get (after m) k ≡ Some g → FramesAreLate g.entries
  late_after = each (λ g. FramesAreLate g.entries) sound.late (m.late, sound.late i h here)

  names_after : (k j : ℕ) (f g : History) → slice_get (after m) k ≡ Some f
      → slice_get (after m) j ≡ Some g → f.opening.name ≡ g.opening.name → k ≡ j
  names_after k j f g p q named =
      let a = was m k f p in
      let b = was m j g q in
      sound.names k j a.before b.before a.stands b.stands (cc (a.opening, named, b.opening))

  -- ---- its links and its wires

  -- an open link was open, or was opened by the entry
  data IsOpenFrom (k l : ℕ) : Type 0 where
    WasOpen : (g : History) → slice_get w.nodes k ≡ Some g → is_open l g.entries ≡ true
        → IsOpenFrom k l
    OpenedNow : k ≡ i → is_opened_by l e ≡ true → IsOpenFrom k l

  open_from : (k : ℕ) (g : History) → slice_get (after m) k ≡ Some g → (l : ℕ)
      → is_open l g.entries ≡ true → IsOpenFrom k l
  open_from k g q l opens = by (found w.nodes i (just h e) h here k g q)
    where
      now : k ≡ i → is_open l (e ∷ h.entries) ≡ true → (a : Bool) → is_opened_by l e ≡ a
          → IsOpenFrom k l
      now is o true p = OpenedNow is p
      now is o false p = WasOpen h (ap (slice_get w.nodes) is ∙ here) (grind arith)

      by : IsFound w.nodes i (just h e) k g → IsOpenFrom k l
      by (Put is its) = now is (subst (λ v. is_open l v.entries ≡ true) (sym its) opens)
          (is_opened_by l e) refl
      by (Kept apart its) = WasOpen g its opens

  -- the link at a side of the wire at a place is as it was, or is the new one
  pub data IsLinkFrom (place : ℕ) (at : Side) (n : ℕ) (y : Wire) (s : Side) (l : ℕ) : Type 0 where
    WasLink : (x : Wire) → slice_get w.wires n ≡ Some x
        → ((t : Side) → node_at t x ≡ node_at t y) → link_at s x ≡ Some l
        → IsLinkFrom place at n y s l
    NewLink : n ≡ place → s ≡ at → node_at s y ≡ i → entered h.entries < l
        → IsLinkFrom place at n y s l

  -- a wire that may stand at a place afterwards
  pub record IsGood (place : ℕ) (at : Side) (n : ℕ) (y : Wire) : Type 0 where
    pub wired : IsWired (after m) y
    pub carried : (to : Side) → Carries (after m) y to
    pub links : (s : Side) (l : ℕ) → link_at s y ≡ Some l → IsLinkFrom place at n y s l

  -- so is one with the ends that it had
  pub good : (place : ℕ) (at : Side) (n : ℕ) (x y : Wire) → slice_get w.wires n ≡ Some x
      → SameEnds x y → ((to : Side) → Carries (after m) y to) → IsGood place at n y
  good place at n x y stands ends carried = record {
    wired = stays_wired m x y ends (sound.wired n x stands);
    carried = carried;
    links = λ s l q. WasLink x stands (λ t. sym (ends.node t)) (sym (ends.link s) ∙ q);
  }

  module _ (place : ℕ) (at : Side) (ys : List Wire)
      (all : (n : ℕ) (y : Wire) → slice_get ys n ≡ Some y → IsGood place at n y)
      (forth : (k l : ℕ) → HasEnd w.wires k l → HasEnd ys k l)
      (newly : (l : ℕ) → is_opened_by l e ≡ true → HasEnd ys i l) where
    -- a new link was no end
    too_new : (n : ℕ) (x : Wire) → slice_get w.wires n ≡ Some x → (s : Side) (l : ℕ)
        → link_at s x ≡ Some l → node_at s x ≡ i → entered h.entries < l → ⊥
    too_new n x stands s l link node high =
        let low = ends_low w sound n x stands i h here s l link node in
        omega (arith, low, high)

    once : (n k : ℕ) (x y : Wire) (s t : Side) (j l : ℕ) → slice_get ys n ≡ Some x
        → slice_get ys k ≡ Some y → IsEnd x s j l → IsEnd y t j l → (n ≡ k) × (s ≡ t)
    once n k x y s t j l p q a b =
        by ((all n x p).links s l a.link) ((all k y q).links t l b.link)
      where
        by : IsLinkFrom place at n x s l → IsLinkFrom place at k y t l → (n ≡ k) × (s ≡ t)
        by (WasLink u c like was) (WasLink v d alike is) = sound.once n k u v s t j l c d
            (record { node = like s ∙ a.node; link = was })
            (record { node = alike t ∙ b.node; link = is })
        by (WasLink u c like was) (NewLink number side node high) =
            absurd (too_new n u c s l was (like s ∙ a.node ∙ sym b.node ∙ node) high)
        by (NewLink number side node high) (WasLink v d alike is) =
            absurd (too_new k v d t l is (alike t ∙ b.node ∙ sym a.node ∙ node) high)
        by (NewLink number side node high) (NewLink number2 side2 node2 high2) =
            (number ∙ sym number2, side ∙ sym side2)

    spoken_before : (n : ℕ) (y : Wire) → slice_get ys n ≡ Some y → (s : Side)
        → SpeaksShared w.nodes y s
    spoken_before n y q s f k l f_is k_is link = by ((all n y q).links s l link)
      where
        by : IsLinkFrom place at n y s l
            → Speaks f.opening l (shared f.opening.links k.opening.links) f.entries
        by (WasLink x stands same was) = sound.spoken n x stands s f k l
            (ap (slice_get w.nodes) (same s) ∙ f_is)
            (ap (slice_get w.nodes) (same (other s)) ∙ k_is) was
        by (NewLink number side node high) =
            let its : h ≡ f = value_of (sym here ∙ ap (slice_get w.nodes) (sym node) ∙ f_is) in
            subst (λ g. Speaks g.opening l (shared g.opening.links k.opening.links) g.entries) its
            (never_whole h.opening l (shared h.opening.links k.opening.links) h.entries (legal m)
            high)

    pub stays : IsWorld (world (after m) ys)
    stays = record {
      nodes = nodes_after;
      late = late_after;
      names = names_after;
      wired = λ n y q. (all n y q).wired;
      carried = λ n y q. (all n y q).carried;
      spoken = λ n y q s. shares_after m y (record {
        nodes = nodes_after;
        late = late_after;
        wired = (all n y q).wired;
        carried = (all n y q).carried;
      }) s (spoken_before n y q s);
      once = once;
      ends = λ k g q l o. has_end k l (open_from k g q l o);
    }
      where
        has_end : (k l : ℕ) → IsOpenFrom k l → HasEnd ys k l
        has_end k l (OpenedNow is q) = subst (λ j. HasEnd ys j l) (sym is) (newly l q)
        has_end k l (WasOpen g q o) = forth k l (sound.ends k g q l o)

  -- nothing came, was handed out or was opened: the wires are as they were
  pub quiet : ((l : ℕ) → is_opened_by l e ≡ false) → ((l : ℕ) → came l e.event ≡ [])
      → ((l : ℕ) → handed l e.event e.verdict ≡ []) → IsWorld (world (after m) w.wires)
  quiet opens none_in none_out = stays 0 side.Dialler w.wires
      (λ n y q. good 0 side.Dialler n y y q (same_ends y) (λ to. carries_as_before m n y q to
      (none_came m none_in (node_at to y) (link_at to y))
      (none_handed m none_out (node_at (other to) y) (link_at (other to) y))))
      (λ k l it. it) (λ l q. lie (sym q ∙ opens l))

-- where one wire is put for another, that has its ends, all have theirs
pub ends_kept : (xs : List Wire) (n : ℕ) (x y : Wire) → slice_get xs n ≡ Some x
    → ((s : Side) (k l : ℕ) → IsEnd x s k l → IsEnd y s k l) → (k l : ℕ) → HasEnd xs k l
    → HasEnd (slice_set xs n y) k l
ends_kept xs n x y stands ends k l it = by (it.number == n) refl
  where
    by : (b : Bool) → (it.number == n) ≡ b → HasEnd (slice_set xs n y) k l
    by true same = record {
      number = n;
      wire = y;
      at = it.at;
      stands = get_same xs n y x stands;
      ends = ends it.at k l (subst (λ v. IsEnd v it.at k l)
          (cc (eqb-true it.number n same, it.stands, stands)) it.ends);
    }
    by false apart = record {
      number = it.number;
      wire = it.wire;
      at = it.at;
      stands = get_other xs n y it.number (eqb-false it.number n apart) ∙ it.stands;
      ends = it.ends;
    }
