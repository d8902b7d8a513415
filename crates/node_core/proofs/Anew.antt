-- A node that has seen nothing, and one that begins anew.
use Rattle.node_core.proofs
use proofs.Words.{Accepted, ap, ArePartings, arith, audit_of, Change, checks, creation, eq-eqb}
use proofs.Words.{eqb-true, Event, false, first_broken, Follows, follows_cleared, follows_start}
use proofs.Words.{History, is_full, IsAlone, just, leb-true, List, listed, no_count, Opening}
use proofs.Words.{own_pid, Parts, past, Pid, refl, Reply, Rule, same, Some, stopped_lists, subst}
use proofs.Words.{sym, ℕ, [], ◌+◌, ◌<◌, ◌==◌, ◌^◌, ◌∙◌, ◌≡◌}
use Rattle.handshake_frames.specs.Spelling.{IsVersion}
use Rattle.group_monitors.specs.Follows.{FollowsPolicy}
use Rattle.policy_audit.proofs.LivesNow.{lives_restarted}
use proofs.Entered.{accepted_next, answered_by, audit_more, made, sound_now}
use proofs.Partings.{partings_change}
use proofs.Found.{not_so}

-- what is kept then, with this creation
abbrev pub fresh : Opening → ℕ → Parts
fresh o creation = record {
  admission = record {
    own = o.name;
    cookie = o.cookie;
    hidden = o.hidden;
    creation = creation;
    links = o.links;
    peers = [];
    allowed = [];
  };
  processes = record { spawned = 0; live = [] };
  scopes = [];
  links = [];
  monitors = [];
}

pub begun : (o : Opening) → o.entries < 2 ^ 32 → IsVersion o.links
    → Follows (past o []) (fresh o o.creation)
begun o fits known = record {
  sound = record {
    played = tt;
    fits = fits;
    few = omega arith;
    few_spawned = omega arith;
    links = known;
  };
  admission = record {
    own = refl;
    hidden = refl;
    creation = omega arith;
    links = refl;
    own_cookie = refl;
    cookie = λ n. grind arith;
    peers = λ n. refl;
    allowed = λ n. refl;
  };
  processes = record {
    spawned = refl;
    live = λ n. grind (arith, leb-true 1 n, leb-true n 0);
    count = refl;
  };
  scopes = record { running = refl; each = tt };
  links = record { numbers = refl; each = tt };
  monitors = follows_start o;
}

-- ---- a restart

module _ (h : History) (seat : ℕ) where
  abbrev anew : List Change → History
  anew cs = just h (made h seat Event.Restart (Accepted Reply.Done) cs)

  pub creation_spent : creation h ≡ 4294967295
      → first_broken (checks h seat Event.Restart) ≡ Some Rule.CreationSpent
  creation_spent q = grind (arith, eq-eqb (creation h) 4294967295 q)

  pub anew_now : (parts : Parts) → Follows h parts → (cs : List Change)
      → ArePartings (λ t. no_count) parts.scopes cs → is_full h ≡ false → (n : ℕ) → n ≡ creation h
      → (n ≡ 4294967295 → ⊥) → (o : Opening) (number : ℕ) → o ≡ h.opening
      → number ≡ parts.admission.creation + 1
      → IsAlone h (made h seat Event.Restart (Accepted Reply.Done) cs)
      × Follows (anew cs) (fresh o number)
  anew_now parts t cs gone space n is left o number same more =
      let nobody : (s g : List ℕ) (p : Pid) → listed (anew cs) s g p ≡ 0 =
      λ s g p. stopped_lists (anew cs) s g p refl in
      let next = accepted_next h seat Event.Restart space Reply.Done cs
      (rw (not_so (creation h == 4294967295)
      (λ e. left (is ∙ eqb-true (creation h) 4294967295 e)))) refl
      (λ its. partings_change h (anew cs) (λ x. no_count) (λ r f g p. sym (nobody r.scope g p))
      parts.scopes t.scopes (λ s stopped g p. nobody s g p) cs gone) in (
        next,
        record {
          sound = sound_now h _ t.sound next;
          admission = record {
            own = ap (λ x. x.name) same;
            hidden = ap (λ x. x.hidden) same;
            links = ap (λ x. x.links) same;
            creation = (let was : parts.admission.creation ≡ creation h = t.admission.creation in
                omega arith);
            own_cookie = ap (λ x. x.cookie) same;
            cookie = λ n. grind arith;
            peers = λ n. refl;
            allowed = λ n. refl;
          };
          processes = record {
            spawned = refl;
            live = λ n. sym
                (lives_restarted h (made h seat Event.Restart (Accepted Reply.Done) cs)
                (answered_by next) refl refl (own_pid (anew cs) n));
            count = refl;
          };
          scopes = record { running = refl; each = tt };
          links = record { numbers = refl; each = tt };
          monitors =
              subst (λ k. FollowsPolicy k []) (sym (audit_more h _ next))
              (follows_cleared (audit_of h) _ refl refl);
        },
      )
