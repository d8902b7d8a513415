use Rattle.std.proofs.Common.{false, inl, inr, refl, true, ◌≡◌, Bool, ℕ}
use Rattle.otp_link.specs.Asking.{MayLack, lacks_at}
use Rattle.otp_link.specs.declared.asking.Healing.{Healing}
use Rattle.otp_link.proofs.link.OtpLink.take_body.Goals as goal

-- whether rows lack or not
noted : (lacks : Bool) (before after : Healing) (now : ℕ)
    → (lacks ≡ true → after ≡ lacks_at before before.due now) → (lacks ≡ false → after ≡ before)
    → MayLack before after now
noted true before after now so not = inr (so refl)
noted false before after now so not = inl (not refl)

pub returns-clause-taken : goal.returns-clause-taken
returns-clause-taken g c =
    let heard = c.in_ok-heard.ensures.heard in record {
      edge = c.in-Some.edge;
      after = c.hear_body.new.edge;
      first = heard.0;
      heard = c.in_ok-heard.heard;
      begun = c.in-Some.is;
      goes_on = refl;
      healing = noted _ _ _ _ c.note.ensures.lacks c.note.ensures.stays;
      stays = c.in_ok-heard.ensures.stays;
      hears = heard.1;
      cut = heard.2;
      used = c.requires;
      handed = c.in_ok-link_bytes.ensures;
      owed = refl;
    }
