use Rattle.handshake_frames.proofs
use Rattle.std.proofs.Common.{refl}
use Rattle.handshake_frames.specs.Spelling.{version_bytes}
use proofs.ReadingLemmas.{version_read}
use proofs.laws.round_trip.Goals as goal

pub returns-clause-name : goal.returns-clause-name
returns-clause-name c = λ f fits. record {
  fits = fits;
  extra = version_bytes f.version;
  bytes = refl;
  version = version_read f.version fits.version;
}

pub returns-clause-challenge : goal.returns-clause-challenge
returns-clause-challenge c = λ f fits. record {
  fits = fits;
  extra = version_bytes f.version;
  bytes = refl;
  version = version_read f.version fits.version;
}
