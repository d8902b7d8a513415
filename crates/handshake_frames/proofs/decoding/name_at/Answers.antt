use Rattle.std.proofs.Common.{rules}
use Rattle.handshake_frames.proofs.decoding.name_at.Goals as goal

pub returns-clause-found : goal.returns-clause-found
returns-clause-found c =
    record {
      fits = search rules;
      extra = c.in_ok-name.extra.now;
      bytes = search rules;
      version = c.version_of.ensures;
    }
