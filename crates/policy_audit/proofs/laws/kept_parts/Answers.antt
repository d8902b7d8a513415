use Rattle.policy_audit.proofs.Begun.{framed, kept_peers, none_begun, others, restarted, stopped}
use Rattle.policy_audit.proofs.laws.kept_parts.Goals as goal

pub returns : goal.returns
returns c = record {
  framed = framed;
  stopped = stopped;
  restarted = restarted;
  others = others;
  peers = λ h. kept_peers h.opening h.entries;
  early = λ h. none_begun h.opening h.entries;
}
