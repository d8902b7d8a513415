use Rattle.node_threads.proofs.Openings.{serves_read, serves_written}
use Rattle.node_threads.proofs.accepting.serve_pair.Goals as goal

pub returns : goal.returns
returns g c =
    let did = c.serve_link.ensures in record {
      reader = serves_read _ _ did.read;
      writer = serves_written _ _ did.written;
    }
