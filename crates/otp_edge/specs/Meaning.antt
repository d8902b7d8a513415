-- What a message of a scope's process means.
use Rattle.std.specs.Prelude.{List, []}
use Rattle.dist_types.specs.declared.pid.Pid.{Pid}
use Rattle.dist_types.specs.declared.row.Row.{Row}
use Rattle.otp_edge.specs.PgMessages.{PgMessage, discover, sync, join, leave, members_of, groups_of}
use Rattle.otp_edge.specs.PgMessages.{rows_stated, rows_in, rows_left}
use Rattle.otp_edge.specs.declared.meaning.Said.{Said}
use Rattle.otp_edge.specs.declared.meaning.Said.TheVariants as saids

abbrev pub meant : PgMessage → Said
meant (discover p) = saids.Discover p
meant (sync p ss) = saids.Sync p (rows_stated ss)
meant (join p g ms) = saids.Join p (rows_in g (members_of ms))
meant (leave p ms gs) = saids.Leave p (rows_left (members_of ms) (groups_of gs))

-- the process that says it
abbrev pub speaker_of : Said → Pid
speaker_of (saids.Discover p) = p
speaker_of (saids.Sync p rows) = p
speaker_of (saids.Join p rows) = p
speaker_of (saids.Leave p rows) = p

-- its rows that may be handed in as they are: those of a leave are cut first
abbrev pub rows_uncut : Said → List Row
rows_uncut (saids.Sync p rows) = rows
rows_uncut (saids.Join p rows) = rows
rows_uncut said = []
