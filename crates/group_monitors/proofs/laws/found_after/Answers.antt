use Rattle.group_monitors.proofs.Found.{found_added, found_dropped, found_moved, found_removed}
use Rattle.group_monitors.proofs.laws.found_after.Goals as goal

pub returns : goal.returns
returns c = record
    { added = found_added; removed = found_removed; moved = found_moved; dropped = found_dropped }
