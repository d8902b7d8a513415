use Rattle.node_core.proofs.kept.Kept.follow.Goals as goal

pub discovered-requires : goal.discovered-requires
discovered-requires g c = rw c.in-Discover.is at c.requires

pub returns-in-Discover : goal.returns-in-Discover
returns-in-Discover g c = λ body says. c.discovered.ensures body (rw c.in-Discover.is at says)

-- it is the last, and the first
pub whole-requires : goal.whole-requires
whole-requires g c = rw (c.in-Part.is, c.if-last.true, c.if-count-eq1.true) at c.requires

pub returns-then-count-eq1 : goal.returns-then-count-eq1
returns-then-count-eq1 g c = λ body says.
    c.whole.ensures body (rw (c.in-Part.is, c.if-last.true, c.if-count-eq1.true) at says)

pub part-requires : goal.part-requires
part-requires g c = rw c.in-Part.is at c.requires

pub returns-else-last : goal.returns-else-last
returns-else-last g c = λ body says. c.part.ensures body (rw c.in-Part.is at says)

pub downed-requires : goal.downed-requires
downed-requires g c = rw c.in-Down.is at c.requires

pub returns-in-Down : goal.returns-in-Down
returns-in-Down g c = λ body says. c.downed.ensures body (rw c.in-Down.is at says)
