-- `frames::follow::meant` meets its contract: each call is under one open call less.
-- Assumes nothing.
use Rattle.frames.proofs.follow.+meant.Given as goal

abbrev pub decreases-meant : goal.decreases-meant
decreases-meant l = l.u.depth
