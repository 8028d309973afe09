-- When a loop waits, and when it restarts.
-- Assumes nothing.
use mathlib.Core.Path.{◌≡◌}
use mathlib.Core.Bool.{true, false}
use mathlib.Core.List.{List}
use Rattle.meaning.specs.Tree.{Expr, Head, while, loop, Stmts}
use Rattle.meaning.specs.Numbers.{Variable, Reads, holds}
use Rattle.meaning.specs.Tries.{no_tries}
use Rattle.meaning.specs.Clock.{Entry, finishes, waits, some_at, stands_at, start, start_all, resume, resume_all}

-- "A loop whose body finished in no time since its last start waits one clock and stands at itself."
pub loop-waits : (h : Head) (b : Stmts Variable) (r : Reads) → start_all b r ≡ finishes → start (loop h b) r ≡ waits no_tries (stands_at h)
unfolding start
loop-waits h b r e = rw e

pub while-waits : (h : Head) (t : Expr Variable) (b : Stmts Variable) (r : Reads)
    → holds t r ≡ true → start_all b r ≡ finishes → start (while h t b) r ≡ waits no_tries (stands_at h)
unfolding start
while-waits h t b r y e = rw (y, e)

-- "A body that finished after some wait restarts at once."
pub loop_restarts : (h : Head) (b : Stmts Variable) (es : List Entry) (r : Reads)
    → some_at h.number es ≡ false → resume_all b es r ≡ finishes → resume (loop h b) es r ≡ start (loop h b) r
unfolding resume
loop_restarts h b es r n e = rw (n, e)

pub while_restarts : (h : Head) (t : Expr Variable) (b : Stmts Variable) (es : List Entry) (r : Reads)
    → some_at h.number es ≡ false → resume_all b es r ≡ finishes → resume (while h t b) es r ≡ start (while h t b) r
unfolding resume
while_restarts h t b es r n e = rw (n, e)
