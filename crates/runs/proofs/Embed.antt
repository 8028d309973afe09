-- How outcomes go on, with their entries put in.
use mathlib.Core.Path.{◌≡◌, refl}
use mathlib.Core.Bool.{Bool, true, false, cond}
use mathlib.Core.List.{List}
use Prim.Native.Nat.{ℕ}
use lib.Dec.{ltb}
use Rattle.meaning.specs.Tree.{Head}
use Rattle.meaning.specs.Tries.{Tries}
use Rattle.meaning.specs.Clock.{Outcome, finishes, jumps, waits, After, done, stands, out, off, and_then, caught, looped, stands_at}
use Rattle.runs.specs.declared.Entry.{Entry}
use Rattle.runs.specs.declared.How.TheVariants.{Waits}
use Rattle.runs.specs.Run.{put, run, embed, stand_run, then_run, looped_run, caught_run}

-- the place of what comes next, from m to e
abbrev pub place_at : Head → ℕ → After
place_at h e = cond (ltb h.number e) (stands_at h) done

then_placed : (x : Bool) (t : Tries) (h : Head) (b : ℕ) (es : List Entry)
    → cond x (stand_run (run Waits es t.ones t.zeros) b h.number) (run Waits es t.ones t.zeros) ≡ embed (waits t (cond x (stands_at h) done)) b es
unfolding put
then_placed true t h b es = refl
then_placed false t h b es = refl

pub then_is : (o next : Outcome) (h : Head) (e b : ℕ) (es : List Entry) → (o ≡ finishes → ⊥) → then_run (embed o b es) b h.number e ≡ embed (and_then o next (place_at h e)) b es
then_is finishes next h e b es f = absurd (f refl)
then_is (jumps out) next h e b es f = refl
then_is (jumps off) next h e b es f = refl
then_is (waits t done) next h e b es f = then_placed (ltb h.number e) t h b es
then_is (waits t (stands xs)) next h e b es f = refl

pub looped_is : (h : Head) (o : Outcome) (b : ℕ) (es : List Entry) → looped_run (embed o b es) b h.number ≡ embed (looped h o) b es
unfolding put
looped_is h finishes b es = refl
looped_is h (jumps out) b es = refl
looped_is h (jumps off) b es = refl
looped_is h (waits t done) b es = refl
looped_is h (waits t (stands xs)) b es = refl

pub caught_is : (o : Outcome) (b : ℕ) (es : List Entry) → caught_run (embed o b es) ≡ embed (caught o) b es
caught_is finishes b es = refl
caught_is (jumps out) b es = refl
caught_is (jumps off) b es = refl
caught_is (waits t done) b es = refl
caught_is (waits t (stands xs)) b es = refl
