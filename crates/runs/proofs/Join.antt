-- Branches joined one after the other come to what the definition joins at once.
use mathlib.Core.Path.{◌≡◌, refl, sym, ap, ◌∙◌}
use mathlib.Core.Bool.{Bool, true, false, cond}
use mathlib.Core.Option.{Option, none, some}
use mathlib.Core.List.{List, [], ◌∷◌, ◌++◌, map}
use Prim.Native.Nat.{ℕ, zero, suc, ◌+◌, ◌-◌, ◌≤◌}
use native.Mathlib.Omega.{arith}
use lib.Bits.{bit_or, or_zero_l, or_zero_r}
use lib.ListN.{length, length-append, set, replicate}
use lib.Seq.{get_or-set_other, set-get_or}
use Rattle.meaning.specs.Tree.{or}
use Rattle.meaning.specs.Numbers.{bit_of, combine}
use Rattle.meaning.specs.Tries.{all_ones, all_zeros, agreed}
use Rattle.meaning.specs.Clock.{Outcome, finishes, jumps, waits, done, stands, Jump, out, off, Branch, nowhere, first_jump, each, finished, finishing, tries_in, tries_of, entries_in, entries_of, widened, joined}
use Rattle.meaning.specs.Clock as clock
use Rattle.meaning.proofs.Bits.{bit_or_lem, same_bits}
use Rattle.meaning.proofs.Places.{Places, places-kept}
use Rattle.runs.specs.declared.Entry.{Entry}
use Rattle.runs.specs.declared.How.{How}
use Rattle.runs.specs.declared.How.TheVariants.{Finished, Exit, Break, Waits, Stands}
use Rattle.runs.specs.Run.{Run, empty, entry_of, put, Clear, run, jump_how, embed, latest, merged_run, closed_run, jump_or_by, join_from}

-- ---- entries

pub clear_from : {es : List Entry} {b c : ℕ} → b ≤ c → Clear es b → Clear es c
clear_from h p = record { clear = λ k l. p.clear k (omega arith) }

clear-set : {es : List Entry} {b : ℕ} (v : Entry) → Clear es b → Clear (set es b v) (b + 1)
clear-set {es} {b} v p = record { clear = λ k l. get_or-set_other es b k v empty (λ e. absurd (omega arith)) ∙ p.clear k (omega arith) }

pub clear-put : (xs : List clock.Entry) (es : List Entry) (b : ℕ) → Clear es b → Clear (put es b xs) (b + length xs)
unfolding put
clear-put [] es b p = clear_from (omega arith) p
clear-put (x ∷ xs) es b p = clear_from (omega arith) (clear-put xs (set es b (entry_of x)) (b + 1) (clear-set (entry_of x) p))

put-nowhere : (n : ℕ) (es : List Entry) (b : ℕ) → Clear es b → put es b (replicate n nowhere) ≡ es
unfolding put
put-nowhere zero es b p = refl
put-nowhere (suc n) es b p =
    let same : set es b empty ≡ es = ap (set es b) (sym (p.clear b (omega arith))) ∙ set-get_or es b empty in
    ap (λ (l : List Entry). put l (b + 1) (replicate n nowhere)) same ∙ put-nowhere n es (b + 1) (clear_from (omega arith) p)

put-append : (xs ys : List clock.Entry) (es : List Entry) (b : ℕ) → put es b (xs ++ ys) ≡ put (put es b xs) (b + length xs) ys
unfolding put
put-append [] ys es b = ap (λ (k : ℕ). put es k ys) (omega arith)
put-append (x ∷ xs) ys es b =
    put-append xs ys (set es b (entry_of x)) (b + 1)
    ∙ ap (λ (k : ℕ). put (put (set es b (entry_of x)) (b + 1) xs) k ys) (omega arith)

-- entries for n activities
pub put-widened : (n : ℕ) (xs : List clock.Entry) (es : List Entry) (b : ℕ) → length xs ≤ n → Clear es b → put es b (widened n xs) ≡ put es b xs
put-widened n xs es b h p =
    ap (put es b) (places-kept n xs h)
    ∙ put-append xs (replicate (n - length xs) nowhere) es b
    ∙ put-nowhere (n - length xs) (put es b xs) (b + length xs) (clear-put xs es b p)

length-replicate : (n : ℕ) (x : clock.Entry) → length (replicate n x) ≡ n
length-replicate zero x = refl
length-replicate (suc n) x = ap suc (length-replicate n x)

pub length-widened : (n : ℕ) (xs : List clock.Entry) → length xs ≤ n → length (widened n xs) ≡ n
length-widened n xs h =
    rw (places-kept n xs h, length-append xs (replicate (n - length xs) nowhere), length-replicate (n - length xs) nowhere) (omega arith)

-- ---- the branches

abbrev pub Placed : List Branch → Type 0
Placed [] = Unit {0}
Placed (x ∷ xs) = Places x.wide x.outcome × Placed xs

abbrev how_in : Outcome → How
how_in finishes = Finished
how_in (jumps j) = jump_how j
how_in (waits t done) = Waits
how_in (waits t (stands es)) = Stands

abbrev how_of : How → List Branch → How
how_of h [] = h
how_of h (x ∷ xs) = how_of (latest h (how_in x.outcome)) xs

abbrev put_all : List Entry → ℕ → List Branch → List Entry
put_all es b [] = es
put_all es b (x ∷ xs) = put_all (put es b (entries_in x.outcome)) (b + x.wide) xs

abbrev jump_of : Outcome → Option Jump → Option Jump
jump_of finishes next = next
jump_of (jumps j) next = some j
jump_of (waits t a) next = next

abbrev jump_in : List Branch → Option Jump
jump_in [] = none
jump_in (x ∷ xs) = jump_of x.outcome (jump_in xs)

abbrev jumped_run : Option Jump → List Entry → Run → Run
jumped_run none es next = next
jumped_run (some j) es next = run (jump_how j) es 0 0

abbrev jumped : Option Jump → Outcome → Outcome
jumped none next = next
jumped (some j) next = jumps j

or_three : (a b c : Bool) → combine or (combine or a b) c ≡ combine or a (combine or b c)
or_three true b c = refl
or_three false b c = refl

pub or_assoc : (a b c : ℕ) → bit_or (bit_or a b) c ≡ bit_or a (bit_or b c)
or_assoc a b c = same_bits _ _ (λ j. rw (bit_or_lem (bit_or a b) c j, bit_or_lem a b j, bit_or_lem a (bit_or b c) j, bit_or_lem b c j) (or_three (bit_of a j) (bit_of b j) (bit_of c j)))

jump_step : (o next : Outcome) (j : Option Jump) {f : Outcome} → f ≡ jumped j next → clock.jump_or o f ≡ jumped (jump_of o j) next
jump_step finishes next j e = e
jump_step (jumps i) next j e = refl
jump_step (waits t a) next j e = e

first_jump_lem : (bs : List Branch) (next : Outcome) → first_jump bs next ≡ jumped (jump_in bs) next
unfolding first_jump
first_jump_lem [] next = refl
first_jump_lem (x ∷ xs) next = jump_step x.outcome next (jump_in xs) (first_jump_lem xs next)

-- what the branches come to, one after the other
total : How → List Entry → ℕ → ℕ → ℕ → List Branch → Run
total h es o z b bs =
    run (how_of h bs) (put_all es b bs) (bit_or o (all_ones (map tries_of bs))) (bit_or z (all_zeros (map tries_of bs)))

total_step : (h : How) (es : List Entry) (o z b : ℕ) (x : Branch) (xs : List Branch)
    → total (latest h (how_in x.outcome)) (put es b (entries_in x.outcome)) (bit_or o (tries_of x).ones) (bit_or z (tries_of x).zeros) (b + x.wide) xs
    ≡ total h es o z b (x ∷ xs)
unfolding total all_ones all_zeros
total_step h es o z b x xs =
    rw (or_assoc o (tries_of x).ones (all_ones (map tries_of xs)), or_assoc z (tries_of x).zeros (all_zeros (map tries_of xs)))

module _ (es0 : List Entry) (xs : List Branch)
    (later : (h : How) (es : List Entry) (o z b : ℕ) → join_from es0 (run h es o z) b xs ≡ jumped_run (jump_in xs) es0 (closed_run (total h es o z b xs))) where
  join_step : (q : Outcome) (w : ℕ) (h : How) (es : List Entry) (o z b : ℕ)
      → jump_or_by (embed q b es).how es0 (join_from es0 (merged_run (run h es o z) (embed q b es)) (b + w) xs)
      ≡ jumped_run (jump_of q (jump_in xs)) es0 (closed_run (total (latest h (how_in q)) (put es b (entries_in q)) (bit_or o (tries_in q).ones) (bit_or z (tries_in q).zeros) (b + w) xs))
  unfolding put
  join_step finishes w h es o z b = later _ _ _ _ _
  join_step (jumps out) w h es o z b = refl
  join_step (jumps off) w h es o z b = refl
  join_step (waits t done) w h es o z b = later _ _ _ _ _
  join_step (waits t (stands ys)) w h es o z b = later _ _ _ _ _

join_total : (bs : List Branch) (h : How) (es0 es : List Entry) (o z b : ℕ) → join_from es0 (run h es o z) b bs ≡ jumped_run (jump_in bs) es0 (closed_run (total h es o z b bs))
unfolding join_from total all_ones all_zeros
join_total [] h es0 es o z b = rw (or_zero_r o, or_zero_r z)
join_total (x ∷ xs) h es0 es o z b =
    join_step es0 xs (λ h es o z b. join_total xs h es0 es o z b) x.outcome x.wide h es o z b
    ∙ ap (λ (r : Run). jumped_run (jump_in (x ∷ xs)) es0 (closed_run r)) (total_step h es o z b x xs)

-- ---- where no branch jumps

no_some : {A : Type 0} {j : Jump} → ◌≡◌ {A = Option Jump} (some j) none → A
no_some e = absurd (let z : ◌≡◌ {A = ℕ} 0 1 = cc in omega arith)

no_false : {A : Type 0} → ◌≡◌ {A = Bool} false true → A
no_false e = absurd (let z : ◌≡◌ {A = ℕ} 0 1 = cc in omega arith)

no_true : {A : Type 0} → ◌≡◌ {A = Bool} true false → A
no_true e = absurd (let z : ◌≡◌ {A = ℕ} 0 1 = cc in omega arith)

pub record AllDone (bs : List Branch) : Type 0 where
  pub hows : how_of Finished bs ≡ Finished
  pub puts : (es : List Entry) (b : ℕ) → put_all es b bs ≡ es
  pub ones : all_ones (map tries_of bs) ≡ 0
  pub zeros : all_zeros (map tries_of bs) ≡ 0

abbrev branch : ℕ → Outcome → Branch
branch w q = record { wide = w; outcome = q }

done-step : (q : Outcome) (w : ℕ) (xs : List Branch) → each finished (branch w q ∷ xs) ≡ true → (each finished xs ≡ true → AllDone xs) → AllDone (branch w q ∷ xs)
unfolding each all_ones all_zeros put
done-step finishes w xs e k =
    let d = k e in
    record { hows = d.hows; puts = λ es b. d.puts es (b + w); ones = or_zero_l _ ∙ d.ones; zeros = or_zero_l _ ∙ d.zeros }
done-step (jumps j) w xs e k = no_false e
done-step (waits t a) w xs e k = no_false e

all_done : (bs : List Branch) → each finished bs ≡ true → AllDone bs
unfolding each all_ones all_zeros put
all_done [] e = record { hows = refl; puts = λ es b. refl; ones = refl; zeros = refl }
all_done (x ∷ xs) e = done-step x.outcome x.wide xs e (all_done xs)

-- all have finished when the wait ends
put_step : (q : Outcome) (w : ℕ) (xs : List Branch) → each finishing (branch w q ∷ xs) ≡ true → (each finishing xs ≡ true → (es : List Entry) (b : ℕ) → put_all es b xs ≡ es)
    → (es : List Entry) (b : ℕ) → put_all es b (branch w q ∷ xs) ≡ es
unfolding each put
put_step finishes w xs e k es b = k e es (b + w)
put_step (jumps j) w xs e k es b = no_false e
put_step (waits t done) w xs e k es b = k e es (b + w)
put_step (waits t (stands ys)) w xs e k es b = no_false e

none-put : (bs : List Branch) → each finishing bs ≡ true → (es : List Entry) (b : ℕ) → put_all es b bs ≡ es
unfolding each
none-put [] e es b = refl
none-put (x ∷ xs) e es b = put_step x.outcome x.wide xs e (none-put xs) es b

ends-step : (q : Outcome) (w : ℕ) (xs : List Branch) → each finishing (branch w q ∷ xs) ≡ true → (each finishing xs ≡ true → how_of Waits xs ≡ Waits) → how_of Waits (branch w q ∷ xs) ≡ Waits
unfolding each
ends-step finishes w xs e k = k e
ends-step (jumps j) w xs e k = no_false e
ends-step (waits t done) w xs e k = k e
ends-step (waits t (stands ys)) w xs e k = no_false e

ends-ends : (bs : List Branch) → each finishing bs ≡ true → how_of Waits bs ≡ Waits
unfolding each
ends-ends [] e = refl
ends-ends (x ∷ xs) e = ends-step x.outcome x.wide xs e (ends-ends xs)

first-ends-step : (q : Outcome) (w : ℕ) (xs : List Branch) → each finishing (branch w q ∷ xs) ≡ true → each finished (branch w q ∷ xs) ≡ false
    → (each finishing xs ≡ true → each finished xs ≡ false → how_of Finished xs ≡ Waits) → how_of Finished (branch w q ∷ xs) ≡ Waits
unfolding each
first-ends-step finishes w xs e f k = k e f
first-ends-step (jumps j) w xs e f k = no_false e
first-ends-step (waits t done) w xs e f k = ends-ends xs e
first-ends-step (waits t (stands ys)) w xs e f k = no_false e

first_ends : (bs : List Branch) → each finishing bs ≡ true → each finished bs ≡ false → how_of Finished bs ≡ Waits
unfolding each
first_ends [] e f = no_true f
first_ends (x ∷ xs) e f = first-ends-step x.outcome x.wide xs e f (first_ends xs)

-- one of them stands somewhere
stands-stands : (bs : List Branch) → how_of Stands bs ≡ Stands
stands-stands [] = refl
stands-stands (x ∷ xs) = stands-stands xs

to_stands : (h : How) → latest h Stands ≡ Stands
to_stands Finished = refl
to_stands Exit = refl
to_stands Break = refl
to_stands Waits = refl
to_stands Stands = refl

stands-step : (q : Outcome) (w : ℕ) (xs : List Branch) (h : How) → jump_in (branch w q ∷ xs) ≡ none → each finishing (branch w q ∷ xs) ≡ false
    → ((h : How) → jump_in xs ≡ none → each finishing xs ≡ false → how_of h xs ≡ Stands) → how_of h (branch w q ∷ xs) ≡ Stands
unfolding each
stands-step finishes w xs h j e k = k _ j e
stands-step (jumps i) w xs h j e k = no_some j
stands-step (waits t done) w xs h j e k = k _ j e
stands-step (waits t (stands ys)) w xs h j e k = ap (λ (x : How). how_of x xs) (to_stands h) ∙ stands-stands xs

some-stands : (bs : List Branch) (h : How) → jump_in bs ≡ none → each finishing bs ≡ false → how_of h bs ≡ Stands
unfolding each
some-stands [] h j e = no_true e
some-stands (x ∷ xs) h j e = stands-step x.outcome x.wide xs h j e (some-stands xs)

all-put : (bs : List Branch) → Placed bs → (es : List Entry) (b : ℕ) → Clear es b → put_all es b bs ≡ put es b (entries_of bs)
unfolding put entries_of
all-put [] p es b c = refl
all-put (x ∷ xs) p es b c =
    let xw = widened x.wide (entries_in x.outcome) in
    let long : length (widened x.wide (entries_in x.outcome)) ≡ x.wide = length-widened x.wide (entries_in x.outcome) p.0.most in
    all-put xs p.1 (put es b (entries_in x.outcome)) (b + x.wide) (clear_from (omega (arith, p.0.most)) (clear-put (entries_in x.outcome) es b c))
    ∙ ap (λ (l : List Entry). put l (b + x.wide) (entries_of xs)) (sym (put-widened x.wide (entries_in x.outcome) es b p.0.most c))
    ∙ ap (λ (k : ℕ). put (put es b (widened x.wide (entries_in x.outcome))) (b + k) (entries_of xs)) (sym long)
    ∙ sym (put-append (widened x.wide (entries_in x.outcome)) (entries_of xs) es b)

abbrev rest : List Branch → Outcome
rest bs = cond (each finished bs) finishes (waits (agreed (map tries_of bs)) (cond (each finishing bs) done (stands (entries_of bs))))

module _ (bs : List Branch) (es : List Entry) (b : ℕ) (p : Placed bs) (c : Clear es b) (j : jump_in bs ≡ none) where
  no_jump : closed_run (total Finished es 0 0 b bs) ≡ embed (rest bs) b es
  unfolding total
  no_jump = by (each finished bs) refl (each finishing bs) refl
    where
      by : (x : Bool) → each finished bs ≡ x → (y : Bool) → each finishing bs ≡ y → closed_run (total Finished es 0 0 b bs) ≡ embed (rest bs) b es
      by true e y f = let d = all_done bs e in rw (e, d.hows, d.puts es b, d.ones, d.zeros)
      by false e true f = rw (e, f, first_ends bs f e, none-put bs f es b, or_zero_l (all_ones (map tries_of bs)), or_zero_l (all_zeros (map tries_of bs)))
      by false e false f = rw (e, f, some-stands bs Finished j f, all-put bs p es b c, or_zero_l (all_ones (map tries_of bs)), or_zero_l (all_zeros (map tries_of bs)))

pub join_is : (bs : List Branch) (es : List Entry) (b : ℕ) → Placed bs → Clear es b → join_from es (run Finished es 0 0) b bs ≡ embed (joined bs) b es
join_is bs es b p c = join_total bs Finished es es 0 0 b ∙ by (jump_in bs) refl ∙ ap (λ (o : Outcome). embed o b es) (sym (first_jump_lem bs (rest bs)))
  where
    by : (j : Option Jump) → jump_in bs ≡ j → jumped_run (jump_in bs) es (closed_run (total Finished es 0 0 b bs)) ≡ embed (jumped (jump_in bs) (rest bs)) b es
    by none e = rw e (no_jump bs es b p c e)
    by (some i) e = rw e

pub clear-embed : (o : Outcome) (w : ℕ) (es : List Entry) (b : ℕ) → Places w o → Clear es b → Clear (embed o b es).entries (b + w)
clear-embed finishes w es b p c = clear_from (omega arith) c
clear-embed (jumps j) w es b p c = clear_from (omega arith) c
clear-embed (waits t done) w es b p c = clear_from (omega arith) c
clear-embed (waits t (stands xs)) w es b p c = clear_from (omega (arith, p.most)) (clear-put xs es b c)
