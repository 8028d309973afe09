-- Inputs that agree on the bits that a clock looks at lead to the same outcome.
use mathlib.Core.Path.{◌≡◌, refl, sym, ap, ◌∙◌}
use mathlib.Core.Bool.{Bool, true, false, cond}
use mathlib.Core.List.{List, ◌∷◌}
use Prim.Native.Nat.{ℕ, zero, suc, ◌/◌, ◌%◌, ◌<◌, ◌^◌}
use native.Mathlib.Nat.{mod-lt}
use native.Mathlib.Omega.{arith}
use lib.Bits.{bit_and, bit_or, and_shr, and_mod}
use lib.ListN.{take, drop}
use Rattle.meaning.specs.Tree.{and, or, Head, Expr, literal, truth, variable, bit, not, int, arithmetic, comparison, logic, Stmt, skip, delay, change, assign, choice, while, loop, exit, break, switch, parallel, Stmts, end, ◌⨾◌, Cases, default, case, Branches, none, ◌∥◌}
use Rattle.meaning.specs.Numbers.{Variable, input, boolean, integer, Reads, Value, bool, whole_of, bool_of, is_one, bit_of, combine, low_bits, value, holds}
use Rattle.meaning.specs.Tries.{Tries, assign_tries, try_bits}
use Rattle.meaning.specs.Clock.{Entry, Outcome, finishes, jumps, waits, After, done, stands, Branch, and_then, again, looped, caught, joined, first_jump, first, first_case, some_at, inside, inside_all, activities_all, start, start_all, start_cases, start_each, resume, resume_all, resume_cases, resume_each}
use Rattle.meaning.proofs.Bits.{bit_or_lem, bit_power}
use Rattle.nodes.specs.Looks.{looks, looks_of}
use Rattle.runs.specs.Seen.{then_seen, beside_seen, start_seen, start_all_seen, start_cases_seen, start_each_seen, resume_seen, resume_all_seen, resume_cases_seen, resume_each_seen}

-- ---- numbers that agree on the bits of m

pub record Agree (x y m : ℕ) : Type 0 where
  pub same : (j : ℕ) → bit_of m j ≡ true → bit_of x j ≡ bit_of y j

and_digits : (x y : ℕ) → x < 2 → y < 2 → is_one (bit_and x y) ≡ combine and (is_one x) (is_one y)
and_digits zero y h k = refl
and_digits (suc zero) zero h k = refl
and_digits (suc zero) (suc zero) h k = refl
and_digits (suc zero) (suc (suc y)) h k = absurd (omega arith)
and_digits (suc (suc x)) y h k = absurd (omega arith)

bit_and_lem : (a b j : ℕ) → bit_of (bit_and a b) j ≡ combine and (bit_of a j) (bit_of b j)
bit_and_lem a b j =
    rw (and_shr a b j, and_mod (a / 2 ^ j) (b / 2 ^ j) 1)
    (and_digits (a / 2 ^ j % 2) (b / 2 ^ j % 2) (mod-lt (a / 2 ^ j) (omega arith)) (mod-lt (b / 2 ^ j) (omega arith)))

and_true : (a b : Bool) → b ≡ true → combine and a b ≡ a
and_true true b e = e
and_true false b e = refl

pub agree_masked : {x y m : ℕ} → bit_and x m ≡ bit_and y m → Agree x y m
agree_masked {x} {y} {m} e =
    record {
      same = λ j h.
          sym (and_true (bit_of x j) (bit_of m j) h) ∙ sym (bit_and_lem x m j) ∙ ap (λ (n : ℕ). bit_of n j) e ∙ bit_and_lem y m j ∙ and_true (bit_of y j) (bit_of m j) h;
    }

or_first : (a b : Bool) → a ≡ true → combine or a b ≡ true
or_first true b e = refl
or_first false b e = absurd (let z : ◌≡◌ {A = ℕ} 0 1 = cc in omega arith)

or_second : (a b : Bool) → b ≡ true → combine or a b ≡ true
or_second true b e = refl
or_second false b e = e

module _ {x y : ℕ} where
  agree_first : (a b : ℕ) → Agree x y (bit_or a b) → Agree x y a
  agree_first a b A = record { same = λ j h. A.same j (bit_or_lem a b j ∙ or_first (bit_of a j) (bit_of b j) h) }

  agree_second : (a b : ℕ) → Agree x y (bit_or a b) → Agree x y b
  agree_second a b A = record { same = λ j h. A.same j (bit_or_lem a b j ∙ or_second (bit_of a j) (bit_of b j) h) }

-- branches are the same up to the first that jumps
data Alike (bs cs : List Branch) : Type 0 where
  same-all : bs ≡ cs → Alike bs cs
  same_jump : ((n m : Outcome) → first_jump bs n ≡ first_jump cs m) → Alike bs cs

joined_same : {bs cs : List Branch} → Alike bs cs → joined bs ≡ joined cs
joined_same (same-all e) = ap joined e
joined_same (same_jump f) = f _ _

alike_next : (w : ℕ) (o : Outcome) (bs cs : List Branch) → Alike bs cs → Alike (record { wide = w; outcome = o } ∷ bs) (record { wide = w; outcome = o } ∷ cs)
unfolding first_jump
alike_next w o bs cs (same-all e) = same-all (ap (λ (l : List Branch). record { wide = w; outcome = o } ∷ l) e)
alike_next w o bs cs (same_jump f) = same_jump (by o)
  where
    by : (o : Outcome) (n m : Outcome) → first_jump (record { wide = w; outcome = o } ∷ bs) n ≡ first_jump (record { wide = w; outcome = o } ∷ cs) m
    by finishes n m = f n m
    by (jumps j) n m = refl
    by (waits t a) n m = f n m

-- ---- what is looked at decides

module _ (x y w : ℕ) where
  abbrev rx : Reads
  rx = record { word = w; inputs = x }

  abbrev ry : Reads
  ry = record { word = w; inputs = y }

  read_same : (v : Variable) → Agree x y (looks_of v) → value (variable v) rx ≡ value (variable v) ry
  unfolding value
  read_same (input i) A = ap bool (A.same i (bit_power i))
  read_same (boolean j) A = refl
  read_same (integer low width) A = refl

  read-bit-same : (v : Variable) (j : ℕ) → value (bit v j) rx ≡ value (bit v j) ry
  unfolding value
  read-bit-same (input i) j = refl
  read-bit-same (boolean b) j = refl
  read-bit-same (integer low width) j = refl

  value_same : (e : Expr Variable) → Agree x y (looks e) → value e rx ≡ value e ry
  unfolding value looks
  value_same (literal p n) A = refl
  value_same (truth p b) A = refl
  value_same (variable v) A = read_same v A
  value_same (bit v j) A = read-bit-same v j
  value_same (not p e) A = rw (value_same e A)
  value_same (int p e) A = rw (value_same e A)
  value_same (arithmetic o p a b) A = rw (value_same a (agree_first (looks a) (looks b) A), value_same b (agree_second (looks a) (looks b) A))
  value_same (comparison o p a b) A = rw (value_same a (agree_first (looks a) (looks b) A), value_same b (agree_second (looks a) (looks b) A))
  value_same (logic o p a b) A = rw (value_same a (agree_first (looks a) (looks b) A), value_same b (agree_second (looks a) (looks b) A))

  holds_same : (e : Expr Variable) → Agree x y (looks e) → holds e rx ≡ holds e ry
  holds_same e A = ap bool_of (value_same e A)

  tries-same : (v : Variable) (e : Expr Variable) → Agree x y (looks e) → assign_tries v e rx ≡ assign_tries v e ry
  tries-same (input i) e A = refl
  tries-same (boolean j) e A = refl
  tries-same (integer low width) e A = ap (λ (z : Value). try_bits low width (low_bits width (whole_of z))) (value_same e A)

  -- o, and what comes after it
  then_same : (o p next other : Outcome) (place : After) (now later : ℕ) → o ≡ p → Agree x y (then_seen o now later) → (Agree x y later → next ≡ other) → and_then o next place ≡ and_then p other place
  then_same o p next other place now later e A k = by o A ∙ ap (λ (z : Outcome). and_then z other place) e
    where
      by : (o : Outcome) → Agree x y (then_seen o now later) → and_then o next place ≡ and_then o other place
      by finishes A = k (agree_second now later A)
      by (jumps j) A = refl
      by (waits t done) A = refl
      by (waits t (stands es)) A = refl

  then_first : (o : Outcome) (now later : ℕ) → Agree x y (then_seen o now later) → Agree x y now
  then_first finishes now later A = agree_first now later A
  then_first (jumps j) now later A = A
  then_first (waits t a) now later A = A

  again-same : (h : Head) (o p restart other : Outcome) (now later : ℕ) → o ≡ p → Agree x y (then_seen o now later) → (Agree x y later → restart ≡ other) → again h restart o ≡ again h other p
  again-same h o p restart other now later e A k = by o A ∙ ap (again h other) e
    where
      by : (o : Outcome) → Agree x y (then_seen o now later) → again h restart o ≡ again h other o
      by finishes A = k (agree_second now later A)
      by (jumps j) A = refl
      by (waits t a) A = refl

  -- either way of a test
  cond_same : (p q : Bool) (a b c d : Outcome) (m n : ℕ) → p ≡ q → Agree x y (cond p m n) → (Agree x y m → a ≡ c) → (Agree x y n → b ≡ d) → cond p a b ≡ cond q c d
  cond_same true q a b c d m n e A f g = rw (← e) (f A)
  cond_same false q a b c d m n e A f g = rw (← e) (g A)

  beside_first : (o : Outcome) (now others : ℕ) → Agree x y (beside_seen o now others) → Agree x y now
  beside_first finishes now others A = agree_first now others A
  beside_first (jumps j) now others A = A
  beside_first (waits t a) now others A = agree_first now others A

  beside_same : (v : ℕ) (o p : Outcome) (bs cs : List Branch) (now others : ℕ) → o ≡ p → Agree x y (beside_seen o now others) → (Agree x y others → Alike bs cs)
      → Alike (record { wide = v; outcome = o } ∷ bs) (record { wide = v; outcome = p } ∷ cs)
  unfolding first_jump
  beside_same v o p bs cs now others e A k = rw (← e) (by o A)
    where
      by : (o : Outcome) → Agree x y (beside_seen o now others) → Alike (record { wide = v; outcome = o } ∷ bs) (record { wide = v; outcome = o } ∷ cs)
      by finishes A = alike_next v finishes bs cs (k (agree_second now others A))
      by (jumps j) A = same_jump (λ n m. refl)
      by (waits t a) A = alike_next v (waits t a) bs cs (k (agree_second now others A))

  -- ---- from the start

  mutual
    unfolding start start_seen

    start-same : (s : Stmt Variable) → Agree x y (start_seen s rx) → start s rx ≡ start s ry
    start-same (skip h) A = refl
    start-same (delay h p n) A = refl
    start-same (change h c t) A = refl
    start-same (assign h v e) A = ap (λ (t : Tries). waits t done) (tries-same v e A)
    start-same (choice h e a b) A =
        let m = cond (holds e rx) (start_all_seen a rx) (start_all_seen b rx) in
        cond_same (holds e rx) (holds e ry) _ _ _ _ (start_all_seen a rx) (start_all_seen b rx) (holds_same e (agree_first (looks e) m A)) (agree_second (looks e) m A) (λ E. start-all-same a E) (λ E. start-all-same b E)
    start-same (while h e b) A =
        let m = cond (holds e rx) (start_all_seen b rx) 0 in
        cond_same (holds e rx) (holds e ry) _ _ _ _ (start_all_seen b rx) 0 (holds_same e (agree_first (looks e) m A)) (agree_second (looks e) m A) (λ B. ap (looped h) (start-all-same b B)) (λ B. refl)
    start-same (loop h b) A = ap (looped h) (start-all-same b A)
    start-same (exit h) A = refl
    start-same (break h) A = refl
    start-same (switch h cs) A = ap caught (start_cases_same cs A)
    start-same (parallel h bs) A = ap caught (joined_same (start-each-same bs A))

    start-all-same : (ss : Stmts Variable) → Agree x y (start_all_seen ss rx) → start_all ss rx ≡ start_all ss ry
    start-all-same end A = refl
    start-all-same (s ⨾ ss) A =
        then_same (start s rx) (start s ry) (start_all ss rx) (start_all ss ry) (first ss) (start_seen s rx) (start_all_seen ss rx)
        (start-same s (then_first (start s rx) (start_seen s rx) (start_all_seen ss rx) A)) A (λ E. start-all-same ss E)

    start_cases_same : (cs : Cases Variable) → Agree x y (start_cases_seen cs rx) → start_cases cs rx ≡ start_cases cs ry
    start_cases_same (default d) A = start-all-same d A
    start_cases_same (case h e b cs) A =
        let n = then_seen (start_all b rx) (start_all_seen b rx) (start_cases_seen cs rx) in
        let m = cond (holds e rx) n (start_cases_seen cs rx) in
        cond_same (holds e rx) (holds e ry) _ _ _ _ n (start_cases_seen cs rx) (holds_same e (agree_first (looks e) m A)) (agree_second (looks e) m A)
        (λ B. then_same (start_all b rx) (start_all b ry) (start_cases cs rx) (start_cases cs ry) (first_case cs) (start_all_seen b rx) (start_cases_seen cs rx) (start-all-same b (then_first (start_all b rx) (start_all_seen b rx) (start_cases_seen cs rx) B)) B (λ E. start_cases_same cs E))
        (λ E. start_cases_same cs E)

    start-each-same : (bs : Branches Variable) → Agree x y (start_each_seen bs rx) → Alike (start_each bs rx) (start_each bs ry)
    start-each-same none A = same-all refl
    start-each-same (b ∥ bs) A =
        beside_same (activities_all b) (start_all b rx) (start_all b ry) (start_each bs rx) (start_each bs ry) (start_all_seen b rx) (start_each_seen bs rx)
        (start-all-same b (beside_first (start_all b rx) (start_all_seen b rx) (start_each_seen bs rx) A)) A (λ E. start-each-same bs E)

  -- ---- .. and from where the activities stand

  mutual
    unfolding resume resume_seen

    resume-same : (s : Stmt Variable) (es : List Entry) → Agree x y (resume_seen s es rx) → resume s es rx ≡ resume s es ry
    resume-same (skip h) es A = start-same (skip h) A
    resume-same (delay h p n) es A = refl
    resume-same (change h c t) es A = start-same (change h c t) A
    resume-same (assign h v e) es A = start-same (assign h v e) A
    resume-same (choice h e a b) es A =
        let n = cond (inside_all a es) (resume_all_seen a es rx) (resume_all_seen b es rx) in
        cond_same (some_at h.number es) (some_at h.number es) _ _ _ _ (start_seen (choice h e a b) rx) n refl A (start-same (choice h e a b))
        (λ B. cond_same (inside_all a es) (inside_all a es) _ _ _ _ (resume_all_seen a es rx) (resume_all_seen b es rx) refl B (λ E. resume-all-same a es E) (λ E. resume-all-same b es E))
    resume-same (while h e b) es A =
        let n = then_seen (resume_all b es rx) (resume_all_seen b es rx) (start_seen (while h e b) rx) in
        cond_same (some_at h.number es) (some_at h.number es) _ _ _ _ (start_seen (while h e b) rx) n refl A (start-same (while h e b))
        (λ B. again-same h (resume_all b es rx) (resume_all b es ry) (start (while h e b) rx) (start (while h e b) ry) (resume_all_seen b es rx) (start_seen (while h e b) rx) (resume-all-same b es (then_first (resume_all b es rx) (resume_all_seen b es rx) (start_seen (while h e b) rx) B)) B (start-same (while h e b)))
    resume-same (loop h b) es A =
        let n = then_seen (resume_all b es rx) (resume_all_seen b es rx) (start_seen (loop h b) rx) in
        cond_same (some_at h.number es) (some_at h.number es) _ _ _ _ (start_seen (loop h b) rx) n refl A (start-same (loop h b))
        (λ B. again-same h (resume_all b es rx) (resume_all b es ry) (start (loop h b) rx) (start (loop h b) ry) (resume_all_seen b es rx) (start_seen (loop h b) rx) (resume-all-same b es (then_first (resume_all b es rx) (resume_all_seen b es rx) (start_seen (loop h b) rx) B)) B (start-same (loop h b)))
    resume-same (exit h) es A = start-same (exit h) A
    resume-same (break h) es A = start-same (break h) A
    resume-same (switch h cs) es A =
        cond_same (some_at h.number es) (some_at h.number es) _ _ _ _ (start_seen (switch h cs) rx) (resume_cases_seen cs es rx) refl A (start-same (switch h cs))
        (λ B. ap caught (resume_cases_same cs es B))
    resume-same (parallel h bs) es A =
        cond_same (some_at h.number es) (some_at h.number es) _ _ _ _ (start_seen (parallel h bs) rx) (resume_each_seen bs es rx) refl A (start-same (parallel h bs))
        (λ B. ap caught (joined_same (resume-each-same bs es B)))

    pub resume-all-same : (ss : Stmts Variable) (es : List Entry) → Agree x y (resume_all_seen ss es rx) → resume_all ss es rx ≡ resume_all ss es ry
    resume-all-same end es A = refl
    resume-all-same (s ⨾ ss) es A =
        let n = then_seen (resume s es rx) (resume_seen s es rx) (start_all_seen ss rx) in
        cond_same (inside s es) (inside s es) _ _ _ _ n (resume_all_seen ss es rx) refl A
        (λ B. then_same (resume s es rx) (resume s es ry) (start_all ss rx) (start_all ss ry) (first ss) (resume_seen s es rx) (start_all_seen ss rx) (resume-same s es (then_first (resume s es rx) (resume_seen s es rx) (start_all_seen ss rx) B)) B (λ E. start-all-same ss E))
        (λ E. resume-all-same ss es E)

    resume_cases_same : (cs : Cases Variable) (es : List Entry) → Agree x y (resume_cases_seen cs es rx) → resume_cases cs es rx ≡ resume_cases cs es ry
    resume_cases_same (default d) es A = resume-all-same d es A
    resume_cases_same (case h e b cs) es A =
        let n = then_seen (resume_all b es rx) (resume_all_seen b es rx) (start_cases_seen cs rx) in
        let m = cond (inside_all b es) n (resume_cases_seen cs es rx) in
        cond_same (some_at h.number es) (some_at h.number es) _ _ _ _ (start_cases_seen (case h e b cs) rx) m refl A (start_cases_same (case h e b cs))
        (λ B. cond_same (inside_all b es) (inside_all b es) _ _ _ _ n (resume_cases_seen cs es rx) refl B
        (λ D. then_same (resume_all b es rx) (resume_all b es ry) (start_cases cs rx) (start_cases cs ry) (first_case cs) (resume_all_seen b es rx) (start_cases_seen cs rx) (resume-all-same b es (then_first (resume_all b es rx) (resume_all_seen b es rx) (start_cases_seen cs rx) D)) D (λ E. start_cases_same cs E))
        (λ E. resume_cases_same cs es E))

    resume-each-same : (bs : Branches Variable) (es : List Entry) → Agree x y (resume_each_seen bs es rx) → Alike (resume_each bs es rx) (resume_each bs es ry)
    resume-each-same none es A = same-all refl
    resume-each-same (b ∥ bs) es A =
        let ws = take (activities_all b) es in
        let vs = drop (activities_all b) es in
        beside_same (activities_all b) (resume_all b ws rx) (resume_all b ws ry) (resume_each bs vs rx) (resume_each bs vs ry) (resume_all_seen b ws rx) (resume_each_seen bs vs rx)
        (resume-all-same b ws (beside_first (resume_all b ws rx) (resume_all_seen b ws rx) (resume_each_seen bs vs rx) A)) A (λ E. resume-each-same bs vs E)
