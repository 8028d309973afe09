-- A text that is written out, through the promise of compile, to the file's bytes.
-- Assumes nothing.
use mathlib.Core.Bool.{Bool, true, false}
use mathlib.Core.Path.{◌≡◌, refl, sym, subst}
use mathlib.Core.List.{List, ◌++◌}
use Prim.Native.Nat.{ℕ, ◌≤◌, ◌<◌}
use Prim.Native.String.{String}
use native.Mathlib.Omega.{arith}
use lib.Dec.{ltb}
use borrow.Author.Tests.{ltb-true, ltb-false}
use lib.ListN.{length, drop}
use Rattle.file_law.specs.Answer.{Answer, gives, refuses}
use Rattle.file_law.specs.Table.{Table}
use Rattle.file_law.specs.File.{stream_of, file_of}
use Rattle.meaning.specs.Declared.{Source}
use Rattle.language.specs.Words.{bytes}
use Rattle.language.specs.Promise.{Lent, Ended, Ready, all_zero, refusal, Compiles}
use Rattle.language.specs.Listings.{Yields}
use Rattle.language.proofs.Listing.{yield_of, yield_right}
use Rattle.language.proofs.Computing.{yield_in}
use Rattle.language.proofs.OneRelation.{filed_by, end_of, yield_ends}

-- with what is lent ready, the text in that room ends so
pub record Ends (text : String) (room : ℕ) (end : Lent → Ended) : Type 0 where
  pub compiles : (l : Lent) → l.source ≡ bytes text → l.room ≡ room → Ready l → Compiles l (end l)

-- .. and where the buffer holds the file, which is 512 bytes; a byte less is 12
pub record Files (text : String) (room states : ℕ) (file : List ℕ) : Type 0 where
  pub compiles : (l : Lent) → l.source ≡ bytes text → l.room ≡ room → Ready l → 512 ≤ length l.buffer
      → Compiles l (record { answer = gives (record { states = states; blocks = 1 }); work = all_zero l.work; buffer = file ++ drop 512 l.buffer })
  pub short : (l : Lent) → l.source ≡ bytes text → l.room ≡ room → Ready l → length l.buffer < 512 → Compiles l (refusal l (all_zero l.work) 12 0)

through : (l : Lent) (text : String) (room : ℕ) → l.source ≡ bytes text → l.room ≡ room → Ready l → Compiles l (end_of l (yield_in room text))
unfolding yield_in
through l text room s e r =
    yield_ends r (subst (λ (k : ℕ). Yields k l.source (yield_of room (bytes text))) (sym e) (subst (λ (t : List ℕ). Yields room t (yield_of room (bytes text))) (sym s) (yield_right room (bytes text))))

pub ends : {text : String} {room number place : ℕ} → yield_in room text ≡ refuses number place → Ends text room (λ l. refusal l (all_zero l.work) number place)
ends {text} {room} p = record { compiles = λ l s e r. subst (λ (a : Answer (Source × Table)). Compiles l (end_of l a)) p (through l text room s e r) }

-- the end with the file, once its bytes are known
filed : (text : String) (room : ℕ) (src : Source) (t : Table) (file : List ℕ) → yield_in room text ≡ gives (src, t) → file_of (stream_of t) ≡ file → (l : Lent) → l.source ≡ bytes text → l.room ≡ room → Ready l
    → Compiles l (filed_by (ltb (length l.buffer) (length file)) l (length t.rows) file)
filed text room src t file p f l s e r =
    subst (λ (g : List ℕ). Compiles l (filed_by (ltb (length l.buffer) (length g)) l (length t.rows) g)) f
    (subst (λ (a : Answer (Source × Table)). Compiles l (end_of l a)) p (through l text room s e r))

pub files : (text : String) (room states : ℕ) (file : List ℕ) (src : Source) (t : Table) → yield_in room text ≡ gives (src, t) → file_of (stream_of t) ≡ file → length file ≡ 512 → length t.rows ≡ states
    → Files text room states file
files text room states file src t p f n k =
    record {
      compiles = λ l s e r h. held l (ltb (length l.buffer) 512) refl h (sized l (filed text room src t file p f l s e r));
      short = λ l s e r h. over l (ltb (length l.buffer) 512) refl h (sized l (filed text room src t file p f l s e r));
    }
  where
    sized : (l : Lent) → Compiles l (filed_by (ltb (length l.buffer) (length file)) l (length t.rows) file) → Compiles l (filed_by (ltb (length l.buffer) 512) l states file)
    sized l c = subst (λ (m : ℕ). Compiles l (filed_by (ltb (length l.buffer) m) l states file)) n (subst (λ (m : ℕ). Compiles l (filed_by (ltb (length l.buffer) (length file)) l m file)) k c)

    held : (l : Lent) (b : Bool) → ltb (length l.buffer) 512 ≡ b → 512 ≤ length l.buffer → Compiles l (filed_by b l states file)
        → Compiles l (record { answer = gives (record { states = states; blocks = 1 }); work = all_zero l.work; buffer = file ++ drop 512 l.buffer })
    held l true e h c = absurd (omega (arith, ltb-true (length l.buffer) 512 e))
    held l false e h c = rw n at c

    over : (l : Lent) (b : Bool) → ltb (length l.buffer) 512 ≡ b → length l.buffer < 512 → Compiles l (filed_by b l states file) → Compiles l (refusal l (all_zero l.work) 12 0)
    over l true e h c = c
    over l false e h c = absurd (omega (arith, ltb-false (length l.buffer) 512 e))
