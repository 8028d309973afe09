-- What the readers of declarations promise: for all words that the text has from there on, whatever they come to by the grammar.
-- Assumes nothing.
use Rattle.std.specs.Prelude.{Bool, true, cond, ◌≡◌, List, [], ◌∷◌, ◌++◌, ℕ, ◌+◌, ◌*◌, ◌≤◌, ◌<◌, length}
use Rattle.meaning.specs.Declared as declared
use Rattle.meaning.specs.Declared.{Declaration, inputs, outputs, internals, integers, name_of, as_bit, output_count}
use Rattle.meaning.specs.Tree.{Name}
use Rattle.meaning.specs.Unexpanded as unexpanded
use Rattle.meaning.specs.Unexpanded.{DeclaredName, a_variable, a_procedure, Unexpanded}
use Rattle.meaning.specs.Expansion.{variables_of}
use Rattle.meaning.specs.Procedures.{has_name}
use Rattle.meaning.specs.Sizes.{bits_of}
use Rattle.language.specs.Words.{Word}
use Rattle.language.specs.Scan.{found, next_word, behind}
use Rattle.language.specs.Grammar.{Program, Declarations, Statements, Ending, BooleanStart, IntegerStart, Procedure, Formals, FormalNames, AfterProcedure, most_levels}
use Rattle.language.specs.Trees.{name_at}
use Rattle.words.specs.Runs.{part}
use Rattle.words.proofs.Only.{number_of}
use Rattle.descent_law.specs.Told.{Told}
use Rattle.descent_law.specs.Declarations.{Declared}
use Rattle.hand.specs.declared.Here.{Here}
use Rattle.hand.specs.Along.{Along, Stands, Near}
use Rattle.names.specs.declared.Item.{Item}
use Rattle.decls.specs.declared.At.{At}
use Rattle.decls.specs.declared.Started.{Started}
use Rattle.decls.specs.declared.Named.{Named}
use Rattle.decls.specs.declared.Turn.{Turn}
use Rattle.names.specs.declared.Marks.{Marks}
use Rattle.decls.specs.declared.Read.{Read}
use Rattle.names.specs.Look.{width_at}
use Rattle.names.specs.Enter.{kind_number, cap, tag_of, width_place, start_of, start_marks}
use Rattle.decls.specs.Left.{Several, list_number, Listed, More, Left}
use Rattle.decls.specs.Held.{known_in, formals_noted, Held, enter_variable, enter_procedure, enter_each, asked_by, asked}

abbrev Text : Type 0
Text = List Word

-- an integer's width stands behind its name
abbrev pub WidthLies : List ℕ → Declaration → ℕ → Type 0
WidthLies s (inputs n e) b = Unit
WidthLies s (outputs n e v) b = Unit
WidthLies s (internals n e v) b = Unit
WidthLies s (integers n p w v) b = width_at s b ≡ w

-- a declaration's name, of 1 to 16 bytes, stands in the text at its place
pub record Lies (s : List ℕ) (d : Declaration) : Type 0 where
  pub bytes : part s (name_of d).place ((name_of d).place + length (name_of d).bytes) ≡ (name_of d).bytes
  pub short : length (name_of d).bytes ≤ 16
  pub inside : (name_of d).place < 8192
  pub number : width_place d ≤ 8192
  pub width : WidthLies s d ((name_of d).place + length (name_of d).bytes)

-- .. all of them
abbrev pub AllLie : List ℕ → List Declaration → Type 0
AllLie s [] = Unit
AllLie s (d ∷ ds) = Lies s d × AllLie s ds

-- P1: a procedure stands in the text from its name on
pub record Lasts (s : List ℕ) (p : unexpanded.Procedure) : Type 0 where
  pub bytes : part s p.name.place (p.name.place + length p.name.bytes) ≡ p.name.bytes
  pub short : length p.name.bytes ≤ 16
  pub inside : p.name.place < 8192
  pub stands : (f : ℕ) × (k : ℕ) × (ws : Text) × (rest : Text) × (k ≤ most_levels) × Along s p.name.place ws × Told f Procedure k ws p rest

-- .. each of them
abbrev pub LiesOne : List ℕ → DeclaredName → Type 0
LiesOne s (a_variable d) = Lies s d
LiesOne s (a_procedure p) = Lasts s p

abbrev pub EachLies : List ℕ → Several → Type 0
EachLies s [] = Unit
EachLies s (d ∷ ds) = LiesOne s d × EachLies s ds

-- what was read is this declaration
pub record Is (s : List ℕ) (d : Declaration) (i : Item) : Type 0 where
  pub lies : Lies s d
  pub kind : kind_number i.kind ≡ tag_of d
  pub place : i.place ≡ (name_of d).place
  pub next : i.next ≡ (name_of d).place + length (name_of d).bytes
  pub number : i.number ≡ width_place d
  pub width : i.width ≡ bits_of d
  pub value : i.value ≡ start_of d

-- .. this procedure, with its formals behind its name
pub record IsProcedure (s : List ℕ) (p : unexpanded.Procedure) (i : Item) : Type 0 where
  pub lasts : Lasts s p
  pub kind : kind_number i.kind ≡ 4
  pub place : i.place ≡ p.name.place
  pub next : i.next ≡ p.name.place + length p.name.bytes
  pub formals : (f : ℕ) × (k : ℕ) × (ws : Text) × (rest : Text) × Along s i.next ws × Told f Formals k ws p.formals rest

abbrev pub IsOne : List ℕ → DeclaredName → Item → Type 0
IsOne s (a_variable d) i = Is s d i
IsOne s (a_procedure p) i = IsProcedure s p i

-- the ending is passed over
pub record Ended (s : List ℕ) (h : Here) (r : Here) : Type 0 where
  pub near : Near s r
  pub later : h.place ≤ r.place
  pub told : (ws : Text) → Stands s h ws → (f k : ℕ) (v : declared.Ending) (rest : Text) → Told f Ending k ws v rest → Stands s r rest

-- a boolean's initial value
pub record BooleanStarted (s : List ℕ) (h : Here) (r : Started) : Type 0 where
  pub near : Near s r.word
  pub later : h.place ≤ r.word.place
  pub told : (ws : Text) → Stands s h ws → (f k : ℕ) (v : Bool) (rest : Text) → Told f BooleanStart k ws v rest → Stands s r.word rest × (r.value ≡ as_bit v)

-- an integer's initial value, as it is written
pub record IntegerStarted (s : List ℕ) (h : Here) (r : Started) : Type 0 where
  pub near : Near s r.word
  pub later : h.place ≤ r.word.place
  pub told : (ws : Text) → Stands s h ws → (f k v : ℕ) (rest : Text) → Told f IntegerStart k ws v rest → Stands s r.word rest × (r.value ≡ v)

-- a declared name was read, and more of its list may follow
pub record NamedOne (s : List ℕ) (l : ℕ) (k : ℕ) (ds : Declared) (rest : Text) (r : Named) : Type 0 where
  pub one : Declaration
  pub on : Declared
  pub mid : Text
  pub fuel : ℕ
  pub all : ds ≡ one ∷ on
  pub is : Is s one r.item
  pub stands : Stands s r.word mid
  pub more : More l fuel k mid on rest

-- the name and its list, whatever the words come to
pub record NamedCame (s : List ℕ) (l : ℕ) (h : Here) (r : Named) : Type 0 where
  pub near : Near s r.word
  pub later : h.next ≤ r.word.place
  pub kind : kind_number r.item.kind < 4
  pub place : r.item.place ≡ h.place
  pub next : r.item.next ≡ h.next
  pub told : (ws : Text) → Stands s h ws → (f k : ℕ) (ds : Declared) (rest : Text) → Listed l f k ws ds rest → NamedOne s l k ds rest r

-- none of these words is `endproc`
abbrev pub Quiet : Text → Type 0
Quiet [] = Unit
Quiet (w ∷ ws) = ¬ (number_of w.kind ≡ 57) × Quiet ws

-- the first `endproc` from a word on: as many bytes behind it as words, at least
pub record Reached (s : List ℕ) (h : Here) (r : Here) : Type 0 where
  pub near : Near s r
  pub later : h.place ≤ r.place
  pub told : (pre : Text) (x : Word) (rest : Text) → Stands s h (pre ++ (x ∷ rest)) → Quiet pre → number_of x.kind ≡ 57 → Stands s r (x ∷ rest) × (h.place + length pre ≤ r.place)

-- a `;` behind a procedure is passed over
pub record After (s : List ℕ) (h : Here) (r : Here) : Type 0 where
  pub near : Near s r
  pub later : h.place ≤ r.place
  pub told : (ws : Text) → Stands s h ws → (f k : ℕ) (rest : Text) → Told f AfterProcedure k ws tt rest → Stands s r rest

-- behind a `;`
pub record Opened (s : List ℕ) (h : Here) (r : At) : Type 0 where
  pub near : Near s r.word
  pub list : list_number r.list ≤ 5
  pub from : h.place ≤ r.word.place
  pub later : 1 ≤ list_number r.list → h.place < r.word.place
  pub told : (ws : Text) → Stands s h ws → (f k : ℕ) → k ≤ most_levels → (ds : Several) (rest : Text) → Told f Declarations k ws ds rest → Left s r ds rest

-- one declared name or procedure more was read, and twice the bytes behind it are as many as it asks for
pub record Stepped (s : List ℕ) (a : At) (ds : Several) (rest : Text) (r : Turn) : Type 0 where
  pub one : DeclaredName
  pub on : Several
  pub all : ds ≡ one ∷ on
  pub is : IsOne s one r.item
  pub left : Left s r.at on rest
  pub far : a.word.place * 2 + asked_by one ≤ r.at.word.place * 2

-- a step, whatever is left
pub record StepCame (s : List ℕ) (a : At) (r : Turn) : Type 0 where
  pub near : Near s r.at.word
  pub list : list_number r.at.list ≤ 5
  pub on : a.word.place < r.at.word.place
  pub later : 1 ≤ list_number r.at.list → a.word.place + 2 ≤ r.at.word.place
  pub kind : kind_number r.item.kind ≤ 4
  pub place : r.item.place ≡ a.word.place
  pub next : r.item.next ≡ a.word.next
  pub told : (ds : Several) (rest : Text) → Left s a ds rest → Stepped s a ds rest r

-- at a declared name, or behind the declarations
pub record Ready (s : List ℕ) (a : At) : Type 0 where
  pub near : Near s a.word
  pub list : list_number a.list ≤ 5

-- the first declared name of a program, or the first word behind its declarations
pub record Begun (s : List ℕ) (k : ℕ) (p : Unexpanded) (rest : Text) (r : At) : Type 0 where
  pub mid : Text
  pub close : Word
  pub fuel : ℕ
  pub left : Left s r p.declared mid
  pub body : Told fuel Statements k mid p.body (close ∷ rest)
  pub far : 2 ≤ r.word.place

-- the start of a text
pub record BeginCame (s : List ℕ) (r : At) : Type 0 where
  pub ready : Ready s r
  pub told : (ws : Text) → Along s 0 ws → (f k : ℕ) → k ≤ most_levels → (p : Unexpanded) (rest : Text) → Told f Program k ws p rest → Begun s k p rest r

-- the outputs that are left are counted
pub record OutputsCame (s : List ℕ) (a : At) (r : ℕ) : Type 0 where
  pub told : (ds : Several) (rest : Text) → Left s a ds rest → r ≡ cap (output_count (variables_of ds))

-- ---- procedures

-- from a place to another stand these names, each with a word behind it
abbrev pub Row : List ℕ → ℕ → List Name → ℕ → Type 0
Row s from [] to = from ≡ to
Row s from (n ∷ ns) to = (w : Word) × (c : Word) × (from < to) × (n ≡ name_at w) × (next_word s from ≡ found w) × (next_word s (behind w) ≡ found c) × Row s (behind c) ns to

abbrev pub bytes_of : List Name → List (List ℕ)
bytes_of [] = []
bytes_of (n ∷ ns) = n.bytes ∷ bytes_of ns

-- one of the names before has these bytes
pub record EarlierCame (s : List ℕ) (from to : ℕ) (x : List ℕ) (r : Bool) : Type 0 where
  pub told : (ns : List Name) → Row s from ns to → r ≡ has_name (bytes_of ns) x

-- .. or what is known has
pub record AgainCame (s t : List ℕ) (names n from to : ℕ) (x : List ℕ) (r : Bool) : Type 0 where
  pub told : (ns : List Name) → Row s from ns to → r ≡ cond (has_name (bytes_of ns) x) true (known_in s t names n x)

-- fault 6 among the formals
pub record FormalsCame (s t : List ℕ) (names n from old r : ℕ) : Type 0 where
  pub told : (ws : Text) → Along s from ws → (f k : ℕ) (fs : List Name) (rest : Text) → Told f FormalNames k ws fs rest → r ≡ formals_noted (known_in s t names n) [] fs old

abbrev pub held_of : Marks → ℕ → List ℕ → Held
held_of m n t = record { marks = m; procedures = n; bytes = t }

-- a variable entered
pub record VariableCame (s t u : List ℕ) (m : Marks) (n : ℕ) (i : Item) (r : Marks) : Type 0 where
  pub long : length u ≡ length t
  pub names : r.names ≡ m.names + 1
  pub told : (d : Declaration) → Is s d i → held_of r n u ≡ enter_variable s d (held_of m n t)

-- a procedure entered
pub record ProcedureCame (s t u : List ℕ) (m : Marks) (n : ℕ) (i : Item) (r : Marks) : Type 0 where
  pub long : length u ≡ length t
  pub names : r.names ≡ m.names
  pub told : (p : unexpanded.Procedure) → IsProcedure s p i → held_of r (n + 1) u ≡ enter_procedure s p (held_of m n t)

-- ---- all

-- all that is left was entered, in the bytes that are behind a place
pub record Entered (s : List ℕ) (a : At) (ds : Several) (rest : Text) (m : Marks) (t u : List ℕ) (r : Read) : Type 0 where
  pub lie : EachLies s ds
  pub stands : Stands s r.word rest
  pub kept : held_of r.marks r.procedures u ≡ enter_each s ds (held_of m 0 t)
  pub room : a.word.place * 2 + asked ds ≤ 16384

-- all that is left is entered, whatever it is
pub record EnterCame (s : List ℕ) (a : At) (m : Marks) (t u : List ℕ) (r : Read) : Type 0 where
  pub near : Near s r.word
  pub long : length u ≡ length t
  pub few : r.marks.names ≤ 4096
  pub rows : r.procedures ≤ 4096
  pub told : (ds : Several) (rest : Text) → Left s a ds rest → Entered s a ds rest m t u r

-- the declarations of a program
pub record Tells (s : List ℕ) (k : ℕ) (p : Unexpanded) (rest : Text) (t u : List ℕ) (r : Read) : Type 0 where
  pub mid : Text
  pub close : Word
  pub fuel : ℕ
  pub lie : EachLies s p.declared
  pub stands : Stands s r.word mid
  pub body : Told fuel Statements k mid p.body (close ∷ rest)
  pub kept : held_of r.marks r.procedures u ≡ enter_each s p.declared (held_of (start_marks (cap (output_count (variables_of p.declared)))) 0 t)
  pub room : 4 + asked p.declared ≤ 16384

-- the declarations of a text
pub record Came (s t u : List ℕ) (r : Read) : Type 0 where
  pub near : Near s r.word
  pub long : length u ≡ length t
  pub few : r.marks.names ≤ 4096
  pub rows : r.procedures ≤ 4096
  pub told : (ws : Text) → Along s 0 ws → (f k : ℕ) → k ≤ most_levels → (p : Unexpanded) (rest : Text) → Told f Program k ws p rest → Tells s k p rest t u r
