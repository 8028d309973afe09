-- The grammar's rows as bytes, and where each row begins that a word calls for. Made by tools/tables.py; nothing rests on how: proofs/Serves tests every entry.
-- Assumes nothing.
use Rattle.std.specs.Prelude.{List, [], ◌∷◌, ℕ, get_or}
use Rattle.language.specs.Grammar.{Part, Program, Declarations, Procedure, Formals, FormalNames, MoreFormals, AfterProcedure, Declaration, Inputs, MoreInputs, Ending, Booleans, MoreBooleans, BooleanStart, BooleanValue, Integers, MoreIntegers, IntegerStart, Statements, AfterStatement, NextStatement, Statement, AfterName, Actuals, MoreActuals, Else, Cases, Branches, Target, Index, Tier, Further}

-- the parts in the order of their numbers
unfoldable pub parts : List Part
parts = Program ∷ Declarations ∷ Procedure ∷ Formals ∷ FormalNames ∷ MoreFormals ∷ AfterProcedure ∷ Declaration ∷ Inputs ∷ MoreInputs ∷ Ending ∷ Booleans ∷ MoreBooleans ∷ BooleanStart ∷ BooleanValue ∷ Integers ∷ MoreIntegers ∷ IntegerStart ∷ Statements ∷ AfterStatement ∷ NextStatement ∷ Statement ∷ AfterName ∷ Actuals ∷ MoreActuals ∷ Else ∷ Cases ∷ Branches ∷ Target ∷ Index ∷ Tier 0 ∷ Tier 1 ∷ Tier 2 ∷ Tier 3 ∷ Tier 4 ∷ Tier 5 ∷ Tier 6 ∷ Further 0 ∷ Further 1 ∷ Further 2 ∷ Further 4 ∷ Further 5 ∷ []

-- row 1 is the start; a row ends at 0
unfoldable pub rows : List ℕ
rows = 0 ∷ 128 ∷ 0 ∷ 27 ∷ 1 ∷ 13 ∷ 129 ∷ 146 ∷ 28 ∷ 0 ∷ 0 ∷ 135 ∷ 13 ∷ 129 ∷ 0 ∷ 57 ∷ 130 ∷ 134 ∷ 129 ∷ 0 ∷ 1 ∷ 131 ∷ 146 ∷ 58 ∷ 0 ∷ 126 ∷ 15 ∷ 132 ∷ 16 ∷ 127 ∷ 0 ∷ 0 ∷ 1 ∷ 133 ∷ 0 ∷ 0 ∷ 14 ∷ 1 ∷ 133 ∷ 0 ∷ 0 ∷ 13 ∷ 0 ∷ 29 ∷ 136 ∷ 0 ∷ 30 ∷ 139 ∷ 0 ∷ 31 ∷ 139 ∷ 0 ∷ 32 ∷ 143 ∷ 0 ∷ 1 ∷ 138 ∷ 137 ∷ 0 ∷ 0 ∷ 14 ∷ 136 ∷ 0 ∷ 0 ∷ 11 ∷ 0 ∷ 12 ∷ 0 ∷ 1 ∷ 138 ∷ 141 ∷ 140 ∷ 0 ∷ 0 ∷ 14 ∷ 139 ∷ 0 ∷ 0 ∷ 8 ∷ 142 ∷ 0 ∷ 33 ∷ 0 ∷ 34 ∷ 0 ∷ 1 ∷ 17 ∷ 2 ∷ 18 ∷ 145 ∷ 144 ∷ 0 ∷ 0 ∷ 14 ∷ 143 ∷ 0 ∷ 0 ∷ 8 ∷ 2 ∷ 0 ∷ 149 ∷ 147 ∷ 0 ∷ 0 ∷ 13 ∷ 148 ∷ 0 ∷ 0 ∷ 146 ∷ 0 ∷ 36 ∷ 0 ∷ 37 ∷ 2 ∷ 0 ∷ 38 ∷ 126 ∷ 15 ∷ 156 ∷ 16 ∷ 127 ∷ 0 ∷ 39 ∷ 126 ∷ 15 ∷ 156 ∷ 16 ∷ 127 ∷ 0 ∷ 40 ∷ 126 ∷ 15 ∷ 156 ∷ 16 ∷ 127 ∷ 0 ∷ 1 ∷ 150 ∷ 0 ∷ 126 ∷ 41 ∷ 158 ∷ 42 ∷ 146 ∷ 153 ∷ 44 ∷ 127 ∷ 0 ∷ 126 ∷ 45 ∷ 158 ∷ 46 ∷ 47 ∷ 146 ∷ 48 ∷ 127 ∷ 0 ∷ 126 ∷ 47 ∷ 146 ∷ 48 ∷ 127 ∷ 0 ∷ 49 ∷ 0 ∷ 126 ∷ 50 ∷ 51 ∷ 158 ∷ 10 ∷ 146 ∷ 154 ∷ 52 ∷ 10 ∷ 146 ∷ 53 ∷ 127 ∷ 0 ∷ 54 ∷ 0 ∷ 126 ∷ 55 ∷ 146 ∷ 3 ∷ 146 ∷ 155 ∷ 56 ∷ 127 ∷ 0 ∷ 9 ∷ 158 ∷ 0 ∷ 126 ∷ 15 ∷ 151 ∷ 16 ∷ 127 ∷ 0 ∷ 0 ∷ 158 ∷ 152 ∷ 0 ∷ 0 ∷ 14 ∷ 158 ∷ 152 ∷ 0 ∷ 0 ∷ 43 ∷ 146 ∷ 0 ∷ 0 ∷ 51 ∷ 158 ∷ 10 ∷ 146 ∷ 154 ∷ 0 ∷ 0 ∷ 3 ∷ 146 ∷ 155 ∷ 0 ∷ 1 ∷ 157 ∷ 0 ∷ 0 ∷ 17 ∷ 2 ∷ 18 ∷ 0 ∷ 159 ∷ 165 ∷ 0 ∷ 160 ∷ 166 ∷ 0 ∷ 161 ∷ 167 ∷ 0 ∷ 126 ∷ 6 ∷ 161 ∷ 127 ∷ 0 ∷ 162 ∷ 0 ∷ 163 ∷ 168 ∷ 0 ∷ 164 ∷ 169 ∷ 0 ∷ 1 ∷ 157 ∷ 0 ∷ 2 ∷ 0 ∷ 33 ∷ 0 ∷ 34 ∷ 0 ∷ 35 ∷ 126 ∷ 15 ∷ 158 ∷ 16 ∷ 127 ∷ 0 ∷ 126 ∷ 15 ∷ 158 ∷ 16 ∷ 127 ∷ 0 ∷ 0 ∷ 21 ∷ 159 ∷ 165 ∷ 0 ∷ 0 ∷ 4 ∷ 160 ∷ 166 ∷ 0 ∷ 0 ∷ 7 ∷ 161 ∷ 167 ∷ 0 ∷ 5 ∷ 161 ∷ 167 ∷ 0 ∷ 19 ∷ 161 ∷ 167 ∷ 0 ∷ 20 ∷ 161 ∷ 167 ∷ 0 ∷ 0 ∷ 22 ∷ 163 ∷ 168 ∷ 0 ∷ 23 ∷ 163 ∷ 168 ∷ 0 ∷ 0 ∷ 24 ∷ 164 ∷ 169 ∷ 0 ∷ 25 ∷ 164 ∷ 169 ∷ 0 ∷ 26 ∷ 164 ∷ 169 ∷ 0 ∷ []

-- how many bytes that is, how many cells the table of starts has, and how many of them are not 0
abbrev pub row_bytes : ℕ
row_bytes = 324

abbrev pub cell_count : ℕ
cell_count = 5376

abbrev pub call_count : ℕ
call_count = 331

-- the rows of each part in order: where one begins, and the kinds of the words that call for it
unfoldable pub calls : List (List (ℕ × List ℕ))
calls =
    ((3, 27 ∷ []) ∷ [])
    ∷ ((10, 1 ∷ 36 ∷ 37 ∷ 38 ∷ 39 ∷ 40 ∷ 41 ∷ 45 ∷ 47 ∷ 49 ∷ 50 ∷ 54 ∷ 55 ∷ []) ∷ (11, 29 ∷ 30 ∷ 31 ∷ 32 ∷ []) ∷ (15, 57 ∷ []) ∷ [])
    ∷ ((20, 1 ∷ []) ∷ [])
    ∷ ((25, 15 ∷ []) ∷ [])
    ∷ ((31, 16 ∷ []) ∷ (32, 1 ∷ []) ∷ [])
    ∷ ((35, 16 ∷ []) ∷ (36, 14 ∷ []) ∷ [])
    ∷ ((40, 1 ∷ 29 ∷ 30 ∷ 31 ∷ 32 ∷ 36 ∷ 37 ∷ 38 ∷ 39 ∷ 40 ∷ 41 ∷ 45 ∷ 47 ∷ 49 ∷ 50 ∷ 54 ∷ 55 ∷ 57 ∷ []) ∷ (41, 13 ∷ []) ∷ [])
    ∷ ((43, 29 ∷ []) ∷ (46, 30 ∷ []) ∷ (49, 31 ∷ []) ∷ (52, 32 ∷ []) ∷ [])
    ∷ ((55, 1 ∷ []) ∷ [])
    ∷ ((59, 13 ∷ []) ∷ (60, 14 ∷ []) ∷ [])
    ∷ ((63, 8 ∷ 13 ∷ 14 ∷ []) ∷ (64, 11 ∷ []) ∷ (66, 12 ∷ []) ∷ [])
    ∷ ((68, 1 ∷ []) ∷ [])
    ∷ ((73, 13 ∷ []) ∷ (74, 14 ∷ []) ∷ [])
    ∷ ((77, 13 ∷ 14 ∷ []) ∷ (78, 8 ∷ []) ∷ [])
    ∷ ((81, 33 ∷ []) ∷ (83, 34 ∷ []) ∷ [])
    ∷ ((85, 1 ∷ []) ∷ [])
    ∷ ((92, 13 ∷ []) ∷ (93, 14 ∷ []) ∷ [])
    ∷ ((96, 13 ∷ 14 ∷ []) ∷ (97, 8 ∷ []) ∷ [])
    ∷ ((100, 1 ∷ 36 ∷ 37 ∷ 38 ∷ 39 ∷ 40 ∷ 41 ∷ 45 ∷ 47 ∷ 49 ∷ 50 ∷ 54 ∷ 55 ∷ []) ∷ [])
    ∷ ((103, 3 ∷ 28 ∷ 43 ∷ 44 ∷ 48 ∷ 51 ∷ 52 ∷ 53 ∷ 56 ∷ 58 ∷ []) ∷ (104, 13 ∷ []) ∷ [])
    ∷ ((107, 3 ∷ 28 ∷ 43 ∷ 44 ∷ 48 ∷ 51 ∷ 52 ∷ 53 ∷ 56 ∷ 58 ∷ []) ∷ (108, 1 ∷ 36 ∷ 37 ∷ 38 ∷ 39 ∷ 40 ∷ 41 ∷ 45 ∷ 47 ∷ 49 ∷ 50 ∷ 54 ∷ 55 ∷ []) ∷ [])
    ∷ ((110, 36 ∷ []) ∷ (112, 37 ∷ []) ∷ (115, 38 ∷ []) ∷ (122, 39 ∷ []) ∷ (129, 40 ∷ []) ∷ (136, 1 ∷ []) ∷ (139, 41 ∷ []) ∷ (148, 45 ∷ []) ∷ (157, 47 ∷ []) ∷ (163, 49 ∷ []) ∷ (165, 50 ∷ []) ∷ (178, 54 ∷ []) ∷ (180, 55 ∷ []) ∷ [])
    ∷ ((189, 9 ∷ []) ∷ (192, 15 ∷ []) ∷ [])
    ∷ ((198, 16 ∷ []) ∷ (199, 1 ∷ 2 ∷ 6 ∷ 15 ∷ 33 ∷ 34 ∷ 35 ∷ []) ∷ [])
    ∷ ((202, 16 ∷ []) ∷ (203, 14 ∷ []) ∷ [])
    ∷ ((207, 44 ∷ []) ∷ (208, 43 ∷ []) ∷ [])
    ∷ ((211, 52 ∷ []) ∷ (212, 51 ∷ []) ∷ [])
    ∷ ((218, 56 ∷ []) ∷ (219, 3 ∷ []) ∷ [])
    ∷ ((223, 1 ∷ []) ∷ [])
    ∷ ((226, 3 ∷ 4 ∷ 5 ∷ 7 ∷ 10 ∷ 13 ∷ 14 ∷ 16 ∷ 19 ∷ 20 ∷ 21 ∷ 22 ∷ 23 ∷ 24 ∷ 25 ∷ 26 ∷ 28 ∷ 42 ∷ 43 ∷ 44 ∷ 46 ∷ 48 ∷ 51 ∷ 52 ∷ 53 ∷ 56 ∷ 58 ∷ []) ∷ (227, 17 ∷ []) ∷ [])
    ∷ ((231, 1 ∷ 2 ∷ 6 ∷ 15 ∷ 33 ∷ 34 ∷ 35 ∷ []) ∷ [])
    ∷ ((234, 1 ∷ 2 ∷ 6 ∷ 15 ∷ 33 ∷ 34 ∷ 35 ∷ []) ∷ [])
    ∷ ((237, 1 ∷ 2 ∷ 6 ∷ 15 ∷ 33 ∷ 34 ∷ 35 ∷ []) ∷ [])
    ∷ ((240, 6 ∷ []) ∷ (245, 1 ∷ 2 ∷ 15 ∷ 33 ∷ 34 ∷ 35 ∷ []) ∷ [])
    ∷ ((247, 1 ∷ 2 ∷ 15 ∷ 33 ∷ 34 ∷ 35 ∷ []) ∷ [])
    ∷ ((250, 1 ∷ 2 ∷ 15 ∷ 33 ∷ 34 ∷ 35 ∷ []) ∷ [])
    ∷ ((253, 1 ∷ []) ∷ (256, 2 ∷ []) ∷ (258, 33 ∷ []) ∷ (260, 34 ∷ []) ∷ (262, 35 ∷ []) ∷ (269, 15 ∷ []) ∷ [])
    ∷ ((275, 3 ∷ 10 ∷ 13 ∷ 14 ∷ 16 ∷ 28 ∷ 42 ∷ 43 ∷ 44 ∷ 46 ∷ 48 ∷ 51 ∷ 52 ∷ 53 ∷ 56 ∷ 58 ∷ []) ∷ (276, 21 ∷ []) ∷ [])
    ∷ ((280, 3 ∷ 10 ∷ 13 ∷ 14 ∷ 16 ∷ 21 ∷ 28 ∷ 42 ∷ 43 ∷ 44 ∷ 46 ∷ 48 ∷ 51 ∷ 52 ∷ 53 ∷ 56 ∷ 58 ∷ []) ∷ (281, 4 ∷ []) ∷ [])
    ∷ ((285, 3 ∷ 4 ∷ 10 ∷ 13 ∷ 14 ∷ 16 ∷ 21 ∷ 28 ∷ 42 ∷ 43 ∷ 44 ∷ 46 ∷ 48 ∷ 51 ∷ 52 ∷ 53 ∷ 56 ∷ 58 ∷ []) ∷ (286, 7 ∷ []) ∷ (290, 5 ∷ []) ∷ (294, 19 ∷ []) ∷ (298, 20 ∷ []) ∷ [])
    ∷ ((302, 3 ∷ 4 ∷ 5 ∷ 7 ∷ 10 ∷ 13 ∷ 14 ∷ 16 ∷ 19 ∷ 20 ∷ 21 ∷ 28 ∷ 42 ∷ 43 ∷ 44 ∷ 46 ∷ 48 ∷ 51 ∷ 52 ∷ 53 ∷ 56 ∷ 58 ∷ []) ∷ (303, 22 ∷ []) ∷ (307, 23 ∷ []) ∷ [])
    ∷ ((311, 3 ∷ 4 ∷ 5 ∷ 7 ∷ 10 ∷ 13 ∷ 14 ∷ 16 ∷ 19 ∷ 20 ∷ 21 ∷ 22 ∷ 23 ∷ 28 ∷ 42 ∷ 43 ∷ 44 ∷ 46 ∷ 48 ∷ 51 ∷ 52 ∷ 53 ∷ 56 ∷ 58 ∷ []) ∷ (312, 24 ∷ []) ∷ (316, 25 ∷ []) ∷ (320, 26 ∷ []) ∷ [])
    ∷ []

-- how many calls deep a part goes before a level opens
unfoldable pub depth : Part → ℕ
depth Program = 9
depth Declarations = 8
depth Procedure = 7
depth Formals = 0
depth FormalNames = 0
depth MoreFormals = 0
depth AfterProcedure = 0
depth Declaration = 1
depth Inputs = 1
depth MoreInputs = 1
depth Ending = 0
depth Booleans = 1
depth MoreBooleans = 1
depth BooleanStart = 0
depth BooleanValue = 0
depth Integers = 1
depth MoreIntegers = 1
depth IntegerStart = 0
depth Statements = 6
depth AfterStatement = 6
depth NextStatement = 6
depth Statement = 5
depth AfterName = 5
depth Actuals = 6
depth MoreActuals = 6
depth Else = 6
depth Cases = 7
depth Branches = 7
depth Target = 0
depth Index = 0
depth (Tier n) = get_or (5 ∷ 4 ∷ 3 ∷ 2 ∷ 2 ∷ 1 ∷ []) n 0
depth (Further n) = get_or (5 ∷ 4 ∷ 3 ∷ 0 ∷ 2 ∷ 1 ∷ []) n 0

-- how many turns a part takes at most before a word is read
unfoldable pub turn : Part → ℕ
turn Program = 0
turn Declarations = 1
turn Procedure = 0
turn Formals = 1
turn FormalNames = 0
turn MoreFormals = 0
turn AfterProcedure = 0
turn Declaration = 0
turn Inputs = 0
turn MoreInputs = 0
turn Ending = 0
turn Booleans = 0
turn MoreBooleans = 0
turn BooleanStart = 0
turn BooleanValue = 0
turn Integers = 0
turn MoreIntegers = 0
turn IntegerStart = 0
turn Statements = 2
turn AfterStatement = 0
turn NextStatement = 3
turn Statement = 1
turn AfterName = 1
turn Actuals = 2
turn MoreActuals = 0
turn Else = 0
turn Cases = 0
turn Branches = 0
turn Target = 0
turn Index = 0
turn (Tier n) = get_or (2 ∷ 2 ∷ 2 ∷ 3 ∷ 2 ∷ 2 ∷ []) n 1
turn (Further n) = get_or (0 ∷ 0 ∷ 0 ∷ 0 ∷ 0 ∷ 0 ∷ []) n 0
