-- Answers: statements in order and results, their names, rows and text (01, "Sheet and printing", "Turned down", refusal 12). Assumes nothing.
use Rattle.std.specs.Prelude.{ℕ, suc, ◌+◌, Bool, true, false, List, [], ◌∷◌, ◌++◌, length, eqb, ltb}
use Rattle.spec_tree.specs.Tree.{Name, Tree, fold, eq_name}
use Rattle.spec_tree.specs.Kinds.{Branch, Select}
use Rattle.spec_tree.specs.Facts.{size}
use Rattle.spec_tree.specs.Bytes.{bytes, decimal, joined}
use Rattle.spec_tree.specs.text.Text.{name_text, display}

-- A match has the kind of its switches, their key, its names, and its arms, of which the last is the default under Branch and SelectOr.
mutual
  pub data Intermediate : Type 0 where
    Let : Name → Tree → Intermediate
    Match : ℕ → Tree → List Name → Arms → Intermediate

  pub data Intermediates : Type 0 where
    end : Intermediates
    step : Intermediate → Intermediates → Intermediates

  -- an arm's statements, then one value for each name of the match
  pub data Arms : Type 0 where
    no_arm : Arms
    arm : Intermediates → List Tree → Arms → Arms

abbrev pub Answer : Type 0
Answer = record { inters : Intermediates; results : List Tree; extracted : ℕ }

unfoldable pub block : List Intermediate → Intermediates
block [] = end
block (s ∷ l) = step s (block l)

-- ---- names (01, "Value, for demand 3")

-- the names that a statement binds for what follows it
unfoldable pub names : Intermediate → List Name
names (Let n e) = n ∷ []
names (Match k key ns arms) = ns

unfoldable pub concat : List (List Name) → List Name
concat [] = []
concat (s ∷ l) = s ++ concat l

-- the symbols of a tree
unfoldable pub symbols : Tree → List Name
unfolding fold concat
symbols = fold (λ n. n ∷ []) (λ c. []) (λ k l. concat l)

unfoldable pub all_symbols : List Tree → List Name
unfolding symbols
all_symbols [] = []
all_symbols (t ∷ l) = symbols t ++ all_symbols l

-- every symbol that a statement reads, nested arms included: `free_vars`
unfoldable mutual
  unfolding symbols all_symbols

  pub free : Intermediate → List Name
  free (Let n e) = symbols e
  free (Match k key ns arms) = symbols key ++ free_arms arms

  pub free_stmts : Intermediates → List Name
  free_stmts end = []
  free_stmts (step s l) = free s ++ free_stmts l

  pub free_arms : Arms → List Name
  free_arms no_arm = []
  free_arms (arm s vs l) = free_stmts s ++ (all_symbols vs ++ free_arms l)

unfoldable pub elem : Name → List Name → Bool
unfolding eq_name
elem n [] = false
elem n (s ∷ l) = elim (eq_name s n) [ true ↦ true | false ↦ elem n l ]

-- ---- rows (01, "Turned down", refusal 12)

unfoldable pub value_rows : List Tree → ℕ
unfolding size
value_rows [] = 0
value_rows (t ∷ l) = suc (size t) + value_rows l

unfoldable mutual
  unfolding size value_rows

  pub stmt_rows : Intermediate → ℕ
  stmt_rows (Let n e) = suc (size e)
  stmt_rows (Match k key ns arms) = suc (size key + length ns) + arms_rows arms

  pub stmts_rows : Intermediates → ℕ
  stmts_rows end = 0
  stmts_rows (step s l) = stmt_rows s + stmts_rows l

  pub arms_rows : Arms → ℕ
  arms_rows no_arm = 0
  arms_rows (arm s vs l) = suc (stmts_rows s + value_rows vs) + arms_rows l

unfoldable pub rows : Answer → ℕ
unfolding stmts_rows value_rows
rows a = stmts_rows a.inters + value_rows a.results

-- ---- text, `Display` for `Intermediate` (01, "Sheet and printing")

unfoldable pub names_texts : List Name → List (List ℕ)
unfolding name_text
names_texts [] = []
names_texts (n ∷ l) = name_text n ∷ names_texts l

unfoldable pub displays : List Tree → List (List ℕ)
unfolding display
displays [] = []
displays (t ∷ l) = display t ∷ displays l

-- one alone, and several in brackets
unfoldable pub tuple : List (List ℕ) → List ℕ
unfolding joined
tuple [] = bytes "()"
tuple (s ∷ []) = s
tuple (s ∷ (t ∷ l)) = bytes "(" ++ joined (bytes ", ") (s ∷ (t ∷ l)) ++ bytes ")"

-- an arm's text from those of its statements and its values: in braces where it has statements, or bare as an `if` side has it
unfoldable pub arm_text : Bool → List (List ℕ) → List ℕ → List ℕ
unfolding joined
arm_text bare [] v = v
arm_text true (s ∷ l) v = joined (bytes " ") (s ∷ l) ++ bytes " " ++ v
arm_text false (s ∷ l) v = bytes "{ " ++ joined (bytes " ") (s ∷ l) ++ bytes " " ++ v ++ bytes " }"

unfoldable pub match_arms : ℕ → Bool → List (List ℕ) → List ℕ
unfolding decimal
match_arms i or_default [] = bytes " _ => panic };"
match_arms i false (s ∷ l) = bytes " " ++ decimal i ++ bytes " => " ++ s ++ bytes "," ++ match_arms (suc i) false l
match_arms i true (s ∷ []) = bytes " _ => " ++ s ++ bytes " };"
match_arms i true (s ∷ (t ∷ l)) = bytes " " ++ decimal i ++ bytes " => " ++ s ++ bytes "," ++ match_arms (suc i) true (t ∷ l)

unfoldable pub if_sides : List (List ℕ) → List ℕ
if_sides [] = []
if_sides (s ∷ []) = []
if_sides (s ∷ (t ∷ l)) = bytes " >= 0 { " ++ s ++ bytes " } else { " ++ t ++ bytes " };"

unfoldable mutual
  unfolding name_text display displays names_texts tuple arm_text match_arms if_sides

  pub stmt_text : Intermediate → List ℕ
  stmt_text (Let n e) = bytes "let " ++ name_text n ++ bytes " = " ++ display e ++ bytes ";"
  stmt_text (Match k key ns arms) =
      elim (eqb k Branch) [
        | true ↦ bytes "let " ++ tuple (names_texts ns) ++ bytes " = if " ++ display key ++ if_sides (arms_texts arms true)
        | false ↦ bytes "let " ++ tuple (names_texts ns) ++ bytes " = match " ++ display key ++ bytes " {" ++ match_arms 0 (ltb Select k) (arms_texts arms false)
      ]

  pub stmts_texts : Intermediates → List (List ℕ)
  stmts_texts end = []
  stmts_texts (step s l) = stmt_text s ∷ stmts_texts l

  pub arms_texts : Arms → Bool → List (List ℕ)
  arms_texts no_arm bare = []
  arms_texts (arm s vs l) bare = arm_text bare (stmts_texts s) (tuple (displays vs)) ∷ arms_texts l bare

unfoldable pub lines : List (List ℕ) → List ℕ
lines [] = []
lines (s ∷ l) = s ++ (10 ∷ lines l)

-- each binding and then each result, with a line feed after each
unfoldable pub answer_text : Answer → List ℕ
unfolding lines stmt_text displays
answer_text a = lines (stmts_texts a.inters ++ displays a.results)
