-- Statements and answers under other names of the list's symbols: the names that they bind and read, their rows and their words. Assumes nothing.
use Prim.Native.Nat.{ℕ, suc, ◌+◌}
use mathlib.Core.Path.{◌≡◌, refl, sym, ◌∙◌, ap, ap₂}
use mathlib.Core.List.{List, [], ◌∷◌, ◌++◌, map}
use lib.ListN.{length-map}
use lib.Dec.{T}
use Rattle.spec_tree.specs.Tree.{Name, Tree, Forest, Sym, Const, Op, nil, ◌◂◌, folds}
use Rattle.spec_tree.specs.Tokens.{word}
use Rattle.spec_tree.proofs.Logic.{and_left, and_right}
use Rattle.spec_tree.proofs.TokenLaws.{map_append}
use Rattle.spec_tree.proofs.TokenCode.{renamed as RenamedBy}
use Rattle.spec_rewrite.proofs.Names.{holds, holds_each}
use Rattle.spec_cse.specs.Answer.{Intermediate, Intermediates, Arms, Answer, Let, Match, end, step, no_arm, arm, block, names, concat, symbols, all_symbols, free, free_stmts, free_arms, value_rows, stmt_rows, stmts_rows, arms_rows, rows}
use Rattle.spec_cse.specs.Read.{arm_count}
use Rattle.spec_cse.specs.AnswerRows.{let_row, match_row, name_row, arm_row, step_count, names_words, each_words, intermediate_words, intermediates_words, arms_words, answer_words, value_row, result_row}
use Rattle.laws.proofs.positions.Renaming.{Renaming, named, renamed, renamed_each, is_known, Known, KnownEach, KnownAll, first_known, rest_known, size_renamed}
use Rattle.laws.proofs.positions.Extraction.{Every, every_append}
use Rattle.laws.proofs.positions.Reading.{code_renamed, tokens_renamed}

module _ (R : Renaming) where
  -- ---- statements

  unfoldable mutual
    pub renamed_stmt : Intermediate → Intermediate
    renamed_stmt (Let n e) = Let (named R n) (renamed R e)
    renamed_stmt (Match k key ns arms) = Match k (renamed R key) (map (named R) ns) (renamed_arms arms)

    pub renamed_stmts : Intermediates → Intermediates
    renamed_stmts end = end
    renamed_stmts (step s l) = step (renamed_stmt s) (renamed_stmts l)

    pub renamed_arms : Arms → Arms
    renamed_arms no_arm = no_arm
    renamed_arms (arm s vs l) = arm (renamed_stmts s) (map (renamed R) vs) (renamed_arms l)

  abbrev pub KnownNames : List Name → Type 0
  KnownNames = Every (λ n. T (is_known R n))

  unfoldable mutual
    pub KnownStmt : Intermediate → Type 0
    KnownStmt (Let n e) = T (is_known R n) × Known R e
    KnownStmt (Match k key ns arms) = Known R key × KnownNames ns × KnownArms arms

    pub KnownStmts : Intermediates → Type 0
    KnownStmts end = Unit {0}
    KnownStmts (step s l) = KnownStmt s × KnownStmts l

    pub KnownArms : Arms → Type 0
    KnownArms no_arm = Unit {0}
    KnownArms (arm s vs l) = KnownStmts s × KnownAll R vs × KnownArms l

  abbrev pub renamed_answer : Answer → Answer
  renamed_answer a = record { inters = renamed_stmts a.inters; results = map (renamed R) a.results; extracted = a.extracted }

  abbrev pub KnownAnswer : Answer → Type 0
  KnownAnswer a = KnownStmts a.inters × KnownAll R a.results

  pub block_renamed : (l : List Intermediate) → block (map renamed_stmt l) ≡ renamed_stmts (block l)
  unfolding block renamed_stmts
  block_renamed [] = refl
  block_renamed (s ∷ l) = ap (step (renamed_stmt s)) (block_renamed l)

  pub block_known : (l : List Intermediate) → Every KnownStmt l → KnownStmts (block l)
  unfolding block KnownStmts
  block_known [] h = tt
  block_known (s ∷ l) h = (h.0, block_known l h.1)

  -- ---- the names that statements bind and read

  pub names_renamed : (s : Intermediate) → names (renamed_stmt s) ≡ map (named R) (names s)
  unfolding names renamed_stmt
  names_renamed (Let n e) = refl
  names_renamed (Match k key ns arms) = refl

  pub names_known : (s : Intermediate) → KnownStmt s → KnownNames (names s)
  unfolding names KnownStmt
  names_known (Let n e) h = (h.0, tt)
  names_known (Match k key ns arms) h = h.1

  mutual
    unfolding symbols RenamedBy

    pub symbols_renamed : (t : Tree) → symbols (renamed R t) ≡ map (named R) (symbols t)
    symbols_renamed (Sym n) = refl
    symbols_renamed (Const c) = refl
    symbols_renamed (Op k f) = symbols_each_renamed f

    symbols_each_renamed :
        (f : Forest)
        → concat (folds (λ n. n ∷ []) (λ c. []) (λ k l. concat l) (renamed_each R f)) ≡ map (named R) (concat (folds (λ n. n ∷ []) (λ c. []) (λ k l. concat l) f))
    symbols_each_renamed nil = refl
    symbols_each_renamed (t ◂ f) =
        ap₂ ◌++◌ (symbols_renamed t) (symbols_each_renamed f)
        ∙ sym (map_append (named R) (symbols t) (concat (folds (λ n. n ∷ []) (λ c. []) (λ k l. concat l) f)))

  mutual
    unfolding symbols holds

    pub symbols_known : (t : Tree) → Known R t → KnownNames (symbols t)
    symbols_known (Sym n) h = (h, tt)
    symbols_known (Const c) h = tt
    symbols_known (Op k f) h = symbols_each_known f h

    symbols_each_known : (f : Forest) → KnownEach R f → KnownNames (concat (folds (λ n. n ∷ []) (λ c. []) (λ k l. concat l) f))
    symbols_each_known nil h = tt
    symbols_each_known (t ◂ f) h =
        every_append (λ n. T (is_known R n)) (symbols t) (concat (folds (λ n. n ∷ []) (λ c. []) (λ k l. concat l) f))
        (symbols_known t (and_left (holds (is_known R) t) (holds_each (is_known R) f) h))
        (symbols_each_known f (and_right (holds (is_known R) t) (holds_each (is_known R) f) h))

  all_symbols_renamed : (l : List Tree) → all_symbols (map (renamed R) l) ≡ map (named R) (all_symbols l)
  unfolding all_symbols
  all_symbols_renamed [] = refl
  all_symbols_renamed (t ∷ l) = ap₂ ◌++◌ (symbols_renamed t) (all_symbols_renamed l) ∙ sym (map_append (named R) (symbols t) (all_symbols l))

  all_symbols_known : (l : List Tree) → KnownAll R l → KnownNames (all_symbols l)
  unfolding all_symbols
  all_symbols_known [] h = tt
  all_symbols_known (t ∷ l) h =
      every_append (λ n. T (is_known R n)) (symbols t) (all_symbols l) (symbols_known t (first_known R t l h)) (all_symbols_known l (rest_known R t l h))

  mutual
    unfolding free renamed_stmt

    pub free_renamed : (s : Intermediate) → free (renamed_stmt s) ≡ map (named R) (free s)
    free_renamed (Let n e) = symbols_renamed e
    free_renamed (Match k key ns arms) = ap₂ ◌++◌ (symbols_renamed key) (free_arms_renamed arms) ∙ sym (map_append (named R) (symbols key) (free_arms arms))

    free_stmts_renamed : (l : Intermediates) → free_stmts (renamed_stmts l) ≡ map (named R) (free_stmts l)
    free_stmts_renamed end = refl
    free_stmts_renamed (step s l) = ap₂ ◌++◌ (free_renamed s) (free_stmts_renamed l) ∙ sym (map_append (named R) (free s) (free_stmts l))

    free_arms_renamed : (l : Arms) → free_arms (renamed_arms l) ≡ map (named R) (free_arms l)
    free_arms_renamed no_arm = refl
    free_arms_renamed (arm s vs l) =
        ap₂ ◌++◌ (free_stmts_renamed s) (ap₂ ◌++◌ (all_symbols_renamed vs) (free_arms_renamed l) ∙ sym (map_append (named R) (all_symbols vs) (free_arms l)))
        ∙ sym (map_append (named R) (free_stmts s) (all_symbols vs ++ free_arms l))

  mutual
    unfolding free KnownStmt

    pub free_known : (s : Intermediate) → KnownStmt s → KnownNames (free s)
    free_known (Let n e) h = symbols_known e h.1
    free_known (Match k key ns arms) h = every_append (λ n. T (is_known R n)) (symbols key) (free_arms arms) (symbols_known key h.0) (free_arms_known arms h.2)

    free_stmts_known : (l : Intermediates) → KnownStmts l → KnownNames (free_stmts l)
    free_stmts_known end h = tt
    free_stmts_known (step s l) h = every_append (λ n. T (is_known R n)) (free s) (free_stmts l) (free_known s h.0) (free_stmts_known l h.1)

    free_arms_known : (l : Arms) → KnownArms l → KnownNames (free_arms l)
    free_arms_known no_arm h = tt
    free_arms_known (arm s vs l) h =
        every_append (λ n. T (is_known R n)) (free_stmts s) (all_symbols vs ++ free_arms l) (free_stmts_known s h.0)
        (every_append (λ n. T (is_known R n)) (all_symbols vs) (free_arms l) (all_symbols_known vs h.1) (free_arms_known l h.2))

  -- ---- rows

  value_rows_renamed : (l : List Tree) → value_rows (map (renamed R) l) ≡ value_rows l
  unfolding value_rows
  value_rows_renamed [] = refl
  value_rows_renamed (t ∷ l) = ap₂ (λ (a b : ℕ). suc a + b) (size_renamed R t) (value_rows_renamed l)

  mutual
    unfolding stmt_rows renamed_stmt

    stmt_rows_renamed : (s : Intermediate) → stmt_rows (renamed_stmt s) ≡ stmt_rows s
    stmt_rows_renamed (Let n e) = ap suc (size_renamed R e)
    stmt_rows_renamed (Match k key ns arms) =
        ap₂ (λ (a b : ℕ). suc a + b) (ap₂ ◌+◌ (size_renamed R key) (length-map ns (named R))) (arms_rows_renamed arms)

    stmts_rows_renamed : (l : Intermediates) → stmts_rows (renamed_stmts l) ≡ stmts_rows l
    stmts_rows_renamed end = refl
    stmts_rows_renamed (step s l) = ap₂ ◌+◌ (stmt_rows_renamed s) (stmts_rows_renamed l)

    arms_rows_renamed : (l : Arms) → arms_rows (renamed_arms l) ≡ arms_rows l
    arms_rows_renamed no_arm = refl
    arms_rows_renamed (arm s vs l) = ap₂ (λ (a b : ℕ). suc a + b) (ap₂ ◌+◌ (stmts_rows_renamed s) (value_rows_renamed vs)) (arms_rows_renamed l)

  pub rows_renamed : (a : Answer) → rows (renamed_answer a) ≡ rows a
  unfolding rows
  rows_renamed a = ap₂ ◌+◌ (stmts_rows_renamed a.inters) (value_rows_renamed a.results)

  -- ---- words

  mutual
    unfolding renamed_stmt step_count arm_count

    step_count_renamed : (l : Intermediates) → step_count (renamed_stmts l) ≡ step_count l
    step_count_renamed end = refl
    step_count_renamed (step s l) = ap suc (step_count_renamed l)

    arm_count_renamed : (l : Arms) → arm_count (renamed_arms l) ≡ arm_count l
    arm_count_renamed no_arm = refl
    arm_count_renamed (arm s vs l) = ap suc (arm_count_renamed l)

  module _ (back : List ℕ → ℕ) (comes_back : (s : List ℕ) → T (R.known s) → back (R.name_at (R.number s)) ≡ R.number s) where
    names_words_renamed : (l : List Name) → KnownNames l → names_words back (map (named R) l) ≡ names_words R.number l
    unfolding names_words
    names_words_renamed [] h = refl
    names_words_renamed (n ∷ l) h = ap₂ (λ (c : ℕ) (r : List ℕ). word name_row c ∷ r) (code_renamed R back comes_back n h.0) (names_words_renamed l h.1)

    each_words_renamed : (row : ℕ) (l : List Tree) → KnownAll R l → each_words back row (map (renamed R) l) ≡ each_words R.number row l
    unfolding each_words
    each_words_renamed row [] h = refl
    each_words_renamed row (t ∷ l) h =
        ap₂ (λ (a b : List ℕ). word row 0 ∷ (a ++ b)) (tokens_renamed R back comes_back t (first_known R t l h)) (each_words_renamed row l (rest_known R t l h))

    mutual
      unfolding intermediate_words renamed_stmt KnownStmt

      stmt_words_renamed : (s : Intermediate) → KnownStmt s → intermediate_words back (renamed_stmt s) ≡ intermediate_words R.number s
      stmt_words_renamed (Let n e) h = ap₂ (λ (c : ℕ) (l : List ℕ). word let_row c ∷ l) (code_renamed R back comes_back n h.0) (tokens_renamed R back comes_back e h.1)
      stmt_words_renamed (Match k key ns arms) h =
          ap₂ (λ (c : ℕ) (l : List ℕ). word (match_row k) (suc c) ∷ l) (ap₂ ◌+◌ (length-map ns (named R)) (arm_count_renamed arms))
          (ap₂ ◌++◌ (tokens_renamed R back comes_back key h.0) (ap₂ ◌++◌ (names_words_renamed ns h.1) (arms_words_renamed arms h.2)))

      stmts_words_renamed : (l : Intermediates) → KnownStmts l → intermediates_words back (renamed_stmts l) ≡ intermediates_words R.number l
      stmts_words_renamed end h = refl
      stmts_words_renamed (step s l) h = ap₂ ◌++◌ (stmt_words_renamed s h.0) (stmts_words_renamed l h.1)

      arms_words_renamed : (l : Arms) → KnownArms l → arms_words back (renamed_arms l) ≡ arms_words R.number l
      arms_words_renamed no_arm h = refl
      arms_words_renamed (arm s vs l) h =
          ap₂ (λ (c : ℕ) (r : List ℕ). word arm_row c ∷ r) (ap₂ ◌+◌ (step_count_renamed s) (length-map vs (renamed R)))
          (ap₂ ◌++◌ (stmts_words_renamed s h.0) (ap₂ ◌++◌ (each_words_renamed value_row vs h.1) (arms_words_renamed l h.2)))

    pub answer_words_renamed : (a : Answer) → KnownAnswer a → answer_words back (renamed_answer a) ≡ answer_words R.number a
    unfolding answer_words
    answer_words_renamed a h = ap₂ ◌++◌ (stmts_words_renamed a.inters h.0) (each_words_renamed result_row a.results h.1)
