-- The text of tuples, arms and matches is its pieces one after another (Pieces). Assumes nothing.
use Prim.Native.Nat.{ℕ, suc, ◌+◌, ◌≤◌}
use native.Mathlib.Omega.{arith}
use mathlib.Core.Path.{◌≡◌, refl, sym, ap, ◌∙◌}
use mathlib.Core.Bool.{Bool, true, false, cond}
use mathlib.Core.List.{List, [], ◌∷◌, ◌++◌, append_assoc}
use borrow.Author.Tests.{eq-eqb, ne_eqb}
use lib.ListN.{length}
use lib.Dec.{eqb}
use Rattle.spec_tree.specs.Bytes.{bytes, decimal, joined}
use Rattle.spec_tree.specs.Tree.{Name, Tree}
use Rattle.spec_tree.specs.text.Text.{name_text, display}
use Rattle.spec_cse.specs.Answer.{Intermediate, Intermediates, Arms, Let, Match, end, step, no_arm, arm, names_texts, displays, tuple, arm_text, match_arms, if_sides, stmt_text, stmts_texts, arms_texts}
use Rattle.spec_cse.specs.Read.{arm_count}
use Rattle.spec_cse.specs.AnswerRows.{step_count}
use Rattle.print.specs.told.Pieces.{tuple_opening, comma, tuple_closing, tuple_parts, brace_opening, brace_closing, spaced, side_opening, side_closing, arm_opening, arm_closing, arms_closing, arms_run, let_text, equals, arms_opening, head_text}

append_nil : (l : List ℕ) → l ++ [] ≡ l
append_nil [] = refl
append_nil (w ∷ l) = ap (λ (r : List ℕ). w ∷ r) (append_nil l)

-- texts are put together from the left
three : (a b c d : List ℕ) → a ++ b ++ c ++ d ≡ a ++ (b ++ (c ++ d))
three a b c d = append_assoc (a ++ b) c d ∙ append_assoc a b (c ++ d)

-- ---- tuples

later_parts : (i : ℕ) (t : List ℕ) (l : List (List ℕ)) (after : List ℕ) → tuple_parts (suc i) (t ∷ l) after ≡ bytes ", " ++ (joined (bytes ", ") (t ∷ l) ++ after)
unfolding tuple_parts comma joined
later_parts i t [] after = refl
later_parts i t (u ∷ l) after =
    ap (λ (r : List ℕ). bytes ", " ++ (t ++ r)) (later_parts (suc i) u l after)
    ∙ ap (λ (r : List ℕ). bytes ", " ++ r) (sym (three t (bytes ", ") (joined (bytes ", ") (u ∷ l)) after))

pub tuple_is : (l : List (List ℕ)) → tuple l ≡ tuple_opening (length l) ++ tuple_parts 0 l (tuple_closing (length l))
unfolding tuple tuple_opening tuple_closing tuple_parts comma joined
tuple_is [] = refl
tuple_is (s ∷ []) = sym (append_nil s)
tuple_is (s ∷ (t ∷ l)) =
    ap (λ (r : List ℕ). bytes "(" ++ r) (three s (bytes ", ") (joined (bytes ", ") (t ∷ l)) (bytes ")") ∙ ap (λ (r : List ℕ). s ++ r) (sym (later_parts 0 t l (bytes ")"))))

-- ---- arms

spaced_joined : (s : List ℕ) (l : List (List ℕ)) (after : List ℕ) → joined (bytes " ") (s ∷ l) ++ (bytes " " ++ after) ≡ spaced (s ∷ l) after
unfolding spaced joined
spaced_joined s [] after = refl
spaced_joined s (u ∷ l) after =
    three s (bytes " ") (joined (bytes " ") (u ∷ l)) (bytes " " ++ after) ∙ ap (λ (r : List ℕ). s ++ (32 ∷ r)) (spaced_joined u l after)

pub arm_is : (bare : Bool) (l : List (List ℕ)) (v : List ℕ) → arm_text bare l v ≡ brace_opening bare (length l) ++ spaced l (v ++ brace_closing bare (length l))
unfolding arm_text brace_opening brace_closing
arm_is true [] v = unfold spaced in sym (append_nil v)
arm_is false [] v = unfold spaced in sym (append_nil v)
arm_is true (s ∷ l) v = append_assoc (joined (bytes " ") (s ∷ l)) (bytes " ") v ∙ (spaced_joined s l v ∙ ap (spaced (s ∷ l)) (sym (append_nil v)))
arm_is false (s ∷ l) v = ap (λ (r : List ℕ). bytes "{ " ++ r) (three (joined (bytes " ") (s ∷ l)) (bytes " ") v (bytes " }") ∙ spaced_joined s l (v ++ bytes " }"))

-- ---- the arms of a match

pub two_sides : (d : Bool) (m : ℕ) (s t : List ℕ) → if_sides (s ∷ (t ∷ [])) ≡ arms_run true d m 0 (s ∷ (t ∷ []))
unfolding if_sides arms_run side_opening side_closing arm_opening arm_closing arms_closing
two_sides d m s t = ap (λ (r : List ℕ). bytes " >= 0 { " ++ r) (three s (bytes " } else { ") t (bytes " };"))

numbered_arm : (i : ℕ) (s r : List ℕ) → bytes " " ++ decimal i ++ bytes " => " ++ s ++ bytes "," ++ r ≡ (bytes " " ++ (decimal i ++ bytes " => ")) ++ (s ++ (bytes "," ++ r))
numbered_arm i s r = ap (λ (x : List ℕ). 32 ∷ x) (three (decimal i ++ bytes " => ") s (bytes ",") r)

pub no_default : (m i : ℕ) (l : List (List ℕ)) → match_arms i false l ≡ arms_run false false m i l
unfolding match_arms arms_run arm_opening arm_closing arms_closing
no_default m i [] = refl
no_default m i (s ∷ l) =
    numbered_arm i s (match_arms (suc i) false l) ∙ ap (λ (r : List ℕ). (bytes " " ++ (decimal i ++ bytes " => ")) ++ (s ++ (bytes "," ++ r))) (no_default m (suc i) l)

-- one that is not the last
next_arm : (b : Bool) (i : ℕ) (s r : List ℕ) → b ≡ false
    → bytes " " ++ decimal i ++ bytes " => " ++ s ++ bytes "," ++ r ≡ cond b (bytes " _ => ") (bytes " " ++ (decimal i ++ bytes " => ")) ++ (s ++ (cond b (bytes " };") (bytes ",") ++ r))
next_arm b i s r e = rw e (numbered_arm i s r)

last_arm : (b : Bool) (i : ℕ) (s : List ℕ) → b ≡ true
    → bytes " _ => " ++ s ++ bytes " };" ≡ cond b (bytes " _ => ") (bytes " " ++ (decimal i ++ bytes " => ")) ++ (s ++ (cond b (bytes " };") (bytes ",") ++ []))
last_arm b i s e = rw e refl

pub with_default : (m i : ℕ) (s : List ℕ) (l : List (List ℕ)) → i + length (s ∷ l) ≡ m → match_arms i true (s ∷ l) ≡ arms_run false true m i (s ∷ l)
unfolding match_arms arms_run arm_opening arm_closing arms_closing
with_default m i s [] h = last_arm (eqb (suc i) m) i s (eq-eqb (suc i) m (omega arith))
with_default m i s (t ∷ l) h =
    next_arm (eqb (suc i) m) i s (match_arms (suc i) true (t ∷ l)) (ne_eqb (suc i) m (λ e. omega arith))
    ∙ ap (λ (r : List ℕ). arm_opening false true m i ++ (s ++ (arm_closing false true m i ++ r))) (with_default m (suc i) t l (omega arith))

-- ---- a match

pub stmts_cons : (s : Intermediate) (l : Intermediates) → stmts_texts (step s l) ≡ stmt_text s ∷ stmts_texts l
unfolding stmts_texts
stmts_cons s l = refl

pub stmts_none : stmts_texts end ≡ []
unfolding stmts_texts
stmts_none = refl

pub arms_cons : (s : Intermediates) (vs : List Tree) (l : Arms) (bare : Bool) → arms_texts (arm s vs l) bare ≡ arm_text bare (stmts_texts s) (tuple (displays vs)) ∷ arms_texts l bare
unfolding arms_texts
arms_cons s vs l bare = refl

pub arms_none : (bare : Bool) → arms_texts no_arm bare ≡ []
unfolding arms_texts
arms_none bare = refl

pub stmts_counted : (l : Intermediates) → length (stmts_texts l) ≡ step_count l
unfolding step_count
stmts_counted end = ap length stmts_none
stmts_counted (step s l) = ap length (stmts_cons s l) ∙ ap suc (stmts_counted l)

pub arms_counted : (l : Arms) (bare : Bool) → length (arms_texts l bare) ≡ arm_count l
unfolding arm_count
arms_counted no_arm bare = ap length (arms_none bare)
arms_counted (arm s vs l) bare = ap length (arms_cons s vs l bare) ∙ ap suc (arms_counted l bare)

module _ (key : Tree) (ns : List Name) (arms : Arms) where
  abbrev names : List ℕ
  names = tuple (names_texts ns)

  four : (r : List ℕ) → names ++ bytes " = match " ++ display key ++ bytes " {" ++ r ≡ names ++ (bytes " = match " ++ (display key ++ (bytes " {" ++ r)))
  four r = append_assoc (names ++ bytes " = match " ++ display key) (bytes " {") r ∙ three names (bytes " = match ") (display key) (bytes " {" ++ r)

  branch_open : stmt_text (Match 26 key ns arms) ≡ head_text true names key (if_sides (arms_texts arms true))
  unfolding stmt_text head_text equals arms_opening
  branch_open = ap (λ (r : List ℕ). bytes "let " ++ r) (three names (bytes " = if ") (display key) (if_sides (arms_texts arms true)))

  select_open : stmt_text (Match 27 key ns arms) ≡ head_text false names key (match_arms 0 false (arms_texts arms false))
  unfolding stmt_text head_text equals arms_opening
  select_open = ap (λ (r : List ℕ). bytes "let " ++ r) (four (match_arms 0 false (arms_texts arms false)))

  default_open : stmt_text (Match 28 key ns arms) ≡ head_text false names key (match_arms 0 true (arms_texts arms false))
  unfolding stmt_text head_text equals arms_opening
  default_open = ap (λ (r : List ℕ). bytes "let " ++ r) (four (match_arms 0 true (arms_texts arms false)))

  abbrev run : Bool → Bool → List ℕ
  run bare d = arms_run bare d (arm_count arms) 0 (arms_texts arms bare)

  two : (l : List (List ℕ)) (m : ℕ) → length l ≡ 2 → if_sides l ≡ arms_run true false m 0 l
  two [] m h = absurd (omega arith)
  two (s ∷ []) m h = absurd (omega arith)
  two (s ∷ (t ∷ [])) m h = two_sides false m s t
  two (s ∷ (t ∷ (u ∷ l))) m h = absurd (omega arith)

  some_last : (l : List (List ℕ)) (m : ℕ) → length l ≡ m → 1 ≤ m → match_arms 0 true l ≡ arms_run false true m 0 l
  some_last [] m h k = absurd (omega arith)
  some_last (s ∷ l) m h k = with_default m 0 s l (omega arith)

  pub branch_is : arm_count arms ≡ 2 → stmt_text (Match 26 key ns arms) ≡ head_text true names key (run true false)
  branch_is h = branch_open ∙ ap (head_text true names key) (two (arms_texts arms true) (arm_count arms) (arms_counted arms true ∙ h))

  pub select_is : stmt_text (Match 27 key ns arms) ≡ head_text false names key (run false false)
  select_is = select_open ∙ ap (head_text false names key) (no_default (arm_count arms) 0 (arms_texts arms false))

  pub default_is : 1 ≤ arm_count arms → stmt_text (Match 28 key ns arms) ≡ head_text false names key (run false true)
  default_is h = default_open ∙ ap (head_text false names key) (some_last (arms_texts arms false) (arm_count arms) (arms_counted arms false) h)

pub let_is : (n : Name) (e : Tree) → stmt_text (Let n e) ≡ let_text (name_text n) e
unfolding stmt_text let_text
let_is n e = ap (λ (r : List ℕ). bytes "let " ++ r) (three (name_text n) (bytes " = ") (display e) (bytes ";"))
