-- The text of statements in the order in which it is written: what stands before, between and after the parts (Answer: `tuple`, `arm-text`, `match-arms`, `if-sides`),
-- followed by `after`. Assumes nothing.
use Rattle.std.specs.Prelude.{ℕ, zero, suc, Bool, true, false, ◌&&◌, ◌||◌, cond, List, [], ◌∷◌, ◌++◌, eqb}
use Rattle.spec_tree.specs.Bytes.{bytes, decimal}
use Rattle.spec_tree.specs.Tree.{Tree}
use Rattle.spec_tree.specs.text.Text.{display}

-- ---- a tuple of n parts

unfoldable pub tuple_opening : ℕ → List ℕ
tuple_opening zero = bytes "("
tuple_opening (suc zero) = []
tuple_opening (suc (suc n)) = bytes "("

unfoldable pub comma : ℕ → List ℕ
comma zero = []
comma (suc i) = bytes ", "

unfoldable pub tuple_closing : ℕ → List ℕ
tuple_closing zero = bytes ")"
tuple_closing (suc zero) = []
tuple_closing (suc (suc n)) = bytes ")"

-- the parts from number i on
unfoldable pub tuple_parts : ℕ → List (List ℕ) → List ℕ → List ℕ
unfolding comma
tuple_parts i [] after = after
tuple_parts i (s ∷ l) after = comma i ++ (s ++ tuple_parts (suc i) l after)

-- ---- an arm of n statements

unfoldable pub brace_opening : Bool → ℕ → List ℕ
brace_opening bare zero = []
brace_opening true (suc n) = []
brace_opening false (suc n) = bytes "{ "

unfoldable pub brace_closing : Bool → ℕ → List ℕ
brace_closing bare zero = []
brace_closing true (suc n) = []
brace_closing false (suc n) = bytes " }"

-- each with a space after it
unfoldable pub spaced : List (List ℕ) → List ℕ → List ℕ
spaced [] after = after
spaced (s ∷ l) after = s ++ (32 ∷ spaced l after)

-- ---- m arms, or the two sides of an `if`; where there is a default it is the last arm

unfoldable pub side_opening : ℕ → List ℕ
side_opening zero = bytes " >= 0 { "
side_opening (suc i) = bytes " } else { "

unfoldable pub side_closing : ℕ → List ℕ
side_closing zero = []
side_closing (suc i) = bytes " };"

unfoldable pub arm_opening : Bool → Bool → ℕ → ℕ → List ℕ
unfolding decimal side_opening
arm_opening true or_default m i = side_opening i
arm_opening false or_default m i = cond (or_default && eqb (suc i) m) (bytes " _ => ") (bytes " " ++ (decimal i ++ bytes " => "))

unfoldable pub arm_closing : Bool → Bool → ℕ → ℕ → List ℕ
unfolding side_closing
arm_closing true or_default m i = side_closing i
arm_closing false or_default m i = cond (or_default && eqb (suc i) m) (bytes " };") (bytes ",")

unfoldable pub arms_closing : Bool → Bool → List ℕ
arms_closing bare or_default = cond (bare || or_default) [] (bytes " _ => panic };")

-- the arms from number i on
unfoldable pub arms_run : Bool → Bool → ℕ → ℕ → List (List ℕ) → List ℕ
unfolding arm_opening arm_closing arms_closing
arms_run bare or_default m i [] = arms_closing bare or_default
arms_run bare or_default m i (s ∷ l) = arm_opening bare or_default m i ++ (s ++ (arm_closing bare or_default m i ++ arms_run bare or_default m (suc i) l))

-- ---- a let, and a match up to its arms

-- what stands before the expression of a let
unfoldable pub let_opening : List ℕ → List ℕ
let_opening name = bytes "let " ++ (name ++ bytes " = ")

unfoldable pub let_text : List ℕ → Tree → List ℕ
unfolding display
let_text name t = bytes "let " ++ (name ++ (bytes " = " ++ (display t ++ bytes ";")))

unfoldable pub equals : Bool → List ℕ
equals true = bytes " = if "
equals false = bytes " = match "

unfoldable pub arms_opening : Bool → List ℕ
arms_opening true = []
arms_opening false = bytes " {"

unfoldable pub head_text : Bool → List ℕ → Tree → List ℕ → List ℕ
unfolding display equals arms_opening
head_text bare names key after = bytes "let " ++ (names ++ (equals bare ++ (display key ++ (arms_opening bare ++ after))))
