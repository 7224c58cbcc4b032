-- What is answered for the first tree, from what the callees answer. Assumes nothing.
use Rattle.std.specs.Prelude.{Option as Maybe, Result}
use Rattle.std.specs.Result.{IsErr}
use Rattle.std.specs.Option.{IsSome, ok_or}
use Rattle.replace.specs.declared.NotConstant.{NotConstant}
use Rattle.replace.specs.declared.Decision.{Decision}
use Rattle.std.specs.Prelude.{Some, None, Ok, Err}
use Rattle.words.specs.declared.fault.Fault.{Fault}
use Rattle.std.proofs.Common.{◌≡◌, ℕ, zero, suc, ◌+◌, ◌-◌, ◌*◌, ◌<◌, ◌≤◌, Bool, true, false, ◌&&◌, T, eqb, List, [], ◌∷◌, length, get_or, take, drop, sym, refl, ap, ◌∙◌, subst, arith, length-take-le, drop-cons, eq-eqb, ne_eqb}
use mathlib.Core.Option.{some}
use lib.Ieee as Ieee
use lib.Ieee.{Float}
use Rattle.spec_tree.specs.Tree.{Tree, eq_tree}
use Rattle.spec_tree.specs.Facts.{size}
use Rattle.spec_tree.specs.Tokens.{kind_of, takes, numbered, read, trees_in, run_at, tree_of_word}
use Rattle.spec_tree.proofs.TokenLaws.{Word, a_symbol, a_constant, an_operation, word_is, symbol_tree, constant_tree, operation_tree, tree_at, complete_tail, complete_end, words_complete, run_size, some_is}
use Rattle.spec_rewrite.specs.Rewrite.{one, flatten_mul_factors, is_mul, constant_of}
use Rattle.spec_rewrite.proofs.Factors.{factors_of}
use Rattle.spec_rewrite.proofs.Measure.{size_up}
use Rattle.words.specs.words.Words.{tree_of, name_of, begins_with}
use Rattle.words.proofs.words.Rewriting.{first_tree, one_long, begins_tree, one_long as some_words}
use Rattle.replace.specs.coefficient.Answers.{constant_answer}
use Rattle.replace.specs.factors.Places.{tree, at_places, Stands}
use Rattle.replace.proofs.factors.WordRuns.{run_stands, stands_run}
use Rattle.replace.proofs.factors.Flattening.{Taken as FlatFrom}
use Rattle.replace.proofs.factors.Answering.{ends_there, answers_product}
use Rattle.replace.proofs.factors.PlaceLaws.{Each, Inside}
use Rattle.replace.specs.factors.Answers.{Flattening, flattened_by, flatten_answer}
use Rattle.replace.specs.declared.factors.Product.{Product}
use Rattle.replace.proofs.factors.Products.{ProductOf, product_of, never_refused as flat_answered}
use Rattle.replace.specs.closed.Closed.{by_factors, lone}
use Rattle.replace.specs.matching.Matching.{names_after}
use Rattle.replace.proofs.matching.Removing.{after_most}
use Rattle.replace.specs.matching.Answers.{Takes}
use Rattle.replace.specs.declared.matching.Taken.{Taken}
use Rattle.replace.specs.replacing.Deciding.{Plain, PassedAt, RefusedAt, Match, ProductFirst}
use Rattle.replace.proofs.replacing.Runs.{name_alone, name_tree}
use Rattle.replace.proofs.replacing.Deciding.{ProductAt, product_at, none_there, refused_there, match_there}
use Rattle.replace.proofs.replacing.Passing.{passed_at}
use Rattle.replace.specs.Answers.{Decides, FlatFirst}

-- ---- the target

mul_first : (w : ℕ) (l : List Tree) (b : Bool) → eqb (kind_of w) 5 ≡ b → is_mul (tree_of_word numbered w l) ≡ b
unfolding is_mul
mul_first w l b e = go (word_is w)
  where
    go : Word w → is_mul (tree_of_word numbered w l) ≡ b
    go (a_symbol k) = ap is_mul (symbol_tree numbered w l k) ∙ sym (ne_eqb (kind_of w) 5 (λ q. omega arith)) ∙ e
    go (a_constant k) = ap is_mul (constant_tree numbered w l k) ∙ sym (ne_eqb (kind_of w) 5 (λ q. omega arith)) ∙ e
    go (an_operation k) = ap is_mul (operation_tree numbered w l k) ∙ e

first_mul : (part : List ℕ) → 0 < length part → (b : Bool) → eqb (kind_of (get_or part 0 0)) 5 ≡ b → is_mul (tree_of part) ≡ b
first_mul [] h b e = absurd (omega arith)
first_mul (w ∷ ws) h b e = ap is_mul (first_tree w ws) ∙ mul_first w (take (takes w) (read numbered ws)) b e

pub not_sought : (part : List ℕ) → trees_in part ≡ some 1 → (kind_of (get_or part 0 0) ≡ 5 → ⊥) → false ≡ by_factors (tree_of part)
unfolding by_factors
not_sought part e n =
    sym (ap (λ (b : Bool). b && Ieee.eq (flatten_mul_factors (tree_of part)).coefficient one) (first_mul part (some_words part e) false (ne_eqb (kind_of (get_or part 0 0)) 5 n)))

first_is : (ws : List ℕ) → tree ws 0 ≡ tree_of ws
unfolding tree_of
first_is ws = tree_at numbered ws 0

pub sought_by :
    (part old new : List ℕ) (p : Product) → trees_in part ≡ some 1 → kind_of (get_or part 0 0) ≡ 5 → Ok p ≡ (flatten_answer part 0 old).answer → new ≡ (flatten_answer part 0 old).places
    → (b : Bool) → b ≡ Ieee.eq p.coefficient one → b ≡ by_factors (tree_of part)
unfolding by_factors
sought_by part old new p e k a w b q =
    q ∙ ap (λ (x : Float). Ieee.eq x one) ((product_of part 0 old p new a w).coefficient_is ∙ ap (λ (t : Tree). (flatten_mul_factors t).coefficient) (first_is part))
    ∙ sym (ap (λ (b : Bool). b && Ieee.eq (flatten_mul_factors (tree_of part)).coefficient one) (first_mul part (some_words part e) true (eq-eqb (kind_of (get_or part 0 0)) 5 k)))

-- ---- no factor, or the name alone

module _ (part : List ℕ) (name : ℕ) (coefficient : Float) (count : ℕ) (places : List ℕ) (one : trees_in part ≡ some 1) (symbol : kind_of name ≡ 0) (G : FlatFirst part coefficient count places) where
  abbrev flat : ProductOf part 0 G.old (record { coefficient = coefficient; count = count }) places
  flat = product_of part 0 G.old (record { coefficient = coefficient; count = count }) places G.answer G.written

  abbrev fs : List Tree
  fs = factors_of (tree_of part)

  places_are : at_places part (take count places) ≡ fs
  places_are = flat.factors_are ∙ ap factors_of (first_is part)

  count_are : count ≡ length fs
  count_are = flat.count_is ∙ ap (λ (t : Tree). length (factors_of t)) (first_is part)

  pub lone_none : count ≡ 0 → true ≡ lone (name_of name) fs
  lone_none z = go fs (sym count_are ∙ z)
    where
      go : (l : List Tree) → length l ≡ 0 → true ≡ lone (name_of name) l
      go [] e = (unfold lone in refl)
      go (t ∷ l) e = absurd (omega arith)

  pub lone_many : 1 < count → false ≡ lone (name_of name) fs
  lone_many h = go fs (omega (arith, count_are))
    where
      go : (l : List Tree) → 1 < length l → false ≡ lone (name_of name) l
      go [] e = absurd (omega arith)
      go (t ∷ []) e = absurd (omega arith)
      go (t ∷ (u ∷ l)) e = (unfold lone in refl)

  module _ (only : count ≡ 1) (room : length part ≤ length places) where
    abbrev at : ℕ
    at = get_or places 0 0

    some_room : 1 ≤ length places
    some_room = (let a = one_long part one in omega arith)

    first_place : (l : List ℕ) → 1 ≤ length l → take count l ≡ get_or l 0 0 ∷ []
    first_place [] h = absurd (omega arith)
    first_place (p ∷ l) h = ap (λ (k : ℕ). take k (p ∷ l)) only

    there : Inside part 0 (0 + size (tree part 0)) at
    there = (subst (Each (Inside part 0 (0 + size (tree part 0)))) (first_place places some_room) flat.inside).0

    pub at_within : at < length part
    unfolding run_at
    at_within = (let a = there.high in let b = size_up (tree part at) in let c = (words_complete part 1 (size (tree part 0)) flat.there).0 in omega arith)

    factor_is : fs ≡ tree_of (drop at part) ∷ []
    unfolding at_places tree_of
    factor_is = sym places_are ∙ ap (at_places part) (first_place places some_room) ∙ ap (λ (t : Tree). t ∷ []) (tree_at numbered part at)

    pub lone_one : (b : Bool) → b ≡ begins_with (drop at part) (name ∷ []) → b ≡ lone (name_of name) fs
    unfolding lone
    lone_one b e =
        let c = complete_end at part 1 one in
        let some_there : 1 ≤ c.0 = more_than_none c.0 at_within c.1 in
        sym (ap (lone (name_of name)) factor_is ∙ ap (eq_tree (tree_of (drop at part))) (sym (name_tree name symbol))
        ∙ begins_tree (drop at part) c.0 c.1 some_there (name ∷ []) (name_alone name symbol) b e)
      where
        more_than_none : (m : ℕ) → at < length part → trees_in (drop at part) ≡ some m → 1 ≤ m
        more_than_none m h e = (let t = complete_tail (get_or part at 0) (drop (suc at) part) m (ap trees_in (sym (drop-cons part at 0 h)) ∙ e) in omega (arith, t.left))

-- ---- there is a tree, and room

module _ (ws old : List ℕ) (n : ℕ) (all : trees_in ws ≡ some n) (there : 0 < length ws) (room : length ws ≤ length old) where
  answered : (flatten_answer ws 0 old).answer ≡ (flattened_by false 0 (tree ws 0) old).answer
  answered = ap (λ (f : Flattening). f.answer) (flat_answered ws n 0 old all there room)

  pub never_refused : (f : Fault) → Err f ≡ (flatten_answer ws 0 old).answer → ⊥
  unfolding flattened_by
  never_refused f e = (let q = e ∙ answered in let z : ◌≡◌ {A = ℕ} 0 1 = cc in omega arith)

-- ---- a product

module _
    (ws part : List ℕ) (name : ℕ) (coefficient : Float) (count : ℕ) (places : List ℕ) (F : ProductFirst ws part name) (G : FlatFirst ws coefficient count places)
    (room : 2 * length ws ≤ length places) where
  abbrev p : Product
  p = record { coefficient = coefficient; count = count }

  pr : ProductOf ws 0 G.old p places
  pr = product_of ws 0 G.old p places G.answer G.written

  pa : ProductAt part name ws
  pa = product_at part name F.target ws F.trees F.some_word F.other F.kind

  by : T (by_factors (tree_of part))
  by = subst T F.sought tt

  room_twice : 2 * count ≤ length places
  unfolding run_at
  room_twice =
      (let b = pr.few in
      let c = (words_complete ws 1 (size (tree ws 0)) pr.there).0 in
      omega arith)

  pub taken_there : (new : List ℕ) (o : Maybe Taken) → Takes ws part name places count new o → IsSome o
  taken_there new (Some t) e = refl
  taken_there new None e = absurd (let r = room_twice in let f = e.0 in omega arith)

  module _ (new : List ℕ) (r : Taken) (e : Takes ws part name places count new (Some r)) where
    abbrev all : ℕ
    all = r.left

    abbrev times : ℕ
    times = r.times

    pub all_there : all ≤ length new
    all_there = e.1.1

    pub taken_passed : times ≡ 0 → (long : ℕ) → run_at ws 0 ≡ some long → (n : ℕ) → Plain ws long n → PassedAt part name ws n
    taken_passed z long x n s =
        passed_at part name F.target by ws F.trees long x (none_there part name F.target ws F.trees pa by G.old places new p pr all times e.1 z) n s

    one_more : (times ≡ 0 → ⊥) → times ≡ suc (times - 1)
    one_more z = go times z
      where
        go : (k : ℕ) → (k ≡ 0 → ⊥) → k ≡ suc (k - 1)
        go zero z = absurd (z refl)
        go (suc k) z = omega arith

    pub taken_refused : (times ≡ 0 → ⊥) → None ≡ constant_answer (constant_of coefficient) → RefusedAt part name ws
    taken_refused z k = refused_there part name F.target ws F.trees pa by G.old places new p pr all times e.1 (times - 1) (one_more z) k

    pub taken_matched :
        (times ≡ 0 → ⊥) → (code : ℕ) → Some code ≡ constant_answer (constant_of coefficient) → (long : ℕ) → run_at ws 0 ≡ some long
        → (copies : ℕ) → copies ≡ names_after (length ws) (take all new) → Match part name ws new (all - copies) copies code long
    taken_matched z code k long x copies c =
        let m = match_there part name F.target ws F.trees pa by G.old places new p pr all times e.1 (times - 1) (one_more z) code k (all - copies) copies c refl in
        subst (Match part name ws new (all - copies) copies code) (some_is (sym pr.there ∙ x)) m

    pub fewer_names : (copies : ℕ) → copies ≡ names_after (length ws) (take all new) → copies ≤ all
    fewer_names copies c = (let a = after_most (length ws) (take all new) in let b = length-take-le all new all_there in omega arith)

-- what `ok_or` makes of the code
pub code_some : (o : Maybe ℕ) (f : NotConstant) (r : Result ℕ NotConstant) (n : ℕ) → r ≡ ok_or o f → r ≡ Ok n → Some n ≡ o
code_some None f r n e p = absurd (let z : ◌≡◌ {A = ℕ} 0 1 = cc in omega arith)
code_some (Some m) f r n e p = cc

pub code_none : (o : Maybe ℕ) (f : NotConstant) (r : Result ℕ NotConstant) (g : NotConstant) → r ≡ ok_or o f → r ≡ Err g → None ≡ o
code_none None f r g e p = refl
code_none (Some m) f r g e p = absurd (let z : ◌≡◌ {A = ℕ} 0 1 = cc in omega arith)

pub decides_refused : (part : List ℕ) (name : ℕ) (ws places : List ℕ) (r : Result Decision NotConstant) → IsErr r → RefusedAt part name ws → Decides part name ws places r
decides_refused part name ws places (Ok d) e w = absurd (let z : ◌≡◌ {A = Bool} false true = e in (let y : ◌≡◌ {A = ℕ} 0 1 = cc in omega arith))
decides_refused part name ws places (Err f) e w = w

-- ---- what the callees are asked

pub first_stands : {ws part : List ℕ} {name : ℕ} → ProductFirst ws part name → Stands ws 0 1
first_stands {ws} F = run_stands ws 0 (size (tree ws 0)) (run_size numbered ws F.trees.count 0 F.trees.complete F.some_word)

pub first_fits : {ws part : List ℕ} {name : ℕ} → ProductFirst ws part name → size (tree ws 0) ≤ length ws
unfolding run_at
first_fits {ws} F = (words_complete ws 1 (size (tree ws 0)) (stands_run (first_stands F))).0

-- its end, and that it has a word
pub first_run : {ws part : List ℕ} {name : ℕ} → ProductFirst ws part name → (long : ℕ) → long ≡ 0 + size (tree ws 0) → run_at ws 0 ≡ some long
first_run {ws} F long e = (let z : size (tree ws 0) ≡ long = omega arith in stands_run (first_stands F) ∙ ap some z)

pub some_long : {ws part : List ℕ} {name : ℕ} → ProductFirst ws part name → (long : ℕ) → run_at ws 0 ≡ some long → (0 < long) × (long ≤ length ws)
some_long {ws} F long e =
    (let z : size (tree ws 0) ≡ long = some_is (sym (stands_run (first_stands F)) ∙ e) in let a = first_fits F in let b = size_up (tree ws 0) in (omega arith, omega arith))

pub flat_known :
    {ws part : List ℕ} {name : ℕ} → ProductFirst ws part name → (old new : List ℕ) (c : Float) (n : ℕ) → length ws ≤ length old → FlatFrom (tree ws 0) 0 old 0 c n new → FlatFirst ws c n new
flat_known {ws} F old new c n room f =
    let s = first_stands F in
    let x = answers_product ws 0 old (0 + size (tree ws 0)) (sym (ends_there s)) c n new (let a = first_fits F in omega arith) f in
    record { old = old; answer = x.0; written = x.1 }

pub flat_first :
    (ws old new : List ℕ) (p : Product) → Ok p ≡ (flatten_answer ws 0 old).answer → new ≡ (flatten_answer ws 0 old).places → FlatFirst ws p.coefficient p.count new
flat_first ws old new p a w = record { old = old; answer = a; written = w }
