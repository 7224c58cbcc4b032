-- The expression writer's loop over an operation's operands: what is written since the loop began, and passed, after i of them. Assumes nothing.
use Prim.Native.Nat.{ℕ, zero, suc, ◌+◌, ◌*◌, ◌≤◌, ◌<◌}
use native.Mathlib.Numerals.{add-one}
use native.Mathlib.Omega.{arith}
use mathlib.Core.Path.{◌≡◌, refl, sym, ◌∙◌, ap, subst}
use mathlib.Core.Bool.{Bool, ◌&&◌}
use mathlib.Core.Option.{some}
use mathlib.Core.List.{List, [], ◌∷◌, ◌++◌, map}
use lib.Dec.{T}
use lib.ListN.{length, get_or, take, length-map}
use lib.Seq.{take-suc, take_all, length-take-le}
use Rattle.spec_tree.specs.Tree.{Tree, Op, nil}
use Rattle.spec_tree.specs.Facts.{total, size}
use Rattle.spec_tree.specs.Passes.{operands_ok, tree_ok, trees_ok}
use Rattle.spec_tree.specs.Tokens.{kind_of, below_of, run_at}
use Rattle.spec_tree.proofs.Logic.{and_left, and_right}
use Rattle.spec_tree.proofs.TokenLaws.{sizes, sizes_append, map_append, operation_takes}
use Rattle.spec_tree.specs.text.Text.{Part, part, display, bracketed}
use Rattle.fmt.specs.emit.Writing.{Writes}
use Rattle.fmt.proofs.emit.WriteLaws.{writes_length, writes_none, writes_then, writes_as}
use Rattle.fmt.specs.shapes.Operands.{opening, closing, brackets, between, operand_text, operands_text}
use Rattle.fmt.specs.shapes.Places.{tree_here, Stands, Passes}
use Rattle.fmt.proofs.shapes.PlaceLaws.{below_here, Operand, operand}
use Rattle.fmt.proofs.shapes.OperandLaws.{operation_layout, operands_more, no_operands}
use Rattle.fmt.proofs.shapes.NodeLaws.{names, stands_node, here_size, operation_is, display_operation, ok_operation, ok_at}
use Rattle.spec_tree.proofs.Lists.{one_size}

-- the operands of the node at a place
abbrev pub under : List ℕ → List ℕ → ℕ → List Tree
under rows ws at = below_here (names rows) ws at

abbrev kind_at : List ℕ → ℕ → ℕ
kind_at ws at = kind_of (get_or ws at 0)

pub record Writing (dry : Bool) (rows ws : List ℕ) (at : ℕ) (old : List ℕ) (to : ℕ) (out : List ℕ) (next end i : ℕ) : Type 0 where
  pub few : i ≤ below_of (get_or ws at 0)
  pub token : next ≡ at + 1 + sizes (take i (under rows ws at))
  pub written : Writes dry old to (operands_text (kind_at ws at) 0 (map part (take i (under rows ws at)))) out end

no_sizes : sizes [] ≡ 0
unfolding sizes total
no_sizes = refl

display_is : (t : Tree) → display t ≡ (part t).text
unfolding display
display_is t = refl

operand_fits : (l : List Tree) (i : ℕ) (d : Tree) → i < length l → size (get_or l i d) ≤ sizes l
unfolding sizes total
operand_fits [] i d h = absurd (omega arith)
operand_fits (t ∷ l) zero d h = omega arith
operand_fits (t ∷ l) (suc i) d h = omega (arith, operand_fits l i d (omega arith))

-- operand i is written with what stands before it
operand_written : {dry : Bool} {out mid new : List ℕ} {end start next e : ℕ} (k i p : ℕ) (t u : Tree) → t ≡ u
    → Writes dry out end (between k i) mid start → Passes dry mid p start t (bracketed (brackets k i (part t).prec) (display t)) new next e
    → Writes dry out end (operand_text k i (part u)) new e
unfolding operand_text
operand_written {dry} {out} {mid} {new} {end} k i p t u q B P =
    writes_as (between k i ++ bracketed (brackets k i (part t).prec) (display t)) (operand_text k i (part u))
    (ap (λ (s : List ℕ). between k i ++ bracketed (brackets k i (part t).prec) s) (display_is t) ∙ ap (λ (v : Tree). operand_text k i (part v)) q) (writes_then B P.written)

module _ {rows ws : List ℕ} {at : ℕ} (S : Stands rows ws at) (no_symbol : kind_at ws at ≡ 0 → ⊥) (no_constant : kind_at ws at ≡ 1 → ⊥) where
  h : 1 < kind_at ws at
  h = omega (arith, no_symbol, no_constant)

  many : length (under rows ws at) ≡ below_of (get_or ws at 0)
  many = (stands_node S).many ∙ operation_takes (get_or ws at 0) h

  tested : T (operands_ok (kind_at ws at) (length (under rows ws at)) && trees_ok (under rows ws at))
  tested = subst T (ap tree_ok (operation_is S h) ∙ ok_operation (kind_at ws at) (under rows ws at)) S.good

  pub begin : {dry : Bool} {old : List ℕ} {to : ℕ} {out : List ℕ} {end : ℕ} → Writes dry old to (opening (kind_at ws at)) out end → Writing dry rows ws at out end out (at + 1) end 0
  begin p = record {
    few = omega arith;
    token = omega (arith, no_sizes);
    written = writes_as [] (operands_text (kind_at ws at) 0 []) (sym (no_operands (kind_at ws at))) (writes_none (omega (arith, p.ends, writes_length p)));
  }

  -- the next operand
  module _ {dry : Bool} {old : List ℕ} {to : ℕ} {out : List ℕ} {next end i : ℕ} (W : Writing dry rows ws at old to out next end i) (less : i < below_of (get_or ws at 0)) where
    found : Operand (names rows) ws at i next
    found = operand (names rows) ws at i next (stands_node S) (omega (arith, operation_takes (get_or ws at 0) h)) W.token

    is : tree_here rows ws next ≡ get_or (under rows ws at) i (Op 0 nil)
    unfolding tree_here
    is = found.is

    runs : run_at ws next ≡ some (size (tree_here rows ws next))
    unfolding tree_here
    runs = found.run

    pub stands : Stands rows ws next
    stands = record {
      run = runs;
      good = subst (λ (t : Tree). T (tree_ok t)) (sym is) (ok_at (under rows ws at) i (Op 0 nil) (and_right (operands_ok (kind_at ws at) (length (under rows ws at))) (trees_ok (under rows ws at)) tested) (omega (arith, many)));
    }

    pub smaller : size (tree_here rows ws next) * 2 + 1 < size (tree_here rows ws at) * 2
    smaller = omega (arith, ap size is, operand_fits (under rows ws at) i (Op 0 nil) (omega (arith, many)), here_size S)

    taken : take (i + 1) (under rows ws at) ≡ take i (under rows ws at) ++ (get_or (under rows ws at) i (Op 0 nil) ∷ [])
    taken = rw (add-one i) (take-suc (under rows ws at) i (Op 0 nil) (omega (arith, many)))

    pub turn : {mid new : List ℕ} {start next' e : ℕ} → Writes dry out end (between (kind_at ws at) i) mid start
        → Passes dry mid next start (tree_here rows ws next) (bracketed (brackets (kind_at ws at) i (part (tree_here rows ws next)).prec) (display (tree_here rows ws next))) new next' e
        → Writing dry rows ws at old to new next' e (i + 1)
    turn {mid} {new} {start} {next'} {e} B P =
        let k = kind_at ws at in
        let ts = take i (under rows ws at) in
        let t = get_or (under rows ws at) i (Op 0 nil) in
        let more = operands_more k 0 (map part ts) (part t) in
        let count : 0 + length (map part ts) ≡ i = omega (arith, length-map ts part, length-take-le i (under rows ws at) (omega (arith, many))) in
        let texts : operands_text k 0 (map part (take (i + 1) (under rows ws at))) ≡ operands_text k 0 (map part ts) ++ operand_text k i (part t) =
        ap (λ (l : List Tree). operands_text k 0 (map part l)) taken
        ∙ (ap (λ (l : List Part). operands_text k 0 l) (map_append part ts (t ∷ [])) ∙ (more ∙ ap (λ (n : ℕ). operands_text k 0 (map part ts) ++ operand_text k n (part t)) count)) in
        record {
          few = omega arith;
          token = omega (arith, P.token, W.token, ap size is, ap sizes taken, sizes_append ts (t ∷ []), one_size t);
          written =
              writes_as (operands_text k 0 (map part ts) ++ operand_text k i (part t)) (operands_text k 0 (map part (take (i + 1) (under rows ws at)))) (sym texts)
              (writes_then W.written (operand_written k i next (tree_here rows ws next) t is B P));
        }

  -- after the last
  pub finish :
      {dry : Bool} {first : List ℕ} {from : ℕ} {old : List ℕ} {to : ℕ} {out new : List ℕ} {next end i e : ℕ} → Writes dry first from (opening (kind_at ws at)) old to → Writing dry rows ws at old to out next end i
      → below_of (get_or ws at 0) ≤ i → Writes dry out end (closing (kind_at ws at)) new e → Passes dry first at from (tree_here rows ws at) (display (tree_here rows ws at)) new next e
  finish {i = i} O W g C =
      let k = kind_at ws at in
      let ts = under rows ws at in
      let all : take i ts ≡ ts = take_all i ts (omega (arith, many)) in
      let parts = map part ts in
      let ok : T (operands_ok k (length parts)) = subst (λ (n : ℕ). T (operands_ok k n)) (sym (length-map ts part)) (and_left (operands_ok k (length ts)) (trees_ok ts) tested) in
      let whole : display (tree_here rows ws at) ≡ opening k ++ (operands_text k 0 parts ++ closing k) =
      ap display (operation_is S h) ∙ (display_operation k ts ∙ operation_layout k parts h ok) in
      record {
        token = omega (arith, W.token, ap sizes all, here_size S);
        written =
            writes_as (opening k ++ (operands_text k 0 (map part (take i ts)) ++ closing k)) (display (tree_here rows ws at))
            (ap (λ (l : List Tree). opening k ++ (operands_text k 0 (map part l) ++ closing k)) all ∙ sym whole) (writes_then O (writes_then W.written C));
      }
