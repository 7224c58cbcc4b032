-- What the loops of the writers keep: the part that is left stands at the place reached, and its text is all that is still to be written (Places, Writers).
-- Assumes nothing.
use Prim.Native.Nat.{ℕ, suc, ◌+◌, ◌≤◌, ◌<◌}
use native.Mathlib.Omega.{arith}
use native.Mathlib.Numerals.{add-one}
use mathlib.Core.Path.{◌≡◌, refl, sym, ap, ◌∙◌, subst}
use mathlib.Core.Bool.{Bool}
use mathlib.Core.List.{List, [], ◌∷◌, ◌++◌}
use lib.ListN.{length}
use Rattle.spec_tree.specs.Tree.{Tree}
use Rattle.spec_tree.specs.Rows.{Row}
use Rattle.spec_tree.specs.Tokens.{tokens, number_in}
use Rattle.spec_tree.specs.text.Text.{display}
use Rattle.spec_cse.specs.Answer.{displays, tuple}
use Rattle.spec_cse.specs.AnswerRows.{value_row, each_words}
use Rattle.fmt.specs.emit.Writing.{Writes}
use Rattle.fmt.proofs.emit.WriteLaws.{writes_then, writes_as}
use Rattle.print.specs.told.Places.{TreeAt, ValuesAt, Passed, Owes}
use Rattle.print.specs.told.Pieces.{tuple_opening, comma, tuple_closing, tuple_parts}
use Rattle.print.specs.told.Writers.{TreeWritten}
use Rattle.print.proofs.told.PieceLaws.{tuple_is}
use Rattle.print.proofs.told.PlaceLaws.{each_none, value_in, value_tree, value_others, value_words}

-- ---- what is owed

module _ {dry : Bool} {old : List ℕ} {to : ℕ} {whole : List ℕ} where
  -- at the start all of it
  pub owes_all : (text : List ℕ) → whole ≡ text → Owes dry old to whole old to text
  owes_all text e = λ new end h. writes_as text whole (sym e) h

  -- and after a text was written what follows it
  pub owes_less : {mid new : List ℕ} {at end : ℕ} (text rest : List ℕ) → Owes dry old to whole mid at (text ++ rest) → Writes dry mid at text new end → Owes dry old to whole new end rest
  owes_less text rest p q = λ new' end' h. p new' end' (writes_then q h)

  pub owes_as : {mid : List ℕ} {at : ℕ} (a b : List ℕ) → a ≡ b → Owes dry old to whole mid at a → Owes dry old to whole mid at b
  owes_as a b e p = λ new end h. p new end (writes_as b a (sym e) h)

-- ---- the values of an arm

pub displays_cons : (t : Tree) (l : List Tree) → displays (t ∷ l) ≡ display t ∷ displays l
unfolding displays
displays_cons t l = refl

displays_long : (l : List Tree) → length (displays l) ≡ length l
displays_long [] = unfold displays in refl
displays_long (t ∷ l) = ap length (displays_cons t l) ∙ ap suc (displays_long l)

pub parts_cons : (i : ℕ) (s : List ℕ) (l : List (List ℕ)) (after : List ℕ) → tuple_parts i (s ∷ l) after ≡ comma i ++ (s ++ tuple_parts (suc i) l after)
unfolding tuple_parts
parts_cons i s l after = refl

pub parts_none : (i : ℕ) (after : List ℕ) → tuple_parts i [] after ≡ after
unfolding tuple_parts
parts_none i after = refl

module _ (rows : List Row) (ws : List ℕ) (n at : ℕ) (dry : Bool) (old : List ℕ) (to : ℕ) (vs : List Tree) where
  abbrev number : List ℕ → ℕ
  number = number_in rows

  pub record ValuesLeft (i next : ℕ) (mid : List ℕ) (place : ℕ) : Type 0 where
    pub rest : List Tree
    pub left : ValuesAt rows ws value_row (length rest) next rest
    pub count : i + length rest ≡ n
    pub token : next + length (each_words number value_row rest) ≡ at + length (each_words number value_row vs)
    pub owes : Owes dry old to (tuple_parts 0 (displays vs) (tuple_closing n)) mid place (tuple_parts i (displays rest) (tuple_closing n))

  -- with what was written before the loop
  pub values_whole :
      {new : List ℕ} {next e : ℕ} (old0 : List ℕ) (to0 : ℕ) → ValuesAt rows ws value_row n at vs → Writes dry old0 to0 (tuple_opening n) old to
      → Passed dry old at to (each_words number value_row vs) (tuple_parts 0 (displays vs) (tuple_closing n)) new next e → Passed dry old0 at to0 (each_words number value_row vs) (tuple (displays vs)) new next e
  values_whole old0 to0 h w p =
      let c : length (displays vs) ≡ n = displays_long vs ∙ h.count in
      let e : tuple (displays vs) ≡ tuple_opening n ++ tuple_parts 0 (displays vs) (tuple_closing n) =
      tuple_is (displays vs) ∙ ap (λ (k : ℕ). tuple_opening k ++ tuple_parts 0 (displays vs) (tuple_closing k)) c in
      record { token = p.token; written = writes_as (tuple_opening n ++ tuple_parts 0 (displays vs) (tuple_closing n)) (tuple (displays vs)) (sym e) (writes_then w p.written) }

  module _ {i next : ℕ} {mid : List ℕ} {place : ℕ} (v : ValuesLeft i next mid place) where
    pub values_next : i < n → (t : Tree) × TreeAt rows ws (next + 1) t
    values_next h = go v.rest v.left v.count
      where
        go : (l : List Tree) → ValuesAt rows ws value_row (length l) next l → i + length l ≡ n → (t : Tree) × TreeAt rows ws (next + 1) t
        go [] g c = absurd (omega arith)
        go (t ∷ l) g c = (t, value_tree rows ws t l g)

    pub values_inside : i < n → next < length ws
    values_inside h = go v.rest v.left v.count
      where
        go : (l : List Tree) → ValuesAt rows ws value_row (length l) next l → i + length l ≡ n → next < length ws
        go [] g c = absurd (omega arith)
        go (t ∷ l) g c = value_in rows ws t l g

    pub values_turn :
        {mid1 mid2 : List ℕ} {start next2 place2 : ℕ} → i < n → Writes dry mid place (comma i) mid1 start
        → TreeWritten rows ws (next + 1) dry mid1 start mid2 next2 place2 → ValuesLeft (i + 1) next2 mid2 place2
    values_turn {mid1} {mid2} {start} {next2} {place2} h w t = go v.rest v.left v.count v.token v.owes
      where
        go : (l : List Tree) → ValuesAt rows ws value_row (length l) next l → i + length l ≡ n → next + length (each_words number value_row l) ≡ at + length (each_words number value_row vs)
            → Owes dry old to (tuple_parts 0 (displays vs) (tuple_closing n)) mid place (tuple_parts i (displays l) (tuple_closing n)) → ValuesLeft (i + 1) next2 mid2 place2
        go [] g c k o = absurd (omega arith)
        go (x ∷ l) g c k o =
            let p = t x (value_tree rows ws x l g) in
            let e : next + 1 + length (tokens number x) ≡ next2 = sym p.token in
            let more = tuple_parts (suc i) (displays l) (tuple_closing n) in
            let f : tuple_parts i (displays (x ∷ l)) (tuple_closing n) ≡ comma i ++ (display x ++ more) =
            ap (λ (d : List (List ℕ)). tuple_parts i d (tuple_closing n)) (displays_cons x l) ∙ parts_cons i (display x) (displays l) (tuple_closing n) in
            record {
              rest = l;
              left = subst (λ (j : ℕ). ValuesAt rows ws value_row (length l) j l) e (value_others rows ws x l g);
              count = omega arith;
              token = omega (arith, value_words rows ws x l g, e);
              owes = owes_as more (tuple_parts (i + 1) (displays l) (tuple_closing n)) (ap (λ (j : ℕ). tuple_parts j (displays l) (tuple_closing n)) (sym (add-one i)))
                  (owes_less (display x) more (owes_less (comma i) (display x ++ more) (owes_as (tuple_parts i (displays (x ∷ l)) (tuple_closing n)) (comma i ++ (display x ++ more)) f o) w) p.written);
            }

    pub values_end :
        {new : List ℕ} {e : ℕ} → n ≤ i → Writes dry mid place (tuple_closing n) new e → Passed dry old at to (each_words number value_row vs) (tuple_parts 0 (displays vs) (tuple_closing n)) new next e
    values_end {new} {e} h w = go v.rest v.count v.token v.owes
      where
        none : displays [] ≡ []
        none = unfold displays in refl

        go : (l : List Tree) → i + length l ≡ n → next + length (each_words number value_row l) ≡ at + length (each_words number value_row vs)
            → Owes dry old to (tuple_parts 0 (displays vs) (tuple_closing n)) mid place (tuple_parts i (displays l) (tuple_closing n)) → Passed dry old at to (each_words number value_row vs) (tuple_parts 0 (displays vs) (tuple_closing n)) new next e
        go [] c k o = record {
          token = omega (arith, ap length (each_none rows value_row));
          written = owes_as (tuple_parts i (displays []) (tuple_closing n)) (tuple_closing n) (ap (λ (d : List (List ℕ)). tuple_parts i d (tuple_closing n)) none ∙ parts_none i (tuple_closing n)) o new e w;
        }
        go (x ∷ l) c k o = absurd (omega arith)
