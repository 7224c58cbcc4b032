-- What the loop over a match's names keeps, and the texts of made names (Places, Writers). Assumes nothing.
use Prim.Native.Nat.{ℕ, suc, ◌+◌, ◌*◌, ◌/◌, ◌%◌, ◌≤◌, ◌<◌}
use native.Mathlib.Omega.{arith}
use native.Mathlib.Numerals.{add-one}
use mathlib.Core.Path.{◌≡◌, refl, sym, ap, ◌∙◌, subst}
use mathlib.Core.Bool.{Bool}
use mathlib.Core.List.{List, [], ◌∷◌, ◌++◌}
use lib.ListN.{length, get_or}
use lib.Dec.{T}
use Rattle.spec_tree.specs.Bytes.{decimal}
use Rattle.spec_tree.specs.Tree.{Name, xname, mname}
use Rattle.spec_tree.specs.Rows.{Row}
use Rattle.spec_tree.specs.Tokens.{number_in, name_by}
use Rattle.spec_tree.specs.text.Text.{name_text}
use Rattle.spec_cse.specs.Answer.{names_texts, tuple}
use Rattle.spec_cse.specs.AnswerRows.{names_words, match_names}
use Rattle.fmt.specs.emit.Writing.{Writes, low_bytes}
use Rattle.fmt.specs.symbols.Symbols.{symbol_text}
use Rattle.fmt.proofs.emit.WriteLaws.{writes_then, writes_as}
use Rattle.fmt.proofs.symbols.NameLaws.{low_decimal}
use Rattle.print.specs.told.Places.{At, NamesAt, Owes}
use Rattle.print.specs.told.Pieces.{tuple_opening, comma, tuple_closing, tuple_parts}
use Rattle.print.proofs.told.PieceLaws.{tuple_is}
use Rattle.print.proofs.told.PlaceLaws.{name_first}
use Rattle.print.proofs.told.LoopLaws.{owes_less, owes_as, parts_cons, parts_none}

-- ---- texts of made names

low_three : (a b c : ℕ) (l : List ℕ) → low_bytes l ≡ l → a < 256 → b < 256 → c < 256 → low_bytes (a ∷ (b ∷ (c ∷ l))) ≡ a ∷ (b ∷ (c ∷ l))
unfolding low_bytes
low_three a b c l e h j k =
    let x : a % 256 ≡ a = omega arith in
    let y : b % 256 ≡ b = omega arith in
    let z : c % 256 ≡ c = omega arith in
    rw (x, y, z) (ap (λ (r : List ℕ). a ∷ (b ∷ (c ∷ r))) e)

module _ (rows : List ℕ) (code x : ℕ) where
  let_symbol : code ≡ 1 + 3 * x → symbol_text rows code ≡ 95 ∷ (95 ∷ (120 ∷ decimal x))
  unfolding symbol_text name_by name_text
  let_symbol h =
      let c : code % 3 ≡ 1 = omega arith in
      let d : code / 3 ≡ x = omega arith in
      rw (c, d)

  match_symbol : code ≡ 2 + 3 * x → symbol_text rows code ≡ 95 ∷ (95 ∷ (109 ∷ decimal x))
  unfolding symbol_text name_by name_text
  match_symbol h =
      let c : code % 3 ≡ 2 = omega arith in
      let d : code / 3 ≡ x = omega arith in
      rw (c, d)

  pub let_name_text : code ≡ 1 + 3 * x → low_bytes (symbol_text rows code) ≡ name_text (xname x)
  unfolding name_text
  let_name_text h = ap low_bytes (let_symbol h) ∙ low_three 95 95 120 (decimal x) (low_decimal x) (omega arith) (omega arith) (omega arith)

  pub match_name_text : code ≡ 2 + 3 * x → low_bytes (symbol_text rows code) ≡ name_text (mname x)
  unfolding name_text
  match_name_text h = ap low_bytes (match_symbol h) ∙ low_three 95 95 109 (decimal x) (low_decimal x) (omega arith) (omega arith) (omega arith)

-- ---- the names of a match

texts_cons : (n : Name) (l : List Name) → names_texts (n ∷ l) ≡ name_text n ∷ names_texts l
unfolding names_texts
texts_cons n l = refl

texts_long : (l : List Name) → length (names_texts l) ≡ length l
texts_long [] = unfold names_texts in refl
texts_long (n ∷ l) = ap length (texts_cons n l) ∙ ap suc (texts_long l)

module _ (rows : List Row) (ws : List ℕ) (n at : ℕ) (dry : Bool) (old : List ℕ) (to : ℕ) (ns : List Name) where
  pub record NamesLeft (i : ℕ) (mid : List ℕ) (place : ℕ) : Type 0 where
    pub rest : List Name
    pub made : T (match_names rest)
    pub here : At ws (at + i) (names_words (number_in rows) rest)
    pub count : i + length rest ≡ n
    pub owes : Owes dry old to (tuple_parts 0 (names_texts ns) (tuple_closing n)) mid place (tuple_parts i (names_texts rest) (tuple_closing n))

  -- with what was written before the loop
  pub names_whole :
      {new : List ℕ} {e : ℕ} (old0 : List ℕ) (to0 : ℕ) → NamesAt rows ws n at ns → Writes dry old0 to0 (tuple_opening n) old to
      → Writes dry old to (tuple_parts 0 (names_texts ns) (tuple_closing n)) new e → Writes dry old0 to0 (tuple (names_texts ns)) new e
  names_whole old0 to0 h w p =
      let c : length (names_texts ns) ≡ n = texts_long ns ∙ h.count in
      let e : tuple (names_texts ns) ≡ tuple_opening n ++ tuple_parts 0 (names_texts ns) (tuple_closing n) =
      tuple_is (names_texts ns) ∙ ap (λ (k : ℕ). tuple_opening k ++ tuple_parts 0 (names_texts ns) (tuple_closing k)) c in
      writes_as (tuple_opening n ++ tuple_parts 0 (names_texts ns) (tuple_closing n)) (tuple (names_texts ns)) (sym e) (writes_then w p)

  module _ {i : ℕ} {mid : List ℕ} {place : ℕ} (v : NamesLeft i mid place) where
    pub names_inside : i < n → at + i < length ws
    names_inside h = go v.rest v.made v.here v.count
      where
        go : (l : List Name) → T (match_names l) → At ws (at + i) (names_words (number_in rows) l) → i + length l ≡ n → at + i < length ws
        go [] m g c = absurd (omega arith)
        go (x ∷ l) m g c = (name_first rows ws x l m g).inside

    pub names_turn :
        (node : List ℕ) {mid1 mid2 : List ℕ} {start place2 : ℕ} → i < n → Writes dry mid place (comma i) mid1 start
        → Writes dry mid1 start (low_bytes (symbol_text node (get_or ws (at + i) 0 / 64))) mid2 place2 → NamesLeft (i + 1) mid2 place2
    names_turn node {mid1} {mid2} {start} {place2} h w t = go v.rest v.made v.here v.count v.owes
      where
        go : (l : List Name) → T (match_names l) → At ws (at + i) (names_words (number_in rows) l) → i + length l ≡ n
            → Owes dry old to (tuple_parts 0 (names_texts ns) (tuple_closing n)) mid place (tuple_parts i (names_texts l) (tuple_closing n)) → NamesLeft (i + 1) mid2 place2
        go [] m g c o = absurd (omega arith)
        go (x ∷ l) m g c o =
            let f = name_first rows ws x l m g in
            let s : low_bytes (symbol_text node (get_or ws (at + i) 0 / 64)) ≡ name_text x = match_name_text node (get_or ws (at + i) 0 / 64) f.made f.code ∙ ap name_text (sym f.name) in
            let more = tuple_parts (suc i) (names_texts l) (tuple_closing n) in
            let q : tuple_parts i (names_texts (x ∷ l)) (tuple_closing n) ≡ comma i ++ (name_text x ++ more) =
            ap (λ (d : List (List ℕ)). tuple_parts i d (tuple_closing n)) (texts_cons x l) ∙ parts_cons i (name_text x) (names_texts l) (tuple_closing n) in
            let z : at + i + 1 ≡ at + (i + 1) = omega arith in
            record {
              rest = l;
              made = f.others;
              here = subst (λ (j : ℕ). At ws j (names_words (number_in rows) l)) z f.after;
              count = omega arith;
              owes = owes_as more (tuple_parts (i + 1) (names_texts l) (tuple_closing n)) (ap (λ (j : ℕ). tuple_parts j (names_texts l) (tuple_closing n)) (sym (add-one i)))
                  (owes_less (name_text x) more (owes_less (comma i) (name_text x ++ more) (owes_as (tuple_parts i (names_texts (x ∷ l)) (tuple_closing n)) (comma i ++ (name_text x ++ more)) q o) w)
                  (writes_as (low_bytes (symbol_text node (get_or ws (at + i) 0 / 64))) (name_text x) s t));
            }

    pub names_end : {new : List ℕ} {e : ℕ} → n ≤ i → Writes dry mid place (tuple_closing n) new e → Writes dry old to (tuple_parts 0 (names_texts ns) (tuple_closing n)) new e
    names_end {new} {e} h w = go v.rest v.count v.owes
      where
        none : names_texts [] ≡ []
        none = unfold names_texts in refl

        go : (l : List Name) → i + length l ≡ n → Owes dry old to (tuple_parts 0 (names_texts ns) (tuple_closing n)) mid place (tuple_parts i (names_texts l) (tuple_closing n)) → Writes dry old to (tuple_parts 0 (names_texts ns) (tuple_closing n)) new e
        go [] c o = owes_as (tuple_parts i (names_texts []) (tuple_closing n)) (tuple_closing n) (ap (λ (d : List (List ℕ)). tuple_parts i d (tuple_closing n)) none ∙ parts_none i (tuple_closing n)) o new e w
        go (x ∷ l) c o = absurd (omega arith)
