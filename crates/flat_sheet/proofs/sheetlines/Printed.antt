-- What `csesheet` prints is what its definition says, for every sheet: with 1,024 rows, 64 places, the work area's length and 67,328 answer rows lent, the lines of the answer's
-- rows one after another, each in 34,857 bytes, or the line for the refusal (01, "Sheet and printing"). With fewer answer rows lent the line for any refusal but 12 is, and so
-- is what print gives of the rows, unless it refuses. Assumes nothing.
use Prim.Native.Nat.{ℕ, zero, suc, ◌≤◌, ◌<◌, ◌^◌, ◌/◌}
use native.Mathlib.Omega.{arith}
use mathlib.Core.Path.{◌≡◌, refl, sym, ap, ap₂, ◌∙◌, subst}
use mathlib.Core.Bool.{Bool, true, false, cond, ◌&&◌}
use mathlib.Core.Option.{some}
use mathlib.Core.List.{List, [], ◌∷◌, ◌++◌}
use lib.ListN.{length, get_or, take, drop}
use lib.Seq.{take-append_seam}
use lib.Dec.{T, ltb}
use Rattle.spec_tree.specs.Outcome.{Refusal, Outcome, ok, refused, by, ◌>>=◌}
use Rattle.spec_tree.specs.Tree.{Tree}
use Rattle.spec_tree.specs.Rows.{Table, trees}
use Rattle.spec_tree.specs.Layout.{row_width, rows_of, table_words, table_of, in_domain, sheet_fits, loadable, laid_out, table_or_9}
use Rattle.spec_tree.specs.Passes.{trees_ok}
use Rattle.spec_tree.specs.Tokens.{number_in}
use Rattle.spec_tree.proofs.Logic.{and_left, and_right}
use Rattle.spec_tree.proofs.LayoutLaws.{table_back, laid_out_complete}
use Rattle.spec_sheet.specs.Sheet.{load}
use Rattle.spec_sheet.specs.Call.{load_call, rows_after}
use Rattle.spec_sheet.proofs.Loaded.{loaded_loadable}
use Rattle.spec_sheet.proofs.SheetPasses.{accepted_passes}
use Rattle.spec_cse.specs.Answer.{Intermediates, Answer, Let, Match, end, step, answer_text, rows}
use Rattle.spec_cse.specs.AnswerRows.{answer_words, intermediates_ok, references_ok}
use Rattle.spec_cse.specs.Scope.{answer}
use Rattle.spec_cse.specs.Call.{Extracted, extract_call, table_after}
use Rattle.guarantee.proofs.Whole.{flat_refused_by_10}
use Rattle.fmt.specs.checked.Check.{rows_in}
use Rattle.spec_program.specs.Print.{print_call}
use Rattle.spec_program.specs.Program.{reply, written, csesheet}
use Rattle.guarantee.proofs.passing.Passed.{table_answer_passes}
use Rattle.guarantee.proofs.passing.Enough.{flat_call, flat_call_rows}
use Rattle.guarantee.proofs.passing.Printed.{table_printed}
use Rattle.guarantee.proofs.passing.FlatTrees.{Small, SmallLets, flat_trees_small}
use Rattle.laws.proofs.cse.ReciprocalsCount.{AllTrees}
use Rattle.print.specs.lines.Line.{lines_from, FewLets, Few}
use Rattle.print.specs.lines.Refusal.{refusal_text}
use Rattle.print.proofs.lines.Flat.{flat_lines}
use Rattle.flat_sheet.specs.FlatSheet.{extracted_from, from_extract, Flattened}
use Rattle.flat_sheet.specs.Flat.{Flat}
use Rattle.flat_sheet.specs.Flat as flat
use Rattle.flat_sheet.specs.sheetlines.Says.{Says}

-- ---- the definition, by cases

abbrev rest : Table → Outcome (List ℕ)
rest t = answer false (trees t) >>= λ a. ok (answer_text a)

sheet_is : (sheet : List ℕ) → csesheet sheet ≡ reply (load 1024 64 sheet >>= rest)
unfolding csesheet written
sheet_is sheet = refl

line_is : (r : Refusal) → refusal_text r.number r.place ≡ reply (refused r)
unfolding refusal_text
line_is r = refl

text_is : (text : List ℕ) → reply (ok text) ≡ text
unfolding reply
text_is text = refl

-- ---- few nodes, and words of 64 bits

few_lets : (l : Intermediates) → SmallLets l → FewLets l
few_lets end h = tt
few_lets (step (Let n e) l) h = (h.0, few_lets l h.1)
few_lets (step (Match k key ns arms) l) h = absurd h

few : (l : List Tree) → AllTrees Small l → Few l
few [] h = tt
few (t ∷ l) h = (h.0, few l h.1)

-- the words of a slice, and so those in front of it
abbrev Words : List ℕ → Type 0
Words l = (i : ℕ) → get_or l i 0 < 2 ^ 64

words_front : (k : ℕ) (l : List ℕ) → Words l → Words (take k l)
words_front zero l h i = omega arith
words_front (suc k) [] h i = h i
words_front (suc k) (w ∷ l) h zero = h zero
words_front (suc k) (w ∷ l) h (suc i) = words_front k l (λ j. h (suc j)) i

-- ---- a table that was loaded

module _ (sheet : List ℕ) (t : Table) (e : load 1024 64 sheet ≡ ok t) where
  loads : T (loadable t)
  loads = loaded_loadable 1024 64 sheet t e

  in_limits : T (in_domain t)
  unfolding loadable
  in_limits = and_left (in_domain t) (sheet_fits t) loads

  is_table : table_of (table_words t.rows) t.roots ≡ t
  is_table = table_back t in_limits

  rows_same : rows_in (table_words t.rows) ≡ t.rows
  unfolding table_of
  rows_same = ap (λ (u : Table). u.rows) is_table

  is_given : table_or_9 (table_words t.rows) t.roots ≡ ok t
  unfolding table_or_9
  is_given = go (laid_out (table_words t.rows) t.roots) (laid_out_complete (table_words t.rows) t.roots (record { table = t; loads = loads; words = refl; roots = refl }))
    where
      go : (b : Bool) → T b → cond b (ok (table_of (table_words t.rows) t.roots)) (refused (by 9)) ≡ ok t
      go true k = ap ok is_table
      go false k = absurd k

  abbrev given : Answer → Outcome Extracted
  given a = ok (record { words = answer_words (number_in t.rows) a; extracted = a.extracted })

  abbrev given_by : Outcome Table → Outcome Extracted
  given_by o = o >>= λ u. answer false (trees u) >>= λ a. ok (record { words = answer_words (number_in u.rows) a; extracted = a.extracted })

  call_is : flat_call 65536 131072 (table_words t.rows) t.roots ≡ given_by (table_or_9 (table_words t.rows) t.roots)
  unfolding flat_call
  call_is = refl

  extracted_is : (lent : ℕ) → 67328 ≤ lent → extracted_from 65536 131072 lent t ≡ (answer false (trees t) >>= given)
  unfolding extracted_from
  extracted_is lent h = flat_call_rows (table_words t.rows) t.roots lent h 65536 131072 ∙ (call_is ∙ ap given_by is_given)

  -- with any number of rows lent
  abbrev given_in : ℕ → Answer → Outcome Extracted
  given_in lent a = cond (ltb lent (rows a)) (refused (by 12)) (given a)

  abbrev given_in_by : ℕ → Outcome Table → Outcome Extracted
  given_in_by lent o = o >>= λ u. answer false (trees u) >>= λ a. cond (ltb lent (rows a)) (refused (by 12)) (ok (record { words = answer_words (number_in u.rows) a; extracted = a.extracted }))

  extracted_in : (lent : ℕ) → extracted_from 65536 131072 lent t ≡ (answer false (trees t) >>= given_in lent)
  unfolding extracted_from extract_call
  extracted_in lent = ap (given_in_by lent) is_given

  text_of_sheet : (a : Answer) → answer false (trees t) ≡ ok a → csesheet sheet ≡ answer_text a
  text_of_sheet a f = sheet_is sheet ∙ (ap (λ (x : Outcome Table). reply (x >>= rest)) e ∙ (ap (λ (x : Outcome Answer). reply (x >>= λ b. ok (answer_text b))) f ∙ text_is (answer_text a)))

  front : (l old : List ℕ) → take (length l) (l ++ drop (length l) old) ≡ l
  front l old = take-append_seam l (drop (length l) old)

  module _ (old_rows old_table new_rows new_table : List ℕ) (small : Words new_table) (rows_are : new_rows ≡ rows_after (ok t) old_rows) where
    node_is : take (length (table_words t.rows)) new_rows ≡ table_words t.rows
    unfolding rows_after
    node_is = ap (take (length (table_words t.rows))) rows_are ∙ front (table_words t.rows) old_rows

    -- by the outcome of the flat form
    by_answer :
        (o : Outcome Answer) → answer false (trees t) ≡ o → new_table ≡ table_after (o >>= given) old_table
        → Says sheet (from_extract (length (table_words t.rows)) (o >>= given)) new_rows new_table
    unfolding table_after
    by_answer (refused i) f g =
        let z = flat_refused_by_10 (trees t) (accepted_passes 1024 64 sheet t e) i f in
        let w : csesheet sheet ≡ reply (refused i) = sheet_is sheet ∙ (ap (λ (x : Outcome Table). reply (x >>= rest)) e ∙ ap (λ (x : Outcome Answer). reply (x >>= λ a. ok (answer_text a))) f) in
        let p : i.place ≡ 0 = ap (λ (r : Refusal). r.place) z in
        ap (refusal_text i.number) (sym p) ∙ (line_is i ∙ sym w)
    by_answer (ok a) f g = λ lent fuel room m.
        let words = answer_words (number_in t.rows) a in
        let node = table_words t.rows in
        let P = (table_answer_passes t (accepted_passes 1024 64 sheet t e) false a f).0 in
        let o = and_left (intermediates_ok a.inters) (trees_ok a.results && references_ok t.rows a) P in
        let v = and_left (trees_ok a.results) (references_ok t.rows a) (and_right (intermediates_ok a.inters) (trees_ok a.results && references_ok t.rows a) P) in
        let q : take (length words) new_table ≡ words = ap (take (length words)) g ∙ front words old_table in
        let w = text_of_sheet a f in
        let s = flat_trees_small (trees t) (accepted_passes 1024 64 sheet t e) a f in
        let z : Words words = subst Words q (words_front (length words) new_table small) in
        ap₂ (λ (x y : List ℕ). lines_from lent fuel x y 0) node_is q
        ∙ (flat_lines t a lent node fuel room z rows_same f o v (few_lets a.inters s.0) (few a.results s.1) m ∙ ap some (sym w))

  -- what print gives of the rows, where so many are lent
  is_rows : rows_of (length (table_words t.rows) / row_width) (table_words t.rows) ≡ t.rows
  unfolding table_of
  is_rows = ap (λ (u : Table). u.rows) is_table

  printed_is : (bytes : ℕ) (text : List ℕ) (a : Answer) → answer false (trees t) ≡ ok a → print_call (table_words t.rows) (answer_words (number_in t.rows) a) bytes ≡ ok text → text ≡ csesheet sheet
  printed_is bytes text a f p =
      go (ltb bytes (length (answer_text a))) (sym (table_printed t (accepted_passes 1024 64 sheet t e) false a f (table_words t.rows) is_rows bytes) ∙ p)
    where
      go : (b : Bool) → cond b (refused (by 14)) (ok (answer_text a)) ≡ ok text → text ≡ csesheet sheet
      go true h = absurd (let z : ◌≡◌ {A = ℕ} 0 1 = cc in omega arith)
      go false h = let z : text ≡ answer_text a = cc in z ∙ sym (text_of_sheet a f)

  module _ (old_rows old_table new_rows new_table : List ℕ) (rows_are : new_rows ≡ rows_after (ok t) old_rows) (lent bytes n k : ℕ) (text : List ℕ) (p : print_call (take n new_rows) (take k new_table) bytes ≡ ok text) where
    by_print :
        (o : Outcome Answer) → answer false (trees t) ≡ o → new_table ≡ table_after (o >>= given_in lent) old_table
        → flat.Rows n k ≡ from_extract (length (table_words t.rows)) (o >>= given_in lent) → text ≡ csesheet sheet
    unfolding table_after rows_after
    by_print (refused i) f g h = absurd (let z : ◌≡◌ {A = ℕ} 0 1 = cc in omega arith)
    by_print (ok a) f g h = go (ltb lent (rows a)) g h
      where
        go : (b : Bool) → new_table ≡ table_after (cond b (refused (by 12)) (given a)) old_table → flat.Rows n k ≡ from_extract (length (table_words t.rows)) (cond b (refused (by 12)) (given a)) → text ≡ csesheet sheet
        go true x y = absurd (let z : ◌≡◌ {A = ℕ} 0 1 = cc in omega arith)
        go false x y =
            let node : n ≡ length (table_words t.rows) = cc in
            let long : k ≡ length (answer_words (number_in t.rows) a) = cc in
            let u : take n new_rows ≡ table_words t.rows = ap₂ take node rows_are ∙ front (table_words t.rows) old_rows in
            let v : take k new_table ≡ answer_words (number_in t.rows) a = ap₂ take long x ∙ front (answer_words (number_in t.rows) a) old_table in
            printed_is bytes text a f (sym (ap₂ (λ (i j : List ℕ). print_call i j bytes) u v) ∙ p)

  -- the line for a refusal, but for 12
  by_line :
      (lent number place : ℕ) (o : Outcome Answer) → answer false (trees t) ≡ o → flat.Refused number place ≡ from_extract (length (table_words t.rows)) (o >>= given_in lent)
      → (number ≡ 12 → ⊥) → refusal_text number place ≡ csesheet sheet
  by_line lent number place (refused i) f h other =
      let z = flat_refused_by_10 (trees t) (accepted_passes 1024 64 sheet t e) i f in
      let w : csesheet sheet ≡ reply (refused i) = sheet_is sheet ∙ (ap (λ (x : Outcome Table). reply (x >>= rest)) e ∙ ap (λ (x : Outcome Answer). reply (x >>= λ a. ok (answer_text a))) f) in
      let q : number ≡ i.number = cc in
      let r : place ≡ i.place = (let y : place ≡ 0 = cc in y ∙ sym (ap (λ (r : Refusal). r.place) z)) in
      ap₂ refusal_text q r ∙ (line_is i ∙ sym w)
  by_line lent number place (ok a) f h other = go (ltb lent (rows a)) h
    where
      go : (b : Bool) → flat.Refused number place ≡ from_extract (length (table_words t.rows)) (cond b (refused (by 12)) (given a)) → refusal_text number place ≡ csesheet sheet
      go true y = absurd (other cc)
      go false y = absurd (let z : ◌≡◌ {A = ℕ} 0 1 = cc in omega arith)

-- ---- every sheet

load_is : (sheet : List ℕ) → load_call 35840 64 sheet ≡ load 1024 64 sheet
unfolding load_call
load_is sheet = refl

module _ (sheet old_rows old_roots old_table : List ℕ) (lent : ℕ) (h : 67328 ≤ lent) (r : Flat) (new_rows new_roots new_table : List ℕ) (small : (i : ℕ) → get_or new_table i 0 < 2 ^ 64) where
  by_load : (o : Outcome Table) → load 1024 64 sheet ≡ o → Flattened o (extracted_from 65536 131072 lent) old_rows old_roots old_table r new_rows new_roots new_table → Says sheet r new_rows new_table
  by_load (refused i) e F =
      let w : csesheet sheet ≡ reply (refused i) = sheet_is sheet ∙ ap (λ (x : Outcome Table). reply (x >>= rest)) e in
      subst (λ (x : Flat). Says sheet x new_rows new_table) (sym F.answer_is) (line_is i ∙ sym w)
  by_load (ok t) e F =
      let x = extracted_is sheet t e lent h in
      let a : r ≡ from_extract (length (table_words t.rows)) (answer false (trees t) >>= given sheet t e) = F.answer_is ∙ ap (from_extract (length (table_words t.rows))) x in
      let b : new_table ≡ table_after (answer false (trees t) >>= given sheet t e) old_table = F.table_is ∙ ap (λ (y : Outcome Extracted). table_after y old_table) x in
      subst (λ (y : Flat). Says sheet y new_rows new_table) (sym a) (by_answer sheet t e old_rows old_table new_rows new_table small F.rows_are (answer false (trees t)) refl b)

  -- the lines, or the line for the refusal, are what the program is defined to print
  pub says : Flattened (load_call 35840 64 sheet) (extracted_from 65536 131072 lent) old_rows old_roots old_table r new_rows new_roots new_table → Says sheet r new_rows new_table
  says F = by_load (load 1024 64 sheet) refl (subst (λ (o : Outcome Table). Flattened o (extracted_from 65536 131072 lent) old_rows old_roots old_table r new_rows new_roots new_table) (load_is sheet) F)

-- ---- with any number of rows lent

module _ (sheet old_rows old_roots old_table : List ℕ) (lent : ℕ) (new_rows new_roots new_table : List ℕ) where
  abbrev Left : Outcome Table → Flat → Type 0
  Left o r = Flattened o (extracted_from 65536 131072 lent) old_rows old_roots old_table r new_rows new_roots new_table

  text_by_load : (bytes n k : ℕ) (text : List ℕ) → print_call (take n new_rows) (take k new_table) bytes ≡ ok text → (o : Outcome Table) → load 1024 64 sheet ≡ o → Left o (flat.Rows n k) → text ≡ csesheet sheet
  text_by_load bytes n k text p (refused i) e F = absurd (let g = F.answer_is in let z : ◌≡◌ {A = ℕ} 0 1 = cc in omega arith)
  text_by_load bytes n k text p (ok t) e F =
      let x = extracted_in sheet t e lent in
      let a = F.answer_is ∙ ap (from_extract (length (table_words t.rows))) x in
      let b = F.table_is ∙ ap (λ (y : Outcome Extracted). table_after y old_table) x in
      by_print sheet t e old_rows old_table new_rows new_table F.rows_are lent bytes n k text p (answer false (trees t)) refl b a

  -- what print gives of the rows is what the program is defined to print
  pub prints : (bytes n k : ℕ) (text : List ℕ) → Left (load_call 35840 64 sheet) (flat.Rows n k) → print_call (take n new_rows) (take k new_table) bytes ≡ ok text → text ≡ csesheet sheet
  prints bytes n k text F p = text_by_load bytes n k text p (load 1024 64 sheet) refl (subst (λ (o : Outcome Table). Left o (flat.Rows n k)) (load_is sheet) F)

  line_by_load : (number place : ℕ) → (number ≡ 12 → ⊥) → (o : Outcome Table) → load 1024 64 sheet ≡ o → Left o (flat.Refused number place) → refusal_text number place ≡ csesheet sheet
  line_by_load number place other (refused i) e F =
      let g = F.answer_is in
      let q : number ≡ i.number = cc in
      let r : place ≡ i.place = cc in
      let w : csesheet sheet ≡ reply (refused i) = sheet_is sheet ∙ ap (λ (x : Outcome Table). reply (x >>= rest)) e in
      ap₂ refusal_text q r ∙ (line_is i ∙ sym w)
  line_by_load number place other (ok t) e F =
      by_line sheet t e lent number place (answer false (trees t)) refl (F.answer_is ∙ ap (from_extract (length (table_words t.rows))) (extracted_in sheet t e lent)) other

  -- and so is the line for a refusal, but for 12
  pub says_refused : (number place : ℕ) → (number ≡ 12 → ⊥) → Left (load_call 35840 64 sheet) (flat.Refused number place) → refusal_text number place ≡ csesheet sheet
  says_refused number place other F = line_by_load number place other (load 1024 64 sheet) refl (subst (λ (o : Outcome Table). Left o (flat.Refused number place)) (load_is sheet) F)
