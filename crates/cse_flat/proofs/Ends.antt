-- What the flat form answers and leaves, by what unfolding, the rounds and the end answer (01, "Turned down": Extract). Assumes nothing.
use Rattle.std.specs.Prelude.{Result, Ok, Err}
use Prim.Native.Nat.{ℕ, ◌+◌, ◌≤◌}
use mathlib.Core.Path.{◌≡◌, refl, sym, ◌∙◌, ap, subst}
use mathlib.Core.Bool.{Bool, true, false, ◌||◌}
use mathlib.Core.List.{List}
use lib.ListN.{length, take, drop}
use lib.Seq.{length-take-le}
use lib.Dec.{T, ltb}
use Rattle.refusal.specs.declared.Refusal.{Refusal as RefusalName}
use Rattle.refusal.specs.Numbers.{number_of}
use Rattle.spec_tree.specs.Outcome.{Refusal, Outcome, ok, refused, by}
use Rattle.spec_tree.specs.Layout.{table_of, laid_out}
use Rattle.spec_tree.specs.Tokens.{read, numbered}
use Rattle.spec_cse.specs.Call.{Extracted, work_words, work_bytes, extract_call, table_after}
use Rattle.fmt.specs.checked.Check.{rows_in}
use Rattle.laws.proofs.positions.RowNames.{tree_words}
use Rattle.reciprocals.specs.final.Final.{final_rows}
use Rattle.cse_flat.specs.ending.Answers.{finish_outcome, trees_there, room_for, Tested, Ended, Broken, NoRoom, tested, finishing}
use Rattle.cse_flat.specs.declared.ending.FinishError.{FinishError}
use Rattle.cse_flat.specs.declared.ending.FinishError.TheVariants as finish_error
use Rattle.cse_flat.specs.refined.Parts.{extract_from}
use Rattle.cse_flat.proofs.refined.Ending.{call_short, call_enough, from_nine, final_counts}
use Rattle.cse_flat.proofs.refined.Flat.{flat_ten}
use Rattle.cse_flat.proofs.refined.Finishing.{finishes, flat_trees_there, flat_room_for, flat_fits, flat_bindings, flat_outcome}
use Rattle.cse_flat.specs.Extraction.{Extraction}
use Rattle.cse_flat.specs.Extraction as extraction
use Rattle.cse_flat.specs.Answers.{extraction_answer, Lists}
use Rattle.cse_flat.specs.declared.Listed.{Listed}
use Rattle.replace.specs.declared.NotConstant.{NotConstant}

-- what a function answers and leaves in the table, from what the definition gives
abbrev pub AnswersBy : Outcome Extracted → List ℕ → Extraction → List ℕ → Type 0
AnswersBy o old r new = (r ≡ extraction_answer o) × (new ≡ table_after o old)

pub refuses : (o : Outcome Extracted) (i : Refusal) → o ≡ refused i → (old : List ℕ) → AnswersBy o old (extraction.Refused i.number) old
unfolding extraction_answer table_after
refuses o i e old = subst (λ (o : Outcome Extracted). AnswersBy o old (extraction.Refused i.number) old) (sym e) (refl, refl)

-- by another name of the number
pub refuses_so : (o : Outcome Extracted) (old : List ℕ) (p q : ℕ) → p ≡ q → AnswersBy o old (extraction.Refused p) old → AnswersBy o old (extraction.Refused q) old
refuses_so o old p q e = subst (λ (n : ℕ). AnswersBy o old (extraction.Refused n) old) e

-- ---- the end, by what it answers

module _ (ws : List ℕ) (k : ℕ) (places table : List ℕ) (made : ℕ) where
  abbrev final : Outcome Extracted
  final = final_rows (length table) k places ws

  module _ (there : T (trees_there ws k places) × T (room_for ws k places)) (count : made ≡ length (drop k (read numbered ws))) (f : Result ℕ FinishError) (new : List ℕ)
      (given : (tested f ≡ (finishing ws k places table).answer) × (new ≡ (finishing ws k places table).table)) where
    abbrev By : Tested → Type 0
    By (Ended (Ok n)) = AnswersBy final table (extraction.Rows n made) new
    By (Ended (Err q)) = AnswersBy final table (extraction.Refused q) new
    By Broken = ⊥
    By NoRoom = ⊥

    by_outcome : (o : Outcome Extracted) → final ≡ o → new ≡ (finish_outcome o table).table → By (Ended (finish_outcome o table).answer)
    unfolding finish_outcome extraction_answer table_after
    by_outcome (ok x) e t =
        subst (λ (o : Outcome Extracted). AnswersBy o table (extraction.Rows (length x.words) made) new) (sym e)
        (ap (extraction.Rows (length x.words)) (count ∙ sym (final_counts (length table) k places ws x e)), t)
    by_outcome (refused i) e t = subst (λ (o : Outcome Extracted). AnswersBy o table (extraction.Refused i.number) new) (sym e) (refl, t)

    ended : By (tested f)
    ended =
        let e = finishes ws k places table there.0 there.1 in
        subst By (sym (given.0 ∙ e.0)) (by_outcome final refl (given.1 ∙ e.1))

    ended_as : (r : Result ℕ FinishError) → f ≡ r → By (tested r)
    ended_as r e = subst (λ (r : Result ℕ FinishError). By (tested r)) e ended

    pub ends_in_rows : (n : ℕ) → f ≡ Ok n → AnswersBy final table (extraction.Rows n made) new
    ends_in_rows n e = ended_as (Ok n) e

    pub ends_refused : (q : RefusalName) → f ≡ Err (finish_error.Refused q) → AnswersBy final table (extraction.Refused (number_of q)) new
    ends_refused q e = ended_as (Err (finish_error.Refused q)) e

    pub never_broken : f ≡ Err finish_error.Broken → ⊥
    never_broken e = ended_as (Err finish_error.Broken) e

    pub never_roomless : f ≡ Err finish_error.NoRoom → ⊥
    never_roomless e = ended_as (Err finish_error.NoRoom) e

-- ---- the flat form

pub is_nine : (rows roots table : List ℕ) → laid_out rows roots ≡ false → AnswersBy (extract_from false rows roots (length table)) table (extraction.Refused 9) table
is_nine rows roots table e = refuses (extract_from false rows roots (length table)) (by 9) (from_nine false 0 0 rows roots (length table) e) table

module _ (rows roots table : List ℕ) (h : T (laid_out rows roots)) (ws : List ℕ) (same : ws ≡ tree_words (table_of rows roots)) where
  abbrev lent : ℕ
  lent = length table

  abbrev outcome : Outcome Extracted
  outcome = extract_from false rows roots lent

  module _ (r : Result Listed NotConstant) (tokens places : List ℕ) (lists : Lists (rows_in rows) false 0 ws r tokens places) where
    pub stops_at_10 : (e : NotConstant) → r ≡ Err e → AnswersBy outcome table (extraction.Refused 10) table
    stops_at_10 n e =
        let l = subst (λ (q : Result Listed NotConstant). Lists (rows_in rows) false 0 ws q tokens places) e lists in
        refuses outcome (by 10) (flat_ten rows roots lent h ws same l.0 l.1) table

  module _ (r : Result Listed NotConstant) (tokens places : List ℕ) (lists : Lists (rows_in rows) false 0 ws r tokens places) (all : Listed) (is_listed : r ≡ Ok all) where
    abbrev n : ℕ
    n = all.words

    abbrev m : ℕ
    m = all.made

    abbrev d : ℕ
    d = all.divisors

    l : Lists (rows_in rows) false 0 ws (Ok all) tokens places
    l = subst (λ (q : Result Listed NotConstant). Lists (rows_in rows) false 0 ws q tokens places) is_listed lists

    pub words_there : n ≤ length tokens
    words_there = l.3

    pub words_long : n ≡ length (take n tokens)
    words_long = sym (length-take-le n tokens words_there)

    pub places_there : d ≤ length places
    places_there = l.4

    pub places_long : d ≡ length (take d places)
    places_long = sym (length-take-le d places places_there)

    pub finish_there : T (trees_there (take n tokens) (length roots) (take d places)) × T (room_for (take n tokens) (length roots) (take d places))
    finish_there = (flat_trees_there rows roots lent h ws same n m d tokens places l, flat_room_for rows roots lent h ws same n m d tokens places l)

    pub finish_room : (length (take n tokens) ≤ length ws) × (length (drop (length roots) (read numbered (take n tokens))) + length (take d places) ≤ length ws)
    finish_room = flat_fits rows roots lent h ws same n m d tokens places l

    pub finish_counts : m ≡ length (drop (length roots) (read numbered (take n tokens)))
    finish_counts = flat_bindings rows roots lent h ws same n m d tokens places l

    pub ends_so : (r : Extraction) (new : List ℕ) → AnswersBy (final_rows lent (length roots) (take d places) (take n tokens)) table r new → AnswersBy outcome table r new
    ends_so r new a = subst (λ (o : Outcome Extracted). AnswersBy o table r new) (sym (flat_outcome rows roots lent h ws same n m d tokens places l)) a

-- ---- the whole

module _ (rows roots : List ℕ) (words bytes : ℕ) (table : List ℕ) where
  abbrev call : Outcome Extracted
  call = extract_call false words bytes rows roots (length table)

  abbrev short : Bool
  short = ltb words work_words || ltb bytes work_bytes

  pub is_eight : short ≡ true → AnswersBy call table (extraction.Refused 8) table
  is_eight e = refuses call (by 8) (call_short false words bytes rows roots (length table) e) table

  pub is_rest :
      short ≡ false → (r : Extraction) (new : List ℕ) → AnswersBy (extract_from false rows roots (length table)) table r new → AnswersBy call table r new
  is_rest e r new h = subst (λ (o : Outcome Extracted). AnswersBy o table r new) (sym (call_enough false words bytes rows roots (length table) e)) h
