-- The flat call of extract from what its steps give (01, "Turned down": Extract): 8, 9, the rounds' 10, and the end after them. Assumes nothing.
use Prim.Native.Nat.{ℕ}
use mathlib.Core.Path.{◌≡◌, refl, sym, ◌∙◌, ap}
use mathlib.Core.Bool.{Bool, true, false, ◌||◌, cond}
use mathlib.Core.List.{List}
use lib.ListN.{length, drop}
use lib.Dec.{T, ltb}
use Rattle.spec_tree.specs.Outcome.{Refusal, Outcome, ok, refused, by, ◌>>=◌}
use Rattle.spec_tree.specs.Rows.{Table, trees}
use Rattle.spec_tree.specs.Layout.{table_of, laid_out, table_or_9}
use Rattle.spec_tree.specs.Tokens.{read, numbered, name_in, number_in}
use Rattle.spec_tree.proofs.TokenCode.{unnumbered}
use Rattle.spec_cse.specs.Answer.{rows}
use Rattle.spec_cse.specs.AnswerRows.{answer_words}
use Rattle.spec_cse.specs.Order.{topo_sort_intermediates}
use Rattle.spec_cse.specs.Scope.{Scoped, Work, unfused, finish, as_answer, answer}
use Rattle.spec_cse.specs.Call.{Extracted, work_words, work_bytes, extract_call}
use Rattle.laws.proofs.cse.Outcomes.{Good, then_good, any_good, good_at}
use Rattle.laws.specs.positions.Places.{divisors_to_bind}
use Rattle.laws.specs.positions.Rounds.{state_of}
use Rattle.laws.proofs.positions.RowNames.{tree_words}
use Rattle.laws.proofs.positions.Calls.{written}
use Rattle.laws.proofs.positions.FlatCall.{flat_end, flat_call}
use Rattle.rounds.proofs.kept.Looping.{ending}
use Rattle.reciprocals.specs.final.Final.{final_words, final_scope, rows_or_12, final_rows}
use Rattle.reciprocals.proofs.final.Flat.{flat_rows}
use Rattle.cse_flat.specs.refined.Parts.{extract_from}

-- ---- 8 and 9

module _ (scoped : Bool) (words_lent bytes_lent : ℕ) (rows roots : List ℕ) (lent : ℕ) where
  abbrev short : Bool
  short = ltb words_lent work_words || ltb bytes_lent work_bytes

  call_is : extract_call scoped words_lent bytes_lent rows roots lent ≡ cond short (refused (by 8)) (extract_from scoped rows roots lent)
  unfolding extract_call extract_from
  call_is = refl

  pub call_short : short ≡ true → extract_call scoped words_lent bytes_lent rows roots lent ≡ refused (by 8)
  call_short e = call_is ∙ ap (λ (b : Bool). cond b (refused (by 8)) (extract_from scoped rows roots lent)) e

  pub call_enough : short ≡ false → extract_call scoped words_lent bytes_lent rows roots lent ≡ extract_from scoped rows roots lent
  call_enough e = call_is ∙ ap (λ (b : Bool). cond b (refused (by 8)) (extract_from scoped rows roots lent)) e

  pub from_nine : laid_out rows roots ≡ false → extract_from scoped rows roots lent ≡ refused (by 9)
  unfolding extract_from table_or_9
  from_nine e =
      ap (λ (b : Bool). (cond b (ok (table_of rows roots)) (refused (by 9))) >>= λ t. answer scoped (trees t) >>= λ a. written (number_in t.rows) lent a) e

-- ---- the flat form after 9

module _ (rows roots : List ℕ) (lent : ℕ) (h : T (laid_out rows roots)) where
  abbrev t : Table
  t = table_of rows roots

  abbrev k : ℕ
  k = length (trees t)

  abbrev after : List ℕ → Outcome Extracted
  after vs = flat_end (name_in t.rows) k vs >>= λ a. ok (as_answer a) >>= λ a. written unnumbered lent a

  abbrev rounds_here : Outcome (List ℕ)
  rounds_here = ending t.rows false k 0 (tree_words t) (tree_words t)

  two_steps : (o : Outcome (List ℕ)) → ((o >>= λ vs. flat_end (name_in t.rows) k vs) >>= λ a. ok (as_answer a) >>= λ a. written unnumbered lent a) ≡ (o >>= λ vs. after vs)
  two_steps (ok vs) = refl
  two_steps (refused i) = refl

  from_words : extract_from false rows roots lent ≡ (rounds_here >>= λ vs. after vs)
  from_words = sym (call_enough false work_words work_bytes rows roots lent refl) ∙ flat_call work_words work_bytes rows roots lent refl h ∙ two_steps rounds_here

  pub flat_done : (vs : List ℕ) → rounds_here ≡ ok vs → extract_from false rows roots lent ≡ final_rows lent k (divisors_to_bind vs (name_in t.rows) false) vs
  flat_done vs e = from_words ∙ ap (λ (o : Outcome (List ℕ)). o >>= λ vs. after vs) e ∙ flat_rows (name_in t.rows) lent k vs

  pub flat_refused : (i : Refusal) → rounds_here ≡ refused i → extract_from false rows roots lent ≡ refused i
  flat_refused i e = from_words ∙ ap (λ (o : Outcome (List ℕ)). o >>= λ vs. after vs) e

-- ---- what the end counts as extracted is the bindings that were there before it

module _ (n : ℕ) where
  abbrev Counts : Scoped → Type 0
  Counts a = a.extracted ≡ n

  abbrev Counted : Extracted → Type 0
  Counted x = x.extracted ≡ n

  finish_counts : (w : Work) → w.extracted ≡ n → Good Counts (finish w)
  unfolding finish
  finish_counts w e =
      any_good Counts (topo_sort_intermediates w.inters) (λ l. ok (record { inters = l; results = w.results; next = w.next; extracted = w.extracted })) (λ l. unfold Good in e)

  rows_count : (lent : ℕ) (a : Scoped) → a.extracted ≡ n → Good Counted (rows_or_12 lent (as_answer a))
  unfolding rows_or_12 as_answer Good
  rows_count lent a e = go (ltb lent (rows (as_answer a)))
    where
      go : (b : Bool) → Good Counted (cond b (refused (by 12)) (ok (record { words = answer_words unnumbered (as_answer a); extracted = a.extracted })))
      go true = tt
      go false = e

pub final_counts :
    (lent k : ℕ) (places ws : List ℕ) (x : Extracted) → final_rows lent k places ws ≡ ok x → x.extracted ≡ length (drop k (read numbered ws))
unfolding final_rows final_scope unfused
final_counts lent k places ws x e =
    let n = length (drop k (read numbered ws)) in
    let w = unfused n (state_of k 0 (read numbered (final_words k places ws))) in
    good_at (Counted n) (finish w >>= λ a. ok (as_answer a) >>= λ a. rows_or_12 lent a) x e
    (then_good (Counts n) (Counted n) (finish w) (finish_counts n w refl) (λ a. ok (as_answer a) >>= λ a. rows_or_12 lent a) (λ a c. rows_count n lent a c))
