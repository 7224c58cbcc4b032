-- What print returns and leaves, from what the check, the measuring and the writing told (Print, Printing). Assumes nothing.
use Prim.Native.Nat.{ℕ, ◌+◌, ◌≤◌, ◌<◌}
use native.Mathlib.Omega.{arith}
use mathlib.Core.Path.{◌≡◌, refl, sym, ap, ◌∙◌, subst}
use mathlib.Core.Bool.{Bool, true, false, cond}
use mathlib.Core.List.{List, ◌++◌}
use borrow.Author.Tests.{lt-ltb, le-ltb}
use lib.ListN.{length, drop}
use lib.Seq.{sets, sets-eq}
use lib.Dec.{T, ltb}
use Rattle.spec_tree.specs.Outcome.{Outcome, ok, refused, by}
use Rattle.spec_tree.specs.Tokens.{number_in, name_in}
use Rattle.spec_tree.proofs.Logic.{and_right}
use Rattle.spec_cse.specs.Answer.{Answer, answer_text}
use Rattle.spec_cse.specs.AnswerRows.{answer_words, answer_of, rows_of_answer, no_deeper, answer_laid_out}
use Rattle.spec_program.specs.Print.{print_call, buffer_after}
use Rattle.fmt.specs.emit.Writing.{Writes}
use Rattle.fmt.specs.checked.Check.{rows_in}
use Rattle.laws.proofs.answer.LaidOut.{laid_rows, uncounted, read_back, same_words}
use Rattle.laws.proofs.answer.ListNames.{answer_fits}
use Rattle.print.specs.told.Writers.{AnswerAt, AnswerWritten}
use Rattle.print.specs.Printing.{Printed, Bytes, Refused, printed}

module _ (node ws : List ℕ) where
  -- the answer that the words are
  abbrev pub read : Answer
  read = answer_of (name_in (rows_in node)) 0 ws

  is_laid : true ≡ answer_laid_out (rows_in node) ws → T (answer_laid_out (rows_in node) ws)
  is_laid e = subst T e tt

  of_answer : T (answer_laid_out (rows_in node) ws) → T (rows_of_answer (rows_in node) ws)
  unfolding answer_laid_out
  of_answer h = and_right (no_deeper ws) (rows_of_answer (rows_in node) ws) h

  pub answer_here : true ≡ answer_laid_out (rows_in node) ws → AnswerAt (rows_in node) ws read
  answer_here e =
      let r = laid_rows (rows_in node) ws (of_answer (is_laid e)) in
      let a = uncounted r.answer in
      let f = answer_fits (rows_in node) r.answer r.parts r.results r.references in
      let w : ws ≡ answer_words (number_in (rows_in node)) a = sym (same_words (number_in (rows_in node)) r.answer ∙ r.words) in
      let b : read ≡ a = ap (answer_of (name_in (rows_in node)) 0) w ∙ read_back (rows_in node) a f.0 f.1 in
      subst (AnswerAt (rows_in node) ws) (sym b) (record { parts = r.parts; parts_fit = f.0; results = r.results; results_fit = f.1; words = w })

  abbrev text : List ℕ
  text = answer_text (answer_of (name_in (rows_in node)) 0 ws)

  call_is : (lent : ℕ) → print_call node ws lent ≡ cond (answer_laid_out (rows_in node) ws) (cond (ltb lent (length text)) (refused (by 14)) (ok text)) (refused (by 13))
  unfolding print_call
  call_is lent = refl

  call_13 : (lent : ℕ) → answer_laid_out (rows_in node) ws ≡ false → print_call node ws lent ≡ refused (by 13)
  call_13 lent e = call_is lent ∙ ap (λ (b : Bool). cond b (cond (ltb lent (length text)) (refused (by 14)) (ok text)) (refused (by 13))) e

  call_by : (lent : ℕ) (b : Bool) → answer_laid_out (rows_in node) ws ≡ true → ltb lent (length text) ≡ b → print_call node ws lent ≡ cond b (refused (by 14)) (ok text)
  call_by lent b e f =
      call_is lent ∙ (ap (λ (x : Bool). cond x (cond (ltb lent (length text)) (refused (by 14)) (ok text)) (refused (by 13))) e
      ∙ ap (λ (x : Bool). cond x (refused (by 14)) (ok text)) f)

  -- what print promises, from the outcome of the call
  abbrev Promised : List ℕ → Outcome (List ℕ) → Printed → List ℕ → Type 0
  Promised old o r new = (r ≡ printed o) × (new ≡ buffer_after o old)

  module _ (old : List ℕ) where
    pub refused_13 : false ≡ answer_laid_out (rows_in node) ws → Promised old (print_call node ws (length old)) (Refused 13) old
    unfolding printed buffer_after
    refused_13 e = subst (λ (o : Outcome (List ℕ)). Promised old o (Refused 13) old) (sym (call_13 (length old) (sym e))) (refl, refl)

    module _ (e : true ≡ answer_laid_out (rows_in node) ws) (mid : List ℕ) (size : ℕ) (w : AnswerWritten (rows_in node) ws true old 0 mid size) where
      measured : Writes true old 0 text mid size
      measured = w read (answer_here e)

      pub refused_14 : length mid < size → Promised old (print_call node ws (length old)) (Refused 14) mid
      unfolding printed buffer_after
      refused_14 h =
          let l : length old < length text = omega (arith, h, measured.ends, ap length measured.leaves) in
          subst (λ (o : Outcome (List ℕ)). Promised old o (Refused 14) mid) (sym (call_by (length old) true (sym e) (lt-ltb (length old) (length text) l))) (refl, measured.leaves)

      pub printed_all : (new : List ℕ) (end : ℕ) → size ≤ length mid → AnswerWritten (rows_in node) ws false mid 0 new end → Promised old (print_call node ws (length old)) (Bytes end) new
      unfolding printed buffer_after
      printed_all new end h v =
          let p = v read (answer_here e) in
          let m : mid ≡ old = measured.leaves in
          let l : length text ≤ length old = omega (arith, h, measured.ends, ap length m) in
          let n : end ≡ length text = omega (arith, p.ends, l, ap length m) in
          let q : new ≡ text ++ drop (length text) old =
          p.leaves ∙ (ap (λ (x : List ℕ). sets x 0 text) m ∙ (sets-eq text old 0 (omega arith) ∙ ap (λ (i : ℕ). text ++ drop i old) (let z : 0 + length text ≡ length text = omega arith in z))) in
          subst (λ (o : Outcome (List ℕ)). Promised old o (Bytes end) new) (sym (call_by (length old) false (sym e) (le-ltb (length old) (length text) l))) (ap Bytes n, q)
