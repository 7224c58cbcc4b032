-- What is answered to words that stand deeper than an answer's, and to those that don't. Assumes nothing.
use Prim.Native.Nat.{ℕ, ◌*◌, ◌/◌}
use mathlib.Core.Path.{◌≡◌, refl, sym, ap, subst, ◌∙◌}
use mathlib.Core.Bool.{Bool, true, false, ◌&&◌}
use mathlib.Core.List.{List}
use lib.ListN.{length}
use Rattle.spec_cse.specs.AnswerRows.{no_deeper}
use Rattle.spec_tree.specs.Tree.{Name, Tree}
use Rattle.words.specs.words.Words.{tree_of, name_of}
use Rattle.words.specs.words.Answers.{rewriting}
use Rattle.std.specs.Prelude.{Option, None, Result, Err}
use Rattle.words.specs.declared.fault.Fault.{Fault}
use Rattle.words.specs.declared.fault.Fault.TheVariants as fault
use Rattle.replace.specs.closed.Closed.{endless}
use Rattle.replace.specs.replacing.Replacing.{replaced_words, replaceable}
use Rattle.replace.specs.Answers.{Replacement, replacement, short_of_room, Leaves}
use Rattle.replace.specs.unchanged.Unchanged.{words_left, unchanged}
use Rattle.replace.specs.declared.ReplaceError.{ReplaceError}
use Rattle.replace.specs.declared.ReplaceError.TheVariants as replace_error
use Rattle.fmt.specs.writer.Answers.{Written}
use Rattle.fmt.specs.declared.writer.Pos.{Pos}
use Rattle.capi.specs.Texts.{text_by}
use Rattle.capi.specs.Replaces.{replace_call}
use Rattle.capi.specs.Rewrites.{rewriting_within, rewrite_call, Rewrote}

-- ---- texts

pub text_deeper : (b : Bool) (w : Written) (old : List ℕ) → b ≡ false → (None ≡ (text_by b w old).answer) × (old ≡ (text_by b w old).bytes)
unfolding text_by
text_deeper b w old e = rw e (refl, refl)

pub text_no_deeper : (b : Bool) (w : Written) (old : List ℕ) {r : Option Pos} {new : List ℕ} → b ≡ true → (r ≡ w.answer) × (new ≡ w.bytes)
    → (r ≡ (text_by b w old).answer) × (new ≡ (text_by b w old).bytes)
unfolding text_by
text_no_deeper b w old e h = rw e h

-- ---- rewriting

module _ (ws part : List ℕ) (name places : ℕ) (old : List ℕ) where
  abbrev due : Bool → Replacement
  due sound =
      unchanged (replacement sound (short_of_room ws part (2 * (places / 3)) (length old)) (endless (tree_of part) (name_of name)) (replaced_words (tree_of part) (name_of name) ws) ws old) old

  call_is : replace_call ws part name places old ≡ due ((no_deeper ws && no_deeper part) && replaceable ws part name)
  unfolding replace_call
  call_is = refl

  pub call_deeper : (no_deeper ws && no_deeper part) ≡ false → Leaves (replace_call ws part name places old) (Err replace_error.Broken) old
  unfolding replacement unchanged words_left
  call_deeper e = subst (λ (p : Replacement). Leaves p (Err replace_error.Broken) old) (sym (call_is ∙ ap (λ (b : Bool). due (b && replaceable ws part name)) e)) (refl, refl)

  pub call_no_deeper : {r : Result ℕ ReplaceError} {new : List ℕ} → (no_deeper ws && no_deeper part) ≡ true → Leaves (due (replaceable ws part name)) r new → Leaves (replace_call ws part name places old) r new
  call_no_deeper {r} {new} e h = subst (λ (p : Replacement). Leaves p r new) (sym (call_is ∙ ap (λ (b : Bool). due (b && replaceable ws part name)) e)) h

-- ---- the two other rewritings

module _ (f : Tree → Name → Tree → Tree) (ws part : List ℕ) (name : ℕ) (old : List ℕ) where
  pub rewrite_deeper : (no_deeper ws && no_deeper part) ≡ false → Rewrote (rewrite_call f ws part name old) (Err fault.Broken) old
  unfolding rewrite_call rewriting_within
  rewrite_deeper e = rw e (refl, refl)

  pub rewrite_no_deeper : {r : Result ℕ Fault} {new : List ℕ} → (no_deeper ws && no_deeper part) ≡ true → Rewrote (rewriting f ws part name old) r new → Rewrote (rewrite_call f ws part name old) r new
  unfolding rewrite_call rewriting_within
  rewrite_no_deeper e h = rw e h
