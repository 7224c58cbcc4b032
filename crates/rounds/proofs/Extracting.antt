-- One extraction from `best_place` and `replace_known` (01, "Extraction"). Assumes nothing.
use Rattle.std.specs.Prelude.{Some, None, Ok, Err}
use Prim.Native.Nat.{ℕ, ◌+◌, ◌-◌, ◌≤◌}
use native.Mathlib.Omega.{arith}
use native.Mathlib.Nat.{zero-add}
use mathlib.Core.Path.{◌≡◌, sym, ◌∙◌, ap, ap₂, subst}
use mathlib.Core.Bool.{Bool}
use mathlib.Core.Option.{none, some}
use mathlib.Core.List.{List, ◌++◌}
use lib.ListN.{length, take, drop, length-append, length-drop}
use lib.Seq.{take_at, length-take-le}
use Rattle.spec_tree.specs.Outcome.{Refusal, Outcome, ok, refused, ◌>>=◌}
use Rattle.spec_tree.specs.Facts.{size}
use Rattle.spec_tree.specs.Rows.{Row}
use Rattle.spec_tree.specs.Tree.{Tree}
use Rattle.spec_tree.specs.Tokens.{read, numbered, name_in, run_at}
use Rattle.spec_tree.proofs.TokenLaws.{complete_length, words_complete}
use Rattle.words.specs.tokens.Answers.{There, EndsAt, end_answer}
use Rattle.words.specs.words.Words.{tree_of, name_of}
use Rattle.words.proofs.words.Scanning.{Put, put_more}
use Rattle.replace.specs.replacing.Replacing.{replaced_words}
use Rattle.replace.specs.replacing.Deciding.{Trees, Target, Wrote}
use Rattle.replace.specs.Answers.{Writes}
use Rattle.laws.specs.positions.Places.{numbered_at, best_place}
use Rattle.laws.specs.positions.Rounds.{next_number, extract_words}
use Rattle.rounds.specs.kept.Sound.{name_word}
use Rattle.rounds.proofs.kept.Steps.{Ready, ready_of, inside, part_run, may_rewrite, may_replace, extracted_are, stepped}
use Rattle.rounds.proofs.kept.Looping.{number_first}
use Rattle.rounds.specs.Answers.{Finds, Chosen, Extracts, Turns, TurnedSo}
use Rattle.std.specs.Prelude.{Option, Some, None, Result, Ok, Err}
use Rattle.replace.specs.declared.NotConstant.{NotConstant}

-- ---- an extraction

next_is : (rows : List Row) (n : ℕ) (ws : List ℕ) (r : Ready rows n ws) → next_number r.trees n (read numbered ws) ≡ n
next_is rows n ws r = ap (λ (k : ℕ). next_number k n (read numbered ws)) (sym (complete_length numbered ws r.trees r.complete)) ∙ number_first n (read numbered ws)

module _ (rows : List Row) (ws : List ℕ) (scoped : Bool) (at name : ℕ) (h : Chosen rows ws scoped at name) where
  abbrev ready : Ready rows name ws
  ready = ready_of rows name ws h.good

  abbrev target : Tree
  target = numbered_at ws at

  run_is : run_at ws at ≡ some (size target)
  run_is = part_run rows scoped name ws ready at h.best

  pub there : There ws at
  there = (size target, run_is)

  module _ (end : ℕ) (e : EndsAt ws at end) where
    long : end ≡ at + size target
    unfolding end_answer
    long = let q : Some end ≡ Some (at + size target) = e ∙ ap (end_answer at) run_is in cc

    pub within : (at ≤ end) × (end ≤ length ws)
    unfolding run_at
    within =
        let i = inside rows scoped name ws ready at h.best in
        let w = words_complete (drop at ws) 1 (size target) run_is in
        let l = w.0 in
        (omega (arith, long), omega (arith, long, l, length-drop at ws, i))

    abbrev part : List ℕ
    part = take (end - at) (drop at ws)

    part_same : take (size target) (drop at ws) ≡ part
    part_same = let z : size target ≡ end - at = omega (arith, long) in ap (λ (n : ℕ). take n (drop at ws)) z

    pub part_long : length part ≡ end - at
    part_long = length-take-le (end - at) (drop at ws) (omega (arith, length-drop at ws, within))

    words_are : extract_words target name ws ≡ (replaced_words (tree_of part) (name_of (name_word name)) ws >>= λ l. ok (l ++ part))
    words_are =
        extracted_are rows scoped name ws ready at h.best
        ∙ ap (λ (p : List ℕ). replaced_words (tree_of p) (name_of (name_word name)) ws >>= λ l. ok (l ++ p)) part_same

    made_are : (new : List ℕ) → replaced_words (tree_of part) (name_of (name_word name)) ws ≡ ok new → extract_words target name ws ≡ ok (new ++ part)
    made_are new f = words_are ∙ ap (λ (o : Outcome (List ℕ)). o >>= λ l. ok (l ++ part)) f

    fewer : (new : List ℕ) → replaced_words (tree_of part) (name_of (name_word name)) ws ≡ ok new → length (new ++ part) ≤ length ws
    fewer new f = (stepped rows scoped name ws ready at h.best ready.trees name (omega arith) (next_is rows name ws ready) (new ++ part) (made_are new f)).2

    -- what `replace_known` asks for
    pub asked : Trees ws × Target part (name_word name)
    asked =
        let r = ready in
        (may_rewrite rows scoped name ws r at h.best, subst (λ (p : List ℕ). Target p (name_word name)) part_same (may_replace rows scoped name ws r at h.best))

    module _ (q : Result ℕ NotConstant) (old mid : List ℕ) (fits : length ws ≤ length old) (a : Writes (replaced_words (tree_of part) (name_of (name_word name)) ws) (length ws) old q mid) where
      abbrev outcome : Outcome (List ℕ)
      outcome = replaced_words (tree_of part) (name_of (name_word name)) ws

      wrote : (n : ℕ) → q ≡ Ok n → Wrote outcome old n mid
      wrote n w = subst (λ (q : Result ℕ NotConstant). Writes outcome (length ws) old q mid) w a

      pub room : (n : ℕ) → q ≡ Ok n → n + (end - at) ≤ length ws
      room n w = let d = wrote n w in omega (arith, d.count, fewer d.new d.is, length-append d.new part, part_long)

      -- what the run is appended in
      pub put_room : (n : ℕ) → q ≡ Ok n → n + length part ≤ length mid
      put_room n w =
          let d = wrote n w in
          let fit = room n w in
          omega (arith, ap length d.words, length-append d.new (drop n old), length-drop n old, d.count, fit, fits, part_long)

      pub done : (n : ℕ) → q ≡ Ok n → (out : List ℕ) → Put mid n part out → Extracts ws at name old (Ok (n + (end - at))) out
      done n w out two =
          let d = wrote n w in
          let fit = room n w in
          let both = length-append d.new part in
          let count : n + (end - at) ≡ length (d.new ++ part) = omega (arith, d.count, both, part_long) in
          let one : Put old 0 d.new mid = d.words ∙ ap (λ (k : ℕ). d.new ++ drop k old) (d.count ∙ sym (zero-add (length d.new))) in
          let all = put_more old 0 d.new part mid out n (omega (arith, d.count, fit, fits)) (d.count ∙ sym (zero-add (length d.new))) one two in
          (record { new = d.new ++ part; is = made_are d.new d.is; count = count; words = all ∙ ap (λ (k : ℕ). (d.new ++ part) ++ drop k old) (zero-add (length (d.new ++ part)) ∙ sym count) }, fit)

      pub refuses : (e : NotConstant) → q ≡ Err e → (i : Refusal) × (extract_words target name ws ≡ refused i)
      refuses e w =
          let d = subst (λ (q : Result ℕ NotConstant). Writes outcome (length ws) old q mid) w a in
          (d.why, words_are ∙ ap (λ (o : Outcome (List ℕ)). o >>= λ l. ok (l ++ part)) d.is)

-- ---- in the place of the words

module _ (old : List ℕ) (len at name : ℕ) (within_old : len ≤ length old) (blank mid : List ℕ) (q : Result ℕ NotConstant) (a : Extracts (take len old) at name blank q mid) where
  abbrev ws : List ℕ
  ws = take len old

  made : (n : ℕ) → q ≡ Ok n → Wrote (extract_words (numbered_at ws at) name ws) blank n mid × (n ≤ length ws)
  made n w = subst (λ (q : Result ℕ NotConstant). Extracts ws at name blank q mid) w a

  pub made_most : (n : ℕ) → q ≡ Ok n → n ≤ len
  made_most n w = let m = (made n w).1 in omega (arith, m, length-take-le len old within_old)

  front : (n : ℕ) (w : q ≡ Ok n) → take n mid ≡ (made n w).0.new
  front n w = let d = (made n w).0 in ap (take n) d.words ∙ take_at d.new (drop n blank) n (sym d.count)

  pub made_long : (n : ℕ) → q ≡ Ok n → n ≡ length (take n mid)
  made_long n w = (made n w).0.count ∙ ap length (sym (front n w))

  pub turned : (n : ℕ) → q ≡ Ok n → (out : List ℕ) → out ≡ take n mid ++ drop (length (take n mid)) old → Turns old len at name (Ok n) out
  turned n w out p =
      let d = (made n w).0 in
      record { new = d.new; is = d.is; count = d.count; words = p ∙ ap₂ (λ (l : List ℕ) (k : ℕ). l ++ drop k old) (front n w) (sym (made_long n w)) }

  pub turn_refused : (e : NotConstant) → q ≡ Err e → (i : Refusal) × (extract_words (numbered_at ws at) name ws ≡ refused i)
  turn_refused e w = subst (λ (q : Result ℕ NotConstant). Extracts ws at name blank q mid) w a

-- ---- a round, from the best place

module _ (rows : List Row) (old : List ℕ) (len : ℕ) (scoped : Bool) (name : ℕ) where
  -- where a place was found, the round ends as the extraction does
  module _ (p : ℕ) (b : best_place (take len old) (name_in rows) scoped ≡ some p) (r : Result ℕ NotConstant) (out : List ℕ) (t : Turns old len p name r out) where
    pub turned_on : (n : ℕ) → r ≡ Ok n → TurnedSo rows old len scoped name (Ok (Some n)) out
    turned_on n w = (p, b, subst (λ (r : Result ℕ NotConstant). Turns old len p name r out) w t)

    pub turned_down : (e : NotConstant) → r ≡ Err e → TurnedSo rows old len scoped name (Err e) out
    turned_down e w = let u = subst (λ (r : Result ℕ NotConstant). Turns old len p name r out) w t in (p, b, u.0, u.1)

  module _ (q : Option ℕ) (f : Finds rows (take len old) scoped q) where
    pub found_at : (p : ℕ) → q ≡ Some p → best_place (take len old) (name_in rows) scoped ≡ some p
    found_at p w = subst (Finds rows (take len old) scoped) w f

    pub found_none : q ≡ None → best_place (take len old) (name_in rows) scoped ≡ none
    found_none w = subst (Finds rows (take len old) scoped) w f
