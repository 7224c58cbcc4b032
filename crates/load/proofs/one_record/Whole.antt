-- A record from its first test on: plain bytes, the first comma, the record word, the count of fields, and the fields by kind. Assumes nothing.
use Rattle.std.specs.Prelude.{Some, None}
use Prim.Native.Nat.{ℕ, ◌+◌, ◌-◌, ◌≤◌, ◌<◌}
use mathlib.Core.Path.{◌≡◌, refl, sym, ◌∙◌, ap, subst}
use mathlib.Core.Bool.{Bool, true, false}
use mathlib.Core.Option.{Option, none, some}
use mathlib.Core.List.{List, [], ◌∷◌, append-nil}
use native.Mathlib.Omega.{arith}
use native.Mathlib.Numerals.{add-one}
use lib.Dec.{T, eqb→eq}
use lib.ListN.{length, take, drop}
use Rattle.spec_tree.specs.Outcome.{Outcome, refused, ◌at_record◌}
use Rattle.spec_tree.specs.Bytes.{every}
use Rattle.spec_sheet.specs.Sheet.{plain, fields_from, find, words, fields_ok}
use Rattle.spec_sheet.proofs.Splitting.{glued, Split, record_split}
use Rattle.load.specs.fields.Comma.{comma_at}
use Rattle.load.specs.fields.Answers.{split_answer}
use Rattle.load.specs.recordwords.Answers.{word_answer}
use Rattle.load.proofs.fields.Commas.{fields_whole, fields_cut}
use Rattle.load.specs.one_record.Item.{Item, row_item, fields_item, split_item, record_item}
use Rattle.load.specs.one_record.Reading.{Follows}
use Rattle.load.specs.one_record.Reading.{Read}
use Rattle.load.specs.one_record.Reading as read
use Rattle.load.proofs.one_record.Pieces.{ok_leaf, right_count}
use Rattle.spec_tree.proofs.Lists.{rest_is}

-- ---- one field

one_field : (s : List ℕ) → length (fields_from [] s) ≡ 1 → fields_from [] s ≡ s ∷ []
unfolding glued
one_field s = go (fields_from [] s) (record_split s)
  where
    go : (l : List (List ℕ)) → Split s l → length l ≡ 1 → l ≡ s ∷ []
    go [] h e = absurd h
    go (w ∷ []) h e = ap (λ (v : List ℕ). v ∷ []) (sym (h ∙ append-nil w))
    go (w ∷ (v ∷ l)) h e = absurd (omega arith)

module _ (k : ℕ) (s : List ℕ) (right : fields_ok k (length (fields_from [] s)) ≡ true) where
  pub few_fields : length (fields_from [] s) ≤ 32
  few_fields = (right_count k (length (fields_from [] s)) (subst T (sym right) tt)).1

  leaf_field : k ≤ 1 → fields_from [] s ≡ s ∷ []
  leaf_field h =
      one_field s
      (eqb→eq (length (fields_from [] s)) 1 (subst T (sym right ∙ ok_leaf k (length (fields_from [] s)) (λ e. omega arith) h) tt))

  -- how many roots there are is nothing to a symbol or a constant
  module _ (rows roots : ℕ) (old new : List ℕ) (r : Read) where
    pub as_symbol : k ≡ 0 → Follows (fields_item 0 rows 0 0 (s ∷ [])) old r new → Follows (fields_item 0 rows roots k (fields_from [] s)) old r new
    as_symbol e f = rw (leaf_field (omega arith), e) (unfold fields_item row_item in f)

    pub as_constant : k ≡ 1 → Follows (fields_item 0 rows 0 1 (s ∷ [])) old r new → Follows (fields_item 0 rows roots k (fields_from [] s)) old r new
    as_constant e f = rw (leaf_field (omega arith), e) (unfold fields_item row_item in f)

-- ---- what follows

module _ (rows roots : ℕ) (t old : List ℕ) where
  module _ (r : Read) (new : List ℕ) where
    pub refused_two : record_item 0 rows roots t ≡ refused (2 at_record 0) → r ≡ read.Refused 2 → length new ≡ length old → Follows (record_item 0 rows roots t) old r new
    refused_two e f same = rw e (f, same)

    pub reads_fields : (k : ℕ) (fs : List (List ℕ)) → record_item 0 rows roots t ≡ fields_item 0 rows roots k fs → Follows (fields_item 0 rows roots k fs) old r new → Follows (record_item 0 rows roots t) old r new
    reads_fields k fs e f = rw e f

-- ---- the tests before the fields

module _ (rows roots : ℕ) (t : List ℕ) where
  pub not_plain : every plain t ≡ false → record_item 0 rows roots t ≡ refused (2 at_record 0)
  unfolding record_item
  not_plain e = ap (λ (b : Bool). elim b as (λ _. Outcome Item) [ true ↦ split_item 0 rows roots (fields_from [] t) | false ↦ refused (2 at_record 0) ]) e

  module _ (p : every plain t ≡ true) where
    splits : record_item 0 rows roots t ≡ split_item 0 rows roots (fields_from [] t)
    unfolding record_item
    splits = ap (λ (b : Bool). elim b as (λ _. Outcome Item) [ true ↦ split_item 0 rows roots (fields_from [] t) | false ↦ refused (2 at_record 0) ]) p

    -- with no comma there is no field, and every kind has one
    lone : (w : List ℕ) → split_item 0 rows roots (w ∷ []) ≡ refused (2 at_record 0)
    unfolding split_item
    lone w = go (find 0 w words)
      where
        wrong : (k : ℕ) (b : Bool) → (T b → (1 ≤ 0) × (0 ≤ 32)) → ◌≡◌ {A = Outcome Item} (elim b [ true ↦ fields_item 0 rows roots k [] | false ↦ refused (2 at_record 0) ]) (refused (2 at_record 0))
        wrong k true h = let q = (h tt).0 in absurd (omega arith)
        wrong k false h = refl

        go : (o : Option ℕ)
            → ◌≡◌ {A = Outcome Item}
            (elim o [ none ↦ refused (2 at_record 0) | some k ↦ elim (fields_ok k 0) [ true ↦ fields_item 0 rows roots k [] | false ↦ refused (2 at_record 0) ] ]) (refused (2 at_record 0))
        go none = refl
        go (some k) = wrong k (fields_ok k 0) (right_count k 0)

    pub no_comma : None ≡ split_answer (comma_at t) → record_item 0 rows roots t ≡ refused (2 at_record 0)
    no_comma e = splits ∙ ap (split_item 0 rows roots) (fields_whole t e) ∙ lone t

    module _ (i : ℕ) (e : Some i ≡ split_answer (comma_at t)) where
      pub comma_inside : i < length t
      comma_inside = (fields_cut t i e).inside

      abbrev rest : List ℕ
      rest = take (length t - (i + 1)) (drop (i + 1) t)

      cut : record_item 0 rows roots t ≡ split_item 0 rows roots (take i t ∷ fields_from [] rest)
      cut =
          splits
          ∙ ap (split_item 0 rows roots) (fields_cut t i e).parts
          ∙ ap (λ (l : List ℕ). split_item 0 rows roots (take i t ∷ fields_from [] l)) (sym (rest_is t (i + 1) ∙ ap (λ (k : ℕ). drop k t) (add-one i)))

      by_word : (w : List ℕ) (fs : List (List ℕ)) (o : Option ℕ) → find 0 w words ≡ o
          → ◌≡◌ {A = Outcome Item} (split_item 0 rows roots (w ∷ fs))
          (elim o [ none ↦ refused (2 at_record 0) | some k ↦ elim (fields_ok k (length fs)) [ true ↦ fields_item 0 rows roots k fs | false ↦ refused (2 at_record 0) ] ])
      unfolding split_item
      by_word w fs o f =
          ap
          (λ (o : Option ℕ).
          elim o as (λ _. Outcome Item) [ none ↦ refused (2 at_record 0) | some k ↦ elim (fields_ok k (length fs)) as (λ _. Outcome Item) [ true ↦ fields_item 0 rows roots k fs | false ↦ refused (2 at_record 0) ] ])
          f

      known : (k : ℕ) (o : Option ℕ) → Some k ≡ word_answer o → o ≡ some k
      known k none f = absurd (let z : ◌≡◌ {A = ℕ} 0 1 = cc in omega arith)
      known k (some m) f = cc

      unknown : (o : Option ℕ) → None ≡ word_answer o → o ≡ none
      unknown none f = refl
      unknown (some m) f = absurd (let z : ◌≡◌ {A = ℕ} 0 1 = cc in omega arith)

      pub no_word : None ≡ word_answer (find 0 (take i t) words) → record_item 0 rows roots t ≡ refused (2 at_record 0)
      no_word f = cut ∙ by_word (take i t) (fields_from [] rest) none (unknown (find 0 (take i t) words) f)

      module _ (k : ℕ) (f : Some k ≡ word_answer (find 0 (take i t) words)) where
        counted : (b : Bool) → fields_ok k (length (fields_from [] rest)) ≡ b
            → ◌≡◌ {A = Outcome Item} (record_item 0 rows roots t) (elim b [ true ↦ fields_item 0 rows roots k (fields_from [] rest) | false ↦ refused (2 at_record 0) ])
        counted b q =
            cut
            ∙ by_word (take i t) (fields_from [] rest) (some k) (known k (find 0 (take i t) words) f)
            ∙ ap (λ (b : Bool). elim b as (λ _. Outcome Item) [ true ↦ fields_item 0 rows roots k (fields_from [] rest) | false ↦ refused (2 at_record 0) ]) q

        -- the code's count n and its test b
        module _ (n : ℕ) (m : n ≡ length (fields_from [] rest)) (b : Bool) (u : b ≡ fields_ok k n) where
          pub right_fields : b ≡ true → fields_ok k (length (fields_from [] rest)) ≡ true
          right_fields q = ap (fields_ok k) (sym m) ∙ (sym u ∙ q)

          pub wrong_count : b ≡ false → record_item 0 rows roots t ≡ refused (2 at_record 0)
          wrong_count q = counted false (ap (fields_ok k) (sym m) ∙ (sym u ∙ q))

          pub right_item : b ≡ true → record_item 0 rows roots t ≡ fields_item 0 rows roots k (fields_from [] rest)
          right_item q = counted true (right_fields q)
