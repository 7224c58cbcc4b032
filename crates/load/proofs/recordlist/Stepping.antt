-- One record read into the rest of the table: what each answer of `read_record` makes of table and list. Assumes nothing.
use Prim.Native.Nat.{ℕ, suc, ◌+◌, ◌-◌, ◌*◌, ◌≤◌}
use mathlib.Core.Path.{◌≡◌, refl, sym, ap, ◌∙◌}
use mathlib.Core.List.{List, ◌++◌, append_assoc}
use native.Mathlib.Omega.{arith}
use borrow.Rule.Slice.PartMut.{put_mid}
use lib.ListN.{length, take, drop, set, length-append, length-take, length-drop}
use lib.Seq.{take_at, length-take-le}
use Rattle.spec_tree.specs.Outcome.{Outcome, ok, refused}
use Rattle.spec_tree.specs.Layout.{row_words}
use Rattle.load.specs.one_record.Item.{Item, a_row, a_root, record_item}
use Rattle.load.specs.one_record.Reading.{Read}
use Rattle.load.specs.one_record.Reading as read
use Rattle.load.specs.one_record.Reading.{Follows}
use Rattle.load.specs.recordlist.Step as step
use Rattle.load.specs.recordlist.Steps.{Stepped}
use Rattle.load.proofs.recordlist.Limits.{Limits, record_limit}
use Rattle.spec_tree.proofs.Lists.{rest_back}

module _ (s : List ℕ) (n m : ℕ) (table list : List ℕ) (new : List ℕ) (answer : Read)
    (long : 35875 ≤ length table) (few : n ≤ 1024) where
  abbrev lent : List ℕ
  lent = take (length table - 35 * n) (drop (35 * n) table)

  abbrev after : List ℕ
  after = put_mid (35 * n) (length table - 35 * n) table new

  pub lent_long : length lent ≡ length table - 35 * n
  lent_long = rw (length-take, length-drop) (omega arith)

  module _ (follows : Follows (record_item 0 n m s) lent answer new) (same : length new ≡ length lent) where
    kept : length (take (35 * n) table) ≡ 35 * n
    kept = length-take-le (35 * n) table (omega arith)

    after_long : length after ≡ length table
    after_long = ap length (rest_back table new (35 * n)) ∙ (length-append (take (35 * n) table) new ∙ omega (arith, kept, same, lent_long))

    before_kept : take (35 * n) after ≡ take (35 * n) table
    before_kept = ap (take (35 * n)) (rest_back table new (35 * n)) ∙ take_at (take (35 * n) table) new (35 * n) kept

    row_joins : (words : List ℕ) → new ≡ words ++ drop 35 lent → take (35 * (n + 1)) after ≡ take (35 * n) table ++ words
    row_joins words e =
        let a = take (35 * n) table in
        let d = drop 35 lent in
        let w : length words ≡ 35 = omega (arith, ap length e, length-append words (drop 35 lent), length-drop 35 lent, same, lent_long) in
        ap (take (35 * (n + 1))) (rest_back table new (35 * n) ∙ (ap (λ (l : List ℕ). take (35 * n) table ++ l) e ∙ sym (append_assoc (take (35 * n) table) words (drop 35 lent))))
        ∙ take_at (take (35 * n) table ++ words) (drop 35 lent) (35 * (n + 1)) (omega (arith, length-append (take (35 * n) table) words, kept, w))

    pub row_end : answer ≡ read.Row → Stepped n m (record_item 0 n m s) table list (step.Next (n + 1) m) after list
    row_end q = go (record_item 0 n m s) (record_limit 0 n m s) follows
      where
        go : (o : Outcome Item) → Limits n m o → Follows o lent answer new → Stepped n m o table list (step.Next (n + 1) m) after list
        go (ok (a_row x)) l f = record { counts = refl; inside = l; table = row_joins (row_words x) f.1; list = refl; long = after_long }
        go (ok (a_root k)) l f = absurd (let z : ◌≡◌ {A = ℕ} 0 1 = cc in omega arith)
        go (refused r) l f = absurd (let z : ◌≡◌ {A = ℕ} 0 1 = cc in omega arith)

    pub root_inside : (k : ℕ) → answer ≡ read.Root k → suc m ≤ 64
    root_inside k q = go (record_item 0 n m s) (record_limit 0 n m s) follows
      where
        go : (o : Outcome Item) → Limits n m o → Follows o lent answer new → suc m ≤ 64
        go (ok (a_row x)) l f = absurd (let z : ◌≡◌ {A = ℕ} 0 1 = cc in omega arith)
        go (ok (a_root j)) l f = l
        go (refused r) l f = absurd (let z : ◌≡◌ {A = ℕ} 0 1 = cc in omega arith)

    pub root_end : (k : ℕ) → answer ≡ read.Root k → Stepped n m (record_item 0 n m s) table list (step.Next n (m + 1)) after (set list m k)
    root_end k q = go (record_item 0 n m s) (record_limit 0 n m s) follows
      where
        same_root : (j : ℕ) → answer ≡ read.Root j → j ≡ k
        same_root j e = cc

        go : (o : Outcome Item) → Limits n m o → Follows o lent answer new → Stepped n m o table list (step.Next n (m + 1)) after (set list m k)
        go (ok (a_row x)) l f = absurd (let z : ◌≡◌ {A = ℕ} 0 1 = cc in omega arith)
        go (ok (a_root j)) l f = record { counts = refl; inside = l; table = before_kept; list = ap (set list m) (sym (same_root j f.0)); long = after_long }
        go (refused r) l f = absurd (let z : ◌≡◌ {A = ℕ} 0 1 = cc in omega arith)
