-- The ends of load that is called from another language. Assumes nothing.
use Prim.Native.Nat.{ℕ, ◌≤◌, ◌<◌}
use mathlib.Core.Path.{◌≡◌, refl, sym, ◌∙◌, subst}
use mathlib.Core.Bool.{Bool}
use mathlib.Core.List.{List}
use native.Mathlib.Omega.{arith}
use borrow.Author.Tests.{le-leb, lt-leb}
use lib.ListN.{length, set}
use Rattle.spec_tree.specs.Outcome.{Outcome, ok, refused}
use Rattle.spec_tree.specs.Rows.{Table}
use Rattle.load.specs.Loaded.{Loaded}
use Rattle.load.specs.Loaded as loaded
use Rattle.load.specs.Loads as load
use Rattle.capi.specs.Loads.{loaded_number, loaded_answer, LoadsBy, Loads}
use Rattle.capi.proofs.Ends.{one_set, two_set}

module _ (o : Outcome Table) (rows roots answer : List ℕ) where
  pub not_loaded : length answer < 2 → Loads o rows roots answer 255 rows roots answer
  not_loaded h =
      subst (λ (b : Bool). LoadsBy b o rows roots answer 255 rows roots answer) (sym (lt-leb 2 (length answer) h))
      (record { number_is = refl; rows_are = refl; roots_are = refl; answer_is = refl })

  module _ (got : Loaded) (new_rows new_roots : List ℕ) (room : 2 ≤ length answer) (L : load.Loads o rows roots got new_rows new_roots) where
    put : (q : ℕ) (w : List ℕ) → q ≡ loaded_number o → w ≡ loaded_answer o answer → Loads o rows roots answer q new_rows new_roots w
    put q w x y =
        subst (λ (b : Bool). LoadsBy b o rows roots answer q new_rows new_roots w) (sym (le-leb 2 (length answer) room))
        (record { number_is = x; rows_are = L.rows_are; roots_are = L.roots_are; answer_is = y })

    pub is_loaded : (n m : ℕ) → got ≡ loaded.Table n m → Loads o rows roots answer 0 new_rows new_roots (set (set answer 0 n) 1 m)
    unfolding loaded_number loaded_answer
    is_loaded n m e = put 0 (set (set answer 0 n) 1 m) (zero_for o (sym e ∙ L.answer_is)) (both o (sym e ∙ L.answer_is))
      where
        zero_for : (o : Outcome Table) → loaded.Table n m ≡ load.answered o → 0 ≡ loaded_number o
        zero_for (ok t) e = refl
        zero_for (refused r) e = absurd (let z : ◌≡◌ {A = ℕ} 0 1 = cc in omega arith)

        both : (o : Outcome Table) → loaded.Table n m ≡ load.answered o → set (set answer 0 n) 1 m ≡ loaded_answer o answer
        both (ok t) e = let h = two_set n m answer room in cc
        both (refused r) e = absurd (let z : ◌≡◌ {A = ℕ} 0 1 = cc in omega arith)

    pub is_refused : (q i : ℕ) → got ≡ loaded.Refused q i → Loads o rows roots answer q new_rows new_roots (set answer 0 i)
    unfolding loaded_number loaded_answer
    is_refused q i e = put q (set answer 0 i) (the_number o (sym e ∙ L.answer_is)) (the_record o (sym e ∙ L.answer_is))
      where
        the_number : (o : Outcome Table) → loaded.Refused q i ≡ load.answered o → q ≡ loaded_number o
        the_number (ok t) e = absurd (let z : ◌≡◌ {A = ℕ} 0 1 = cc in omega arith)
        the_number (refused r) e = cc

        the_record : (o : Outcome Table) → loaded.Refused q i ≡ load.answered o → set answer 0 i ≡ loaded_answer o answer
        the_record (ok t) e = absurd (let z : ◌≡◌ {A = ℕ} 0 1 = cc in omega arith)
        the_record (refused r) e = let h = one_set i answer (omega (arith, room)) in cc
