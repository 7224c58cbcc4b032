-- What a scope holds in front of the work area, and the rest of the area, which is lent on to an arm's scope (01, "Scoped fusion"). Assumes nothing.
use Prim.Native.Nat.{ℕ, ◌-◌, ◌≤◌, ◌<◌}
use native.Mathlib.Omega.{arith}
use mathlib.Core.Path.{◌≡◌, sym, ◌∙◌, ap, subst}
use mathlib.Core.List.{List}
use lib.ListN.{length, get_or, take, drop, length-drop}
use lib.Seq.{take_at, length-take-le}
use borrow.Rule.Slice.PartMut.{put_mid}
use Rattle.spec_tree.specs.Rows.{Row}
use Rattle.laws.specs.switches.Switches.{arm_count, switch_places}
use Rattle.statements.specs.Prepared.{Prepared, Readied}
use Rattle.cse_scoped.specs.one_scope.Answers.{CopiedSo}
use Rattle.cse_scoped.specs.one_scope.Frame.{Lent, Holds, IsGroup, Numbered, grouped_scope, GroupingSo, FoundSo}
use Rattle.std.specs.Prelude.{Option as Maybe, Some, None}
use Rattle.cse_scoped.specs.one_scope.Scoped.{Scoped}
use Rattle.cse_scoped.specs.declared.one_scope.Found.{Found}
use Rattle.cse_scoped.proofs.one_scope.Ending.{ScopeDone}
use Rattle.spec_tree.proofs.Lists.{rest_is, rest_back}

pub rest_long : (w : List ℕ) (u : ℕ) → length (take (length w - u) (drop u w)) ≡ length w - u
rest_long w u = ap length (rest_is w u) ∙ length-drop u w

-- which are as they were
pub front_kept : (w x : List ℕ) (u : ℕ) → u ≤ length w → take u (put_mid u (length w - u) w x) ≡ take u w
front_kept w x u h = ap (take u) (rest_back w x u) ∙ take_at (take u w) x u (length-take-le u w h)

-- the rest is no more than the area, and the words that stand in front of it are inside
pub lent_rest : (u n : ℕ) (w w' text text' : List ℕ) → Lent u w text → length w' ≡ length w → length text' ≡ length text → n ≤ length (drop u w') → Lent n (take (length w' - u) (drop u w')) text'
lent_rest u n w w' text text' l e f h =
    record { words = omega (arith, l.words, rest_long w' u, e); inside = omega (arith, h, rest_long w' u, length-drop u w'); bytes = omega (arith, l.bytes, f) }

pub rest_length : (u : ℕ) (w w' : List ℕ) → length w' ≡ length w → length (drop u w') ≡ length w - u
rest_length u w w' e = length-drop u w' ∙ ap (λ (n : ℕ). n - u) e

-- ---- an arm's words in front of the rest

module _ (cs : List ℕ) (r : Maybe ℕ) (rest : List ℕ) (given : CopiedSo cs r rest) where
  pub copied_words : (n : ℕ) → r ≡ Some n → (take n rest ≡ cs) × (n ≤ length rest) × (n ≤ 1927)
  copied_words n e = subst (λ (q : Maybe ℕ). CopiedSo cs q rest) e given

  pub copied_none : r ≡ None → length cs ≤ 1927 → length rest < length cs
  copied_none e = subst (λ (q : Maybe ℕ). CopiedSo cs q rest) e given

pub rest_front : (w : List ℕ) (u n : ℕ) (cs : List ℕ) → take n (drop u w) ≡ cs → take n (take (length w - u) (drop u w)) ≡ cs
rest_front w u n cs e = ap (take n) (rest_is w u) ∙ e

-- ---- what is held is the same later, and as many rows are left

module _ (u : ℕ) (w w' : List ℕ) (e : take u w' ≡ take u w) where
  pub holds_now : (rows : List Row) (n : ℕ) → Holds rows n (take u w) → Holds rows n (take u w')
  holds_now rows n h = subst (Holds rows n) (sym e) h

  pub group_now : (g : List ℕ) → IsGroup (take u w) g → IsGroup (take u w') g
  group_now g h = subst (λ (z : List ℕ). IsGroup z g) (sym e) h

  pub arm_now : (g : List ℕ) (a : ℕ) → a < arm_count (take u w) (get_or g 0 0) → a < arm_count (take u w') (get_or g 0 0)
  arm_now g a h = subst (λ (z : List ℕ). a < arm_count z (get_or g 0 0)) (sym e) h

  pub readied_now : (ws : List ℕ) (k first : ℕ) (places starts members numbers : List ℕ) → Readied ws k first places (take u w) starts members numbers → Readied ws k first places (take u w') starts members numbers
  readied_now ws k first places starts members numbers h = subst (λ (z : List ℕ). Readied ws k first places z starts members numbers) (sym e) h

  pub prepared_now : (ws : List ℕ) (k first : ℕ) (places starts members ends numbers : List ℕ) → Prepared ws k first places (take u w) starts members ends numbers
      → Prepared ws k first places (take u w') starts members ends numbers
  prepared_now ws k first places starts members ends numbers h = subst (λ (z : List ℕ). Prepared ws k first places z starts members ends numbers) (sym e) h

  module _ (f : length w' ≡ length w) where
    -- a fact of both, now and before
    pub now_so : (P : List ℕ → ℕ → Type 0) → P (take u w) (length w - u) → P (take u w') (length w' - u)
    now_so P x = subst (λ (n : ℕ). P (take u w') (n - u)) (sym f) (subst (λ (z : List ℕ). P z (length w - u)) (sym e) x)

    pub numbered_now : (rows : List Row) (fuel next : ℕ) (numbers stops kept : List ℕ) (after extracted : ℕ) → Numbered rows fuel (length w - u) next (take u w) numbers stops kept after extracted
        → Numbered rows fuel (length w' - u) next (take u w') numbers stops kept after extracted
    numbered_now rows fuel next numbers stops kept after extracted x = now_so (λ hs left. Numbered rows fuel left next hs numbers stops kept after extracted) x

    pub before_so : (P : List ℕ → ℕ → Type 0) → P (take u w') (length w' - u) → P (take u w) (length w - u)
    before_so P x = subst (λ (n : ℕ). P (take u w) (n - u)) f (subst (λ (z : List ℕ). P z (length w' - u)) e x)

    pub grouped_before : (rows : List Row) (fuel row : ℕ) (ws : List ℕ) (k first : ℕ) (places : List ℕ) (at : ℕ) (old : List ℕ) (r : Scoped) (new : List ℕ)
        → ScopeDone (grouped_scope rows fuel (length w' - u) row ws k first places) at old r new → ScopeDone (grouped_scope rows fuel (length w - u) row ws k first places) at old r new
    grouped_before rows fuel row ws k first places at old r new x = before_so (λ hs left. ScopeDone (grouped_scope rows fuel left row ws k first places) at old r new) x

-- ---- the groups that were found

module _ (held : List ℕ) (r : Maybe Found) (members ends : List ℕ) (given : FoundSo held r members ends) where
  pub found_groups : (f : Found) → r ≡ Some f → GroupingSo held f.members f.groups members ends
  found_groups f e = subst (λ (q : Maybe Found). FoundSo held q members ends) e given

  pub found_none : r ≡ None → 3640 < length (switch_places held)
  found_none e = subst (λ (q : Maybe Found). FoundSo held q members ends) e given
