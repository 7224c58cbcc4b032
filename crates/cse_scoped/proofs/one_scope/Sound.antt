-- What the columns of a group may be given to and how large a scope's answer is, in the words of this crate (01, "Scoped fusion"). Assumes nothing.
use Prim.Native.Nat.{ℕ, ◌≤◌, ◌<◌, ◌/◌, ◌%◌}
use native.Mathlib.Omega.{arith}
use mathlib.Core.Path.{◌≡◌, sym, ap, subst}
use mathlib.Core.Bool.{Bool, true, false, ◌&&◌, cond}
use mathlib.Core.List.{List, [], ◌∷◌}
use lib.ListN.{length, get_or}
use lib.Dec.{T, ltb, eqb, lt→ltb, ltb→lt}
use Rattle.spec_tree.specs.Bytes.{every}
use Rattle.spec_tree.specs.Outcome.{ok}
use Rattle.spec_tree.specs.Rows.{Row}
use Rattle.spec_tree.specs.Tokens.{kind_of, below_of, trees_in}
use Rattle.spec_tree.proofs.Logic.{and_left, and_right, and_both}
use Rattle.words.specs.words.Words.{some_trees}
use Rattle.fmt.specs.checked.Check.{word_ok}
use Rattle.laws.specs.positions.Names.{is_number, symbols_pass}
use Rattle.rounds.specs.kept.Sound.{extractable, numbered_below}
use Rattle.rounds.proofs.kept.Steps.{ready_of}
use Rattle.laws.specs.switches.Switches.{arm_count}
use Rattle.laws.specs.switches.Columns.{column_words}
use Rattle.laws.proofs.switches.Turned.{Armed}
use Rattle.laws.proofs.switches.GroupColumns.{every_at}
use Rattle.fusion.specs.place.Parts.{place_groups, joined_groups}
use Rattle.fusion.specs.place.Whole.{Told, scope_told}
use Rattle.scope_laws.proofs.sound.Columns.{Fused, group_fused, armed_past, column_sound, column_pass, members_count}
use Rattle.scope_laws.proofs.sound.Counting.{arms_some}
use Rattle.scope_laws.proofs.sound.Bounds.{scope_bound, rows_most, group_within}
use Rattle.cse_scoped.specs.one_scope.Frame.{Holds, IsGroup}

-- how large a scope's answer is
pub record Small (next : ℕ) (t : Told) : Type 0 where
  pub rows : length t.words ≤ 288230376151711744
  pub steps : t.steps ≤ 2048
  pub made : t.extracted ≤ 4294967296
  pub grows : next ≤ t.next
  pub low : t.next ≤ 2147485696

pub told_small : (rows : List Row) (fuel left row next : ℕ) (ws : List ℕ) → T (extractable rows next ws) → T (symbols_pass (is_number rows) ws)
    → (t : Told) → scope_told rows fuel left row next ws ≡ ok t → Small next t
told_small rows fuel left row next ws g p t e =
    let b = scope_bound rows (is_number rows) fuel left row next ws g p t e in
    record { rows = rows_most next t b; steps = b.few; made = omega (arith, b.made, b.most); grows = b.forth; low = b.most }

module _ (rows : List Row) (next : ℕ) (held : List ℕ) (h : Holds rows next held) where
  pub words_ok : T (every (word_ok rows) held)
  unfolding extractable
  words_ok = and_left (every (word_ok rows) held) (every (numbered_below next) held) (and_right (some_trees (trees_in held)) (every (word_ok rows) held && every (numbered_below next) held) h.good)

  pub held_whole : T (some_trees (trees_in held))
  unfolding extractable
  held_whole = and_left (some_trees (trees_in held)) (every (word_ok rows) held && every (numbered_below next) held) h.good

  -- all members
  pub all_few : length (joined_groups (place_groups held)) ≤ 3640
  all_few =
      let r = ready_of rows next held h.good in
      omega (arith, members_count held r.trees r.complete, h.switches)

module _ (rows : List Row) (next : ℕ) (held group : List ℕ) (h : Holds rows next held) (g : IsGroup held group) where
  pub fused : Fused held group
  fused = let r = ready_of rows next held h.good in subst (Fused held) (sym g.is) (group_fused held r.trees r.complete g.number g.there)

  pub column_good : (a : ℕ) → a < arm_count held (get_or group 0 0) → T (extractable rows next (column_words held group a))
  column_good a l = column_sound rows (is_number rows) next held h.good h.pass next (omega arith) group a (armed_past held (arm_count held (get_or group 0 0)) a l group fused.armed)

  pub column_passes : (a : ℕ) → a < arm_count held (get_or group 0 0) → T (symbols_pass (is_number rows) (column_words held group a))
  column_passes a l = column_pass rows (is_number rows) next held h.good h.pass next (omega arith) group a (armed_past held (arm_count held (get_or group 0 0)) a l group fused.armed)

  pub arms_few : arm_count held (get_or group 0 0) ≤ 17
  arms_few = (arms_some rows held (words_ok rows next held h) (get_or group 0 0) (every_at (Armed held (arm_count held (get_or group 0 0))) 0 group fused.armed 0 (omega (arith, fused.some_member))).0).1

  pub group_few : length group ≤ 3640
  group_few = omega (arith, ap length g.is, group_within (place_groups held) g.number, all_few rows next held h)

-- words that may be scoped from a number on may be from a later one
below_later : (n m w : ℕ) → n ≤ m → T (numbered_below n w) → T (numbered_below m w)
unfolding numbered_below
below_later n m w l t = go (eqb (kind_of w) 0) (eqb (below_of w % 3) 1) t
  where
    go : (b c : Bool) → T (cond b (cond c (ltb (below_of w / 3) n) true) true) → T (cond b (cond c (ltb (below_of w / 3) m) true) true)
    go true true t = let k = ltb→lt (below_of w / 3) n t in lt→ltb (below_of w / 3) m (omega (arith, k))
    go true false t = tt
    go false c t = tt

all_later : (n m : ℕ) (ws : List ℕ) → n ≤ m → T (every (numbered_below n) ws) → T (every (numbered_below m) ws)
unfolding every
all_later n m [] l t = tt
all_later n m (w ∷ ws) l t =
    and_both (numbered_below m w) (every (numbered_below m) ws) (below_later n m w l (and_left (numbered_below n w) (every (numbered_below n) ws) t)) (all_later n m ws l (and_right (numbered_below n w) (every (numbered_below n) ws) t))

pub holds_later : (rows : List Row) (next later : ℕ) (held : List ℕ) → next ≤ later → Holds rows next held → Holds rows later held
unfolding extractable
holds_later rows next later held l h =
    let b = and_right (every (word_ok rows) held) (every (numbered_below next) held) (and_right (some_trees (trees_in held)) (every (word_ok rows) held && every (numbered_below next) held) h.good) in
    record {
      good = and_both (some_trees (trees_in held)) (every (word_ok rows) held && every (numbered_below later) held) (held_whole rows next held h) (and_both (every (word_ok rows) held) (every (numbered_below later) held) (words_ok rows next held h) (all_later next later held l b));
      pass = h.pass;
      few = h.few;
      switches = h.switches;
    }
