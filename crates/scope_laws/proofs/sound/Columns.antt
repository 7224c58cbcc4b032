-- The arms of one number of a group's members are sound (01, "Scoped fusion"): words that rounds take, a tree for each member, read as the members' arms, and for a
-- group of the switches of words no more of them than those words. And which groups these are. Assumes nothing.
use Prim.Native.Nat.{ℕ, suc, ◌+◌, ◌≤◌, ◌<◌}
use native.Mathlib.Omega.{arith}
use mathlib.Core.Path.{◌≡◌, refl, sym, ◌∙◌, ap, ap₂, subst}
use mathlib.Core.Bool.{Bool}
use mathlib.Core.Option.{some}
use mathlib.Core.List.{List, [], ◌∷◌, ◌++◌, map}
use lib.ListN.{length, get_or, drop, length-append, length-map}
use lib.Dec.{T}
use Rattle.spec_tree.specs.Rows.{Row}
use Rattle.spec_tree.specs.Tree.{Tree}
use Rattle.spec_tree.specs.Tokens.{all_tokens, read, numbered, trees_in}
use Rattle.spec_tree.proofs.TokenCode.{unnumbered, all_tokens_append}
use Rattle.spec_cse.specs.Scope.{collect_switches, members}
use Rattle.laws.specs.positions.Names.{symbols_pass}
use Rattle.laws.specs.positions.Places.{numbered_at}
use Rattle.laws.proofs.positions.Extraction.{Every, every_append}
use Rattle.laws.proofs.positions.Coded.{read_again}
use Rattle.laws.proofs.positions.WordRounds.{written, written_complete}
use Rattle.rounds.specs.kept.Sound.{extractable}
use Rattle.rounds.proofs.kept.Steps.{Ready, ready_of, ready_so}
use Rattle.laws.specs.switches.Switches.{arm_count, arm_place, switch_places, switch_there}
use Rattle.laws.specs.switches.Groups.{member, group_numbers, members_of, member_places, group_there}
use Rattle.laws.specs.switches.Columns.{words_at, column_words}
use Rattle.laws.proofs.switches.Collected.{Switching, places_switch, collected_are}
use Rattle.laws.proofs.switches.Turned.{Armed}
use Rattle.laws.proofs.switches.Words.{words_are, arm_within}
use Rattle.laws.proofs.switches.Grouped.{every_so, Opens, opener_first, numbers_open, collected_groups}
use Rattle.laws.proofs.switches.GroupColumns.{every_at, members_armed, members_by_place, group_column_short}
use Rattle.fusion.proofs.Totals.{none_total}
use Rattle.fusion.specs.place.Parts.{place_groups, joined_groups, group_at}
use Rattle.scope_laws.proofs.sound.Held.{Fine, all_in_code, fine_ready, fine_pass, place_fine}
use Rattle.laws.proofs.cse.NumbersMost.{members_total, groups_members, from_members}

-- ---- a column of switches

module _ (hs : List ℕ) where
  -- a switch with an arm of number a
  abbrev pub Past : ℕ → ℕ → Type 0
  Past a q = Switching hs q × (a < arm_count hs q)

  -- the arms of number a
  abbrev pub arm_trees : List ℕ → ℕ → List Tree
  arm_trees g a = map (λ (q : ℕ). numbered_at hs (arm_place hs q a)) g

  pub armed_past : (n a : ℕ) → a < n → (g : List ℕ) → Every (Armed hs n) g → Every (Past a) g
  armed_past n a h g e = every_so (Armed hs n) (Past a) (λ q s. (s.0, (let c = s.1 in omega arith))) g e

  no_column : (a : ℕ) → column_words hs [] a ≡ []
  unfolding column_words
  no_column a = refl

  next_column : (q : ℕ) (g : List ℕ) (a : ℕ) → column_words hs (q ∷ g) a ≡ words_at hs (arm_place hs q a) ++ column_words hs g a
  unfolding column_words
  next_column q g a = refl

module _ (rows : List Row) (good : ℕ → Bool) (n : ℕ) (hs : List ℕ) (sound : T (extractable rows n hs)) (pass : T (symbols_pass good hs)) where
  abbrev ready : Ready rows n hs
  ready = ready_of rows n hs sound

  pub column_written : (g : List ℕ) (a : ℕ) → Every (Past hs a) g → column_words hs g a ≡ written (arm_trees hs g a)
  column_written [] a s = no_column hs a ∙ (unfold all_tokens in refl)
  column_written (q ∷ g) a s =
      let r = ready in
      let i = arm_within hs r.trees r.complete q s.0.0 a s.0.1 in
      let t = numbered_at hs (arm_place hs q a) in
      next_column hs q g a
      ∙ (ap₂ (λ (x y : List ℕ). x ++ y) (sym (words_are hs r.trees r.complete (arm_place hs q a) i)) (column_written g a s.1)
      ∙ sym (all_tokens_append unnumbered (t ∷ []) (arm_trees hs g a)))

  module _ (m : ℕ) (more : n ≤ m) where
    column_fine : (g : List ℕ) (a : ℕ) → Every (Past hs a) g → Every (Fine rows good m) (arm_trees hs g a)
    column_fine [] a s = tt
    column_fine (q ∷ g) a s =
        (place_fine rows good n hs ready pass m more (arm_place hs q a) (arm_within hs ready.trees ready.complete q s.0.0 a s.0.1), column_fine g a s.1)

    module _ (g : List ℕ) (a : ℕ) (s : Every (Past hs a) g) where
      pub column_sound : T (extractable rows m (column_words hs g a))
      column_sound =
          subst (λ (l : List ℕ). T (extractable rows m l)) (sym (column_written g a s))
          (ready_so rows m (written (arm_trees hs g a)) (fine_ready rows good m (arm_trees hs g a) (column_fine g a s)))

      pub column_pass : T (symbols_pass good (column_words hs g a))
      column_pass = subst (λ (l : List ℕ). T (symbols_pass good l)) (sym (column_written g a s)) (fine_pass rows good m (arm_trees hs g a) (column_fine g a s))

      pub column_complete : trees_in (column_words hs g a) ≡ some (length g)
      column_complete =
          ap trees_in (column_written g a s)
          ∙ (written_complete (arm_trees hs g a) (all_in_code rows good m (arm_trees hs g a) (column_fine g a s)) ∙ ap some (length-map g (λ (q : ℕ). numbered_at hs (arm_place hs q a))))

      pub column_read : read numbered (column_words hs g a) ≡ arm_trees hs g a
      column_read = ap (read numbered) (column_written g a s) ∙ read_again (arm_trees hs g a) (all_in_code rows good m (arm_trees hs g a) (column_fine g a s))

-- ---- the groups of the switches of words

-- a group: some switches with as many arms each as the first, whose columns are no longer than the words
pub record Fused (hs g : List ℕ) : Type 0 where
  pub some_member : 1 ≤ length g
  pub armed : Every (Armed hs (arm_count hs (get_or g 0 0))) g
  pub short : (a : ℕ) → a < arm_count hs (get_or g 0 0) → length (column_words hs g a) ≤ length hs

module _ (hs : List ℕ) (m : ℕ) (complete : trees_in hs ≡ some m) where
  abbrev ps : List ℕ
  ps = switch_places hs

  abbrev numbers : List ℕ
  numbers = group_numbers hs ps

  first_member : (i : ℕ) → Opens hs ps (length ps) i → member_places hs ps i ≡ member ps i ∷ map (member ps) (drop 1 (members_of hs ps i))
  unfolding member_places members_of
  first_member i o = ap (map (member ps)) (opener_first hs ps i (length ps) o.0 o.1)

  one_fused : (i : ℕ) → Opens hs ps (length ps) i → Fused hs (member_places hs ps i)
  one_fused i o =
      let e = first_member i o in
      let f : member ps i ≡ get_or (member_places hs ps i) 0 0 = sym (ap (λ (l : List ℕ). get_or l 0 0) e) in
      let l : length (member_places hs ps i) ≡ suc (length (map (member ps) (drop 1 (members_of hs ps i)))) = ap length e in
      record {
        some_member = omega (arith, l);
        armed = subst (λ (q : ℕ). Every (Armed hs (arm_count hs q)) (member_places hs ps i)) f (members_armed hs ps (places_switch hs) i);
        short = λ a h.
            group_column_short hs m complete i o.0 o.1 a (subst (λ (q : ℕ). a < arm_count hs q) (sym f) h);
      }

  each_fused : (l : List ℕ) → Every (Opens hs ps (length ps)) l → Every (Fused hs) (map (member_places hs ps) l)
  each_fused [] o = tt
  each_fused (i ∷ l) o = (one_fused i o.0, each_fused l o.1)

  pub groups_fused : Every (Fused hs) (place_groups hs)
  unfolding place_groups
  groups_fused = each_fused numbers (numbers_open hs ps)

  pub group_fused : (j : ℕ) → j < length (place_groups hs) → Fused hs (group_at (place_groups hs) j)
  unfolding group_at
  group_fused j h = every_at (Fused hs) [] (place_groups hs) groups_fused j h

  -- ---- how many members and groups there are

  joined_of : (l : List ℕ) → Every (Opens hs ps (length ps)) l → length (joined_groups (map (member_places hs ps) l)) ≡ members_total (map (group_there hs ps) l)
  unfolding joined_groups members_total
  joined_of [] o = refl
  joined_of (i ∷ l) o =
      let e : length (members (group_there hs ps i)) ≡ length (member_places hs ps i) =
      ap length (members_by_place hs ps i o.0.0 o.0.1) ∙ length-map (member_places hs ps i) (switch_there hs) in
      omega (arith, e, joined_of l o.1, length-append (member_places hs ps i) (joined_groups (map (member_places hs ps) l)))

  total_there : members_total (map (group_there hs ps) numbers) ≡ length ps
  total_there =
      let e = ap members_total (sym (collected_groups hs m complete)) in
      let f = from_members [] (collect_switches (read numbered hs)) in
      let g = ap length (collected_are hs m complete) in
      let h = length-map ps (switch_there hs) in
      omega (arith, none_total, e, f, g, h)

  pub members_count : length (joined_groups (place_groups hs)) ≡ length (switch_places hs)
  unfolding place_groups
  members_count = joined_of numbers (numbers_open hs ps) ∙ total_there

  pub groups_count : length (place_groups hs) ≤ length (switch_places hs)
  unfolding place_groups
  groups_count =
      let a = groups_members (map (group_there hs ps) numbers) in
      let b = length-map numbers (group_there hs ps) in
      let c = length-map numbers (member_places hs ps) in
      omega (arith, a, b, c, total_there)

  joined_switching : (gs : List (List ℕ)) → Every (Fused hs) gs → Every (Switching hs) (joined_groups gs)
  unfolding joined_groups
  joined_switching [] e = tt
  joined_switching (g ∷ gs) e =
      every_append (Switching hs) g (joined_groups gs) (every_so (Armed hs (arm_count hs (get_or g 0 0))) (Switching hs) (λ q s. s.0) g e.0.armed) (joined_switching gs e.1)

  -- every member's place is a switch
  pub members_switching : Every (Switching hs) (joined_groups (place_groups hs))
  members_switching = joined_switching (place_groups hs) groups_fused
