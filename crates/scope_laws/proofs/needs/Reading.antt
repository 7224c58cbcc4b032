-- What each statement of a scope reads, by its position (01, "Order"); and a table of bits that says so for each two statements is the table of their needs. Assumes
-- nothing.
use Prim.Native.Nat.{ℕ, zero, suc, ◌+◌, ◌<◌}
use native.Mathlib.Omega.{arith}
use mathlib.Core.Path.{◌≡◌, refl, sym, ◌∙◌, ap, ap₂, subst}
use mathlib.Core.Bool.{Bool, false, ◌||◌}
use mathlib.Core.Option.{some}
use mathlib.Core.List.{List, [], ◌∷◌, ◌++◌, map}
use lib.ListN.{length, get_or, drop}
use lib.Dec.{T}
use Rattle.spec_tree.specs.Tree.{Name, Tree}
use Rattle.spec_tree.specs.Tokens.{word, name_code, tokens, trees_in, kind_of}
use Rattle.spec_tree.proofs.TokenCode.{coded, unnumbered}
use Rattle.spec_cse.specs.Answer.{Intermediate, Let, Match, names, symbols, elem}
use Rattle.spec_cse.specs.Order.{meets, needs_from, nothing}
use Rattle.spec_cse.specs.Scope.{Switch, Group, members, arms_of_members}
use Rattle.laws.specs.positions.Places.{numbered_at}
use Rattle.laws.proofs.positions.Coded.{is_alone}
use Rattle.laws.proofs.positions.DivisorPlaces.{enough}
use Rattle.laws.proofs.positions.Extraction.{Every}
use Rattle.words.specs.bits.Bits.{yes}
use Rattle.topo_sort.specs.Needs.{columns, rows_from, table_of}
use Rattle.topo_sort.proofs.Left.{columns_step}
use Rattle.laws.specs.switches.Switches.{key_place, switch_there}
use Rattle.laws.proofs.switches.Collected.{Switching}
use Rattle.laws.proofs.switches.Parts.{has_key}
use Rattle.laws.proofs.switches.Words.{place_within}
use Rattle.laws.proofs.outernames.Switches.{group_columns}
use Rattle.laws.proofs.outernames.Arms.{column_symbols, columns_elem}
use Rattle.laws.proofs.outernames.Matches.{Shaped, AllShaped}
use Rattle.laws.proofs.outernames.Ordering.{needs_of, read_before, meets_same}
use Rattle.fusion.specs.Settled.{fused_tree, Numbered, all_steps, group_match, group_matches}
use Rattle.fusion.specs.Whole.{lets_from}
use Rattle.fusion.specs.Words.{all_numbers}
use Rattle.fusion.proofs.Grouping.{group_of}
use Rattle.fusion.specs.place.Parts.{group_at, group_end, opener, key_run, steps_from}
use Rattle.fusion.specs.place.Reads.{all_arms_run}
use Rattle.scope_laws.proofs.needs.Marks.{any, any_append}
use Rattle.scope_laws.proofs.needs.Symbols.{any_name, any_name_append, meets_any, any_tree}
use Rattle.scope_laws.proofs.needs.Positions.{group_names}
use Rattle.scope_laws.proofs.needs.ArmWords.{tree_fits, any_arms}
use Rattle.scope_laws.proofs.needs.Held.{fused_fits, Beside, steps_of_later}
use Rattle.topo_sort.proofs.Sorted.{needs_step}

-- ---- the table of needs from what is read

module _ (bits : List ℕ) where
  row_needs :
      (j i : ℕ) (read : List Name) (l : List Intermediate) → ((k : ℕ) → k < length l → yes bits j (i + k) ≡ meets (names (get_or l k nothing)) read)
      → columns bits j i (length l) ≡ needs_from i read l
  row_needs j i read [] f = unfold columns in unfold needs_from in refl
  row_needs j i read (s ∷ l) f =
      let e : yes bits j i ≡ meets (names s) read = subst (λ (k : ℕ). yes bits j k ≡ meets (names s) read) (let z : i + 0 ≡ i = omega arith in z) (f 0 (omega arith)) in
      let rest = row_needs j (suc i) read l (λ k h. subst (λ (m : ℕ). yes bits j m ≡ meets (names (get_or l k nothing)) read) (let z : i + suc k ≡ suc i + k = omega arith in z) (f (suc k) (omega arith))) in
      columns_step bits j i (length l) ∙ (rw (e, rest) refl ∙ sym (needs_step i read s l))

  rows_need :
      (all : List Intermediate) (j : ℕ) (rs : List (List Name))
      → ((k : ℕ) → k < length rs → columns bits (j + k) 0 (length all) ≡ needs_from 0 (get_or rs k []) all) → rows_from bits (length all) j (length rs) ≡ needs_of all rs
  unfolding rows_from needs_of
  rows_need all j [] f = refl
  rows_need all j (r ∷ rs) f =
      let e : columns bits j 0 (length all) ≡ needs_from 0 r all =
      subst (λ (k : ℕ). columns bits k 0 (length all) ≡ needs_from 0 r all) (let z : j + 0 ≡ j = omega arith in z) (f 0 (omega arith))
      in
      let rest = rows_need all (suc j) rs (λ k h. subst (λ (m : ℕ). columns bits m 0 (length all) ≡ needs_from 0 (get_or rs k []) all) (let z : j + suc k ≡ suc j + k = omega arith in z) (f (suc k) (omega arith))) in
      rw (e, rest) refl

  pub table_by :
      (all : List Intermediate) (rs : List (List Name)) → length rs ≡ length all
      → ((j i : ℕ) → j < length all → i < length all → yes bits j i ≡ meets (names (get_or all i nothing)) (get_or rs j []))
      → table_of bits (length all) ≡ needs_of all rs
  unfolding table_of
  table_by all rs e f =
      ap (rows_from bits (length all) 0) (sym e)
      ∙ rows_need all 0 rs (λ k h. subst (λ (m : ℕ). columns bits m 0 (length all) ≡ needs_from 0 (get_or rs k []) all) (let z : k ≡ 0 + k = omega arith in z)
      (row_needs k 0 (get_or rs k []) all (λ i g. subst (λ (m : ℕ). yes bits k m ≡ meets (names (get_or all i nothing)) (get_or rs k [])) (let z : i ≡ 0 + i = omega arith in z) (f k i (omega (arith, e)) g))))

-- ---- what is read, by position

pub lets_read : (i : ℕ) (l : List Tree) (rest : List Intermediate) (gs : List Group) → read_before (lets_from i l ++ rest) gs ≡ map symbols l ++ read_before rest gs
unfolding lets_from read_before
lets_read i [] rest gs = refl
lets_read i (t ∷ l) rest gs = ap (λ (r : List (List Name)). symbols t ∷ r) (lets_read (suc i) l rest gs)

pub read_count : (l : List Intermediate) (gs : List Group) → length (read_before l gs) ≡ length l
unfolding read_before
read_count [] gs = refl
read_count (Let n e ∷ l) gs = ap suc (read_count l gs)
read_count (Match k key ns arms ∷ l) [] = ap suc (read_count l [])
read_count (Match k key ns arms ∷ l) (g ∷ gs) = ap suc (read_count l gs)

match_row :
    (ls : List Numbered) (j : ℕ) (h : Numbered) (after : List Numbered) → drop j ls ≡ h ∷ after
    → get_or (read_before (group_matches ls) (map group_of ls)) j [] ≡ symbols (fused_tree (all_steps after) h.group.first.key) ++ column_symbols (group_columns h.group)
unfolding group_matches group_match read_before
match_row [] zero h after e = let z : ◌≡◌ {A = ℕ} 0 1 = cc in absurd (omega arith)
match_row [] (suc j) h after e = let z : ◌≡◌ {A = ℕ} 0 1 = cc in absurd (omega arith)
match_row (c ∷ l) zero h after e =
    let p : c ≡ h = cc in
    let q : l ≡ after = cc in
    ap₂ (λ (c : Numbered) (l : List Numbered). symbols (fused_tree (all_steps l) c.group.first.key) ++ column_symbols (group_columns c.group)) p q
match_row (c ∷ l) (suc j) h after e = match_row l j h after e

-- ---- one group

record Here (hs : List ℕ) (ls : List Numbered) (pss : List (List ℕ)) (j : ℕ) : Type 0 where
  here : Numbered
  drops : drop j ls ≡ here ∷ drop (suc j) ls
  switches : members here.group ≡ map (switch_there hs) (get_or pss j [])
  switching : Every (Switching hs) (get_or pss j [])
  shaped : Shaped here.group

find : (hs : List ℕ) (ls : List Numbered) (pss : List (List ℕ)) (j : ℕ) → j < length ls → Beside hs ls pss → AllShaped (map group_of ls) → Here hs ls pss j
find hs [] pss j h b s = absurd (omega arith)
find hs (g ∷ l) [] j h b s = absurd b
find hs (g ∷ l) (qs ∷ pss) zero h b s = record { here = g; drops = refl; switches = b.0.0; switching = b.0.1; shaped = s.0 }
find hs (g ∷ l) (qs ∷ pss) (suc j) h b s =
    let r = find hs l pss j (omega arith) b.1 s.1 in
    record { here = r.here; drops = r.drops; switches = r.switches; switching = r.switching; shaped = r.shaped }

opens : (hs : List ℕ) (g : Group) (qs : List ℕ) → members g ≡ map (switch_there hs) qs → Every (Switching hs) qs → (g.first ≡ switch_there hs (get_or qs 0 0)) × Switching hs (get_or qs 0 0)
unfolding members
opens hs g [] e s = let z : ◌≡◌ {A = ℕ} 0 1 = cc in absurd (omega arith)
opens hs g (q ∷ qs) e s = (cc, s.0)

key_there : (hs : List ℕ) (q : ℕ) (s : Switch) → s ≡ switch_there hs q → s.key ≡ numbered_at hs (key_place q)
unfolding switch_there
key_there hs q s e = ap (λ (s : Switch). s.key) e

module _ (hs : List ℕ) (m : ℕ) (complete : trees_in hs ≡ some m) where
  key_fits : (q : ℕ) → Switching hs q → T (coded is_alone (numbered_at hs (key_place q)))
  unfolding key_place
  key_fits q s = tree_fits hs m complete (suc q) (place_within hs (suc q) (let a = (has_key hs q s.1).0 in let b = enough hs m complete q s.0 in omega arith))

  module _ (p : ℕ → Bool) (ns : List Name) (symbol : (n : Name) → p (word 0 (name_code unnumbered n)) ≡ elem n ns) (other : (w : ℕ) → 0 < kind_of w → p w ≡ false) where
    -- a tree
    pub tree_reads : (t : Tree) → T (coded is_alone t) → any p (tokens unnumbered t) ≡ meets ns (symbols t)
    tree_reads t h = any_tree unnumbered is_alone p (λ n. elem n ns) symbol other t h ∙ sym (meets_any ns (symbols t))

    both_meet : (a b : List Name) → meets ns (a ++ b) ≡ (meets ns a || meets ns b)
    both_meet a b =
        meets_any ns (a ++ b) ∙ (any_name_append (λ n. elem n ns) a b ∙ sym (ap₂ ◌||◌ (meets_any ns a) (meets_any ns b)))

    -- a match: its key, and all arms of its members
    pub match_reads :
        (ls : List Numbered) (pss : List (List ℕ)) → Beside hs ls pss → AllShaped (map group_of ls) → (j : ℕ) → j < length ls
        → any p (key_run hs pss (all_numbers ls) j ++ all_arms_run hs (group_at pss j)) ≡ meets ns (get_or (read_before (group_matches ls) (map group_of ls)) j [])
    unfolding key_run opener group_at
    match_reads ls pss b s j h =
        let r = find hs ls pss j h b s in
        let g = r.here.group in
        let qs = get_or pss j [] in
        let q = get_or qs 0 0 in
        let o = opens hs g qs r.switches r.switching in
        let steps = steps_from hs pss (all_numbers ls) (group_end pss j) in
        let key = fused_tree steps (numbered_at hs (key_place q)) in
        let own = fused_tree (all_steps (drop (suc j) ls)) g.first.key in
        let same : key ≡ own = ap₂ fused_tree (steps_of_later hs ls pss b j) (sym (key_there hs q g.first o.0)) in
        let keys : any p (tokens unnumbered key) ≡ meets ns (symbols own) =
        tree_reads key (fused_fits steps (numbered_at hs (key_place q)) (key_fits q o.1)) ∙ ap (λ (t : Tree). meets ns (symbols t)) same in
        let arms : any p (all_arms_run hs qs) ≡ meets ns (column_symbols (group_columns g)) =
        any_arms hs m complete p (λ n. elem n ns) symbol other qs r.switching
        ∙ (ap (λ (l : List Switch). any_name (λ n. elem n ns) (column_symbols (arms_of_members l))) (sym r.switches)
        ∙ (sym (meets_any ns (column_symbols (arms_of_members (members g))))
        ∙ meets_same ns (column_symbols (arms_of_members (members g))) (column_symbols (group_columns g)) (λ n t. sym (columns_elem g r.shaped.0 n)))) in
        any_append p (tokens unnumbered key) (all_arms_run hs qs)
        ∙ (ap₂ ◌||◌ keys arms
        ∙ (sym (both_meet (symbols own) (column_symbols (group_columns g))) ∙ ap (meets ns) (sym (match_row ls j r.here (drop (suc j) ls) r.drops))))

-- ---- the names that a match binds

pub match_names : (ls : List Numbered) (j : ℕ) (d : Intermediate) → j < length ls → names (get_or (group_matches ls) j d) ≡ group_names ls j
unfolding group_matches group_match names
match_names [] j d h = absurd (omega arith)
match_names (g ∷ l) zero d h = refl
match_names (g ∷ l) (suc j) d h = match_names l j d (omega arith)
