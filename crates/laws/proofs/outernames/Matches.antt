-- What the match of a group reads, from its key and its members' arms as they were collected, where the arms' scopes read from outside what their inputs read
-- (01, "Order", "Scoped fusion"). Assumes nothing.
use Prim.Native.Nat.{ℕ}
use native.Mathlib.Omega.{arith}
use mathlib.Core.Path.{◌≡◌, ◌∙◌, ap}
use mathlib.Core.Bool.{Bool, true, ◌||◌}
use mathlib.Core.List.{List, [], ◌∷◌, ◌++◌}
use lib.Dec.{T}
use Rattle.spec_tree.specs.Outcome.{Outcome, ok}
use Rattle.spec_tree.specs.Tree.{Name, Tree}
use Rattle.spec_rewrite.proofs.Counts.{well_formed_all}
use Rattle.spec_cse.specs.Answer.{Match, symbols, free, free_arms, elem}
use Rattle.spec_cse.specs.Scope.{Group, Work, Scoped, Armed, members, collect_switches, groups_from, name_members, member_names, arms_of_members, scope_arms}
use Rattle.laws.proofs.cse.Outcomes.{Good, good_at}
use Rattle.laws.proofs.cse.Symbols.{holds_all_by}
use Rattle.laws.proofs.cse.SwitchLaws.{FairGroup, FairGroups, groups_fair, AllHold}
use Rattle.laws.proofs.cse.ScopeValue.{under, under_le, name_members_later, hold_more}
use Rattle.laws.proofs.outernames.Switches.{group_columns, AllFormed, ColumnsFormed, groups_columns}
use Rattle.laws.proofs.outernames.Arms.{column_symbols, SameNames, SameArms, arms_same, Outside, arms_elem, arms_elem_any, match_elem, columns_elem}

-- ---- groups of roots with the operand counts of 01

-- members of one kind, key and arm count, each the tree of its key and arms, whose columns have right operand counts
abbrev pub Shaped : Group → Type 0
Shaped g = FairGroup (λ n. true) g × AllFormed (group_columns g)

abbrev pub AllShaped : List Group → Type 0
AllShaped [] = Unit {0}
AllShaped (g ∷ l) = Shaped g × AllShaped l

both_shaped : (gs : List Group) → FairGroups (λ n. true) gs → ColumnsFormed gs → AllShaped gs
both_shaped [] f c = tt
both_shaped (g ∷ gs) f c = ((f.0, c.0), both_shaped gs f.1 c.1)

pub groups_shaped : (rs : List Tree) → T (well_formed_all rs) → AllShaped (groups_from [] (collect_switches rs))
groups_shaped rs w = both_shaped (groups_from [] (collect_switches rs)) (groups_fair (λ n. true) rs (holds_all_by (λ n. true) rs (λ n t. tt))) (groups_columns rs w)

pub shaped_at : (l : List Group) (g : Group) (r : List Group) → AllShaped (l ++ (g ∷ r)) → Shaped g
shaped_at [] g r h = h.0
shaped_at (x ∷ l) g r h = shaped_at l g r h.1

module _ (scope : ℕ → List Tree → Outcome Scoped) (ih : (start : ℕ) (es : List Tree) → T (well_formed_all es) → Good (SameNames start es) (scope start es)) where
  pub arms_are : (start : ℕ) (ls : List (List Tree)) → AllFormed ls → (a : Armed) → scope_arms scope start ls ≡ ok a → SameArms start ls a
  arms_are start ls w a e = good_at (SameArms start ls) (scope_arms scope start ls) a e (arms_same scope ih ls start w)

  -- ---- the arms' scopes on any columns

  pub arms_read :
      (start : ℕ) (ls : List (List Tree)) → AllFormed ls → (a : Armed) → scope_arms scope start ls ≡ ok a
      → (n : Name) → T (under start n) → elem n (free_arms a.arms) ≡ elem n (column_symbols ls)
  arms_read start ls w a e n u = arms_elem start ls a (arms_are start ls w a e) n u

  pub match_reads :
      (start : ℕ) (ls : List (List Tree)) → AllFormed ls → (a : Armed) → scope_arms scope start ls ≡ ok a
      → (n : Name) → T (under start n) → (k : ℕ) (key : Tree) (ns : List Name)
      → elem n (free (Match k key ns a.arms)) ≡ (elem n (symbols key) || elem n (column_symbols ls))
  match_reads start ls w a e n u k key ns = match_elem a.arms ls n (arms_read start ls w a e n u) k key ns

  -- ---- a group's match, as it is made

  module _ (g : Group) (w : Work) (shaped : Shaped g) (a : Armed) (e : scope_arms scope (name_members (members g) w).next (group_columns g) ≡ ok a) where
    abbrev first : ℕ
    first = (name_members (members g) w).next

    -- for an input symbol or a name with a number below the group's first
    pub group_match_reads :
        (n : Name) → T (under w.next n)
        → elem n (free (Match g.first.kind g.first.key (member_names w.next (members g)) a.arms)) ≡ (elem n (symbols g.first.key) || elem n (column_symbols (group_columns g)))
    group_match_reads n u =
        match_reads first (group_columns g) shaped.1 a e n (under_le w.next first (name_members_later (members g) w) n u) g.first.kind g.first.key (member_names w.next (members g))

    -- with the members' arms in place of the columns
    pub group_match_members :
        (n : Name) → T (under w.next n)
        → elem n (free (Match g.first.kind g.first.key (member_names w.next (members g)) a.arms))
        ≡ (elem n (symbols g.first.key) || elem n (column_symbols (arms_of_members (members g))))
    group_match_members n u = group_match_reads n u ∙ ap (λ (b : Bool). elem n (symbols g.first.key) || b) (columns_elem g shaped.0 n)

    -- for any name that the arms' scopes don't make, as those of the group itself and of later groups
    pub group_arms_any :
        AllHold (under w.next) (group_columns g) → (n : Name) → Outside first a.next n → elem n (free_arms a.arms) ≡ elem n (column_symbols (group_columns g))
    group_arms_any h n o =
        arms_elem_any first (group_columns g) a (arms_are first (group_columns g) shaped.1 a e)
        (hold_more (under w.next) (under first) (under_le w.next first (name_members_later (members g) w)) (group_columns g) h) n o

    pub group_match_any :
        AllHold (under w.next) (group_columns g) → (n : Name) → Outside first a.next n → (key : Tree)
        → elem n (free (Match g.first.kind key (member_names w.next (members g)) a.arms)) ≡ (elem n (symbols key) || elem n (column_symbols (group_columns g)))
    group_match_any h n o key = match_elem a.arms (group_columns g) n (group_arms_any h n o) g.first.kind key (member_names w.next (members g))
