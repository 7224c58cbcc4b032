-- What the walk over the groups of a scope asks of each is given, and its sums are words (01, "Scoped fusion"). Assumes nothing.
use Prim.Native.Nat.{ℕ, ◌+◌, ◌-◌, ◌≤◌, ◌<◌}
use native.Mathlib.Omega.{arith}
use mathlib.Core.Path.{◌≡◌, ◌∙◌, ap, subst}
use mathlib.Core.List.{List, [], ◌∷◌}
use lib.ListN.{length, get_or, take, drop, length-append}
use Rattle.spec_tree.specs.Rows.{Row}
use Rattle.laws.specs.positions.Names.{is_number}
use Rattle.fusion.specs.place.Parts.{place_groups, joined_groups, group_at, group_start, group_end}
use Rattle.fusion.specs.place.Whole.{group_told}
use Rattle.rounds.proofs.kept.Steps.{ready_of}
use Rattle.scope_laws.proofs.sound.Columns.{groups_count}
use Rattle.scope_laws.proofs.sound.Sums.{sum_each}
use Rattle.scope_laws.proofs.sound.Bounds.{per_match, WalkBound, walk_bound}
use Rattle.cse_scoped.specs.one_scope.Answers.{inner, arms_answer, ArmsWrote}
use Rattle.cse_scoped.specs.one_scope.Frame.{Holds, IsGroup, Members}
use Rattle.cse_scoped.specs.one_scope.Armed.{Armed}
use Rattle.statements.proofs.Groups.{end_is, group_long, group_inside, group_part}
use Rattle.cse_scoped.proofs.one_scope.Sound.{words_ok, holds_later}
use Rattle.cse_scoped.proofs.one_scope.WalkLaws.{WalkSo}
use Rattle.fusion.proofs.groups.Groups.{ends_length}

-- all rows of arms are paid for
pub joined_low : (l : List (List ℕ)) → length (joined_groups l) ≤ sum_each (λ (run : List ℕ). per_match + length run) l
unfolding joined_groups sum_each
joined_low [] = omega arith
joined_low (x ∷ l) = (let r = joined_low l in let a = length-append x (joined_groups l) in omega arith)

module _ (rows : List Row) (fuel left next : ℕ) (held members ends : List ℕ) (h : Holds rows next held) (m : Members held members ends) (low : next ≤ 4294967296) where
  abbrev gs : List (List ℕ)
  gs = place_groups held

  pub ends_many : length ends ≡ length gs
  ends_many = ap length m.ends_are ∙ ends_length 0 gs

  pub ends_few : length ends ≤ 3640
  ends_few =
      let r = ready_of rows next held h.good in
      omega (arith, ends_many, groups_count held r.trees r.complete, h.switches)

  module _ (n number extracted start to : ℕ) (numbers stops kept : List ℕ) (so : WalkSo (inner rows fuel left) held gs next n number extracted start to numbers stops kept) where
    pub so_bound : n ≤ length ends → WalkBound gs next n so.done
    so_bound l = walk_bound rows (is_number rows) fuel left next held h.good h.pass (words_ok rows next held h) n (omega (arith, ends_many)) so.done so.told

    pub number_low : n ≤ length ends → number ≤ 4294967296
    number_low l = let b = so_bound l in omega (arith, so.number_is, b.most 4294967296 low (omega arith))

    pub number_holds : n ≤ length ends → Holds rows number held
    number_holds l = let b = so_bound l in holds_later rows next number held (omega (arith, so.number_is, b.forth)) h

    pub made_low : n ≤ length ends → extracted ≤ 4294967296
    made_low l = let b = so_bound l in omega (arith, so.extracted_is, so.number_is, number_low l, b.made)

    -- the rows kept so far
    pub to_low : n ≤ length ends → to ≤ 288230376151711744
    to_low l = let b = so_bound l in omega (arith, so.to_is, joined_low so.done.arms, b.rows, b.most 4294967296 low (omega arith))

    module _ (l : n < length ends) where
      inside : n < length gs
      inside = omega (arith, ends_many)

      pub start_at : start ≡ group_start gs n
      start_at = let b = so_bound (omega arith) in so.start_is ∙ b.numbers_many

      pub end_at : get_or ends n 0 ≡ group_end gs n
      end_at = ap (λ (e : List ℕ). get_or e n 0) m.ends_are ∙ end_is gs n inside

      pub end_long : get_or ends n 0 ≡ start + length (group_at gs n)
      end_long = omega (arith, end_at, group_long gs n inside, start_at)

      pub end_within : get_or ends n 0 ≤ length members
      end_within = omega (arith, end_at, group_inside gs n inside, ap length m.members_are)

      pub members_here : take (get_or ends n 0 - start) (drop start members) ≡ group_at gs n
      members_here =
          ap (λ (k : ℕ). take (k - start) (drop start members)) end_at
          ∙ (ap (λ (k : ℕ). take (group_end gs n - k) (drop k members)) start_at
          ∙ (ap (λ (z : List ℕ). take (group_end gs n - group_start gs n) (drop (group_start gs n) z)) m.members_are ∙ group_part gs n inside))

      pub group_here : IsGroup held (take (get_or ends n 0 - start) (drop start members))
      group_here = record { number = n; there = inside; is = members_here }

      pub answer_here : (r : Armed) (new : List ℕ)
          → (r ≡ arms_answer (group_told (inner rows fuel left) held (take (get_or ends n 0 - start) (drop start members)) number) to)
          × ArmsWrote (group_told (inner rows fuel left) held (take (get_or ends n 0 - start) (drop start members)) number) to kept new
          → (r ≡ arms_answer (group_told (inner rows fuel left) held (group_at gs n) number) to) × ArmsWrote (group_told (inner rows fuel left) held (group_at gs n) number) to kept new
      answer_here r new e =
          subst (λ (z : List ℕ). (r ≡ arms_answer (group_told (inner rows fuel left) held z number) to) × ArmsWrote (group_told (inner rows fuel left) held z number) to kept new) members_here e

      pub count_here : get_or ends n 0 - start ≡ length (group_at gs n)
      count_here = omega (arith, end_long)
