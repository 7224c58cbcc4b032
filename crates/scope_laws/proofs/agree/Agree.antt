-- A scope place by place on words is that of `cse_scoped` by trees, told as words (01, "Scoped fusion"). Assumes nothing.
use Prim.Native.Nat.{ℕ, ◌+◌}
use native.Mathlib.Omega.{arith}
use mathlib.Core.Path.{◌≡◌, sym, ◌∙◌, ap}
use mathlib.Core.Bool.{Bool, true}
use mathlib.Core.List.{List, [], map}
use lib.ListN.{length, length-map}
use Rattle.spec_tree.specs.Outcome.{Outcome, ok, ◌>>=◌}
use Rattle.spec_tree.specs.Tree.{Tree}
use Rattle.spec_tree.specs.Rows.{Row}
use Rattle.spec_tree.specs.Tokens.{read, numbered, name_in}
use Rattle.spec_tree.proofs.TokenLaws.{complete_length}
use Rattle.spec_cse.specs.Scope.{Scoped}
use Rattle.laws.specs.positions.Shown.{cse_scope_by}
use Rattle.laws.specs.positions.Places.{numbered_at, divisors_to_bind}
use Rattle.laws.specs.positions.Rounds.{next_number}
use Rattle.laws.proofs.positions.BestPlace.{text_of}
use Rattle.fusion.specs.Settled.{numbered_groups}
use Rattle.fusion.specs.Words.{all_numbers}
use Rattle.fusion.specs.Whole.{scope_groups}
use Rattle.fusion.specs.place.Parts.{reciprocals_first}
use Rattle.fusion.specs.place.Whole.{scope_told}
use Rattle.fusion.proofs.place.Room.{stmts_few}
use Rattle.scope_laws.proofs.sound.Rounds.{rounds_results}
use Rattle.scope_laws.proofs.sound.Counting.{places_there}
use Rattle.scope_laws.proofs.needs.Order.{order_is}
use Rattle.scope_laws.proofs.needs.Scopes.{scope_same_by}
use Rattle.scope_laws.specs.told.Told.{told}
use Rattle.scope_laws.proofs.told.Whole.{KeepsOrder}
use Rattle.scope_laws.proofs.told.Scoped.{scope_told_is}
use Rattle.scope_laws.proofs.agree.Sound.{Sound, whole, left_sound, left_pass, left_ready, settled_formed, settled_under, keeps_sound}

module _ (rows : List Row) (good : ℕ → Bool) where
  abbrev text : Tree → List ℕ
  text = text_of [] (name_in rows)

  start_is : (k next : ℕ) (vs places : List ℕ)
      → reciprocals_first vs k next places + length places ≡ next_number k next (read numbered vs) + length (map (numbered_at vs) places)
  unfolding reciprocals_first
  start_is k next vs places = ap (λ (i : ℕ). next_number k next (read numbered vs) + i) (sym (length-map places (numbered_at vs)))

  -- the table of bits gives the order of the needs
  keeps_order : (fuel m : ℕ) → KeepsOrder rows (Sound rows good) (λ n l. cse_scope_by (text_of [] (name_in rows)) fuel m true n l)
  keeps_order fuel m left next ws vs s few low e room l walk =
      let k = length (read numbered ws) in
      let places = divisors_to_bind vs (name_in rows) true in
      let ds = map (numbered_at vs) places in
      let n = next_number k next (read numbered vs) in
      let scope : ℕ → List Tree → Outcome Scoped = λ i es. cse_scope_by text fuel m true i es in
      let sound = left_sound rows good next ws s vs e in
      let pass = left_pass rows good next ws s vs e in
      let r = left_ready rows good next ws s vs e in
      let c = complete_length numbered vs r.trees r.complete in
      let enough = rounds_results rows true good next ws s.words s.pass vs e in
      order_is vs k next places r.trees r.complete (omega (arith, enough, c)) (places_there rows good k next vs sound pass) scope
      (λ i es w. scope_same_by text fuel m true i es w) (settled_formed rows good next ws s vs e) (settled_under rows good next ws s vs e) l
      (ap (λ (i : ℕ). numbered_groups scope i (scope_groups ds n (read numbered vs))) (sym (start_is k next vs places)) ∙ walk)
      (stmts_few left vs k next places room (all_numbers l.groups))

  -- the law of the scoped form on words
  pub scope_agrees :
      (fuel left row next : ℕ) (ws : List ℕ) → Sound rows good next ws
      → scope_told rows fuel left row next ws ≡ (cse_scope_by (text_of [] (name_in rows)) fuel left true next (read numbered ws) >>= λ a. ok (told row a))
  scope_agrees fuel left row next ws s =
      scope_told_is rows (Sound rows good) (λ n cs h. whole rows good n cs h) (keeps_sound rows good) keeps_order fuel left row next ws s
