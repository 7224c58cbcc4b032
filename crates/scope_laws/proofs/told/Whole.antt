-- A scope place by place on words is the scope by trees, told as words (01, "Scoped fusion"), by induction on how many scopes may be open. `scoped` is the scope by
-- trees, of which only its two cases are known; what the words of a scope satisfy, and that the table of bits gives the order of the needs, are given. Assumes nothing.
use Prim.Native.Nat.{ℕ, zero, suc, ◌+◌, ◌-◌, ◌≤◌, ◌<◌}
use mathlib.Core.Path.{◌≡◌, refl, sym, ◌∙◌, ap, subst}
use mathlib.Core.Bool.{Bool, true, false, ◌&&◌, cond}
use mathlib.Core.Option.{some}
use mathlib.Core.List.{List, []}
use lib.ListN.{length, get_or}
use lib.Dec.{T, leb, leb→le}
use Rattle.spec_tree.specs.Outcome.{Outcome, ok, refused, by, ◌>>=◌}
use Rattle.spec_tree.specs.Tree.{Tree}
use Rattle.spec_tree.specs.Rows.{Row, occurrences}
use Rattle.spec_tree.specs.Tokens.{read, numbered, trees_in, name_in}
use Rattle.spec_tree.proofs.Logic.{and_left, and_right}
use Rattle.spec_tree.proofs.TokenCode.{unnumbered, all_tokens_length, writes_back}
use Rattle.spec_cse.specs.AnswerRows.{value_row}
use Rattle.spec_cse.specs.Scope.{Scoped, left_after, fuse_held}
use Rattle.laws.proofs.cse.Outcomes.{Good}
use Rattle.laws.specs.positions.Shown.{extract_all_by, reciprocals_by}
use Rattle.laws.specs.positions.Places.{divisors_to_bind}
use Rattle.laws.proofs.positions.BestPlace.{text_of}
use Rattle.rounds.specs.Rounds.{all_rounds}
use Rattle.laws.specs.switches.Switches.{arm_count}
use Rattle.laws.specs.switches.Columns.{column_words}
use Rattle.fusion.specs.place.Parts.{reciprocals_first, held_words}
use Rattle.fusion.specs.place.Whole.{room_for, fused_scope, scope_told}
use Rattle.scope_laws.specs.told.Told.{told}
use Rattle.scope_laws.proofs.told.Groups.{places_of, OpensGroup}
use Rattle.scope_laws.proofs.told.Walking.{Proper}
use Rattle.scope_laws.proofs.told.Proper.{tested_good, body_proper}
use Rattle.scope_laws.proofs.told.Body.{OrderAgrees, body_is}

-- a word for each occurrence
pub words_many : (ws : List ℕ) (m : ℕ) → trees_in ws ≡ some m → occurrences (read numbered ws) ≡ length ws
words_many ws m c = sym (all_tokens_length unnumbered (read numbered ws)) ∙ ap length (writes_back ws m c)

-- a scope by trees: the scope of its arms may be any, and is given the rows that are left
module _ (rows : List Row) (scope : ℕ → ℕ → List Tree → Outcome Scoped) where
  abbrev pub scope_body : ℕ → ℕ → List Tree → Outcome Scoped
  scope_body left next es =
      extract_all_by (text_of [] (name_in rows)) true next es >>= λ s.
      let t = reciprocals_by (text_of [] (name_in rows)) true s in
      fuse_held (scope (left_after left (length s.lets) t)) left (length s.lets) t

-- what the words of a scope satisfy, the words of its arms do
abbrev pub KeepsSound : List Row → (ℕ → List ℕ → Type 0) → Type 0
KeepsSound rows Sound =
    (left next : ℕ) (ws vs : List ℕ) → Sound next ws → length ws ≤ 1927 → next ≤ 2147483648 → all_rounds rows true next ws ≡ ok vs
    → let k = length (read numbered ws) in
    let places = divisors_to_bind vs (name_in rows) true in
    let hs = held_words vs k next places in
    T (room_for left vs k next places) → (n i a : ℕ) → reciprocals_first vs k next places + length places ≤ n → OpensGroup hs i → a < arm_count hs (get_or (places_of hs i) 0 0)
    → Sound n (column_words hs (places_of hs i) a)

-- and its table of bits gives the order of the needs
abbrev pub KeepsOrder : List Row → (ℕ → List ℕ → Type 0) → (ℕ → List Tree → Outcome Scoped) → Type 0
KeepsOrder rows Sound scope =
    (left next : ℕ) (ws vs : List ℕ) → Sound next ws → length ws ≤ 1927 → next ≤ 2147483648 → all_rounds rows true next ws ≡ ok vs
    → T (room_for left vs (length (read numbered ws)) next (divisors_to_bind vs (name_in rows) true))
    → OrderAgrees rows (length (read numbered ws)) next vs scope

module _
    (rows : List Row) (scoped : ℕ → ℕ → ℕ → List Tree → Outcome Scoped) (none : (left next : ℕ) (es : List Tree) → scoped 0 left next es ≡ refused (by 23))
    (more : (fuel left next : ℕ) (es : List Tree)
    → scoped (suc fuel) left next es
    ≡ (elim (leb (occurrences es) left && (leb (occurrences es) 1927 && leb next 2147483648)) as (λ _. Outcome Scoped) [
      | true ↦ scope_body rows (λ i n l. scoped fuel i n l) left next es
      | false ↦ refused (by 23)
    ]))
  where
    -- no scope's numbers go back, and it has a value for each tree
    pub scoped_proper : (fuel left next : ℕ) (es : List Tree) → Good (Proper next es) (scoped fuel left next es)
    scoped_proper zero left next es = subst (Good (Proper next es)) (sym (none left next es)) (unfold Good in tt)
    scoped_proper (suc fuel) left next es =
        subst (Good (Proper next es)) (sym (more fuel left next es))
        (tested_good (Proper next es) (scope_body rows (λ i n l. scoped fuel i n l) left next es) 23
        (body_proper (λ i n l. scoped fuel i n l) (λ i n l. scoped_proper fuel i n l) (text_of [] (name_in rows)) left next es)
        (leb (occurrences es) left && (leb (occurrences es) 1927 && leb next 2147483648)))

    module _
        (Sound : ℕ → List ℕ → Type 0) (whole : (next : ℕ) (ws : List ℕ) → Sound next ws → (m : ℕ) × (trees_in ws ≡ some m)) (keeps : KeepsSound rows Sound)
        (ordered : (fuel left : ℕ) → KeepsOrder rows Sound (λ n l. scoped fuel left n l))
      where
        pub told_is :
            (fuel left row next : ℕ) (ws : List ℕ) → Sound next ws
            → scope_told rows fuel left row next ws ≡ (scoped fuel left next (read numbered ws) >>= λ a. ok (told row a))
        unfolding scope_told
        told_is zero left row next ws s = ap (λ (o : Outcome Scoped). o >>= λ a. ok (told row a)) (sym (none left next (read numbered ws)))
        told_is (suc fuel) left row next ws s =
            go (leb (length ws) left && (leb (length ws) 1927 && leb next 2147483648)) refl (λ i n cs h. told_is fuel i value_row n cs h)
            ∙ (ap (λ (x : ℕ). test (leb x left && (leb x 1927 && leb next 2147483648)) >>= λ a. ok (told row a)) (sym (words_many ws w.0 w.1))
            ∙ ap (λ (o : Outcome Scoped). o >>= λ a. ok (told row a)) (sym (more fuel left next (read numbered ws))))
          where
            w : (m : ℕ) × (trees_in ws ≡ some m)
            w = whole next ws s

            held : List ℕ → List ℕ
            held vs = held_words vs (length (read numbered ws)) next (divisors_to_bind vs (name_in rows) true)

            test : Bool → Outcome Scoped
            test b = elim b as (λ _. Outcome Scoped) [ true ↦ scope_body rows (λ i n l. scoped fuel i n l) left next (read numbered ws) | false ↦ refused (by 23) ]

            go : (b : Bool) → (leb (length ws) left && (leb (length ws) 1927 && leb next 2147483648)) ≡ b
                → ((i n : ℕ) (cs : List ℕ) → Sound n cs → scope_told rows fuel i value_row n cs ≡ (scoped fuel i n (read numbered cs) >>= λ a. ok (told value_row a)))
                → cond b
                (all_rounds rows true next ws >>= λ vs.
                fused_scope (λ n cs. scope_told rows fuel (left - length (held vs)) value_row n cs) left row vs (length (read numbered ws)) next
                (divisors_to_bind vs (name_in rows) true)) (refused (by 23))
                ≡ (test b >>= λ a. ok (told row a))
            go true e inner =
                let both = and_right (leb (length ws) left) (leb (length ws) 1927 && leb next 2147483648) (subst T (sym e) tt) in
                let few = leb→le (length ws) 1927 (and_left (leb (length ws) 1927) (leb next 2147483648) both) in
                let low = leb→le next 2147483648 (and_right (leb (length ws) 1927) (leb next 2147483648) both) in
                body_is rows (λ i n l. scoped fuel i n l) (λ i n l. scoped_proper fuel i n l) (λ i n cs. scope_told rows fuel i value_row n cs) left next ws w.0 w.1
                (λ vs q h. (
                  λ n i a b o l. inner (left - length (held vs)) n (column_words (held vs) (places_of (held vs) i) a) (keeps left next ws vs s few low q h n i a b o l),
                  ordered fuel (left - length (held vs)) left next ws vs s few low q h,
                )) row
            go false e inner = refl
