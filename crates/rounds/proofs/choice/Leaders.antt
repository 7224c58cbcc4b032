-- Candidates by counts of places, and the leader after one more place. Assumes nothing.
use Prim.Native.Nat.{ℕ, zero, suc, ◌+◌, ◌-◌, ◌*◌, ◌/◌, ◌≤◌, ◌<◌}
use native.Mathlib.Nat.{mul-pos, mul-le-mul}
use native.Mathlib.Omega.{arith}
use mathlib.Core.Path.{◌≡◌, refl, sym, ◌∙◌, ap, ap₂, subst}
use mathlib.Core.Bool.{Bool, true, false, ◌&&◌, ◌||◌, cond}
use mathlib.Core.Option.{Option, none, some}
use mathlib.Core.List.{List}
use borrow.Author.Tests.{lt-ltb, le-ltb, le-leb, lt-leb, eq-eqb, ne_eqb, eqb-true, eqb-false}
use lib.ListN.{length, get_or}
use lib.Dec.{T, eqb, leb, ltb, leb→le}
use Rattle.spec_tree.specs.Tree.{eq_tree}
use Rattle.spec_tree.specs.Facts.{cost, depth, has_symbol}
use Rattle.spec_tree.specs.Tokens.{flag, kind_of, name_in}
use Rattle.spec_tree.proofs.Logic.{and_left, and_right}
use Rattle.spec_tree.proofs.FactLaws.{cost_size}
use Rattle.spec_tree.specs.text.Text.{before}
use Rattle.fmt.specs.checked.Check.{rows_in}
use Rattle.laws.specs.positions.Places.{numbered_at, uses_at, savings_at, candidate_at, equal_places, outside_at, text_at, beats_at, best_place_from, best_place}
use Rattle.laws.proofs.positions.UsesAt.{uses_counted, candidate_counted}
use Rattle.rounds.specs.uses.Marks.{Complete}
use Rattle.rounds.proofs.uses.Runs.{ends_within}
use Rattle.fmt.specs.order.Order.{text_here}
use Rattle.rounds.specs.choice.Leading.{HasUses, HasOutside, leader_of, Lead, later_at, best_step, Leads}
use Rattle.laws.proofs.positions.BestPlace.{text_of, text_at_is}
use Rattle.fmt.proofs.order.OrderLaws.{not_before_itself}
use Rattle.rounds.proofs.choice.Passing.{text_is}

-- ---- counts of equal places

step_few : (b : Bool) (m : ℕ) → elim b as (λ _. ℕ) [ true ↦ suc m | false ↦ m ] ≤ suc m
step_few true m = omega arith
step_few false m = omega arith

module _ (ws : List ℕ) where
  places_few : (test : ℕ → Bool) (i n : ℕ) → equal_places ws test i n ≤ n
  unfolding equal_places
  places_few test i zero = omega arith
  places_few test i (suc n) =
      omega (arith, places_few test i n, step_few (test n && eq_tree (numbered_at ws n) (numbered_at ws i)) (equal_places ws test i n))

  pub same_places : (a b : ℕ → Bool) (i n : ℕ) → ((j : ℕ) → j < n → a j ≡ b j) → equal_places ws a i n ≡ equal_places ws b i n
  unfolding equal_places
  same_places a b i zero h = refl
  same_places a b i (suc n) h =
      ap₂ (λ (t : Bool) (m : ℕ). elim (t && eq_tree (numbered_at ws n) (numbered_at ws i)) as (λ _. ℕ) [ true ↦ suc m | false ↦ m ]) (h n (omega arith))
      (same_places a b i n (λ j g. h j (omega arith)))

module _ (ws : List ℕ) (c : Complete ws) (i : ℕ) (h : i < length ws) where
  -- ---- candidates

  pub uses_few : uses_at ws i ≤ length ws
  uses_few = omega (arith, uses_counted ws i, places_few ws (λ j. true) i (length ws))

  pub cost_few : cost (numbered_at ws i) ≤ length ws
  cost_few = omega (arith, cost_size (numbered_at ws i), ends_within ws c i h)

abbrev outside_used : List ℕ → Bool → ℕ → Bool
outside_used ws scoped i = leb 1 (equal_places ws (outside_at ws scoped) i (length ws))

candidate_is :
    (ws : List ℕ) (scoped : Bool) (i : ℕ)
    → candidate_at ws scoped i ≡ (leb 1 (cost (numbered_at ws i)) && (has_symbol (numbered_at ws i) && (leb 2 (uses_at ws i) && outside_used ws scoped i)))
candidate_is ws scoped i =
    candidate_counted ws scoped i
    ∙ ap (λ (n : ℕ). leb 1 (cost (numbered_at ws i)) && (has_symbol (numbered_at ws i) && (leb 2 n && outside_used ws scoped i))) (sym (uses_counted ws i))

module _ (ws : List ℕ) (scoped : Bool) (i : ℕ) where
  none_saved : candidate_at ws scoped i ≡ false → 0 ≡ cond (candidate_at ws scoped i) (savings_at ws i) 0
  none_saved e = rw e

  pub no_cost : (k : ℕ) → k ≡ cost (numbered_at ws i) → k < 1 → 0 ≡ cond (candidate_at ws scoped i) (savings_at ws i) 0
  no_cost k e h = none_saved (candidate_is ws scoped i ∙ rw (lt-leb 1 (cost (numbered_at ws i)) (omega arith)))

  flag_none : (b : Bool) (n : ℕ) → n ≡ flag b → n < 1 → b ≡ false
  unfolding flag
  flag_none true n e h = absurd (omega arith)
  flag_none false n e h = refl

  flag_some : (b : Bool) (n : ℕ) → n ≡ flag b → 1 ≤ n → b ≡ true
  unfolding flag
  flag_some true n e h = refl
  flag_some false n e h = absurd (omega arith)

  and_none : (b : Bool) → (b && false) ≡ false
  and_none true = refl
  and_none false = refl

  pub no_symbol : (n : ℕ) → n ≡ flag (has_symbol (numbered_at ws i)) → n < 1 → 0 ≡ cond (candidate_at ws scoped i) (savings_at ws i) 0
  no_symbol n e h =
      none_saved (candidate_is ws scoped i ∙ (ap (λ (b : Bool). leb 1 (cost (numbered_at ws i)) && (b && (leb 2 (uses_at ws i) && outside_used ws scoped i))) (flag_none (has_symbol (numbered_at ws i)) n e h)
      ∙ and_none (leb 1 (cost (numbered_at ws i)))))

  pub no_uses : (n : ℕ) → n ≡ uses_at ws i → n < 2 → 0 ≡ cond (candidate_at ws scoped i) (savings_at ws i) 0
  no_uses n e h =
      none_saved (candidate_is ws scoped i ∙ (ap (λ (b : Bool). leb 1 (cost (numbered_at ws i)) && (has_symbol (numbered_at ws i) && (b && outside_used ws scoped i))) (lt-leb 2 (uses_at ws i) (omega arith))
      ∙ (ap (λ (b : Bool). leb 1 (cost (numbered_at ws i)) && b) (and_none (has_symbol (numbered_at ws i))) ∙ and_none (leb 1 (cost (numbered_at ws i))))))

  pub few_outside : (n : ℕ) → n ≡ equal_places ws (outside_at ws scoped) i (length ws) → n < 1 → false ≡ outside_used ws scoped i
  few_outside n e h = sym (lt-leb 1 (equal_places ws (outside_at ws scoped) i (length ws)) (omega arith))

  pub some_outside : (n : ℕ) → n ≡ equal_places ws (outside_at ws scoped) i (length ws) → 1 ≤ n → true ≡ outside_used ws scoped i
  some_outside n e h = sym (le-leb 1 (equal_places ws (outside_at ws scoped) i (length ws)) (omega arith))

  pub no_outside : false ≡ outside_used ws scoped i → 0 ≡ cond (candidate_at ws scoped i) (savings_at ws i) 0
  no_outside e =
      none_saved (candidate_is ws scoped i ∙ (ap (λ (b : Bool). leb 1 (cost (numbered_at ws i)) && (has_symbol (numbered_at ws i) && (leb 2 (uses_at ws i) && b))) (sym e)
      ∙ (ap (λ (b : Bool). leb 1 (cost (numbered_at ws i)) && (has_symbol (numbered_at ws i) && b)) (and_none (leb 2 (uses_at ws i)))
      ∙ (ap (λ (b : Bool). leb 1 (cost (numbered_at ws i)) && b) (and_none (has_symbol (numbered_at ws i))) ∙ and_none (leb 1 (cost (numbered_at ws i)))))))

  pub saved :
      (k f n : ℕ) → k ≡ cost (numbered_at ws i) → 1 ≤ k → f ≡ flag (has_symbol (numbered_at ws i)) → 1 ≤ f → n ≡ uses_at ws i → 2 ≤ n → true ≡ outside_used ws scoped i
      → (n - 1) * k ≡ cond (candidate_at ws scoped i) (savings_at ws i) 0
  unfolding savings_at
  saved k f n e h g l u m o =
      let t : candidate_at ws scoped i ≡ true =
      candidate_is ws scoped i
      ∙ rw (le-leb 1 (cost (numbered_at ws i)) (omega arith), flag_some (has_symbol (numbered_at ws i)) f g l, le-leb 2 (uses_at ws i) (omega arith)) (sym o) in
      rw t (ap₂ (λ (a b : ℕ). (a - 1) * b) u e)

-- how often the tree at a place is used outside arms, from what was counted
pub outside_count :
    {ws cl us ou : List ℕ} (scoped : Bool) → HasUses ws cl us → HasOutside ws scoped cl ou → (i : ℕ) → i < length ws → 1 < kind_of (get_or ws i 0)
    → cond scoped (get_or ou (get_or cl i 0 / 4) 0) (get_or us (get_or cl i 0 / 4) 0) ≡ equal_places ws (outside_at ws scoped) i (length ws)
unfolding outside_at
outside_count {ws} {cl} {us} {ou} true u o i h op = o.outside_are refl i h op
outside_count {ws} {cl} {us} {ou} false u o i h op = u.uses_are i h op ∙ (uses_counted ws i ∙ same_places ws (λ j. true) (outside_at ws false) i (length ws) (λ j g. refl))

-- ---- of two that save as much

-- a tree never beats itself
pub itself_not : (rows ws : List ℕ) (i j : ℕ) → numbered_at ws i ≡ numbered_at ws j → false ≡ later_at rows ws i j
unfolding later_at
itself_not rows ws i j e =
    let n = name_in (rows_in rows) in
    let t : text_at ws n i ≡ text_at ws n j = text_at_is ws n i ∙ (ap (text_of ws n) e ∙ sym (text_at_is ws n j)) in
    let d : depth (numbered_at ws i) ≡ depth (numbered_at ws j) = ap depth e in
    sym (rw (le-ltb (depth (numbered_at ws i)) (depth (numbered_at ws j)) (omega arith), eq-eqb (depth (numbered_at ws i)) (depth (numbered_at ws j)) d, t) (not_before_itself (text_at ws n j)))

module _ (rows ws : List ℕ) (i j a b : ℕ) (ea : a ≡ depth (numbered_at ws i)) (eb : b ≡ depth (numbered_at ws j)) where
  pub depth_decides : (a ≡ b → ⊥) → ltb a b ≡ later_at rows ws i j
  unfolding later_at
  depth_decides n =
      ap₂ ltb ea eb
      ∙ sym (ap (λ (t : Bool). ltb (depth (numbered_at ws i)) (depth (numbered_at ws j)) || (t && before (text_at ws (name_in (rows_in rows)) i) (text_at ws (name_in (rows_in rows)) j)))
      (ne_eqb (depth (numbered_at ws i)) (depth (numbered_at ws j)) (λ q. n (ea ∙ (q ∙ sym eb)))) ∙ or_none (ltb (depth (numbered_at ws i)) (depth (numbered_at ws j))))
    where
      or_none : (t : Bool) → (t || false) ≡ t
      or_none true = refl
      or_none false = refl

  pub text_decides : a ≡ b → later_at rows ws i j ≡ before (text_at ws (name_in (rows_in rows)) i) (text_at ws (name_in (rows_in rows)) j)
  unfolding later_at
  text_decides q =
      let d : depth (numbered_at ws i) ≡ depth (numbered_at ws j) = sym ea ∙ (q ∙ eb) in
      rw (le-ltb (depth (numbered_at ws i)) (depth (numbered_at ws j)) (omega arith), eq-eqb (depth (numbered_at ws i)) (depth (numbered_at ws j)) d)

  pub by_text : (r : Bool) → a ≡ b → r ≡ before (text_here rows ws i) (text_here rows ws j) → r ≡ later_at rows ws i j
  by_text r q e = e ∙ (ap₂ before (text_is rows ws i) (text_is rows ws j) ∙ sym (text_decides q))

-- ---- products of small numbers

pub small_product : (a b : ℕ) → a ≤ 1000000 → b ≤ 1000000 → a * b ≤ 1000000000000
small_product a b h g = mul-le-mul h g

-- ---- the leader after one more place

data Cand (b : Bool) (s v : ℕ) : Type 0 where
  not_one : b ≡ false → s ≡ 0 → Cand b s v
  one : b ≡ true → s ≡ v → 0 < s → Cand b s v

saves_some : (ws : List ℕ) (scoped : Bool) (i : ℕ) → candidate_at ws scoped i ≡ true → 0 < savings_at ws i
unfolding savings_at
saves_some ws scoped i e =
    let q = sym (candidate_is ws scoped i) ∙ e in
    let a = leb 1 (cost (numbered_at ws i)) in
    let b = has_symbol (numbered_at ws i) in
    let d = leb 2 (uses_at ws i) in
    let o = outside_used ws scoped i in
    let t : T (a && (b && (d && o))) = subst T (sym q) tt in
    let x = leb→le 1 (cost (numbered_at ws i)) (and_left a (b && (d && o)) t) in
    let y = leb→le 2 (uses_at ws i) (and_left d o (and_right b (d && o) (and_right a (b && (d && o)) t))) in
    let z : 0 < uses_at ws i - 1 = omega arith in
    mul-pos z x

cand : (ws : List ℕ) (scoped : Bool) (i s : ℕ) → s ≡ cond (candidate_at ws scoped i) (savings_at ws i) 0 → Cand (candidate_at ws scoped i) s (savings_at ws i)
cand ws scoped i s e = go (candidate_at ws scoped i) refl
  where
    go : (b : Bool) → candidate_at ws scoped i ≡ b → Cand (candidate_at ws scoped i) s (savings_at ws i)
    go true q = let z : s ≡ savings_at ws i = e ∙ rw q in one q z (omega (arith, saves_some ws scoped i q))
    go false q = not_one q (e ∙ rw q)

module _ (rows ws : List ℕ) (p i : ℕ) where
  beats_less : savings_at ws i < savings_at ws p → beats_at ws (name_in (rows_in rows)) p i ≡ false
  unfolding beats_at
  beats_less g = rw (le-ltb (savings_at ws p) (savings_at ws i) (omega arith), ne_eqb (savings_at ws p) (savings_at ws i) (λ z. omega arith))

  beats_more : savings_at ws p < savings_at ws i → beats_at ws (name_in (rows_in rows)) p i ≡ true
  unfolding beats_at
  beats_more g = rw (lt-ltb (savings_at ws p) (savings_at ws i) g)

  beats_same : savings_at ws p ≡ savings_at ws i → beats_at ws (name_in (rows_in rows)) p i ≡ later_at rows ws p i
  unfolding beats_at later_at
  beats_same g = rw (le-ltb (savings_at ws p) (savings_at ws i) (omega arith), eq-eqb (savings_at ws p) (savings_at ws i) g)

module _ (rows ws : List ℕ) (scoped : Bool) (i p l s : ℕ) (h : i < length ws) (e : s ≡ cond (candidate_at ws scoped i) (savings_at ws i) 0) (k : Lead ws p l) where
  abbrev Met : ℕ → ℕ → Type 0
  Met q r = Lead ws q r × (leader_of q r ≡ best_step rows ws scoped (leader_of p l) i)

  abbrev names : ℕ → List ℕ
  names = name_in (rows_in rows)

  leads : (q r : ℕ) → 0 < r → leader_of q r ≡ some q
  unfolding leader_of
  leads q r g = rw (ne_eqb r 0 (λ z. omega arith))

  leads_none : (q r : ℕ) → r ≡ 0 → leader_of q r ≡ none
  unfolding leader_of
  leads_none q r g = rw (eq-eqb r 0 g)

  -- with a leader, by whether the candidate beats it
  against : 0 < l → best_step rows ws scoped (leader_of p l) i ≡ cond (candidate_at ws scoped i && beats_at ws names p i) (some i) (some p)
  unfolding best_step
  against g = rw (leads p l g)

  stays : 0 < l → (candidate_at ws scoped i && beats_at ws names p i) ≡ false → Met p l
  stays g b = (k, leads p l g ∙ sym (against g ∙ rw b))

  changes : 0 < s → s ≡ savings_at ws i → best_step rows ws scoped (leader_of p l) i ≡ some i → Met i s
  changes g z b = ((λ n. record { within = h; saves = z }), leads i s g ∙ sym b)

  and_none_l : (b : Bool) → (b && false) ≡ false
  and_none_l true = refl
  and_none_l false = refl

  leading : 0 < l → l ≡ savings_at ws p
  leading g = (k (λ z. omega arith)).saves

  pub leads_within : s ≡ l → (s ≡ 0 → ⊥) → p < length ws
  leads_within g n = (k (λ z. n (g ∙ z))).within

  -- it saves less
  pub saves_less : s < l → Met p l
  saves_less g = go (cand ws scoped i s e)
    where
      go : Cand (candidate_at ws scoped i) s (savings_at ws i) → Met p l
      go (not_one b z) = stays (omega arith) (rw b)
      go (one b z n) =
          stays (omega arith)
          (ap (λ (t : Bool). candidate_at ws scoped i && t) (beats_less rows ws p i (let x : l ≡ savings_at ws p = leading (omega arith) in omega arith)) ∙ and_none_l (candidate_at ws scoped i))

  first_one : l ≡ 0 → candidate_at ws scoped i ≡ true → best_step rows ws scoped (leader_of p l) i ≡ some i
  unfolding best_step
  first_one z b = rw (leads_none p l z, b)

  beaten : 0 < l → candidate_at ws scoped i ≡ true → beats_at ws names p i ≡ true → best_step rows ws scoped (leader_of p l) i ≡ some i
  beaten g b t = against g ∙ rw (b, t)

  -- it saves more
  pub saves_more : l < s → Met i s
  saves_more g = go (cand ws scoped i s e)
    where
      go : Cand (candidate_at ws scoped i) s (savings_at ws i) → Met i s
      go (not_one b z) = absurd (omega arith)
      go (one b z n) = changes n z (by (eqb l 0) refl)
        where
          by : (t : Bool) → eqb l 0 ≡ t → best_step rows ws scoped (leader_of p l) i ≡ some i
          by true q = first_one (eqb-true l 0 q) b
          by false q =
              let m = eqb-false l 0 q in
              let u : 0 < l = omega (arith, m) in
              let x = leading u in
              beaten u b (beats_more rows ws p i (omega arith))

  -- neither saves anything
  none_stays : l ≡ 0 → candidate_at ws scoped i ≡ false → leader_of p l ≡ best_step rows ws scoped (leader_of p l) i
  unfolding best_step
  none_stays z b = rw (leads_none p l z, b)

  none_yet : s ≡ l → s ≡ 0 → Met p l
  none_yet g z = go (cand ws scoped i s e)
    where
      go : Cand (candidate_at ws scoped i) s (savings_at ws i) → Met p l
      go (one b q n) = absurd (omega arith)
      go (not_one b q) = (k, none_stays (omega arith) b)

  -- it saves nothing
  pub saves_none : s ≡ 0 → Met p l
  saves_none z = go (eqb l 0) refl
    where
      go : (b : Bool) → eqb l 0 ≡ b → Met p l
      go true q = let u = eqb-true l 0 q in none_yet (omega arith) z
      go false q = let u = eqb-false l 0 q in saves_less (omega arith)

  -- both save as much
  module _ (g : s ≡ l) (n : s ≡ 0 → ⊥) where
    some_saved : 0 < l
    some_saved = omega (arith, n)

    decided : (t : Bool) → t ≡ later_at rows ws p i → candidate_at ws scoped i ≡ true → s ≡ savings_at ws i → beats_at ws names p i ≡ t
    decided t q b z = let x = leading some_saved in let y : savings_at ws p ≡ savings_at ws i = omega arith in beats_same rows ws p i y ∙ sym q

    pub comes_later : true ≡ later_at rows ws p i → Met i s
    comes_later q = go (cand ws scoped i s e)
      where
        go : Cand (candidate_at ws scoped i) s (savings_at ws i) → Met i s
        go (not_one b z) = absurd (n z)
        go (one b z m) = changes m z (beaten some_saved b (decided true q b z))

    pub comes_not : false ≡ later_at rows ws p i → Met p l
    comes_not q = go (cand ws scoped i s e)
      where
        go : Cand (candidate_at ws scoped i) s (savings_at ws i) → Met p l
        go (not_one b z) = absurd (n z)
        go (one b z m) = stays some_saved (ap (λ (t : Bool). candidate_at ws scoped i && t) (decided false q b z) ∙ and_none_l (candidate_at ws scoped i))

-- ---- the search

pub record Searching (rows ws : List ℕ) (scoped : Bool) (i p s : ℕ) : Type 0 where
  pub within : i ≤ length ws
  pub lead : Lead ws p s
  pub rest : best_place_from ws (name_in (rows_in rows)) scoped (leader_of p s) i (length ws - i) ≡ best_place ws (name_in (rows_in rows)) scoped

pub searching_starts : (rows ws : List ℕ) (scoped : Bool) → Searching rows ws scoped 0 0 0
unfolding leader_of best_place
searching_starts rows ws scoped =
    let z : length ws - 0 ≡ length ws = omega arith in
    record { within = omega arith; lead = λ n. absurd (n refl); rest = ap (best_place_from ws (name_in (rows_in rows)) scoped none 0) z }

turn : (rows ws : List ℕ) (scoped : Bool) (o : Option ℕ) (i n : ℕ) → best_place_from ws (name_in (rows_in rows)) scoped o i (suc n) ≡ best_place_from ws (name_in (rows_in rows)) scoped (best_step rows ws scoped o i) (suc i) n
unfolding best_place_from best_step
turn rows ws scoped none i n = go (candidate_at ws scoped i)
  where
    go : (b : Bool) → ◌≡◌ {A = Option ℕ} (elim b [ true ↦ best_place_from ws (name_in (rows_in rows)) scoped (some i) (suc i) n | false ↦ best_place_from ws (name_in (rows_in rows)) scoped none (suc i) n ]) (best_place_from ws (name_in (rows_in rows)) scoped (cond b (some i) none) (suc i) n)
    go true = refl
    go false = refl
turn rows ws scoped (some a) i n = go (candidate_at ws scoped i && beats_at ws (name_in (rows_in rows)) a i)
  where
    go : (b : Bool) → ◌≡◌ {A = Option ℕ} (elim b [ true ↦ best_place_from ws (name_in (rows_in rows)) scoped (some i) (suc i) n | false ↦ best_place_from ws (name_in (rows_in rows)) scoped (some a) (suc i) n ]) (best_place_from ws (name_in (rows_in rows)) scoped (cond b (some i) (some a)) (suc i) n)
    go true = refl
    go false = refl

pub searching_turns :
    {rows ws : List ℕ} {scoped : Bool} {i p s q r : ℕ} → Searching rows ws scoped i p s → i < length ws
    → Lead ws q r × (leader_of q r ≡ best_step rows ws scoped (leader_of p s) i) → Searching rows ws scoped (i + 1) q r
searching_turns {rows} {ws} {scoped} {i} {p} {s} {q} {r} k h m =
    let z : suc i ≡ i + 1 = omega arith in
    let y : length ws - i ≡ suc (length ws - (i + 1)) = omega arith in
    let f = best_place_from ws (name_in (rows_in rows)) scoped in
    record {
      within = omega arith;
      lead = m.0;
      rest =
          ap₂ (λ (o : Option ℕ) (j : ℕ). f o j (length ws - (i + 1))) m.1 (sym z)
          ∙ (sym (turn rows ws scoped (leader_of p s) i (length ws - (i + 1))) ∙ (ap (f (leader_of p s) i) (sym y) ∙ k.rest));
    }

pub searching_ends : {rows ws : List ℕ} {scoped : Bool} {i p s : ℕ} → Searching rows ws scoped i p s → length ws ≤ i → Leads rows ws scoped p s
unfolding best_place_from
searching_ends {rows} {ws} {scoped} {i} {p} {s} k h =
    let y : length ws - i ≡ 0 = omega arith in
    record { best = sym (sym k.rest ∙ (ap (best_place_from ws (name_in (rows_in rows)) scoped (leader_of p s) i) y ∙ done (leader_of p s))) }
  where
    done : (o : Option ℕ) → best_place_from ws (name_in (rows_in rows)) scoped o i 0 ≡ o
    done none = refl
    done (some a) = refl

pub counted_so : (b : Bool) (m n : ℕ) → b ≡ true → m ≡ cond b m n
counted_so b m n e = sym (ap (λ (x : Bool). cond x m n) e)

pub counted_not : (b : Bool) (m n : ℕ) → b ≡ false → n ≡ cond b m n
counted_not b m n e = sym (ap (λ (x : Bool). cond x m n) e)
