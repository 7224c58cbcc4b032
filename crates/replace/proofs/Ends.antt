-- What `replace` answers and leaves, from what was tested and written. Assumes nothing.
use Rattle.std.specs.Prelude.{⊤, Result}
use Rattle.words.specs.declared.fault.Fault.{Fault}
use Rattle.replace.specs.declared.ReplaceError.TheVariants as replace_error
use Rattle.replace.specs.declared.ReplaceError.{ReplaceError}
use Rattle.replace.specs.declared.NotConstant.{NotConstant}
use Rattle.std.specs.Prelude.{Ok, Err}
use Rattle.words.specs.declared.fault.Fault.TheVariants as fault
use Rattle.std.proofs.Common.{◌≡◌, ℕ, ◌/◌, ◌<◌, ◌≤◌, Bool, true, false, ◌&&◌, ◌||◌, T, ltb, List, ◌++◌, length, take, drop, sym, refl, ap, ◌∙◌, subst, ap₂, arith, le-ltb, lt-ltb}
use mathlib.Core.Option.{some}
use Rattle.spec_tree.specs.Bytes.{every}
use Rattle.spec_tree.specs.Outcome.{Outcome}
use Rattle.spec_tree.specs.Tokens.{kind_of, trees_in}
use Rattle.spec_rewrite.specs.Rewrite.{flatten_mul_factors}
use Rattle.words.specs.words.Words.{tree_of, name_of, sound}
use Rattle.words.specs.words.Answers.{request_answer}
use Rattle.words.proofs.words.Requests.{Sound, sound_has}
use Rattle.replace.specs.closed.Closed.{by_factors, lone, endless}
use Rattle.replace.specs.replacing.Replacing.{formed_word, replaceable}
use Rattle.replace.specs.replacing.Deciding.{Trees, Target, rewritten_words}
use Rattle.replace.specs.Answers.{by_fault, sought_as, Replacement, replaced_by, replacement, scratch_short, short_of_room, Leaves, Writes}
use Rattle.replace.specs.declared.Sought.{Sought}
use Rattle.replace.specs.declared.Sought.TheVariants as sought

-- ---- trees put back

pub record Back (ws old out : List ℕ) (k : ℕ) : Type 0 where
  pub most : k ≤ length ws
  pub long : length out ≡ length old
  pub words : out ≡ take k ws ++ drop k old

-- ---- the answers

module _ (ws part : List ℕ) (name : ℕ) (old : List ℕ) where
  abbrev o : Outcome (List ℕ)
  o = rewritten_words part name ws

  pub wrote : (r : Result ℕ NotConstant) (n : ℕ) (out : List ℕ) → r ≡ Ok n → Writes o (length ws) old r out → Leaves (replaced_by o ws old) (Ok n) out
  unfolding replaced_by
  wrote r n out e w =
      let v = subst (λ (q : Result ℕ NotConstant). Writes o (length ws) old q out) e w in
      let x = ap (λ (q : Outcome (List ℕ)). replaced_by q ws old) v.is in
      (ap Ok v.count ∙ sym (ap (λ (q : Replacement). q.answer) x), v.words ∙ ap (λ (j : ℕ). v.new ++ drop j old) v.count ∙ sym (ap (λ (q : Replacement). q.out) x))

  pub refused_there : (r : Result ℕ NotConstant) (mid out : List ℕ) (f : NotConstant) → r ≡ Err f → Writes o (length ws) old r mid → out ≡ ws ++ drop (length ws) mid → Leaves (replaced_by o ws old) (Err replace_error.Refused) out
  unfolding replaced_by
  refused_there r mid out f e w b =
      let v = subst (λ (q : Result ℕ NotConstant). Writes o (length ws) old q mid) e w in
      let x = ap (λ (q : Outcome (List ℕ)). replaced_by q ws old) v.is in
      (sym (ap (λ (q : Replacement). q.answer) x), b ∙ ap (λ (l : List ℕ). ws ++ l) v.rest ∙ sym (ap (λ (q : Replacement). q.out) x))

-- ---- by the room, and by how the target is sought

module _ (ws part : List ℕ) (name places : ℕ) (old : List ℕ) where
  abbrev done_by : Bool → Bool → Replacement
  done_by short over = replacement true short over (rewritten_words part name ws) ws old

  abbrev over : Bool
  over = endless (tree_of part) (name_of name)

  abbrev Ends : Result ℕ ReplaceError → List ℕ → Type 0
  Ends r out = Leaves (done_by (scratch_short ws part places) over) r out

  full : scratch_short ws part places ≡ true → Ends (Err replace_error.NoRoom) old
  unfolding replacement
  full e = (sym (ap (λ (b : Bool). (done_by b over).answer) e), sym (ap (λ (b : Bool). (done_by b over).out) e))

  pub words_short : places / 2 < length ws → Ends (Err replace_error.NoRoom) old
  unfolding scratch_short
  words_short h = full (ap (λ (x : Bool). x || ltb places (length part)) (lt-ltb (places / 2) (length ws) h))

  pub target_short : length ws ≤ places / 2 → places < length part → Ends (Err replace_error.NoRoom) old
  unfolding scratch_short
  target_short h k = full (ap₂ ◌||◌ (le-ltb (places / 2) (length ws) h) (lt-ltb places (length part) k))

  module _ (h : length ws ≤ places / 2) (k : length part ≤ places) where
    enough : scratch_short ws part places ≡ false
    unfolding scratch_short
    enough = ap₂ ◌||◌ (le-ltb (places / 2) (length ws) h) (le-ltb places (length part) k)

    pub answered : over ≡ false → (r : Result ℕ ReplaceError) (out : List ℕ) → Leaves (replaced_by (rewritten_words part name ws) ws old) r out → Ends r out
    unfolding replacement
    answered e r out a = (a.0 ∙ sym (ap₂ (λ (b d : Bool). (done_by b d).answer) enough e), a.1 ∙ sym (ap₂ (λ (b d : Bool). (done_by b d).out) enough e))

    pub never : over ≡ true → Ends (Err replace_error.Broken) old
    unfolding replacement
    never e = (sym (ap₂ (λ (b d : Bool). (done_by b d).answer) enough e), sym (ap₂ (λ (b d : Bool). (done_by b d).out) enough e))

module _ (part : List ℕ) (name : ℕ) where
  abbrev b : Bool
  b = by_factors (tree_of part)

  abbrev d : Bool
  d = lone (name_of name) (flatten_mul_factors (tree_of part)).factors

  abbrev sought_so : Sought → Type 0
  sought_so r = r ≡ sought_as b d

  over_is : (x y : Bool) → b ≡ x → d ≡ y → endless (tree_of part) (name_of name) ≡ (x && y)
  unfolding endless
  over_is x y e f = ap₂ ◌&&◌ e f

  pub by_whole : sought_so sought.Whole → (false ≡ b) × (endless (tree_of part) (name_of name) ≡ false)
  unfolding sought_as
  by_whole e = go b refl d refl e
    where
      go : (x : Bool) → b ≡ x → (y : Bool) → d ≡ y → sought.Whole ≡ sought_as x y → (false ≡ b) × (endless (tree_of part) (name_of name) ≡ false)
      go false p y q e = (sym p, over_is false y p q)
      go true p true q e = (let z : ◌≡◌ {A = ℕ} 0 1 = cc in absurd (omega arith))
      go true p false q e = (let z : ◌≡◌ {A = ℕ} 0 1 = cc in absurd (omega arith))

  pub by_parts : sought_so sought.Factors → (true ≡ b) × (endless (tree_of part) (name_of name) ≡ false)
  unfolding sought_as
  by_parts e = go b refl d refl e
    where
      go : (x : Bool) → b ≡ x → (y : Bool) → d ≡ y → sought.Factors ≡ sought_as x y → (true ≡ b) × (endless (tree_of part) (name_of name) ≡ false)
      go false p y q e = (let z : ◌≡◌ {A = ℕ} 0 1 = cc in absurd (omega arith))
      go true p true q e = (let z : ◌≡◌ {A = ℕ} 0 1 = cc in absurd (omega arith))
      go true p false q e = (sym p, over_is true false p q)

  pub by_lone : sought_so sought.Endless → true ≡ b
  unfolding sought_as
  by_lone e = go b refl d e
    where
      go : (x : Bool) → b ≡ x → (y : Bool) → sought.Endless ≡ sought_as x y → true ≡ b
      go true p y e = sym p
      go false p y e = (let z : ◌≡◌ {A = ℕ} 0 1 = cc in absurd (omega arith))

  pub by_endless : sought_so sought.Endless → endless (tree_of part) (name_of name) ≡ true
  unfolding sought_as
  by_endless e = go b refl d refl e
    where
      go : (x : Bool) → b ≡ x → (y : Bool) → d ≡ y → sought.Endless ≡ sought_as x y → endless (tree_of part) (name_of name) ≡ true
      go false p y q e = (let z : ◌≡◌ {A = ℕ} 0 1 = cc in absurd (omega arith))
      go true p true q e = over_is true true p q
      go true p false q e = (let z : ◌≡◌ {A = ℕ} 0 1 = cc in absurd (omega arith))

  -- what `seek` answers
  pub seeks_whole : false ≡ b → sought_so sought.Whole
  unfolding sought_as
  seeks_whole e = ap (λ (x : Bool). sought_as x d) e

  pub seeks_factors : true ≡ b → false ≡ d → sought_so sought.Factors
  unfolding sought_as
  seeks_factors e f = ap₂ sought_as e f

  pub seeks_endless : true ≡ b → true ≡ d → sought_so sought.Endless
  unfolding sought_as
  seeks_endless e f = ap₂ sought_as e f

  pub target_is : trees_in part ≡ some 1 → kind_of name ≡ 0 → endless (tree_of part) (name_of name) ≡ false → Target part name
  target_is one symbol e = record { one = one; symbol = symbol; ends = e }

-- ---- by the tests

module _ (ws part : List ℕ) (name places : ℕ) (old : List ℕ) where
  abbrev q : Outcome (List ℕ)
  q = rewritten_words part name ws

  abbrev last : Bool
  last = endless (tree_of part) (name_of name)

  abbrev short : Bool
  short = short_of_room ws part places (length old)

  abbrev Ended : Result ℕ ReplaceError → List ℕ → Type 0
  Ended r out = Leaves (replacement (replaceable ws part name) short last q ws old) r out

  may : (s t : Bool) → t ≡ every formed_word ws → s ≡ sound ws part name → replaceable ws part name ≡ (t && s)
  unfolding replaceable
  may s t e f = ap₂ ◌&&◌ (sym e) (sym f)

  and_false : (b : Bool) → (b && false) ≡ false
  and_false true = refl
  and_false false = refl

  broken : replaceable ws part name ≡ false → Ended (Err replace_error.Broken) old
  unfolding replacement
  broken e = (sym (ap (λ (b : Bool). (replacement b short last q ws old).answer) e), sym (ap (λ (b : Bool). (replacement b short last q ws old).out) e))

  pub tests_fail : false ≡ every formed_word ws → Ended (Err replace_error.Broken) old
  tests_fail e = broken (may (sound ws part name) false e refl)

  requested : (s b : Bool) → sound ws part name ≡ s → ltb (length old) (length ws) ≡ b → (r : Result ⊤ Fault) → r ≡ request_answer (sound ws part name) (ltb (length old) (length ws)) → r ≡ request_answer s b
  requested s b e f r g = g ∙ ap₂ request_answer e f

  pub request_fails : Err fault.Broken ≡ request_answer (sound ws part name) (ltb (length old) (length ws)) → Ended (Err replace_error.Broken) old
  unfolding request_answer
  request_fails e = go (sound ws part name) refl (ltb (length old) (length ws)) refl
    where
      go : (s : Bool) → sound ws part name ≡ s → (b : Bool) → ltb (length old) (length ws) ≡ b → Ended (Err replace_error.Broken) old
      go false f b g = broken (may false (every formed_word ws) refl (sym f) ∙ and_false (every formed_word ws))
      go true f true g = (let x = requested true true f g (Err fault.Broken) e in let z : ◌≡◌ {A = ℕ} 0 1 = cc in absurd (omega arith))
      go true f false g = (let x = requested true false f g (Err fault.Broken) e in let z : ◌≡◌ {A = ℕ} 0 1 = cc in absurd (omega arith))

  pub request_full : true ≡ every formed_word ws → Err fault.NoRoom ≡ request_answer (sound ws part name) (ltb (length old) (length ws)) → Ended (Err replace_error.NoRoom) old
  unfolding request_answer replacement short_of_room
  request_full t e = go (sound ws part name) refl (ltb (length old) (length ws)) refl
    where
      go : (s : Bool) → sound ws part name ≡ s → (b : Bool) → ltb (length old) (length ws) ≡ b → Ended (Err replace_error.NoRoom) old
      go false f b g = (let x = requested false b f g (Err fault.NoRoom) e in let z : ◌≡◌ {A = ℕ} 0 1 = cc in absurd (omega arith))
      go true f false g = (let x = requested true false f g (Err fault.NoRoom) e in let z : ◌≡◌ {A = ℕ} 0 1 = cc in absurd (omega arith))
      go true f true g =
          let m = may true true t (sym f) in (
            sym (ap₂ (λ (a b : Bool). (replacement a (b || scratch_short ws part places) last q ws old).answer) m g),
            sym (ap₂ (λ (a b : Bool). (replacement a (b || scratch_short ws part places) last q ws old).out) m g),
          )

  pub request_refused : true ≡ every formed_word ws → (f : Fault) → Err f ≡ request_answer (sound ws part name) (ltb (length old) (length ws)) → Ended (Err (by_fault f)) old
  request_refused t fault.Broken e = request_fails e
  request_refused t fault.NoRoom e = request_full t e

  module _ (t : true ≡ every formed_word ws) (e : Ok tt ≡ request_answer (sound ws part name) (ltb (length old) (length ws))) where
    abbrev has : Sound ws part name (length old)
    has = sound_has ws part name (length old) e

    pub asked : Trees ws × (trees_in part ≡ some 1) × (kind_of name ≡ 0) × (length ws ≤ length old)
    asked = (record { count = has.trees; complete = has.words; formed = subst T t tt }, has.one, has.symbol, has.fits)

    pub done : (r : Result ℕ ReplaceError) (out : List ℕ) → Leaves (replacement true (scratch_short ws part places) last q ws old) r out → Ended r out
    unfolding request_answer short_of_room
    done r out a = go (sound ws part name) refl (ltb (length old) (length ws)) refl
      where
        go : (s : Bool) → sound ws part name ≡ s → (b : Bool) → ltb (length old) (length ws) ≡ b → Ended r out
        go false f b g = (let x = requested false b f g (Ok tt) e in let z : ◌≡◌ {A = ℕ} 0 1 = cc in absurd (omega arith))
        go true f true g = (let x = requested true true f g (Ok tt) e in let z : ◌≡◌ {A = ℕ} 0 1 = cc in absurd (omega arith))
        go true f false g =
            let m = may true true t (sym f) in (
              a.0 ∙ sym (ap₂ (λ (a b : Bool). (replacement a (b || scratch_short ws part places) last q ws old).answer) m g),
              a.1 ∙ sym (ap₂ (λ (a b : Bool). (replacement a (b || scratch_short ws part places) last q ws old).out) m g),
            )
