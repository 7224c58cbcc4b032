-- The two functions that call each other, turn by turn, with the slices that they lend. Assumes nothing.
use Rattle.std.specs.Result.{IsErr}
use mathlib.Core.Bool.{Bool, true, false}
use Rattle.std.specs.Prelude.{Ok, Err, Result}
use Rattle.replace.specs.declared.NotConstant.{NotConstant}
use Rattle.std.specs.Prelude.{Some}
use Rattle.std.proofs.Common.{◌≡◌, ℕ, ◌+◌, ◌-◌, ◌*◌, ◌<◌, ◌≤◌, List, [], ◌∷◌, ◌++◌, length, get_or, take, drop, set, sym, refl, ap, ◌∙◌, subst, arith, length-append, length-drop, drop-drop, drop_at}
use mathlib.Core.Option.{some}
use borrow.Rule.Slice.PartMut.{put_mid}
use Rattle.spec_tree.specs.Outcome.{Outcome}
use Rattle.spec_tree.specs.Facts.{size}
use Rattle.spec_tree.specs.Tokens.{words_of, run_at}
use Rattle.words.specs.tokens.Answers.{There, end_answer}
use Rattle.words.proofs.words.Rewriting.{whole_there, one_long}
use Rattle.replace.specs.factors.Places.{tree}
use Rattle.replace.specs.replacing.Deciding.{Trees, Target, PassedAt, Within, rewritten_words, Match, product_out, Wrote, Left}
use Rattle.replace.proofs.replacing.Scanning.{Scanned, trees_after, turn_equal, turn_stays, turn_passed, long_within, turn_matched, turn_refused, here_refused}
use Rattle.replace.proofs.replacing.Factoring.{Factored, here_within, here_smaller, here_scratch, here_room, here_inside, run_trees, run_long, factor_turns, factor_refused}
use Rattle.replace.specs.Answers.{Decides, Writes}
use Rattle.replace.specs.declared.Decision.{Decision}
use Rattle.replace.specs.declared.Matched.{Matched}
use Rattle.replace.specs.declared.Decision.TheVariants as decision
use Rattle.spec_tree.proofs.Lists.{rest_is}

-- what is lent of a slice from a place on
abbrev pub from : List ℕ → ℕ → List ℕ
from l u = take (length l - u) (drop u l)

pub from_long : (l : List ℕ) (u : ℕ) → length (from l u) ≡ length l - u
from_long l u = ap length (rest_is l u) ∙ length-drop u l

some_run : (us : List ℕ) → Trees us → 0 < length us → (n : ℕ) × (words_of us 1 ≡ some n)
some_run [] h p = absurd (omega arith)
some_run (w ∷ us) h p = whole_there w us h.count h.complete

wrote_is : (o : _) (limit : ℕ) (old : List ℕ) (r : Result ℕ NotConstant) (out : List ℕ) (n : ℕ) → r ≡ Ok n → Writes o limit old r out → Wrote o old n out
wrote_is o limit old r out n e w = subst (λ (q : Result ℕ NotConstant). Writes o limit old q out) e w

left_is : (o : _) (limit : ℕ) (old : List ℕ) (r : Result ℕ NotConstant) (out : List ℕ) (f : NotConstant) → r ≡ Err f → Writes o limit old r out → Left o limit old out
left_is o limit old r out f e w = subst (λ (q : Result ℕ NotConstant). Writes o limit old q out) e w

pub writes_left : (o : Outcome (List ℕ)) (limit : ℕ) (old : List ℕ) (r : Result ℕ NotConstant) (out : List ℕ) → IsErr r → Left o limit old out → Writes o limit old r out
writes_left o limit old (Ok n) out e l = absurd (let z : ◌≡◌ {A = Bool} false true = e in (let y : ◌≡◌ {A = ℕ} 0 1 = cc in omega arith))
writes_left o limit old (Err f) out e l = l

-- what was written after a head is written after it
module _ (old out₀ head : List ℕ) (e : out₀ ≡ head ++ drop (length head) old) where
  after_head : drop (length head) out₀ ≡ drop (length head) old
  after_head = ap (drop (length head)) e ∙ drop_at head (drop (length head) old) (length head) refl

  pub head_self : out₀ ≡ head ++ drop (length head) out₀
  head_self = e ∙ ap (λ (l : List ℕ). head ++ l) (sym after_head)

  past_head : (n : ℕ) → length head ≤ n → drop n out₀ ≡ drop n old
  past_head n h =
      let z : length head + (n - length head) ≡ n = omega arith in
      ap (λ (k : ℕ). drop k out₀) (sym z) ∙ sym (drop-drop (n - length head) (length head) out₀) ∙ ap (drop (n - length head)) after_head
      ∙ drop-drop (n - length head) (length head) old ∙ ap (λ (k : ℕ). drop k old) z

  pub wrote_from : {o : Outcome (List ℕ)} {n : ℕ} {out : List ℕ} → length head ≤ n → Wrote o out₀ n out → Wrote o old n out
  wrote_from {n = n} h w = record { new = w.new; is = w.is; count = w.count; words = w.words ∙ ap (λ (l : List ℕ). w.new ++ l) (past_head n h) }

  pub left_from : {o : Outcome (List ℕ)} {limit : ℕ} {out : List ℕ} → length head ≤ limit → Left o limit out₀ out → Left o limit old out
  left_from {limit = limit} h l = record { why = l.why; is = l.is; rest = l.rest ∙ past_head limit h }

-- ---- the trees

module _
    (ws part : List ℕ) (name : ℕ) (old : List ℕ) (h : Trees ws) (t : Target part name) (room : length ws ≤ length old) (out : List ℕ) (i o : ℕ) (s : Scanned part name ws old out i o)
    (more : i < length ws) where
  pub asked_trees : Trees (from ws i)
  asked_trees = subst Trees (sym (rest_is ws i)) (trees_after ws i h)

  pub asked_some : 0 < length (from ws i)
  asked_some = omega (arith, from_long ws i)

  module _ (new : List ℕ) (r : Result Decision NotConstant) (d : Decides part name (from ws i) new r) where
    there : Decides part name (drop i ws) new r
    there = subst (λ (us : List ℕ). Decides part name us new r) (rest_is ws i) d

    pub by_equal : r ≡ Ok decision.Equal → Scanned part name ws old (set out o name) (i + length part) (o + 1)
    by_equal q = turn_equal part name ws old t h room s more (subst (Decides part name (drop i ws) new) q there) (one_long part t.one)

    pub by_stays : r ≡ Ok decision.Stays → Scanned part name ws old (set out o (get_or ws i 0)) (i + 1) (o + 1)
    by_stays q = turn_stays part name ws old t h room s more (get_or ws i 0) refl (subst (Decides part name (drop i ws) new) q there)

    module _ (n : ℕ) (q : r ≡ Ok (decision.Passed n)) where
      passed_there : PassedAt part name (drop i ws) n
      passed_there = subst (Decides part name (drop i ws) new) q there

      pub passed_fits : i + n ≤ length ws
      passed_fits = (let a = passed_there.within in let b = length-drop i ws in omega arith)

      copied : take (i + n - i) (drop i ws) ≡ take n (drop i ws)
      copied = (let z : i + n - i ≡ n = omega arith in ap (λ (k : ℕ). take k (drop i ws)) z)

      pub by_passed :
          (x : List ℕ) → x ≡ take (i + n - i) (drop i ws) ++ drop (length (take (i + n - i) (drop i ws))) (from out o)
          → Scanned part name ws old (put_mid o (length out - o) out x) (i + n) (o + n)
      by_passed x e =
          turn_passed part name ws old t h room s more n passed_there x (e ∙ ap (λ (l : List ℕ). l ++ drop (length l) (from out o)) copied)

    pub by_refused : (f : NotConstant) → r ≡ Err f → Left (rewritten_words part name ws) (length ws) old out
    by_refused f q =
        let n = some_run (drop i ws) (trees_after ws i h) (omega (arith, length-drop i ws)) in
        here_refused part name ws old t h room s more (subst (Decides part name (drop i ws) new) q there) n.0 n.1

    module _ (m : Matched) (q : r ≡ Ok (decision.Matched m)) where
      abbrev left : ℕ
      left = m.left

      abbrev copies : ℕ
      copies = m.copies

      abbrev code : ℕ
      code = m.code

      abbrev long : ℕ
      long = m.long

      pub match_asked : Match part name (from ws i) new left copies code long
      match_asked = subst (Decides part name (from ws i) new) q d

      match_there : Match part name (drop i ws) new left copies code long
      match_there = subst (Decides part name (drop i ws) new) q there

      pub long_fits : i + long ≤ length ws
      long_fits = long_within part name ws old t h room s more new left copies code long match_there

      pub some_long : 0 < long
      some_long = omega (arith, match_there.smaller)

      pub lent_fits : long ≤ length (from out o)
      lent_fits = (let a = long_fits in let b = from_long out o in omega (arith, s.fewer, s.long))

      module _ (x : List ℕ) (lx : length x ≡ length (from out o)) (r2 : Result ℕ NotConstant) (w : Writes (product_out part name (from ws i)) long (from out o) r2 x) where
        w_there : Writes (product_out part name (drop i ws)) long (from out o) r2 x
        w_there = subst (λ (us : List ℕ). Writes (product_out part name us) long (from out o) r2 x) (rest_is ws i) w

        pub by_product : (n : ℕ) → r2 ≡ Ok n → Scanned part name ws old (put_mid o (length out - o) out x) (i + long) (o + n)
        by_product n e =
            turn_matched part name ws old t h room s more new left copies code long match_there n x (wrote_is (product_out part name (drop i ws)) long (from out o) r2 x n e w_there)

        pub by_product_refused : (f : NotConstant) → r2 ≡ Err f → Left (rewritten_words part name ws) (length ws) old (put_mid o (length out - o) out x)
        by_product_refused f e =
            turn_refused part name ws old t h room s more new left copies code long match_there x lx (left_is (product_out part name (drop i ws)) long (from out o) r2 x f e w_there)

-- ---- the factors left of a product

module _
    (part : List ℕ) (name : ℕ) (t : Target part name) (ws : List ℕ) (h : Trees ws) (places₀ : List ℕ) (left copies code long : ℕ) (m : Match part name ws places₀ left copies code long)
    (old : List ℕ) (scratch : 2 * long ≤ length places₀) (room : long ≤ length old) (out places : List ℕ) (o j : ℕ)
    (s : Factored part name t ws h places₀ left copies code long m old out places o j) (more : j < left) where
  abbrev at : ℕ
  at = get_or places j 0

  within : Within ws long at
  within = here_within part name t ws h places₀ left copies code long m old s more

  pub there_is : There ws at
  there_is = (size (tree ws at), within.run)

  module _ (end : ℕ) (e : Some end ≡ end_answer at (run_at ws at)) where
    pub end_is : end ≡ at + size (tree ws at)
    unfolding end_answer
    end_is = (let x : Some end ≡ Some (at + size (tree ws at)) = e ∙ ap (end_answer at) within.run in cc)

    long_is : end - at ≡ size (tree ws at)
    long_is = (let z = end_is in omega arith)

    pub end_within : (at ≤ end) × (end ≤ length ws)
    unfolding run_at
    end_within =
        let z = end_is in
        let b = (Rattle.spec_tree.proofs.TokenLaws.words_complete (drop at ws) 1 (size (tree ws at)) within.run).0 in
        let y = some_place at b in
        (omega arith, omega arith)
      where
        some_place : (at : ℕ) → size (tree ws at) ≤ length (drop at ws) → at + size (tree ws at) ≤ length ws
        some_place at b = (let d = length-drop at ws in let u = Rattle.spec_tree.proofs.FactLaws.size_one (tree ws at) in omega arith)

    abbrev slice : List ℕ
    slice = take (end - at) (drop at ws)

    slice_is : slice ≡ take (size (tree ws at)) (drop at ws)
    slice_is = ap (λ (k : ℕ). take k (drop at ws)) long_is

    pub slice_trees : Trees slice
    slice_trees = subst Trees (sym slice_is) (run_trees part name t ws h places₀ left copies code long m old s more)

    pub slice_long : length slice ≡ size (tree ws at)
    slice_long = ap length slice_is ∙ run_long part name t ws h places₀ left copies code long m old s more

    pub slice_falls : length slice < long
    slice_falls = (let a = slice_long in let b = here_smaller part name t ws h places₀ left copies code long m old s more in omega arith)

    pub scratch_fits : 2 * length slice ≤ length (from places left)
    scratch_fits =
        (let a = slice_long in
        let b = here_scratch part name t ws h places₀ left copies code long m old s more (omega arith) in
        let c = from_long places left in
        omega arith)

    pub room_fits : length slice ≤ length (from out o)
    room_fits = (let a = slice_long in let b = here_room part name t ws h places₀ left copies code long m old s more room in let c = from_long out o in omega arith)

    pub o_inside : o ≤ length out
    o_inside = here_inside part name t ws h places₀ left copies code long m old s more room

    module _ (y z : List ℕ) (ly : length y ≡ length (from out o)) (lz : length z ≡ length (from places left)) (r : Result ℕ NotConstant) (w : Writes (rewritten_words part name slice) (length slice) (from out o) r y) where
      w_run : Writes (rewritten_words part name (take (size (tree ws at)) (drop at ws))) (length (take (size (tree ws at)) (drop at ws))) (from out o) r y
      w_run = subst (λ (us : List ℕ). Writes (rewritten_words part name us) (length us) (from out o) r y) slice_is w

      pub few : (n : ℕ) → r ≡ Ok n → o + n ≤ length out
      few n q =
          (let a = wrote_is (rewritten_words part name slice) (length slice) (from out o) r y n q w in
          let b = ap length a.words ∙ length-append a.new (drop n (from out o)) in
          let c = a.count in
          let d = from_long out o in
          let e = o_inside in
          omega arith)

      pub by_factor :
          (n : ℕ) → r ≡ Ok n
          → Factored part name t ws h places₀ left copies code long m old (put_mid o (length out - o) out y) (put_mid left (length places - left) places z) (o + n) (j + 1)
      by_factor n q =
          factor_turns part name t ws h places₀ left copies code long m old s more room n y
          (wrote_is (rewritten_words part name (take (size (tree ws at)) (drop at ws))) (length (take (size (tree ws at)) (drop at ws))) (from out o) r y n q w_run) z (lz ∙ ap length (rest_is places left))

      pub by_factor_refused : (f : NotConstant) → r ≡ Err f → Left (product_out part name ws) long old (put_mid o (length out - o) out y)
      by_factor_refused f q =
          factor_refused part name t ws h places₀ left copies code long m old s more room y
          (left_is (rewritten_words part name (take (size (tree ws at)) (drop at ws))) (length (take (size (tree ws at)) (drop at ws))) (from out o) r y f q w_run)
