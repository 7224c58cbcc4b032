-- Decimal numbers and constants: what load reads from a text is the number whose decimal text it is, and there is no other text that it reads so.
-- Assumes nothing.
use Prim.Native.Nat.{ℕ, zero, suc, ◌+◌, ◌-◌, ◌*◌, ◌/◌, ◌%◌, ◌^◌, ◌≤◌, ◌<◌}
use mathlib.Core.Path.{◌≡◌, refl, sym, ◌∙◌, ap, subst}
use mathlib.Core.Bool.{Bool, true, false, not, ◌&&◌, cond}
use mathlib.Core.Option.{Option, none, some}
use mathlib.Core.List.{List, [], ◌∷◌, ◌++◌, append-nil, append_assoc}
use native.Mathlib.Omega.{arith}
use borrow.Author.Tests.{ltb-true, ltb-false, lt-ltb, le-ltb, ne_eqb}
use lib.IntN.{ℤ, pos, negsuc}
use lib.Dec.{T, eqb, leb, ltb, eqb→eq, le→leb, leb→le, T_not}
use Rattle.spec_tree.specs.Bytes.{every, digits, decimal, integer}
use Rattle.spec_tree.specs.Symbol.{is_digit}
use Rattle.spec_tree.specs.Passes.{of_paper}
use Rattle.spec_tree.proofs.Logic.{and_left, and_right, and_both}
use Rattle.spec_sheet.specs.Sheet.{number_from, number, below_limit, minus, constant}
use Rattle.spec_tree.proofs.Tests.{is_true, eq→eqb, every_more}

pub digit_range : (b : ℕ) → T (is_digit b) → (48 ≤ b) × (b ≤ 57)
digit_range b h = (leb→le 48 b (and_left (leb 48 b) (leb b 57) h), leb→le b 57 (and_right (leb 48 b) (leb b 57) h))

digit : (d : ℕ) → d < 10 → T (is_digit (48 + d))
digit d h = and_both (leb 48 (48 + d)) (leb (48 + d) 57) (le→leb 48 (48 + d) (omega arith)) (le→leb (48 + d) 57 (omega arith))

-- A number's decimal text: one digit, or the text of a number that isn't 0 and one digit more.
pub data Written : ℕ → List ℕ → Type 0 where
  one : (d : ℕ) → d < 10 → Written d ((48 + d) ∷ [])
  more : {n : ℕ} {l : List ℕ} → Written n l → 1 ≤ n → (d : ℕ) → d < 10 → Written (n * 10 + d) (l ++ ((48 + d) ∷ []))

-- ---- decimal makes such a text, and it is the only one

written : (f n : ℕ) → n ≤ f → Written n (digits f n)
unfolding digits
written zero n h = one n (omega arith)
written (suc f) n h = go (ltb n 10) refl (λ l. written f (n / 10) (omega arith))
  where
    go : (b : Bool) → ltb n 10 ≡ b → (10 ≤ n → Written (n / 10) (digits f (n / 10)))
        → Written n (elim b [ true ↦ (48 + n) ∷ [] | false ↦ digits f (n / 10) ++ ((48 + n % 10) ∷ []) ])
    go true e w = one n (ltb-true n 10 e)
    go false e w =
        let l = ltb-false n 10 e in
        subst (λ (m : ℕ). Written m (digits f (n / 10) ++ ((48 + n % 10) ∷ []))) (let q : n / 10 * 10 + n % 10 ≡ n = omega arith in q)
        (more (w l) (omega arith) (n % 10) (omega arith))

only : {n : ℕ} {l : List ℕ} → Written n l → (f : ℕ) → n ≤ f → l ≡ digits f n
unfolding digits
only (one d h) zero g = refl
only (one d h) (suc f) g = rw (lt-ltb d 10 h, digits)
only (more w p d h) zero g = absurd (omega arith)
only (more {n = n} {l = l} w p d h) (suc f) g =
    let q : (n * 10 + d) / 10 ≡ n = omega arith in
    let r : (n * 10 + d) % 10 ≡ d = omega arith in
    rw (le-ltb (n * 10 + d) 10 (omega arith), digits, q, r) (ap (λ (m : List ℕ). m ++ ((48 + d) ∷ [])) (only w f (omega arith)))

pub decimal_written : (n : ℕ) → Written n (decimal n)
unfolding decimal
decimal_written n = written n n (omega arith)

pub written_decimal : {n : ℕ} {l : List ℕ} → Written n l → l ≡ decimal n
unfolding decimal
written_decimal {n} w = only w n (omega arith)

-- ---- from a text to its number

all_digits : {n : ℕ} {l : List ℕ} → Written n l → T (every is_digit l)
unfolding every
all_digits (one d h) = and_both (is_digit (48 + d)) true (digit d h) tt
all_digits (more {l = l} w p d h) = every_more is_digit l ((48 + d) ∷ []) (all_digits w) (and_both (is_digit (48 + d)) true (digit d h) tt)

pub decimal_digits : (n : ℕ) → T (every is_digit (decimal n))
decimal_digits n = all_digits (decimal_written n)

from_more : (m b : ℕ) (l : List ℕ) → number_from m (l ++ (b ∷ [])) ≡ number_from m l * 10 + (b - 48)
unfolding number_from
from_more m b [] = refl
from_more m b (c ∷ l) = from_more (m * 10 + (c - 48)) b l

value : {n : ℕ} {l : List ℕ} → Written n l → number_from 0 l ≡ n
value (one d h) = unfold number_from in omega arith
value (more {l = l} w p d h) = let e = value w in let q = from_more 0 (48 + d) l in omega arith

-- there is a first byte, and it isn't the digit 0
abbrev Leads : List ℕ → Type 0
Leads [] = ⊥
Leads (b ∷ l) = b ≡ 48 → ⊥

leads_more : (l r : List ℕ) → Leads l → Leads (l ++ r)
leads_more [] r h = absurd h
leads_more (b ∷ l) r h = h

leads : {n : ℕ} {l : List ℕ} → Written n l → 1 ≤ n → Leads l
leads (one d h) g = λ e. omega arith
leads (more {l = l} w p d h) g = leads_more l ((48 + d) ∷ []) (leads w p)

several : (l : List ℕ) (b : ℕ) → Leads l → T (every is_digit (l ++ (b ∷ []))) → number (l ++ (b ∷ [])) ≡ some (number_from 0 (l ++ (b ∷ [])))
unfolding number
several [] b h g = absurd h
several (a ∷ []) b h g = rw (is_true (every is_digit (a ∷ (b ∷ []))) g, ne_eqb a 48 h)
several (a ∷ (c ∷ l)) b h g = rw (is_true (every is_digit (a ∷ (c ∷ (l ++ (b ∷ []))))) g, ne_eqb a 48 h)

read_back : {n : ℕ} {l : List ℕ} → Written n l → number l ≡ some n
read_back (one d h) = unfold number in rw (is_true (is_digit (48 + d)) (digit d h)) (ap some (omega arith))
read_back (more {l = l} w p d h) = several l (48 + d) (leads w p) (all_digits (more w p d h)) ∙ ap some (value (more w p d h))

pub number_decimal : (n : ℕ) → number (decimal n) ≡ some n
number_decimal n = read_back (decimal_written n)

-- ---- and back: a text that load reads is one that decimal makes

grow : (n : ℕ) (l r : List ℕ) → Written n l → 1 ≤ n → T (every is_digit r) → Written (number_from n r) (l ++ r)
unfolding number_from every
grow n l [] w p h = subst (λ (m : List ℕ). Written n m) (sym (append-nil l)) w
grow n l (b ∷ r) w p h =
    let i = digit_range b (and_left (is_digit b) (every is_digit r) h) in
    let next : Written (n * 10 + (b - 48)) (l ++ (b ∷ [])) = subst (λ (c : ℕ). Written (n * 10 + (b - 48)) (l ++ (c ∷ []))) (let e : 48 + (b - 48) ≡ b = omega arith in e) (more w p (b - 48) (omega arith)) in
    subst (λ (m : List ℕ). Written (number_from (n * 10 + (b - 48)) r) m) (append_assoc l (b ∷ []) r)
    (grow (n * 10 + (b - 48)) (l ++ (b ∷ [])) r next (omega arith) (and_right (is_digit b) (every is_digit r) h))

abbrev pub Reads : List ℕ → Option ℕ → Type 0
Reads f none = Unit {0}
Reads f (some n) = Written n f

single : (b : ℕ) → T (is_digit b) → Written (b - 48) (b ∷ [])
single b h = let i = digit_range b h in subst (λ (c : ℕ). Written (b - 48) (c ∷ [])) (let e : 48 + (b - 48) ≡ b = omega arith in e) (one (b - 48) (omega arith))

pub number_reads : (f : List ℕ) → Reads f (number f)
unfolding number
number_reads [] = tt
number_reads (b ∷ []) = go (is_digit b) (λ h. h)
  where
    go : (c : Bool) → (T c → T (is_digit b)) → Reads (b ∷ []) (cond c (some (b - 48)) none)
    go true h = single b (h tt)
    go false h = tt
number_reads (b ∷ (c ∷ l)) = go (every is_digit (b ∷ (c ∷ l)) && not (eqb b 48)) (λ h. h)
  where
    long : T (every is_digit (b ∷ (c ∷ l)) && not (eqb b 48)) → Written (number_from 0 (b ∷ (c ∷ l))) (b ∷ (c ∷ l))
    long h =
        let d = and_left (every is_digit (b ∷ (c ∷ l))) (not (eqb b 48)) h in
        let n : b ≡ 48 → ⊥ = λ e. T_not (eqb b 48) (and_right (every is_digit (b ∷ (c ∷ l))) (not (eqb b 48)) h) (eq→eqb b 48 e) in
        let s = single b (and_left (is_digit b) (every is_digit (c ∷ l)) (unfold every in d)) in
        let i = digit_range b (and_left (is_digit b) (every is_digit (c ∷ l)) (unfold every in d)) in
        (unfold number_from in
        subst (λ (m : ℕ). Written (number_from m (c ∷ l)) (b ∷ (c ∷ l))) (let e : b - 48 ≡ 0 * 10 + (b - 48) = omega arith in e)
        (grow (b - 48) (b ∷ []) (c ∷ l) s (omega arith) (and_right (is_digit b) (every is_digit (c ∷ l)) (unfold every in d))))

    go : (t : Bool) → (T t → T (every is_digit (b ∷ (c ∷ l)) && not (eqb b 48))) → Reads (b ∷ (c ∷ l)) (cond t (some (number_from 0 (b ∷ (c ∷ l)))) none)
    go true h = long (h tt)
    go false h = tt

-- ---- constants

constant_pos : (l : List ℕ) (n : ℕ) → T (every is_digit l) → number l ≡ some n → T (ltb n (10 ^ 15)) → constant l ≡ some (pos n)
unfolding constant every
constant_pos [] n d e h = absurd (let z : ◌≡◌ {A = ℕ} 0 1 = cc in omega arith)
constant_pos (b ∷ l) n d e h =
    let i = digit_range b (and_left (is_digit b) (every is_digit l) d) in
    rw (ne_eqb b 45 (omega arith), constant, e, is_true (ltb n (10 ^ 15)) h)

pub constant_integer : (c : ℤ) → T (of_paper c) → constant (integer c) ≡ some c
unfolding integer of_paper
constant_integer (pos n) h = constant_pos (decimal n) n (decimal_digits n) (number_decimal n) h
constant_integer (negsuc n) h = unfold constant in rw (number_decimal (suc n), is_true (ltb (suc n) (10 ^ 15)) h)

pub record Integer (f : List ℕ) (c : ℤ) : Type 0 where
  pub text : f ≡ integer c
  pub small : T (of_paper c)

abbrev pub ReadsConstant : List ℕ → Option ℤ → Type 0
ReadsConstant f none = Unit {0}
ReadsConstant f (some c) = Integer f c

limit : (f l : List ℕ) (g : ℕ → Option ℤ) (o : Option ℕ) → Reads l o → ((n : ℕ) → l ≡ decimal n → T (ltb n (10 ^ 15)) → ReadsConstant f (g n)) → ReadsConstant f (below_limit g o)
unfolding below_limit
limit f l g none r h = tt
limit f l g (some n) r h = go (ltb n (10 ^ 15)) (λ t. h n (written_decimal r) t)
  where
    go : (b : Bool) → (T b → ReadsConstant f (g n)) → ReadsConstant f (cond b (g n) none)
    go true h = h tt
    go false h = tt

after_minus : (b : ℕ) (l : List ℕ) → b ≡ 45 → (n : ℕ) → l ≡ decimal n → T (ltb n (10 ^ 15)) → ReadsConstant (b ∷ l) (minus n)
unfolding minus
after_minus b l p zero e h = tt
after_minus b l p (suc n) e h = record { text = (unfold integer in cc); small = (unfold of_paper in h) }

pub constant_reads : (f : List ℕ) → ReadsConstant f (constant f)
unfolding constant
constant_reads [] = tt
constant_reads (b ∷ l) = go (eqb b 45) (eqb→eq b 45)
  where
    go : (c : Bool) → (T c → b ≡ 45)
        → ReadsConstant (b ∷ l) (elim c [ true ↦ below_limit minus (number l) | false ↦ below_limit (λ n. some (pos n)) (number (b ∷ l)) ])
    go true h = limit (b ∷ l) l minus (number l) (number_reads l) (after_minus b l (h tt))
    go false h =
        limit (b ∷ l) (b ∷ l) (λ n. some (pos n)) (number (b ∷ l)) (number_reads (b ∷ l)) (λ n e t. record { text = (unfold integer in e); small = (unfold of_paper in t) })
