-- Lists, parts of a slice that are lent and come back, and lists of trees: what more than one crate asks of them. Assumes nothing.
use Prim.Native.Nat.{ℕ, suc, ◌+◌, ◌-◌, ◌≤◌, ◌<◌, zero}
use native.Mathlib.Omega.{arith}
use mathlib.Core.Path.{◌≡◌, refl, sym, ◌∙◌, ap, ap₂}
use mathlib.Core.List.{List, [], ◌∷◌, ◌++◌, append_assoc, append-nil, reverse, reverse-cons, map}
use borrow.Rule.Slice.PartMut.{put_mid}
use lib.ListN.{length, take, drop, set, length-drop, drop_of_length-le, get_or}
use lib.Seq.{take_all, take-append_seam, drop-cons, sets}
use Rattle.spec_tree.specs.Tree.{Tree, Op, nil}
use Rattle.spec_tree.proofs.TokenLaws.{sizes}
use Rattle.spec_tree.specs.Rows.{occurrences}
use native.Mathlib.Numerals.{add-one}
use native.Mathlib.Nat.{add-zero, add-suc, suc-add}
use Rattle.spec_tree.specs.Facts.{total, size}

-- ---- parts of a slice

-- the part from a place on is what is left
pub rest_is : (w : List ℕ) (u : ℕ) → take (length w - u) (drop u w) ≡ drop u w
rest_is w u = take_all (length w - u) (drop u w) (omega (arith, length-drop u w))

-- it was lent, and comes back as x
pub rest_back : (w x : List ℕ) (u : ℕ) → put_mid u (length w - u) w x ≡ take u w ++ x
rest_back w x u = ap (λ (l : List ℕ). take u w ++ (x ++ l)) (drop_of_length-le (drop u w) past) ∙ ap (λ (l : List ℕ). take u w ++ l) (append-nil x)
  where
    past : length (drop u w) ≤ length w - u
    past = omega (arith, length-drop u w)

pub front : (l old : List ℕ) → take (length l) (l ++ drop (length l) old) ≡ l
front l old = take-append_seam l (drop (length l) old)

pub none_left : (k : ℕ) (l : List ℕ) → length l ≤ k → drop k l ≡ []
none_left zero [] h = refl
none_left (suc k) [] h = refl
none_left zero (x ∷ l) h = absurd (omega arith)
none_left (suc k) (x ∷ l) h = none_left k l (omega arith)

pub fits_in : (n : ℕ) (l : List ℕ) → length (take n l) ≤ length l
fits_in zero l = omega arith
fits_in (suc n) [] = omega arith
fits_in (suc n) (x ∷ l) = omega (arith, fits_in n l)

-- ---- places

pub place_is : (ws : List ℕ) (i : ℕ) → i < length ws → drop i ws ≡ get_or ws i 0 ∷ drop (i + 1) ws
place_is ws i h = drop-cons ws i 0 h ∙ ap (λ (n : ℕ). get_or ws i 0 ∷ drop n ws) (sym (add-one i))

pub place_before : (ws : List ℕ) (i : ℕ) → 0 < i → i ≤ length ws → drop (i - 1) ws ≡ get_or ws (i - 1) 0 ∷ drop i ws
place_before ws i h l =
    let e : suc (i - 1) ≡ i = omega arith in
    drop-cons ws (i - 1) 0 (omega arith) ∙ ap (λ (k : ℕ). get_or ws (i - 1) 0 ∷ drop k ws) e

pub cancel : (a : List ℕ) {r s : List ℕ} → a ++ r ≡ a ++ s → r ≡ s
cancel [] e = e
cancel (x ∷ a) e = cancel a (cc)

pub reverse_shift : (got : List ℕ) (b : ℕ) (r : List ℕ) → reverse (b ∷ got) ++ r ≡ reverse got ++ (b ∷ r)
reverse_shift got b r = ap (λ (l : List ℕ). l ++ r) (reverse-cons b got) ∙ append_assoc (reverse got) (b ∷ []) r

pub sets_append : (l : List ℕ) (i : ℕ) (v w : List ℕ) → sets (sets l i v) (i + length v) w ≡ sets l i (v ++ w)
sets_append l i [] w = ap (λ (k : ℕ). sets l k w) (add-zero i)
sets_append l i (a ∷ v) w = ap (λ (k : ℕ). sets (sets (set l i a) (suc i) v) k w) (add-suc i (length v) ∙ sym (suc-add i (length v))) ∙ sets_append (set l i a) (suc i) v w

-- ---- lists of trees

pub one_alone : (l : List Tree) → length l ≡ 1 → l ≡ get_or l 0 (Op 0 nil) ∷ []
one_alone [] e = absurd (omega arith)
one_alone (t ∷ []) e = refl
one_alone (t ∷ (u ∷ l)) e = absurd (omega arith)

pub first_alone : (l m : List Tree) → length l ≡ 1 → get_or (l ++ m) 0 (Op 0 nil) ≡ get_or l 0 (Op 0 nil)
first_alone [] m e = absurd (omega arith)
first_alone (t ∷ l) m e = refl

pub one_size : (t : Tree) → sizes (t ∷ []) ≡ size t
unfolding sizes total
one_size t = omega arith

pub sizes_cons : (t : Tree) (ts : List Tree) → sizes (t ∷ ts) ≡ size t + sizes ts
unfolding sizes total
sizes_cons t ts = refl

pub occurrences_append : (l r : List Tree) → occurrences (l ++ r) ≡ occurrences l + occurrences r
unfolding occurrences
occurrences_append [] r = omega arith
occurrences_append (t ∷ l) r = (let a = occurrences_append l r in omega arith)

pub map_through : (f g h : Tree → Tree) → ((t : Tree) → g (f t) ≡ h t) → (l : List Tree) → map g (map f l) ≡ map h l
map_through f g h e [] = refl
map_through f g h e (t ∷ l) = ap₂ ◌∷◌ (e t) (map_through f g h e l)

pub take_front : (f : Tree → Tree) (k : ℕ) (l r : List Tree) → k ≤ length l → take k (map f l ++ r) ≡ map f (take k l)
take_front f zero l r h = refl
take_front f (suc k) [] r h = absurd (omega arith)
take_front f (suc k) (t ∷ l) r h = ap (λ (x : List Tree). f t ∷ x) (take_front f k l r (omega arith))

pub drop_front : (f : Tree → Tree) (k : ℕ) (l r : List Tree) → k ≤ length l → drop k (map f l ++ r) ≡ map f (drop k l) ++ r
drop_front f zero l r h = refl
drop_front f (suc k) [] r h = absurd (omega arith)
drop_front f (suc k) (t ∷ l) r h = drop_front f k l r (omega arith)
