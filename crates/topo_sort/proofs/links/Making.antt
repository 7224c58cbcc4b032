-- Links made: one word of a statement after another, and one statement after another, from the last to the first. Assumes nothing.
use Prim.Native.Nat.{ℕ, zero, suc, ◌+◌, ◌-◌, ◌*◌, ◌/◌, ◌%◌, ◌≤◌, ◌<◌}
use mathlib.Core.Path.{◌≡◌, refl, sym, ◌∙◌, ap, subst}
use mathlib.Core.Bool.{Bool, true, false, ◌||◌}
use mathlib.Core.List.{List, [], ◌∷◌}
use native.Mathlib.Omega.{arith}
use borrow.Author.Tests.{eqb-true, eqb-false, eq-eqb, ne_eqb}
use lib.Dec.{eqb}
use lib.ListN.{length, get_or, take, set, length-set}
use lib.Seq.{get_or-set_same, get_or-set_other, take-suc, take_all}
use Rattle.words.specs.bits.Bits.{yes}
use Rattle.topo_sort.specs.Needs.{columns}
use Rattle.topo_sort.specs.Turns.{joined}
use Rattle.topo_sort.specs.reads.Marks.{name_word, holds_name}
use Rattle.topo_sort.specs.links.Links.{stmt_of, next_of, Chain, first_is, needing, one_if, how_many, Added, Fresh, Links, Kept, Named, Names, Linking, Says, Lent, StmtLinked}
use Rattle.topo_sort.proofs.Left.{columns_step}
use Rattle.topo_sort.proofs.reads.MarkLaws.{or_false, holds_none, holds_cons}
use Rattle.topo_sort.proofs.reads.NameLaws.{holds_append}

-- ---- lists of links

pub chain_kept : (links : List ℕ) (n v : ℕ) (l : List ℕ) (h : ℕ) → h ≤ n → Chain links h l → Chain (set links n v) h l
unfolding Chain
chain_kept links n v [] h g c = c
chain_kept links n v (j ∷ l) h g c =
    let some : 0 < h = c.0 in
    let same : get_or (set links n v) (h - 1) 0 ≡ get_or links (h - 1) 0 = get_or-set_other links n (h - 1) v 0 (λ e. omega arith) in
    (some, (rw same c.1.0, (rw same c.1.1.0, rw same (chain_kept links n v l (next_of links h) (omega (arith, c.1.1.0)) c.1.1.1))))

chain_added :
    (links : List ℕ) (n h j : ℕ) (l : List ℕ) → n < length links → j < 2048 → h ≤ n → Chain links h l → Chain (set links n (j + 2048 * h)) (n + 1) (j ∷ l)
unfolding Chain
chain_added links n h j l room low g c =
    let here : get_or (set links n (j + 2048 * h)) ((n + 1) - 1) 0 ≡ j + 2048 * h =
    ap (λ (k : ℕ). get_or (set links n (j + 2048 * h)) k 0) (let z : (n + 1) - 1 ≡ n = omega arith in z) ∙ get_or-set_same links n (j + 2048 * h) 0 room in
    let back : h ≡ (j + 2048 * h) / 2048 = omega arith in
    let stmt : (j + 2048 * h) % 2048 ≡ j = omega arith in
    (omega arith, (rw here stmt, (rw here (omega arith), rw here (subst (λ (k : ℕ). Chain (set links n (j + 2048 * h)) k l) back (chain_kept links n (j + 2048 * h) l h g c)))))

chain_first : (links : List ℕ) (h j : ℕ) (b : Bool) (l : List ℕ) → Fresh j l → Chain links h (joined b j l) → first_is links h j ≡ b
unfolding Chain first_is
chain_first links h j true l f c = let some : 0 < h = c.0 in rw (ne_eqb h 0 (λ e. omega arith), eq-eqb (stmt_of links h) j c.1.0) refl
chain_first links h j false [] f c = rw (eq-eqb h 0 c) refl
chain_first links h j false (k ∷ l) f c =
    let some : 0 < h = c.0 in rw (ne_eqb h 0 (λ e. omega arith), ne_eqb (stmt_of links h) j (λ e. f (sym c.1.0 ∙ e))) refl

pub no_link : (links : List ℕ) (h j : ℕ) → h ≡ 0 → false ≡ first_is links h j
unfolding first_is
no_link links h j e = rw (eq-eqb h 0 e) refl

pub link_first : (links : List ℕ) (h j : ℕ) → (h ≡ 0 → ⊥) → eqb (stmt_of links h) j ≡ first_is links h j
unfolding first_is
link_first links h j f = rw (ne_eqb h 0 f) refl

-- ---- how many

pub many_same : (f g : ℕ → Bool) (i n : ℕ) → ((k : ℕ) → k < i + n → f k ≡ g k) → how_many f i n ≡ how_many g i n
unfolding how_many
many_same f g i zero h = refl
many_same f g i (suc n) h = rw (h i (omega arith), many_same f g (suc i) n (λ k l. h k (omega arith))) refl

many_none : (f : ℕ → Bool) (i n : ℕ) → ((k : ℕ) → f k ≡ false) → how_many f i n ≡ 0
unfolding how_many
many_none f i zero h = refl
many_none f i (suc n) h = rw (h i, many_none f (suc i) n h) refl

many_more :
    (f g : ℕ → Bool) (i n x : ℕ) → i ≤ x → x < i + n → f x ≡ false → g x ≡ true → ((k : ℕ) → (k ≡ x → ⊥) → f k ≡ g k) → how_many g i n ≡ how_many f i n + 1
unfolding how_many
many_more f g i zero x a b off on same = absurd (omega arith)
many_more f g i (suc n) x a b off on same = go (eqb i x) refl (λ q. many_more f g (suc i) n x (omega (arith, q)) (omega arith) off on same)
  where
    after : (c : ℕ) → x < c → (m : ℕ) → how_many f c m ≡ how_many g c m
    after c h zero = refl
    after c h (suc m) = rw (same c (λ e. omega arith), after (suc c) (omega arith) m) refl

    go : (c : Bool) → eqb i x ≡ c → ((i ≡ x → ⊥) → how_many g (suc i) n ≡ how_many f (suc i) n + 1)
        → one_if (g i) + how_many g (suc i) n ≡ (one_if (f i) + how_many f (suc i) n) + 1
    go true e later =
        let q : i ≡ x = eqb-true i x e in
        let off_here : f i ≡ false = ap f q ∙ off in
        let on_here : g i ≡ true = ap g q ∙ on in
        rw (off_here, on_here) (omega (arith, after (suc i) (omega arith) n))
    go false e later =
        let q : i ≡ x → ⊥ = eqb-false i x e in
        rw (same i q) (omega (arith, later q))

-- ---- one word

pub other_word : (w i : ℕ) → (w % 192 ≡ 64 → ⊥) → eqb w (name_word i) ≡ false
other_word w i h = ne_eqb w (name_word i) (λ e. h (omega arith))

pub past_word : (w i : ℕ) → i < w / 192 → eqb w (name_word i) ≡ false
past_word w i h = ne_eqb w (name_word i) (λ e. omega arith)

module _ (w j n : ℕ) (heads links : List ℕ) (within : (i : ℕ) → i < length heads → get_or heads i 0 ≤ n) where
  same_links :
      ((b : ℕ → Bool) (lists : ℕ → List ℕ) (first : ℕ) → Links j b lists first n heads links → (i : ℕ) → i < length heads → (b i || eqb w (name_word i)) ≡ b i)
      → Named w j n heads links n heads links
  same_links same =
      record {
        kept = record { within = within; more = omega arith; fewer = omega arith; heads_long = refl; links_long = refl };
        links_are = λ b lists first s.
            record {
              fresh = s.fresh;
              chains = λ i h. subst (λ (x : Bool). Chain links (get_or heads i 0) (joined x j (lists i))) (sym (same b lists first s i h)) (s.chains i h);
              many = s.many ∙ ap (λ (x : ℕ). first + x) (many_same b (λ i. b i || eqb w (name_word i)) 0 (length heads) (λ k l. sym (same b lists first s k (omega arith))));
            };
      }

  -- no statement binds what it names
  pub unnamed : ((i : ℕ) → i < length heads → eqb w (name_word i) ≡ false) → Named w j n heads links n heads links
  unnamed none = same_links (λ b lists first s i h. ap (λ (x : Bool). b i || x) (none i h) ∙ or_false (b i))

  module _ (low : j < 2048) (room : n < length links) (x : ℕ) (here : x < length heads) (is : w ≡ name_word x) where
    this_one : eqb w (name_word x) ≡ true
    this_one = eq-eqb w (name_word x) is

    others : (i : ℕ) → (i ≡ x → ⊥) → eqb w (name_word i) ≡ false
    others i f = ne_eqb w (name_word i) (λ e. f (omega arith))

    seen : (b : ℕ → Bool) (lists : ℕ → List ℕ) (first : ℕ) → Links j b lists first n heads links → first_is links (get_or heads x 0) j ≡ b x
    seen b lists first s = chain_first links (get_or heads x 0) j (b x) (lists x) (s.fresh x here) (s.chains x here)

    or_true : (b : Bool) → (b || true) ≡ true
    or_true true = refl
    or_true false = refl

    -- there is a link already
    again : first_is links (get_or heads x 0) j ≡ true → Named w j n heads links n heads links
    again e = same_links same
      where
        same : (b : ℕ → Bool) (lists : ℕ → List ℕ) (first : ℕ) → Links j b lists first n heads links → (i : ℕ) → i < length heads → (b i || eqb w (name_word i)) ≡ b i
        same b lists first s i h = go (eqb i x) refl
          where
            go : (c : Bool) → eqb i x ≡ c → (b i || eqb w (name_word i)) ≡ b i
            go true q =
                let z : i ≡ x = eqb-true i x q in
                let set_there : b i ≡ true = ap b z ∙ (sym (seen b lists first s) ∙ e) in
                rw set_there refl
            go false q = ap (λ (y : Bool). b i || y) (others i (eqb-false i x q)) ∙ or_false (b i)

    abbrev new_heads : List ℕ
    new_heads = set heads x (n + 1)

    abbrev new_links : List ℕ
    new_links = set links n (j + 2048 * get_or heads x 0)

    -- a new link
    one_more : first_is links (get_or heads x 0) j ≡ false → Named w j n heads links (n + 1) new_heads new_links
    one_more e =
        record {
          kept = record { within = inside; more = omega arith; fewer = omega arith; heads_long = length-set heads x (n + 1); links_long = length-set links n (j + 2048 * get_or heads x 0) };
          links_are = λ b lists first s.
              record {
                fresh = λ i h. s.fresh i (omega (arith, length-set heads x (n + 1)));
                chains = λ i h. chained b lists first s i (omega (arith, length-set heads x (n + 1))) (eqb i x) refl;
                many =
                    rw (length-set heads x (n + 1))
                    (omega (
                      arith,
                      s.many,
                      many_more b (λ i. b i || eqb w (name_word i)) 0 (length heads) x (omega arith) (omega arith) (sym (seen b lists first s) ∙ e) (ap (λ (y : Bool). b x || y) this_one ∙ or_true (b x))
                          (λ k f. sym (ap (λ (y : Bool). b k || y) (others k f) ∙ or_false (b k))),
                    ));
              };
        }
      where
        at_x : get_or new_heads x 0 ≡ n + 1
        at_x = get_or-set_same heads x (n + 1) 0 here

        elsewhere : (i : ℕ) → (i ≡ x → ⊥) → get_or new_heads i 0 ≡ get_or heads i 0
        elsewhere i f = get_or-set_other heads x i (n + 1) 0 f

        inside : (i : ℕ) → i < length new_heads → get_or new_heads i 0 ≤ n + 1
        inside i h = go (eqb i x) refl
          where
            go : (c : Bool) → eqb i x ≡ c → get_or new_heads i 0 ≤ n + 1
            go true q = rw (eqb-true i x q, at_x) (omega arith)
            go false q = rw (elsewhere i (eqb-false i x q)) (omega (arith, within i (omega (arith, length-set heads x (n + 1)))))

        chained :
            (b : ℕ → Bool) (lists : ℕ → List ℕ) (first : ℕ) → Links j b lists first n heads links → (i : ℕ) → i < length heads → (c : Bool) → eqb i x ≡ c
            → Chain new_links (get_or new_heads i 0) (joined (b i || eqb w (name_word i)) j (lists i))
        chained b lists first s i h true q =
            let z : i ≡ x = eqb-true i x q in
            let old : Chain links (get_or heads x 0) (lists x) =
            subst (λ (y : Bool). Chain links (get_or heads x 0) (joined y j (lists x))) (sym (seen b lists first s) ∙ e) (s.chains x here) in
            rw (z, at_x, this_one, or_true (b x)) (chain_added links n (get_or heads x 0) j (lists x) room low (within x here) old)
        chained b lists first s i h false q =
            let f = eqb-false i x q in
            rw (elsewhere i f, others i f, or_false (b i)) (chain_kept links n (j + 2048 * get_or heads x 0) (joined (b i) j (lists i)) (get_or heads i 0) (within i h) (s.chains i h))

    pub named :
        (m : ℕ) (heads_then links_then : List ℕ) → Added (first_is links (get_or heads x 0) j) x j n heads links m heads_then links_then
        → Named w j n heads links m heads_then links_then
    named m heads_then links_then a = go (first_is links (get_or heads x 0) j) refl a
      where
        go : (c : Bool) → first_is links (get_or heads x 0) j ≡ c → Added c x j n heads links m heads_then links_then → Named w j n heads links m heads_then links_then
        go true e a =
            subst (λ (k : ℕ). Named w j n heads links k heads_then links_then) (sym a.0)
            (subst (λ (l : List ℕ). Named w j n heads links n l links_then) (sym a.1.0) (subst (λ (l : List ℕ). Named w j n heads links n heads l) (sym a.1.1) (again e)))
        go false e a =
            subst (λ (k : ℕ). Named w j n heads links k heads_then links_then) (sym a.0)
            (subst (λ (l : List ℕ). Named w j n heads links (n + 1) l links_then) (sym a.1.0)
            (subst (λ (l : List ℕ). Named w j n heads links (n + 1) new_heads l) (sym a.1.1) (one_more e)))

-- ---- one word after another

links_same :
    (j : ℕ) (b c : ℕ → Bool) (lists : ℕ → List ℕ) (first n : ℕ) (heads links : List ℕ) → ((i : ℕ) → b i ≡ c i) → Links j b lists first n heads links → Links j c lists first n heads links
links_same j b c lists first n heads links same s =
    record {
      fresh = s.fresh;
      chains = λ i h. subst (λ (x : Bool). Chain links (get_or heads i 0) (joined x j (lists i))) (same i) (s.chains i h);
      many = s.many ∙ ap (λ (x : ℕ). first + x) (many_same b c 0 (length heads) (λ k l. same k));
    }

holds_more : (ws : List ℕ) (k i : ℕ) → k < length ws → (holds_name (take k ws) i || eqb (get_or ws k 0) (name_word i)) ≡ holds_name (take (k + 1) ws) i
holds_more ws k i h =
    let z : suc k ≡ k + 1 = omega arith in
    let w = get_or ws k 0 in
    sym
    (ap (λ (m : ℕ). holds_name (take m ws) i) (sym z)
    ∙ (ap (λ (l : List ℕ). holds_name l i) (take-suc ws k 0 h)
    ∙ (holds_append (take k ws) (w ∷ []) i
    ∙ ap (λ (x : Bool). holds_name (take k ws) i || x) (holds_cons w [] i ∙ (ap (λ (x : Bool). eqb w (name_word i) || x) (holds_none i) ∙ or_false (eqb w (name_word i)))))))

module _ (ws : List ℕ) (j n : ℕ) (old_heads old_links : List ℕ) where
  pub record Reading (k m : ℕ) (heads links : List ℕ) : Type 0 where
    pub most : k ≤ length ws
    pub kept : Kept n m k old_heads old_links heads links
    pub links_are :
        (lists : ℕ → List ℕ) → ((i : ℕ) → i < length old_heads → Fresh j (lists i)) → ((i : ℕ) → i < length old_heads → Chain old_links (get_or old_heads i 0) (lists i))
        → Links j (holds_name (take k ws)) lists n m heads links

  pub reading_begins : ((i : ℕ) → i < length old_heads → get_or old_heads i 0 ≤ n) → Reading 0 n old_heads old_links
  reading_begins within =
      record {
        most = omega arith;
        kept = record { within = within; more = omega arith; fewer = omega arith; heads_long = refl; links_long = refl };
        links_are = λ lists fresh chains.
            record {
              fresh = fresh;
              chains = λ i h. subst (λ (x : Bool). Chain old_links (get_or old_heads i 0) (joined x j (lists i))) (sym (holds_none i)) (chains i h);
              many = omega (arith, many_none (holds_name []) 0 (length old_heads) holds_none);
            };
      }

  module _ {k m : ℕ} {heads links : List ℕ} (r : Reading k m heads links) where
    pub reading_turns :
        k < length ws → (more : ℕ) (new_heads new_links : List ℕ) → Named (get_or ws k 0) j m heads links more new_heads new_links → Reading (k + 1) more new_heads new_links
    reading_turns h more new_heads new_links e =
        let a = r.kept in
        let b = e.kept in
        record {
          most = omega arith;
          kept =
              record {
                within = b.within;
                more = omega (arith, a.more, b.more);
                fewer = omega (arith, a.fewer, b.fewer);
                heads_long = b.heads_long ∙ a.heads_long;
                links_long = b.links_long ∙ a.links_long;
              };
          links_are = λ lists fresh chains.
              links_same j (λ i. holds_name (take k ws) i || eqb (get_or ws k 0) (name_word i)) (holds_name (take (k + 1) ws)) lists n more new_heads new_links (λ i. holds_more ws k i h)
              (e.links_are (holds_name (take k ws)) lists n (r.links_are lists fresh chains));
        }

    pub reading_ends : length ws ≤ k → Names ws j n old_heads old_links m heads links
    reading_ends h =
        let z : k ≡ length ws = omega (arith, r.most) in
        let a = r.kept in
        record {
          kept = record { within = a.within; more = a.more; fewer = omega (arith, a.fewer, z); heads_long = a.heads_long; links_long = a.links_long };
          links_are = λ lists fresh chains.
              links_same j (holds_name (take k ws)) (holds_name ws) lists n m heads links (λ i. ap (λ (l : List ℕ). holds_name l i) (take_all k ws h)) (r.links_are lists fresh chains);
        }

-- ---- one statement

needing_fresh : (needs : List ℕ) (i j a n : ℕ) → j < a → Fresh j (needing needs i a n)
unfolding needing
needing_fresh needs i j a zero h = tt
needing_fresh needs i j a (suc n) h = go (yes needs a i) (needing_fresh needs i j (suc a) n (omega arith))
  where
    go : (b : Bool) → Fresh j (needing needs i (suc a) n) → Fresh j (joined b a (needing needs i (suc a) n))
    go true later = λ e. omega arith
    go false later = later

pub needing_next : (needs : List ℕ) (i j count : ℕ) → j < count → needing needs i j (count - j) ≡ joined (yes needs j i) j (needing needs i (j + 1) (count - (j + 1)))
unfolding needing
needing_next needs i j count h =
    let e : count - j ≡ suc (count - (j + 1)) = omega arith in
    let f : suc j ≡ j + 1 = omega arith in
    rw e (ap (λ (k : ℕ). joined (yes needs j i) j (needing needs i k (count - (j + 1)))) f)

pub columns_many : (needs : List ℕ) (j : ℕ) (f : ℕ → Bool) (i n : ℕ) → ((k : ℕ) → k < i + n → yes needs j k ≡ f k) → length (columns needs j i n) ≡ how_many f i n
unfolding how_many columns
columns_many needs j f i zero h = refl
columns_many needs j f i (suc n) h =
    ap length (columns_step needs j i n) ∙ (go (yes needs j i) ∙ rw (h i (omega arith), columns_many needs j f (suc i) n (λ k l. h k (omega arith))) refl)
  where
    go : (b : Bool) → length (joined b i (columns needs j (suc i) n)) ≡ one_if b + length (columns needs j (suc i) n)
    go true = omega arith
    go false = omega arith

module _ (ws : List ℕ) (j n : ℕ) (heads links waiting : List ℕ) (lent : Lent (length heads) n heads links waiting) (here : j < length heads) (room : n + length ws ≤ length links)
    (m : ℕ) (new_heads new_links : List ℕ) (made : Names ws j n heads links m new_heads new_links) where
  abbrev count : ℕ
  count = length heads

  pub stmt_more : n ≤ m
  stmt_more = made.kept.more

  pub stmt_room : m ≤ length links
  stmt_room = omega (arith, made.kept.fewer)

  pub stmt_linked : StmtLinked ws (length heads) j heads links waiting m new_heads new_links (set waiting j (m - n))
  stmt_linked =
      let k = made.kept in
      record {
        lent =
            record {
              many = k.heads_long;
              few = lent.few;
              within = λ i h. k.within i (omega (arith, k.heads_long));
              room = omega (arith, stmt_room, k.links_long);
              small = omega (arith, k.links_long, lent.small);
              wide = omega (arith, length-set waiting j (m - n), lent.wide);
            };
        linked = linked_so;
      }
    where
      linked_so : (needs : List ℕ) → Says needs count j ws → Linking needs count (j + 1) heads links waiting → Linking needs count j new_heads new_links (set waiting j (m - n))
      linked_so needs says s =
          let lists : ℕ → List ℕ = λ i. needing needs i (j + 1) (count - (j + 1)) in
          let t : Links j (holds_name ws) lists n m new_heads new_links =
          made.links_are lists (λ i h. needing_fresh needs i j (j + 1) (count - (j + 1)) (omega arith)) s.chains in
          let waits_here : get_or (set waiting j (m - n)) j 0 ≡ length (columns needs j 0 count) =
          get_or-set_same waiting j (m - n) 0 (omega (arith, lent.wide))
          ∙ (omega (arith, t.many, ap (λ (c : ℕ). how_many (holds_name ws) 0 c) made.kept.heads_long) ∙ sym (columns_many needs j (holds_name ws) 0 count (λ k h. says k (omega arith)))) in
          record {
            chains = λ i h.
                rw (needing_next needs i j count here, says i h) (t.chains i (omega (arith, made.kept.heads_long)));
            waits = λ k a h. go k a h waits_here (eqb k j) refl;
          }
        where
          go : (k : ℕ) → j ≤ k → k < count → get_or (set waiting j (m - n)) j 0 ≡ length (columns needs j 0 count) → (c : Bool) → eqb k j ≡ c
              → get_or (set waiting j (m - n)) k 0 ≡ length (columns needs k 0 count)
          go k a h w true q = rw (eqb-true k j q) w
          go k a h w false q = let f = eqb-false k j q in get_or-set_other waiting j k (m - n) 0 f ∙ s.waits k (omega (arith, f)) h

-- before the first statement and after the last
pub linking_begins : (needs : List ℕ) (count : ℕ) (heads links waiting : List ℕ) → ((i : ℕ) → i < count → get_or heads i 0 ≡ 0) → Linking needs count count heads links waiting
unfolding needing Chain
linking_begins needs count heads links waiting none =
    record {
      chains = λ i h.
          subst (λ (n : ℕ). Chain links (get_or heads i 0) (needing needs i count n)) (let z : 0 ≡ count - count = omega arith in z) (none i h);
      waits = λ k a h. absurd (omega arith);
    }
