-- Filling a list, and a list of rows, from the front, one store a turn. `part n f g k` is f below k and g from k on;
-- `filled n m f g v u` has the rows below v and the cells of row v below u from f, the others from g.
-- Assumes nothing.
use mathlib.Core.Bool.{Bool, true, false}
use mathlib.Core.List.{List, [], ◌∷◌}
use mathlib.Core.Logic.{⊎_elim, ◌⊎◌, inl, inr}
use mathlib.Core.Path.{◌≡◌, refl, ap, sym, ◌∙◌, subst}
use Prim.Native.Nat.{ℕ, zero, suc, ◌+◌, ◌<◌, ◌≤◌}
use native.Mathlib.Nat.{not-suc-le-zero, le_of_suc-le-suc, eq-or-lt_of_le}
use native.Mathlib.Omega.{arith}
use lib.Dec.{ltb}
use lib.IntN.{ℤ, pos}
use lib.ListN.{length, get_or, set, replicate, length-set}
use lib.Seq.{ext_get_or, get_or-set_same, get_or-set_other, set-set, set-get_or}
use borrow.Author.Tests.{lt-ltb, le-ltb, ltb-true, ltb-false}
use Rattle.numbers.specs.Grid.{build, grid, block, cell}

split : (i k : ℕ) (b : Bool) → ltb i k ≡ b → (i < k) ⊎ (k ≤ i)
split i k true e = inl (ltb-true i k e)
split i k false e = inr (ltb-false i k e)

pub lt-or-le : (i k : ℕ) → (i < k) ⊎ (k ≤ i)
lt-or-le i k = split i k (ltb i k) refl

module _ {A : Type 0} where
  pub length-build : (n : ℕ) (f : ℕ → A) → length (build n f) ≡ n
  unfolding build
  length-build zero f = refl
  length-build (suc n) f = ap suc (length-build n (λ (k : ℕ). f (suc k)))

  pub get_or-build : (n : ℕ) (f : ℕ → A) (i : ℕ) (d : A) → i < n → get_or (build n f) i d ≡ f i
  unfolding build
  get_or-build zero f i d h = absurd (not-suc-le-zero h)
  get_or-build (suc n) f zero d h = refl
  get_or-build (suc n) f (suc i) d h = get_or-build n (λ (k : ℕ). f (suc k)) i d (le_of_suc-le-suc h)

  -- a list is the built one if it has the length and the elements
  pub is-build : (d : A) (l : List A) (n : ℕ) (f : ℕ → A) → length l ≡ n → ((i : ℕ) → i < n → get_or l i d ≡ f i) → l ≡ build n f
  is-build d l n f e h =
      ext_get_or d l (build n f) (e ∙ sym (length-build n f))
      (λ (i : ℕ) (p : i < length l). let q : i < n = subst (λ (m : ℕ). i < m) e p in h i q ∙ sym (get_or-build n f i d q))

  pub build-eq : (n : ℕ) (f g : ℕ → A) → ((i : ℕ) → i < n → f i ≡ g i) → build n f ≡ build n g
  unfolding build
  build-eq zero f g h = refl
  build-eq (suc n) f g h =
      let e : f 0 ≡ g 0 = h 0 (omega arith) in
      let r : build n (λ (k : ℕ). f (suc k)) ≡ build n (λ (k : ℕ). g (suc k)) = build-eq n (λ (k : ℕ). f (suc k)) (λ (k : ℕ). g (suc k)) (λ (i : ℕ) (p : i < n). h (suc i) (omega arith)) in
      cc

  pub build-replicate : (n : ℕ) (a : A) → build n (λ (_ : ℕ). a) ≡ replicate n a
  unfolding build
  build-replicate zero a = refl
  build-replicate (suc n) a = ap (λ (l : List A). a ∷ l) (build-replicate n a)

  pub pick : Bool → A → A → A
  pick true a b = a
  pick false a b = b

  pub part : ℕ → (ℕ → A) → (ℕ → A) → ℕ → List A
  part n f g k = build n (λ (i : ℕ). pick (ltb i k) (f i) (g i))

  pub length_part : (n : ℕ) (f g : ℕ → A) (k : ℕ) → length (part n f g k) ≡ n
  unfolding part
  length_part n f g k = length-build n (λ (i : ℕ). pick (ltb i k) (f i) (g i))

  pub part-below : (n : ℕ) (f g : ℕ → A) (k i : ℕ) (d : A) → i < n → i < k → get_or (part n f g k) i d ≡ f i
  unfolding part pick
  part-below n f g k i d h p = get_or-build n (λ (j : ℕ). pick (ltb j k) (f j) (g j)) i d h ∙ rw (lt-ltb i k p)

  pub part-above : (n : ℕ) (f g : ℕ → A) (k i : ℕ) (d : A) → i < n → k ≤ i → get_or (part n f g k) i d ≡ g i
  unfolding part pick
  part-above n f g k i d h p = get_or-build n (λ (j : ℕ). pick (ltb j k) (f j) (g j)) i d h ∙ rw (le-ltb i k p)

  pub part_none : (n : ℕ) (f g : ℕ → A) → part n f g 0 ≡ build n g
  unfolding part pick
  part_none n f g = build-eq n (λ (j : ℕ). pick (ltb j 0) (f j) (g j)) g (λ (i : ℕ) (p : i < n). rw (le-ltb i 0 (omega arith)))

  pub part_all : (n : ℕ) (f g : ℕ → A) → part n f g n ≡ build n f
  unfolding part pick
  part_all n f g = build-eq n (λ (j : ℕ). pick (ltb j n) (f j) (g j)) f (λ (i : ℕ) (p : i < n). rw (lt-ltb i n p))

  -- one store: at k goes f k
  pub part-more : (d : A) (n : ℕ) (f g : ℕ → A) (k : ℕ) (x : A) → k < n → x ≡ f k → set (part n f g k) k x ≡ part n f g (k + 1)
  part-more d n f g k x h e =
      ext_get_or d (set (part n f g k) k x) (part n f g (k + 1)) (length-set (part n f g k) k x ∙ length_part n f g k ∙ sym (length_part n f g (k + 1)))
      (λ (i : ℕ) (p : i < length (set (part n f g k) k x)).
      let q : i < n = omega (arith, length-set (part n f g k) k x, length_part n f g k) in
      let l : length (part n f g k) ≡ n = length_part n f g k in
      ⊎_elim
      (λ (a : i < k). get_or-set_other (part n f g k) k i x d (λ (z : i ≡ k). omega arith) ∙ part-below n f g k i d q a ∙ sym (part-below n f g (k + 1) i d q (omega arith)))
      (λ (b : k ≤ i).
      ⊎_elim
      (λ (z : k ≡ i). rw (← z) (get_or-set_same (part n f g k) k x d (omega arith) ∙ e ∙ sym (part-below n f g (k + 1) k d h (omega arith))))
      (λ (a : k < i). get_or-set_other (part n f g k) k i x d (λ (z : i ≡ k). omega arith) ∙ part-above n f g k i d q b ∙ sym (part-above n f g (k + 1) i d q (omega arith)))
      (eq-or-lt_of_le b))
      (lt-or-le i k))

-- the rows below v are done
pub rows : {A : Type 0} → ℕ → ℕ → (ℕ → ℕ → A) → (ℕ → ℕ → A) → ℕ → List (List A)
rows n m f g v = part n (λ (i : ℕ). build m (f i)) (λ (i : ℕ). build m (g i)) v

-- the rows below v are done, and in row v the cells below u
pub filled : {A : Type 0} → ℕ → ℕ → (ℕ → ℕ → A) → (ℕ → ℕ → A) → ℕ → ℕ → List (List A)
filled n m f g v u = set (rows n m f g v) v (part m (f v) (g v) u)

module _ {A : Type 0} (n m : ℕ) (f g : ℕ → ℕ → A) where
  pub rows_none : (b : List (List A)) → b ≡ grid n m g → b ≡ rows n m f g 0
  unfolding rows
  rows_none b e = e ∙ sym (part_none n (λ (i : ℕ). build m (f i)) (λ (i : ℕ). build m (g i)))

  pub rows_all : (b : List (List A)) (v : ℕ) → n ≤ v → v ≤ n → b ≡ rows n m f g v → b ≡ grid n m f
  unfolding rows
  rows_all b v p q e =
      let z : v ≡ n = omega arith in
      e ∙ rw z (part_all n (λ (i : ℕ). build m (f i)) (λ (i : ℕ). build m (g i)))

  pub row-begins : (b : List (List A)) (v : ℕ) → v < n → b ≡ rows n m f g v → b ≡ filled n m f g v 0
  unfolding rows filled
  row-begins b v h e =
      let r : List (List A) = part n (λ (i : ℕ). build m (f i)) (λ (i : ℕ). build m (g i)) v in
      let p : get_or r v [] ≡ part m (f v) (g v) 0 =
      part-above n (λ (i : ℕ). build m (f i)) (λ (i : ℕ). build m (g i)) v v [] h (omega arith) ∙ sym (part_none m (f v) (g v)) in
      e ∙ sym (set-get_or r v []) ∙ ap (λ (l : List A). set r v l) p

  pub row_ends : (b : List (List A)) (v u : ℕ) → v < n → m ≤ u → u ≤ m → b ≡ filled n m f g v u → b ≡ rows n m f g (v + 1)
  unfolding rows filled
  row_ends b v u h p q e =
      let z : u ≡ m = omega arith in
      e ∙ part-more [] n (λ (i : ℕ). build m (f i)) (λ (i : ℕ). build m (g i)) v (part m (f v) (g v) u) h (rw z (part_all m (f v) (g v)))

  pub filled_length : (b : List (List A)) (v u : ℕ) → b ≡ filled n m f g v u → length b ≡ n
  unfolding rows filled
  filled_length b v u e = ap length e ∙ simp length-set (length_part n (λ (i : ℕ). build m (f i)) (λ (i : ℕ). build m (g i)) v)

  -- the row that is being filled
  pub filled_row : (b : List (List A)) (v u : ℕ) (d : List A) → v < n → b ≡ filled n m f g v u → get_or b v d ≡ part m (f v) (g v) u
  unfolding rows filled
  filled_row b v u d h e =
      let r : List (List A) = part n (λ (i : ℕ). build m (f i)) (λ (i : ℕ). build m (g i)) v in
      let l : length r ≡ n = length_part n (λ (i : ℕ). build m (f i)) (λ (i : ℕ). build m (g i)) v in
      ap (λ (l : List (List A)). get_or l v d) e ∙ get_or-set_same r v (part m (f v) (g v) u) d (omega arith)

  pub filled_row_length : (b : List (List A)) (v u : ℕ) (d : List A) → v < n → b ≡ filled n m f g v u → length (get_or b v d) ≡ m
  filled_row_length b v u d h e = ap length (filled_row b v u d h e) ∙ length_part m (f v) (g v) u

  -- one store
  pub fill_more : (a : A) (b : List (List A)) (v u : ℕ) (d : List A) (x : A) → v < n → u < m → b ≡ filled n m f g v u → x ≡ f v u → set b v (set (get_or b v d) u x) ≡ filled n m f g v (u + 1)
  unfolding rows filled
  fill_more a b v u d x h k e w =
      let r : List (List A) = part n (λ (i : ℕ). build m (f i)) (λ (i : ℕ). build m (g i)) v in
      let p : set (get_or b v d) u x ≡ part m (f v) (g v) (u + 1) = ap (λ (l : List A). set l u x) (filled_row b v u d h e) ∙ part-more a m (f v) (g v) u x k w in
      ap (λ (l : List A). set b v l) p ∙ ap (λ (l : List (List A)). set l v (part m (f v) (g v) (u + 1))) e ∙ set-set r v (part m (f v) (g v) u) (part m (f v) (g v) (u + 1))

module _ {A : Type 0} where
  -- what f and g agree on need not be stored
  pub part_skip : (n : ℕ) (f g : ℕ → A) (k k' : ℕ) → k ≤ k' → ((i : ℕ) → i < n → k ≤ i → i < k' → f i ≡ g i) → part n f g k ≡ part n f g k'
  unfolding part pick
  part_skip n f g k k' h e =
      build-eq n (λ (j : ℕ). pick (ltb j k) (f j) (g j)) (λ (j : ℕ). pick (ltb j k') (f j) (g j))
      (λ (i : ℕ) (p : i < n).
      ⊎_elim
      (λ (a : i < k). rw (lt-ltb i k a, lt-ltb i k' (omega arith)))
      (λ (b : k ≤ i).
      ⊎_elim
      (λ (a : i < k'). rw (le-ltb i k b, lt-ltb i k' a) (sym (e i p b a)))
      (λ (a : k' ≤ i). rw (le-ltb i k b, le-ltb i k' a))
      (lt-or-le i k'))
      (lt-or-le i k))

  -- a list is built of its own elements
  pub build-list : (d : A) (l : List A) → l ≡ build (length l) (λ (i : ℕ). get_or l i d)
  build-list d l = is-build d l (length l) (λ (i : ℕ). get_or l i d) refl (λ (i : ℕ) (p : i < length l). refl)

-- the same in the form of a loop over one list: where it begins, one store, where it ends
module _ {A : Type 0} (n : ℕ) (f g : ℕ → A) where
  pub cells-none : (l : List A) → l ≡ build n g → l ≡ part n f g 0
  cells-none l e = e ∙ sym (part_none n f g)

  pub cells-more : (d : A) (l : List A) (k : ℕ) (x : A) → k < n → l ≡ part n f g k → x ≡ f k → set l k x ≡ part n f g (k + 1)
  cells-more d l k x h e w = ap (λ (t : List A). set t k x) e ∙ part-more d n f g k x h w

  pub cells_all : (l : List A) (k : ℕ) → n ≤ k → k ≤ n → l ≡ part n f g k → l ≡ build n f
  cells_all l k p q e = let z : k ≡ n = omega arith in e ∙ rw z (part_all n f g)

-- the cell of a block that was made by its cells, so that a stage can be said of the stage before it
pub cell-block : (f : ℕ → ℕ → ℤ) (v u : ℕ) → v < 8 → u < 8 → cell (block f) v u ≡ f v u
cell-block f v u p q =
    ap (λ (r : List ℤ). get_or r u (pos 0)) (get_or-build 8 (λ (i : ℕ). build 8 (f i)) v [] p) ∙ get_or-build 8 (f v) u (pos 0) q

pub block-eq : {A : Type 0} (f g : ℕ → ℕ → A) → ((v u : ℕ) → v < 8 → u < 8 → f v u ≡ g v u) → block f ≡ block g
block-eq f g h = build-eq 8 (λ (v : ℕ). build 8 (f v)) (λ (v : ℕ). build 8 (g v)) (λ (v : ℕ) (p : v < 8). build-eq 8 (f v) (g v) (λ (u : ℕ) (q : u < 8). h v u p q))
