-- A record whose numbers are in range, and that what blocks take of such records is. Assumes nothing.
use mathlib.Core.Bool.{true}
use mathlib.Core.List.{List}
use mathlib.Core.Logic.{⊎_elim}
use Rattle.std.specs.Prelude.{Option, None, Some}
use mathlib.Core.Path.{◌≡◌, refl, ap, sym, ◌∙◌, subst}
use Prim.Native.Nat.{ℕ, ◌+◌, ◌*◌, ◌-◌, ◌<◌, ◌≤◌}
use native.Mathlib.Nat.{eq-or-lt_of_le}
use native.Mathlib.Omega.{arith}
use lib.IntN.{ℤ, pos}
use lib.ListN.{length, get_or, replicate}
use lib.Seq.{get_or-set_other}
use Rattle.numbers.specs.Every.{every}
use Rattle.numbers.specs.Grid.{build, cell}
use Rattle.numbers.proofs.Every.{every_in}
use Rattle.numbers.proofs.Fill.{get_or-build, length-build, lt-or-le}
use Rattle.numbers.proofs.Tests.{both_true, true_both}
use Rattle.ranges.specs.Range.{quantiser_fine, level_fine, dc_fine}
use Rattle.ranges.proofs.RangeLaws.{quantiser_range}
use Rattle.prediction.specs.Refusal.{values_fine}
use Rattle.coefficients.specs.Level.{predictors_fine}
use Rattle.coefficients.proofs.RefusalLaws.{outside_fine}
use Rattle.places.specs.Places.{a_source, a_block, b_source, b_block, c_source, c_block}
use Rattle.places.specs.declared.place.Source.{Source}
use Rattle.places.specs.declared.place.Source.TheVariants.{Own, Left, AboveLeft, Above}
use Rattle.places.proofs.PlaceLaws.{a_below, b_below, c-below}
use Rattle.record.specs.Record.{quantiser_of, seven_from, known_of, missing_of, blank, kept_of, with_block}
use Rattle.record.specs.declared.record.Side.{Side}
use Rattle.record.proofs.RecordLaws.{blank-length, kept_row, kept-column, with_block_length, put_at, other_at, quantiser_at}
use Rattle.neighbours.specs.Neighbours.{Around, sided, side_of, joined, predictors, neighbours_fine}
use Rattle.neighbours.proofs.SideLaws.{each_of_six, all_of_six}

pub record Sound (r : List ℤ) : Type 0 where
  pub long : length r ≡ 91
  pub dcs : (b : ℕ) → b < 6 → dc_fine (get_or r (15 * b) (pos 0)) ≡ true
  pub levels : (b u : ℕ) → b < 6 → 1 ≤ u → u < 15 → level_fine (get_or r (15 * b + u) (pos 0)) ≡ true
  pub quantiser : quantiser_fine (quantiser_of (get_or r 90 (pos 0))) ≡ true

-- ---- a record before its first block

blank-zero : (q k : ℕ) → k < 90 → get_or (blank q) k (pos 0) ≡ pos 0
unfolding blank build
blank-zero q k h =
    get_or-set_other (replicate 91 (pos 0)) 90 k _ (pos 0) (λ (e : k ≡ 90). omega arith)
    ∙ get_or-build 91 (λ (j : ℕ). pos 0) k (pos 0) (omega arith)

pub blank-quantiser : (q : ℕ) → get_or (blank q) 90 (pos 0) ≡ pos q
unfolding blank
blank-quantiser q = refl

pub blank-sound : (q : ℕ) → quantiser_fine q ≡ true → Sound (blank q)
blank-sound q e =
    record {
      long = blank-length q;
      dcs = λ b h. ap dc_fine (blank-zero q (15 * b) (omega arith));
      levels = λ b u h l k. ap level_fine (blank-zero q (15 * b + u) (omega arith));
      quantiser = ap (λ (z : ℤ). quantiser_fine (quantiser_of z)) (blank-quantiser q) ∙ e;
    }

-- ---- a record with a block put in

module _ (own : List ℤ) (i : ℕ) (dc : ℤ) (qf : List (List ℤ)) where
  -- number u of block b is the new block's or the record's
  each_at : (P : ℤ → Type 0) → length own ≡ 91 → i < 6 → (b u : ℕ) → u < 15 → P (kept_of dc qf u) → P (get_or own (15 * b + u) (pos 0)) → P (get_or (with_block own i dc qf) (15 * b + u) (pos 0))
  each_at P l h b u p x y =
      ⊎_elim
      (λ (a : b < i). subst P (sym (other_at own i dc qf l h b u (λ (e : b ≡ i). omega arith) p)) y)
      (λ (a : i ≤ b).
      ⊎_elim
      (λ (e : i ≡ b). subst (λ (j : ℕ). P (get_or (with_block own i dc qf) (15 * j + u) (pos 0))) e (subst P (sym (put_at own i dc qf l h u p)) x))
      (λ (c : i < b). subst P (sym (other_at own i dc qf l h b u (λ (e : b ≡ i). omega arith) p)) y)
      (eq-or-lt_of_le a))
      (lt-or-le b i)

  kept-level : ((v u : ℕ) → v < 8 → u < 8 → level_fine (cell qf v u) ≡ true) → (u : ℕ) → 1 ≤ u → u < 15 → level_fine (kept_of dc qf u) ≡ true
  kept-level f u l h =
      ⊎_elim
      (λ (a : 7 < u). ap level_fine (kept-column dc qf u a) ∙ f (u - 7) 0 (omega arith) (omega arith))
      (λ (a : u ≤ 7). ap level_fine (kept_row dc qf u l a) ∙ f 0 u (omega arith) (omega arith))
      (lt-or-le 7 u)

  pub with_block_sound : Sound own → i < 6 → dc_fine dc ≡ true → ((v u : ℕ) → v < 8 → u < 8 → level_fine (cell qf v u) ≡ true) → Sound (with_block own i dc qf)
  with_block_sound s h d f =
      record {
        long = with_block_length own i dc qf s.long;
        dcs = λ b k.
            let z : 15 * b ≡ 15 * b + 0 = omega arith in
            ap (λ (j : ℕ). dc_fine (get_or (with_block own i dc qf) j (pos 0))) z
            ∙ each_at (λ (x : ℤ). dc_fine x ≡ true) s.long h b 0 (omega arith) d (ap (λ (j : ℕ). dc_fine (get_or own j (pos 0))) (sym z) ∙ s.dcs b k);
        levels = λ b u k l m. each_at (λ (x : ℤ). level_fine x ≡ true) s.long h b u m (kept-level f u l m) (s.levels b u k l m);
        quantiser = ap (λ (z : ℤ). quantiser_fine (quantiser_of z)) (quantiser_at own i dc qf s.long h) ∙ s.quantiser;
      }

-- ---- one side in range: the whole of it, and what is taken of it as A, B and C

pub record SideFine (s : Side) : Type 0 where
  pub dc-fine : dc_fine s.dc ≡ true
  pub qp_fine : quantiser_fine s.qp ≡ true
  pub row_fine : values_fine s.has s.row ≡ true
  pub column-fine : values_fine s.has s.column ≡ true

pub record FineA (s : Side) : Type 0 where
  pub dc-fine : dc_fine s.dc ≡ true
  pub qp_fine : quantiser_fine s.qp ≡ true
  pub column-fine : values_fine s.has s.column ≡ true

pub record FineB (s : Side) : Type 0 where
  pub dc-fine : dc_fine s.dc ≡ true

pub record FineC (s : Side) : Type 0 where
  pub dc-fine : dc_fine s.dc ≡ true
  pub qp_fine : quantiser_fine s.qp ≡ true
  pub row_fine : values_fine s.has s.row ≡ true

pub as_a : {s : Side} → SideFine s → FineA s
as_a f = record { dc-fine = f.dc-fine; qp_fine = f.qp_fine; column-fine = f.column-fine }

pub as_b : {s : Side} → SideFine s → FineB s
as_b f = record { dc-fine = f.dc-fine }

pub as_c : {s : Side} → SideFine s → FineC s
as_c f = record { dc-fine = f.dc-fine; qp_fine = f.qp_fine; row_fine = f.row_fine }

seven-fine : (r : List ℤ) (at : ℕ) → ((k : ℕ) → k < 7 → level_fine (get_or r (at + k) (pos 0)) ≡ true) → every level_fine (seven_from r at) ≡ true
seven-fine r at f =
    let n = length-build 7 (λ (k : ℕ). get_or r (at + k) (pos 0)) in
    every_in level_fine (pos 0) (seven_from r at)
    (λ (k : ℕ) (h : k < length (seven_from r at)).
    let l : k < 7 = omega arith in
    ap level_fine (get_or-build 7 (λ (k : ℕ). get_or r (at + k) (pos 0)) k (pos 0) l) ∙ f k l)

pub known_fine : (r : List ℤ) → Sound r → (b : ℕ) → b < 6 → SideFine (known_of r b)
known_fine r s b h =
    let part : (m : ℕ) → 1 ≤ m → m + 7 ≤ 15 → every level_fine (seven_from r (15 * b + m)) ≡ true =
    λ m l n. seven-fine r (15 * b + m)
    (λ (k : ℕ) (p : k < 7).
    let z : 15 * b + m + k ≡ 15 * b + (m + k) = omega arith in
    ap (λ (j : ℕ). level_fine (get_or r j (pos 0))) z ∙ s.levels b (m + k) h (omega arith) (omega arith)) in
    record { dc-fine = s.dcs b h; qp_fine = s.quantiser; row_fine = part 1 (omega arith) (omega arith); column-fine = part 8 (omega arith) (omega arith) }

pub missing_fine : (depth q : ℕ) → quantiser_fine q ≡ true → SideFine (missing_of depth q)
missing_fine depth q e =
    let l = quantiser_range q e in
    record { dc-fine = (both_true _ _ (outside_fine depth q l.0 l.1)).0; qp_fine = e; row_fine = refl; column-fine = refl }

-- ---- the three together

pub record ThreeFine (a b c : Side) : Type 0 where
  pub a_fine : FineA a
  pub b_fine : FineB b
  pub c-fine : FineC c

split : (a b c : Side) → predictors_fine (joined a b c) ≡ true → ThreeFine a b c
split a b c e =
    let e₁ = both_true (dc_fine a.dc) _ e in
    let e₂ = both_true (dc_fine b.dc) _ e₁.1 in
    let e₃ = both_true (dc_fine c.dc) _ e₂.1 in
    let e₄ = both_true (quantiser_fine a.qp) _ e₃.1 in
    let e₅ = both_true (quantiser_fine c.qp) _ e₄.1 in
    let e₆ = both_true (values_fine a.has a.column) _ e₅.1 in
    record {
      a_fine = record { dc-fine = e₁.0; qp_fine = e₄.0; column-fine = e₆.0 };
      b_fine = record { dc-fine = e₂.0 };
      c-fine = record { dc-fine = e₃.0; qp_fine = e₅.0; row_fine = e₆.1 };
    }

pub join : {a b c : Side} → FineA a → FineB b → FineC c → predictors_fine (joined a b c) ≡ true
join f g h =
    true_both f.dc-fine (true_both g.dc-fine (true_both h.dc-fine (true_both f.qp_fine (true_both h.qp_fine (true_both f.column-fine h.row_fine)))))

-- ---- what a block takes

-- what holds of a side with one record of the macroblock's own, and of that side of another, holds with the other
with_another : (P : Side → Type 0) (depth q : ℕ) (ar : Around) (new own : List ℤ) (s : Source) (b : ℕ) → P (side_of depth q ar new s b) → P (known_of own b) → P (side_of depth q ar own s b)
with_another P depth q ar new own Own b x y = y
with_another P depth q ar new own Left b x y = x
with_another P depth q ar new own AboveLeft b x y = x
with_another P depth q ar new own Above b x y = x

-- what is checked of the neighbours, of each block
pub each_fine : (depth q : ℕ) (ar : Around) (own : List ℤ) → neighbours_fine depth q ar own ≡ true → (i : ℕ) → i < 6 → ThreeFine (side_of depth q ar own (a_source i) (a_block i)) (side_of depth q ar own (b_source i) (b_block i)) (side_of depth q ar own (c_source i) (c_block i))
unfolding neighbours_fine predictors
each_fine depth q ar own e i h = split _ _ _ (each_of_six (λ (j : ℕ). predictors_fine (predictors depth q ar own j)) e i h)

-- what is checked of the neighbours with one sound record is so with another
pub taken_fine : (depth q : ℕ) (ar : Around) (new own : List ℤ) → neighbours_fine depth q ar new ≡ true → Sound own → (i : ℕ) → i < 6 → predictors_fine (predictors depth q ar own i) ≡ true
unfolding predictors
taken_fine depth q ar new own e s i h =
    let t = each_fine depth q ar new e i h in
    join
    (with_another FineA depth q ar new own (a_source i) (a_block i) t.a_fine (as_a (known_fine own s (a_block i) (a_below i))))
    (with_another FineB depth q ar new own (b_source i) (b_block i) t.b_fine (as_b (known_fine own s (b_block i) (b_below i))))
    (with_another FineC depth q ar new own (c_source i) (c_block i) t.c-fine (as_c (known_fine own s (c_block i) (c-below i))))

-- nor does it matter which quantiser, of those that are fine, a missing neighbour has
side_at_lem : (P : Side → Type 0) (depth q r : ℕ) (o : Option (List ℤ)) (b : ℕ) → P (missing_of depth r) → P (sided depth q o b) → P (sided depth r o b)
side_at_lem P depth q r None b x y = x
side_at_lem P depth q r (Some l) b x y = y

with_quantiser : (P : Side → Type 0) (depth q r : ℕ) (ar : Around) (old new : List ℤ) (s : Source) (b : ℕ) → P (missing_of depth r) → P (known_of new b) → P (side_of depth q ar old s b) → P (side_of depth r ar new s b)
with_quantiser P depth q r ar old new Own b x y z = y
with_quantiser P depth q r ar old new Left b x y z = side_at_lem P depth q r ar.left b x z
with_quantiser P depth q r ar old new AboveLeft b x y z = side_at_lem P depth q r ar.above_left b x z
with_quantiser P depth q r ar old new Above b x y z = side_at_lem P depth q r ar.above b x z

pub any_quantiser : (depth q r : ℕ) (ar : Around) → quantiser_fine r ≡ true → neighbours_fine depth q ar (blank q) ≡ true → neighbours_fine depth r ar (blank r) ≡ true
unfolding neighbours_fine predictors
any_quantiser depth q r ar f e =
    let m = missing_fine depth r f in
    let k : (b : ℕ) → b < 6 → SideFine (known_of (blank r) b) = known_fine (blank r) (blank-sound r f) in
    all_of_six (λ (i : ℕ). predictors_fine (predictors depth r ar (blank r) i))
    (λ (i : ℕ) (h : i < 6).
    let t = each_fine depth q ar (blank q) e i h in
    join
    (with_quantiser FineA depth q r ar (blank q) (blank r) (a_source i) (a_block i) (as_a m) (as_a (k (a_block i) (a_below i))) t.a_fine)
    (with_quantiser FineB depth q r ar (blank q) (blank r) (b_source i) (b_block i) (as_b m) (as_b (k (b_block i) (b_below i))) t.b_fine)
    (with_quantiser FineC depth q r ar (blank q) (blank r) (c_source i) (c_block i) (as_c m) (as_c (k (c_block i) (c-below i))) t.c-fine))

-- the records around, where they are not missing, are sound
pub record AroundSound (ar : Around) : Type 0 where
  pub left : (r : List ℤ) → ar.left ≡ Some r → Sound r
  pub above_left : (r : List ℤ) → ar.above_left ≡ Some r → Sound r
  pub above : (r : List ℤ) → ar.above ≡ Some r → Sound r

sided-fine : (depth q : ℕ) → quantiser_fine q ≡ true → (o : Option (List ℤ)) → ((r : List ℤ) → o ≡ Some r → Sound r) → (b : ℕ) → b < 6 → SideFine (sided depth q o b)
sided-fine depth q e None f b h = missing_fine depth q e
sided-fine depth q e (Some r) f b h = known_fine r (f r refl) b h

side_fine : (depth q : ℕ) → quantiser_fine q ≡ true → (ar : Around) → AroundSound ar → (own : List ℤ) → Sound own → (s : Source) (b : ℕ) → b < 6 → SideFine (side_of depth q ar own s b)
side_fine depth q e ar a own o Own b h = known_fine own o b h
side_fine depth q e ar a own o Left b h = sided-fine depth q e ar.left a.left b h
side_fine depth q e ar a own o AboveLeft b h = sided-fine depth q e ar.above_left a.above_left b h
side_fine depth q e ar a own o Above b h = sided-fine depth q e ar.above a.above b h

-- where they are, refusal 13 does not arise
pub around_fine : (depth q : ℕ) (ar : Around) (own : List ℤ) → quantiser_fine q ≡ true → AroundSound ar → Sound own → neighbours_fine depth q ar own ≡ true
unfolding neighbours_fine predictors
around_fine depth q ar own e a o =
    all_of_six (λ (i : ℕ). predictors_fine (predictors depth q ar own i))
    (λ (i : ℕ) (h : i < 6).
    join
    (as_a (side_fine depth q e ar a own o (a_source i) (a_block i) (a_below i)))
    (as_b (side_fine depth q e ar a own o (b_source i) (b_block i) (b_below i)))
    (as_c (side_fine depth q e ar a own o (c_source i) (c_block i) (c-below i))))
