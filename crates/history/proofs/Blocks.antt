-- The record of a macroblock gives what is remembered of it, block by block, and its six blocks have the same values. Assumes nothing.
use mathlib.Core.Bool.{Bool, true}
use mathlib.Core.List.{List, []}
use mathlib.Core.Logic.{⊎_elim}
use Rattle.std.specs.Prelude.{Option, None, Some}
use mathlib.Core.Path.{◌≡◌, ap, refl, subst, sym, ◌∙◌}
use Prim.Native.Nat.{ℕ, min, suc, zero, ◌+◌, ◌<◌, ◌≤◌}
use native.Mathlib.Nat.{not-suc-le-zero}
use native.Mathlib.Numerals.{add-one}
use native.Mathlib.Omega.{arith}
use lib.Dec.{ltb}
use lib.IntN.{ℤ, pos}
use lib.ListN.{get_or, length}
use borrow.Author.Tests.{ltb-true}
use Rattle.numbers.proofs.Fill.{build-eq, lt-or-le}
use Rattle.numbers.specs.Grid.{build, cell}
use Rattle.ranges.proofs.RangeLaws.{depth_range}
use Rattle.prediction.specs.declared.predictor.BlockPredictors.{BlockPredictors}
use Rattle.assembly.proofs.ContextLaws.{depth-fine}
use Rattle.codes.specs.Component.{component_at}
use Rattle.assembly.specs.Values.{context_fine, levels_of, values_of}
use Rattle.assembly.specs.declared.context.MacroblockTextureContext.{MacroblockTextureContext}
use Rattle.record.proofs.RecordLaws.{known_other, known_own}
use Rattle.places.proofs.PlaceLaws.{a_below, b_below, c-below}
use Rattle.neighbours.proofs.SideLaws.{each_of_six}
use Rattle.neighbours.proofs.SoundLaws.{AroundSound, Sound}
use Rattle.neighbours.specs.Neighbours.{Around, joined, predictors, side_of, sided}
use Rattle.places.specs.Places.{a_block, a_source, b_block, b_source, c_block, c_source}
use Rattle.record.specs.Record.{known_of, quantiser_of}
use Rattle.places.specs.declared.place.Source.{Source}
use Rattle.places.specs.declared.place.Source.TheVariants.{Above, AboveLeft, Left, Own}
use Rattle.record.specs.declared.record.Side.{Side}
use Rattle.picture.proofs.SerialLaws.{up-quantiser, up-sound}
use Rattle.picture.specs.Serial.{levels_at, record_of, record_up_to, values_at, values_in_turn}
use Rattle.history.proofs.Longer.{before, last, longer}
use Rattle.history.specs.Remembered.{Neighbourhood, Remembered, among, blocks_below, levels_of_block, remembered, side_at, side_in, side_missing, takes, values_of_all, values_of_block}

-- ---- a record and what is remembered

pub record Gives (r : List ℤ) (m : Remembered) : Type 0 where
  pub sound : Sound r
  pub sides : (b : ℕ) → b < 6 → known_of r b ≡ side_in m b

-- both missing, or neither
abbrev pub Match : Option (List ℤ) → Option Remembered → Type 0
Match None None = Unit {0}
Match None (Some m) = ⊥
Match (Some r) None = ⊥
Match (Some r) (Some m) = Gives r m

pub record Agrees (ar : Around) (n : Neighbourhood) : Type 0 where
  pub left : Match ar.left n.left
  pub above_left : Match ar.above_left n.above_left
  pub above : Match ar.above n.above

match_sound : (o : Option (List ℤ)) (n : Option Remembered) → Match o n → (r : List ℤ) → o ≡ Some r → Sound r
match_sound None n k r e = absurd (let z : ◌≡◌ {A = ℕ} 0 1 = cc in omega arith)
match_sound (Some t) None k r e = absurd k
match_sound (Some t) (Some m) k r e = let z : t ≡ r = cc in subst Sound z k.sound

pub agrees_sound : {ar : Around} {n : Neighbourhood} → Agrees ar n → AroundSound ar
agrees_sound {ar} {n} g =
    record {
      left = match_sound ar.left n.left g.left;
      above_left = match_sound ar.above_left n.above_left g.above_left;
      above = match_sound ar.above n.above g.above;
    }

-- ---- one side

match_side : (depth q : ℕ) → depth ≤ 12 → (o : Option (List ℤ)) (n : Option Remembered) → Match o n → (b : ℕ) → b < 6 → sided depth q o b ≡ side_at depth q n b
match_side depth q l None None k b h = let e : min depth 12 ≡ depth = omega arith in ap (λ (d : ℕ). side_missing d q) e
match_side depth q l None (Some m) k b h = absurd k
match_side depth q l (Some r) None k b h = absurd k
match_side depth q l (Some r) (Some m) k b h = k.sides b h

-- a block of the macroblock's own comes before the block that takes it
abbrev own_before : ℕ → Source → ℕ → Bool
own_before i Own b = ltb b i
own_before i Left b = true
own_before i AboveLeft b = true
own_before i Above b = true

module _ (depth q : ℕ) (l : depth ≤ 12) (ar : Around) (n : Neighbourhood) (g : Agrees ar n) (own : List ℤ) (m : Remembered) (i : ℕ) (f : (b : ℕ) → b < i → known_of own b ≡ side_in m b) where
  side_same : (s : Source) (b : ℕ) → b < 6 → own_before i s b ≡ true → side_of depth q ar own s b ≡ side_at depth q (among n m s) b
  side_same Own b h t = f b (ltb-true b i t)
  side_same Left b h t = match_side depth q l ar.left n.left g.left b h
  side_same AboveLeft b h t = match_side depth q l ar.above_left n.above_left g.above_left b h
  side_same Above b h t = match_side depth q l ar.above n.above g.above b h

  -- the three
  takes_same : i < 6 → predictors depth q ar own i ≡ takes depth q n m i
  unfolding predictors takes
  takes_same h =
      let e₁ = side_same (a_source i) (a_block i) (a_below i) (each_of_six (λ (j : ℕ). own_before j (a_source j) (a_block j)) refl i h) in
      let e₂ = side_same (b_source i) (b_block i) (b_below i) (each_of_six (λ (j : ℕ). own_before j (b_source j) (b_block j)) refl i h) in
      let e₃ = side_same (c_source i) (c_block i) (c-below i) (each_of_six (λ (j : ℕ). own_before j (c_source j) (c_block j)) refl i h) in
      λ j. joined (e₁ j) (e₂ j) (e₃ j)

-- ---- six blocks one after the other

module _ (x : MacroblockTextureContext) (w : List (List ℕ)) (ar : Around) (n : Neighbourhood) (rows : List (List ℤ)) where
  abbrev q : ℕ
  q = x.quantiser_scale

  abbrev up_to : ℕ → List ℤ
  up_to = record_up_to x w ar rows

  abbrev below : ℕ → Remembered
  below = blocks_below x w n rows

  dcs-length : (i : ℕ) → length (below i).dcs ≡ i
  unfolding blocks_below
  dcs-length zero = refl
  dcs-length (suc i) = longer (below i).dcs _ ∙ add-one _ ∙ ap suc (dcs-length i)

  levels-length : (i : ℕ) → length (below i).levels ≡ i
  unfolding blocks_below
  levels-length zero = refl
  levels-length (suc i) = longer (below i).levels _ ∙ add-one _ ∙ ap suc (levels-length i)

  quantiser-is : (i : ℕ) → (below i).quantiser ≡ q
  unfolding blocks_below
  quantiser-is zero = refl
  quantiser-is (suc i) = refl

  -- a side out of its DC and its levels
  abbrev side_by : ℤ → List (List ℤ) → ℕ → Side
  side_by dc qf p = record { has = true; dc = dc; qp = p; row = build 7 (λ (k : ℕ). cell qf 0 (k + 1)); column = build 7 (λ (k : ℕ). cell qf (k + 1) 0) }

  side_older : (i b : ℕ) → b < i → side_in (below (suc i)) b ≡ side_in (below i) b
  unfolding blocks_below
  side_older i b h =
      let e₁ = before (below i).dcs (cell (values_of_block x w n rows (below i) i) 0 0) (pos 0) b (let l = dcs-length i in omega arith) in
      let e₂ = before (below i).levels (levels_of_block x w n rows (below i) i) [] b (let l = levels-length i in omega arith) in
      λ j. side_by (e₁ j) (e₂ j) (sym (quantiser-is i) j)

  side_newest : (i : ℕ) → side_in (below (suc i)) i ≡ side_by (cell (values_of_block x w n rows (below i) i) 0 0) (levels_of_block x w n rows (below i) i) q
  unfolding blocks_below
  side_newest i =
      let e₁ = last (below i).dcs (cell (values_of_block x w n rows (below i) i) 0 0) (pos 0) i (sym (dcs-length i)) in
      let e₂ = last (below i).levels (levels_of_block x w n rows (below i) i) [] i (sym (levels-length i)) in
      λ j. side_by (e₁ j) (e₂ j) q

  module _ (h : context_fine x w ≡ true) (g : Agrees ar n) where
    -- the levels of a block are the same where the blocks before it give what is remembered of them
    levels_by : (i : ℕ) → i < 6 → ((b : ℕ) → b < i → known_of (up_to i) b ≡ side_in (below i) b) → levels_at x w ar rows (up_to i) i ≡ levels_of_block x w n rows (below i) i
    levels_by i l f =
        ap (λ (p : BlockPredictors). levels_of (component_at i) x p (get_or rows i []))
        (takes_same x.bits_per_pixel q (depth_range x.bits_per_pixel (depth-fine x w h)).1 ar n g (up_to i) (below i) i f l)

    sides_same : (i : ℕ) → i ≤ 6 → (b : ℕ) → b < i → known_of (up_to i) b ≡ side_in (below i) b
    unfolding record_up_to
    sides_same zero l b k = absurd (not-suc-le-zero k)
    sides_same (suc i) l b k =
        ⊎_elim
        (λ (a : b < i). known_other (up_to i) i _ _ (up-sound x w ar rows h i (omega arith)).long l b (omega arith) (λ e. omega arith) ∙ sides_same i (omega arith) b a ∙ sym (side_older i b a))
        (λ (a : i ≤ b).
        let e : b ≡ i = omega arith in
        ap (known_of (up_to (suc i))) e
        ∙ known_own (up_to i) i _ _ (up-sound x w ar rows h i (omega arith)).long l
        ∙ (λ j. newest i (levels_by i l (sides_same i (omega arith)) j) (quantiser_of (up-quantiser x w ar rows h i (omega arith) j)))
        ∙ sym (side_newest i)
        ∙ sym (ap (side_in (below (suc i))) e))
        (lt-or-le b i)
      where
        newest : ℕ → List (List ℤ) → ℕ → Side
        newest i qf p = side_by (cell (values_of (component_at i) x w qf) 0 0) qf p

    levels-same : (i : ℕ) → i < 6 → levels_at x w ar rows (up_to i) i ≡ levels_of_block x w n rows (below i) i
    levels-same i l = levels_by i l (sides_same i (omega arith))

    -- what is stored gives what is remembered
    pub record_gives : Gives (record_of x w ar rows) (remembered x w n rows)
    record_gives = record { sound = up-sound x w ar rows h 6 (omega arith); sides = sides_same 6 (omega arith) }

    pub values_same : values_in_turn x w ar rows ≡ values_of_all x w n rows
    unfolding values_in_turn values_of_all
    values_same =
        build-eq 6 (λ (i : ℕ). values_at x w ar rows (up_to i) i) (λ (i : ℕ). values_of_block x w n rows (below i) i)
        (λ (i : ℕ) (l : i < 6). ap (values_of (component_at i) x w) (levels-same i l))
