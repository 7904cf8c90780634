-- What the columns of a lent table hold at each row, and how small it is. Assumes nothing.
use mathlib.Core.Bool.{Bool}
use mathlib.Core.List.{List, [], ◌++◌, ◌∷◌, map}
use mathlib.Core.Path.{◌≡◌, refl, sym, ap, ◌∙◌, ap₂}
use Prim.Native.Nat.{◌+◌, ◌<◌, suc, zero, ℕ}
use native.Mathlib.Nat.{le_of_suc-le-suc, not-suc-le-zero}
use native.Mathlib.Omega.{arith}
use lib.Dec.{ltb, ltb→lt, eqb}
use lib.ListN.{get_or-append, get_or, length}
use lib.Seq.{get_or-append-add}
use Rattle.codes.specs.Rvlc.{rvlc_tcoef, rvlc_of, rvlc_columns}
use Rattle.codes.specs.Tcoef.{tcoef_intra, tcoef_inter, tcoef_of, event_columns, lmax_by, lmax_of, rmax_by, rmax_of}
use Rattle.codes.specs.declared.tcoef_tables.TcoefTable.{TcoefTable}
use Rattle.codes.specs.declared.tcoef_tables.TcoefTable.TheVariants.{Intra, Inter}
use Rattle.events.specs.Event.{plain, type1, type2, rvlc, no_row, rvlc_row_of, tcoef_row, last_number, level_of, run_of, signed_by, spelling_of, value_of}
use Rattle.events.specs.EventReader.{spelled}
use Rattle.events.specs.Rows.{RowIn, PlainForm, columns, row_event, row_of}
use Rattle.events.specs.declared.event.AcEvent.{AcEvent}
use Rattle.events.specs.declared.event.RowForm.{RowForm}
use Rattle.events.specs.declared.event.RowForm.TheVariants.{Plain, Type1, Type2, Reversible}
use Rattle.events.specs.declared.spelling.Spelling.{Spelling}
use Rattle.events.specs.declared.spelling.Spelling.TheVariants as S
use Rattle.numbers.proofs.Every.{every_at}
use Rattle.codes.specs.Tcoef as R

get_map : {A : Type 0} (f : A → ℕ) (rows : List A) (i : ℕ) (a : A) → i < length rows → get_or (map f rows) i 0 ≡ f (get_or rows i a)
get_map f [] i a h = absurd (not-suc-le-zero h)
get_map f (x ∷ rows) zero a h = refl
get_map f (x ∷ rows) (suc i) a h = get_map f rows i a (le_of_suc-le-suc h)

map-length : {A : Type 0} (f : A → ℕ) (rows : List A) → length (map f rows) ≡ length rows
map-length f [] = refl
map-length f (x ∷ rows) = ap suc (map-length f rows)

-- a column at the front, and what stands after it
module _ {A : Type 0} (n : ℕ) (f : A → ℕ) (rows : List A) (len : length rows ≡ n) (rest : List ℕ) where
  front : (i : ℕ) (a : A) → i < n → get_or (map f rows ++ rest) i 0 ≡ f (get_or rows i a)
  front i a h =
      let l : i < length (map f rows) = omega (arith, map-length f rows) in
      get_or-append (map f rows) rest 0 i l ∙ get_map f rows i a (omega arith)

  behind : (j : ℕ) → get_or (map f rows ++ rest) (n + j) 0 ≡ get_or rest j 0
  behind j = ap (λ (k : ℕ). get_or (map f rows ++ rest) (k + j) 0) (sym (map-length f rows ∙ len)) ∙ get_or-append-add (map f rows) rest j 0

tcoef_rows : (t : TcoefTable) → length (tcoef_of t) ≡ 102
unfolding tcoef_intra tcoef_inter
tcoef_rows Intra = refl
tcoef_rows Inter = refl

rvlc-rows : (t : TcoefTable) → length (rvlc_of t) ≡ 169
unfolding rvlc_tcoef
rvlc-rows Intra = refl
rvlc-rows Inter = refl

-- ---- the plain tables: last, run, level, LMAX and RMAX of row i

module _ (t : TcoefTable) (i : ℕ) (h : i < 102) where
  pub last_at : get_or (event_columns (tcoef_of t)) i 0 ≡ R.last_of (tcoef_row t i)
  unfolding event_columns
  last_at = front 102 R.last_of (tcoef_of t) (tcoef_rows t) _ i no_row h

  pub run_at : get_or (event_columns (tcoef_of t)) (102 + i) 0 ≡ R.run_of (tcoef_row t i)
  unfolding event_columns
  run_at = behind 102 R.last_of (tcoef_of t) (tcoef_rows t) _ i ∙ front 102 R.run_of (tcoef_of t) (tcoef_rows t) _ i no_row h

  pub level_at : get_or (event_columns (tcoef_of t)) (204 + i) 0 ≡ R.level_of (tcoef_row t i)
  unfolding event_columns
  level_at =
      let e : 204 + i ≡ 102 + (102 + i) = omega arith in
      ap (λ (k : ℕ). get_or (event_columns (tcoef_of t)) k 0) e ∙ behind 102 R.last_of (tcoef_of t) (tcoef_rows t) _ (102 + i) ∙ behind 102 R.run_of (tcoef_of t) (tcoef_rows t) _ i
      ∙ front 102 R.level_of (tcoef_of t) (tcoef_rows t) _ i no_row h

  pub lmax_at : get_or (event_columns (tcoef_of t)) (306 + i) 0 ≡ lmax_by (tcoef_of t) (tcoef_row t i)
  unfolding event_columns
  lmax_at =
      let e : 306 + i ≡ 102 + (102 + (102 + i)) = omega arith in
      ap (λ (k : ℕ). get_or (event_columns (tcoef_of t)) k 0) e ∙ behind 102 R.last_of (tcoef_of t) (tcoef_rows t) _ (102 + (102 + i)) ∙ behind 102 R.run_of (tcoef_of t) (tcoef_rows t) _ (102 + i)
      ∙ behind 102 R.level_of (tcoef_of t) (tcoef_rows t) _ i ∙ front 102 (lmax_by (tcoef_of t)) (tcoef_of t) (tcoef_rows t) _ i no_row h

  pub rmax_at : get_or (event_columns (tcoef_of t)) (408 + i) 0 ≡ rmax_by (tcoef_of t) (tcoef_row t i)
  unfolding event_columns
  rmax_at =
      let e : 408 + i ≡ 102 + (102 + (102 + (102 + i))) = omega arith in
      ap (λ (k : ℕ). get_or (event_columns (tcoef_of t)) k 0) e ∙ behind 102 R.last_of (tcoef_of t) (tcoef_rows t) _ (102 + (102 + (102 + i))) ∙ behind 102 R.run_of (tcoef_of t) (tcoef_rows t) _ (102 + (102 + i))
      ∙ behind 102 R.level_of (tcoef_of t) (tcoef_rows t) _ (102 + i) ∙ behind 102 (lmax_by (tcoef_of t)) (tcoef_of t) (tcoef_rows t) _ i ∙ get_map (rmax_by (tcoef_of t)) (tcoef_of t) i no_row (let l = tcoef_rows t in omega arith)

-- ---- the reversible table: last, run and level of row i

module _ (t : TcoefTable) (i : ℕ) (h : i < 169) where
  pub rvlc_last_at : get_or (rvlc_columns (rvlc_of t)) i 0 ≡ R.last_of (rvlc_row_of t i)
  unfolding rvlc_columns
  rvlc_last_at = front 169 R.last_of (rvlc_of t) (rvlc-rows t) _ i no_row h

  pub rvlc_run_at : get_or (rvlc_columns (rvlc_of t)) (169 + i) 0 ≡ R.run_of (rvlc_row_of t i)
  unfolding rvlc_columns
  rvlc_run_at = behind 169 R.last_of (rvlc_of t) (rvlc-rows t) _ i ∙ front 169 R.run_of (rvlc_of t) (rvlc-rows t) _ i no_row h

  pub rvlc_level_at : get_or (rvlc_columns (rvlc_of t)) (338 + i) 0 ≡ R.level_of (rvlc_row_of t i)
  unfolding rvlc_columns
  rvlc_level_at =
      let e : 338 + i ≡ 169 + (169 + i) = omega arith in
      let l = rvlc-rows t in
      ap (λ (k : ℕ). get_or (rvlc_columns (rvlc_of t)) k 0) e ∙ behind 169 R.last_of (rvlc_of t) (rvlc-rows t) _ (169 + i)
      ∙ behind 169 R.run_of (rvlc_of t) (rvlc-rows t) _ i ∙ get_map R.level_of (rvlc_of t) i no_row (omega arith)

-- ---- the event of a row and a sign, by the columns

abbrev event_by : Spelling → ℕ → ℕ → ℕ → ℕ → AcEvent
event_by k s l r m = record { last = eqb l 1; run = r; level = signed_by s m; spelling = k }

pub same-event : (k : Spelling) (s : ℕ) {l l' r r' m m' : ℕ} → l ≡ l' → r ≡ r' → m ≡ m' → event_by k s l r m ≡ event_by k s l' r' m'
same-event k s {l} {l'} {r} {r'} {m} {m'} a b c = ap₂ (λ (x y : ℕ). event_by k s x y m) a b ∙ ap (event_by k s l' r') c

raised : {x y n m : ℕ} → x ≡ y → n ≡ m → x + n ≡ y + m
raised e f = omega arith

again : {x y n m : ℕ} → x ≡ y → n ≡ m → x + (n + 1) ≡ y + m + 1
again e f = omega arith

kept : {x y : ℕ} → x ≡ y → x + 0 ≡ y
kept e = omega arith

module _ (t : TcoefTable) (i s : ℕ) where
  plain-is : i < 102 → row_event (event_columns (tcoef_of t)) 102 i s 0 0 S.Plain ≡ value_of t (plain i s)
  unfolding last_number run_of level_of spelling_of
  plain-is h = same-event S.Plain s (last_at t i h) (kept (run_at t i h)) (kept (level_at t i h))

  type1-is : i < 102 → (n : ℕ) → n ≡ get_or (event_columns (tcoef_of t)) (306 + i) 0 → row_event (event_columns (tcoef_of t)) 102 i s n 0 S.Type1 ≡ value_of t (type1 i s)
  unfolding last_number run_of level_of spelling_of
  type1-is h n q = same-event S.Type1 s (last_at t i h) (kept (run_at t i h)) (raised (level_at t i h) (q ∙ lmax_at t i h))

  type2-is : i < 102 → (n : ℕ) → n ≡ get_or (event_columns (tcoef_of t)) (408 + i) 0 → row_event (event_columns (tcoef_of t)) 102 i s 0 (n + 1) S.Type2 ≡ value_of t (type2 i s)
  unfolding last_number run_of level_of spelling_of
  type2-is h n q = same-event S.Type2 s (last_at t i h) (again (run_at t i h) (q ∙ rmax_at t i h)) (kept (level_at t i h))

  rvlc-is : i < 169 → row_event (rvlc_columns (rvlc_of t)) 169 i s 0 0 S.Plain ≡ value_of t (rvlc i s)
  unfolding last_number run_of level_of spelling_of
  rvlc-is h = same-event S.Plain s (rvlc_last_at t i h) (kept (rvlc_run_at t i h)) (kept (rvlc_level_at t i h))

-- a row of the table in use, however it is spelled
row_is : (k : RowForm) (t : TcoefTable) (i s : ℕ) → RowIn k i → row_of (columns k t) k i s ≡ value_of t (spelled k i s)
row_is Plain t i s h = plain-is t i s h
row_is Type1 t i s h = type1-is t i s h (get_or (event_columns (tcoef_of t)) (306 + i) 0) refl
row_is Type2 t i s h = type2-is t i s h (get_or (event_columns (tcoef_of t)) (408 + i) 0) refl
row_is Reversible t i s h = rvlc-is t i s h

pub row_of_is : (k : RowForm) (t : TcoefTable) (es : List ℕ) → es ≡ columns k t → (i s : ℕ) → RowIn k i → row_of es k i s ≡ value_of t (spelled k i s)
row_of_is k t es e i s h = ap (λ (es : List ℕ). row_of es k i s) e ∙ row_is k t i s h

-- a row of the plain tables, however it is spelled
pub plain-columns : (k : RowForm) (t : TcoefTable) → PlainForm k → columns k t ≡ event_columns (tcoef_of t)
plain-columns Plain t h = refl
plain-columns Type1 t h = refl
plain-columns Type2 t h = refl
plain-columns Reversible t h = absurd h

pub plain_row : (k : RowForm) (i : ℕ) → PlainForm k → i < 102 → RowIn k i
plain_row Plain i h l = l
plain_row Type1 i h l = l
plain_row Type2 i h l = l
plain_row Reversible i h l = absurd h

-- ---- every number of a table is below 64, by one computed test of each

abbrev small : ℕ → Bool
small x = ltb x 64

pub tcoef_small : (t : TcoefTable) (k : ℕ) → get_or (event_columns (tcoef_of t)) k 0 < 64
unfolding event_columns tcoef_intra tcoef_inter lmax_of rmax_of
tcoef_small Intra k = ltb→lt _ 64 (every_at small 0 (event_columns tcoef_intra) tt tt k)
tcoef_small Inter k = ltb→lt _ 64 (every_at small 0 (event_columns tcoef_inter) tt tt k)

pub rvlc_small : (t : TcoefTable) (k : ℕ) → get_or (rvlc_columns (rvlc_of t)) k 0 < 64
unfolding rvlc_columns rvlc_tcoef
rvlc_small Intra k = ltb→lt _ 64 (every_at small 0 (rvlc_columns (rvlc_of Intra)) tt tt k)
rvlc_small Inter k = ltb→lt _ 64 (every_at small 0 (rvlc_columns (rvlc_of Inter)) tt tt k)
