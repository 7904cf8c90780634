-- How far two passes of sums of products in f64 are from the exact double sum. Assumes nothing.
use mathlib.Core.Option.{some}
use mathlib.Core.Path.{◌≡◌, refl, sym, ap, ◌∙◌, subst, fun_ext}
use Prim.Native.Nat.{ℕ, zero, suc, ◌+◌, ◌*◌, ◌^◌, ◌≤◌, ◌<◌}
use native.Mathlib.Nat.{le_trans, le_refl, le-suc}
use native.Mathlib.Omega.{arith}
use lib.Ieee.{Float, mul, binary64}
use lib.IntN.{ℤ, pos, ◌+ℤ◌, ◌*ℤ◌, *ℤ_comm, zero-*ℤ, *ℤ-zero}
use Rattle.numbers.proofs.Integers.{*ℤ-+ℤ, *ℤ-assoc, +ℤ-*ℤ}
use Rattle.f64_error.proofs.Binary64.{below, off}
use Rattle.f64_error.proofs.Nearness.{approx_add, approx_half, approx_mul, approx_weaken, approx_zero}
use Rattle.f64_error.proofs.Operations.{mul_swap}
use Rattle.f64_error.proofs.Approx.{Const, Approx}
use Rattle.f64_error.specs.Series.{block_f, block_z, half, pass, series_f, series_z}
use Rattle.f64_error.specs.Units.{Is, one}

-- the sum over i of c(i) * x(i) * k(i)
abbrev pub pass_z : (ℕ → ℤ) → (ℕ → ℤ) → (ℕ → ℤ) → ℤ
pass_z c x k = series_z (λ i. c i *ℤ x i *ℤ k i) 8

-- the constant on the left
pub approx_mul_left : (j : ℕ) (x y : Float) (S P : ℕ) (a c : ℤ) (e m : ℕ) → j ≤ 900 → Approx x (S * P) a e m → Const y P c → m < below j
    → Approx (mul binary64 y x) S (c *ℤ a) (e + off j) (m + off j)
approx_mul_left j x y S P a c e m J p k s =
    subst (λ (z : Float). Approx z S (c *ℤ a) (e + off j) (m + off j)) (mul_swap binary64 x y)
    (subst (λ (z : ℤ). Approx (mul binary64 x y) S z (e + off j) (m + off j)) (*ℤ_comm a c) (approx_mul j x y S P a c e m J p k s))

-- ---- c * x * k
pub approx_term : (j : ℕ) (c x k : Float) (S P : ℕ) (C a K : ℤ) (e m : ℕ) → j ≤ 900 → Approx x (S * P * P) a e m → Const c P C → Const k P K → m + off j < below j
    → Approx (mul binary64 (mul binary64 c x) k) S (C *ℤ a *ℤ K) (e + 2 * off j) (m + 2 * off j)
approx_term j c x k S P C a K e m J p q r s =
    approx_weaken (mul binary64 (mul binary64 c x) k) S (C *ℤ a *ℤ K) (e + off j + off j) (m + off j + off j) (e + 2 * off j) (m + 2 * off j) (omega arith) (omega arith)
    (approx_mul j (mul binary64 c x) k S P (C *ℤ a) K (e + off j) (m + off j) J (approx_mul_left j x c (S * P) P a C e m J p q (omega arith)) r s)

-- ---- the sum of n terms
pub approx_sum : (j : ℕ) (S e b : ℕ) (t : ℕ → Float) (z : ℕ → ℤ) (n : ℕ) → j ≤ 900 → ((i : ℕ) → i < n → Approx (t i) S (z i) e b) → n * (b + off j) < below j
    → Approx (series_f t n) S (series_z z n) (n * (e + off j)) (n * (b + off j))
unfolding series_f series_z
approx_sum j S e b t z zero J h s = approx_weaken (series_f t zero) S (pos 0) 0 0 (0 * (e + off j)) (0 * (b + off j)) (omega arith) (omega arith) (approx_zero S)
approx_sum j S e b t z (suc n) J h s =
    approx_weaken (series_f t (suc n)) S (series_z z (suc n)) (n * (e + off j) + e + off j) (n * (b + off j) + b + off j) (suc n * (e + off j)) (suc n * (b + off j)) (omega arith) (omega arith)
    (approx_add j (series_f t n) (t n) S (series_z z n) (z n) (n * (e + off j)) e (n * (b + off j)) b J
    (approx_sum j S e b t z n J (λ (i : ℕ) (l : i < n). h i (le_trans l (le-suc n))) (omega arith))
    (h n (le_refl (suc n)))
    (omega arith))

-- ---- a pass
pub half_const : Const half 2 (pos 1)
unfolding Is one
half_const = record { w = pos (2 ^ 1073); is = (2 ^ 1073, refl, refl); plus = refl; minus = refl; small = omega arith; some = omega arith }

-- what a pass leaves of errors and sizes: its products are below 2 ^ j, its sums below 2 ^ k
abbrev pub after : ℕ → ℕ → ℕ → ℕ
after j k e = 4 * (e + 2 * off j + off k) + off k

pub approx_pass : (j k S P e b : ℕ) (c x t : ℕ → Float) (C a K : ℕ → ℤ) → j ≤ 900 → k ≤ 900
    → ((i : ℕ) → i < 8 → Approx (x i) (S * 2 * P * P) (a i) e b) → ((i : ℕ) → i < 8 → Const (c i) P (C i)) → ((i : ℕ) → i < 8 → Const (t i) P (K i))
    → b + off j < below j → 8 * (b + 2 * off j + off k) < below k
    → Approx (pass c x t) S (pass_z C a K) (after j k e) (after j k b)
approx_pass j k S P e b c x t C a K J L h q r s m =
    let f : ℕ → Float = λ i. mul binary64 (mul binary64 (c i) (x i)) (t i) in
    let z : ℕ → ℤ = λ i. C i *ℤ a i *ℤ K i in
    let terms : (i : ℕ) → i < 8 → Approx (f i) (S * 2) (z i) (e + 2 * off j) (b + 2 * off j) = λ i l. approx_term j (c i) (x i) (t i) (S * 2) P (C i) (a i) (K i) e b J (h i l) (q i l) (r i l) s in
    let acc = approx_sum k (S * 2) (e + 2 * off j) (b + 2 * off j) f z 8 L terms m in
    let d = approx_half k (series_f f 8) half S (series_z z 8) (4 * (e + 2 * off j + off k)) (4 * (b + 2 * off j + off k)) L
    (approx_weaken (series_f f 8) (S * 2) (series_z z 8) (8 * (e + 2 * off j + off k)) (8 * (b + 2 * off j + off k)) (2 * (4 * (e + 2 * off j + off k))) (2 * (4 * (b + 2 * off j + off k))) (omega arith) (omega arith) acc)
    half_const (omega arith) in
    subst (λ (w : Float). Approx w S (pass_z C a K) (after j k e) (after j k b)) (mul_swap binary64 (series_f f 8) half) d

-- ---- two passes are the double sum
sum_scaled : (a b : ℤ) (t : ℕ → ℤ) (n : ℕ) → a *ℤ series_z t n *ℤ b ≡ series_z (λ i. a *ℤ t i *ℤ b) n
unfolding series_z
sum_scaled a b t zero = ap (λ (z : ℤ). z *ℤ b) (*ℤ-zero a) ∙ zero-*ℤ b
sum_scaled a b t (suc n) =
    ap (λ (z : ℤ). z *ℤ b) (*ℤ-+ℤ a (series_z t n) (t n))
    ∙ +ℤ-*ℤ (a *ℤ series_z t n) (a *ℤ t n) b
    ∙ ap (λ (z : ℤ). z +ℤ a *ℤ t n *ℤ b) (sum_scaled a b t n)

-- the factors of a term, in the other order
regroup : (a c f k b : ℤ) → a *ℤ (c *ℤ f *ℤ k) *ℤ b ≡ c *ℤ a *ℤ f *ℤ k *ℤ b
regroup a c f k b =
    ap (λ (z : ℤ). z *ℤ b)
    (sym (*ℤ-assoc a (c *ℤ f) k) ∙ ap (λ (z : ℤ). z *ℤ k) (sym (*ℤ-assoc a c f) ∙ ap (λ (z : ℤ). z *ℤ f) (*ℤ_comm a c)))

pub nested : (c : ℕ → ℤ) (k F : ℕ → ℕ → ℤ) (y x : ℕ) → pass_z c (λ v. pass_z c (F v) (λ u. k u x)) (λ v. k v y) ≡ block_z c k F y x
nested c k F y x =
    ap (λ (t : ℕ → ℤ). series_z t 8)
    (fun_ext (λ v. sum_scaled (c v) (k v y) (λ u. c u *ℤ F v u *ℤ k u x) 8 ∙ ap (λ (t : ℕ → ℤ). series_z t 8) (fun_ext (λ u. regroup (c v) (c u) (F v u) (k u x) (k v y)))))

-- rows with products below 2 ^ i and sums below 2 ^ i', columns with j and j'
pub approx_block : (i i' j j' S P e b : ℕ) (c : ℕ → Float) (k F : ℕ → ℕ → Float) (C : ℕ → ℤ) (K A : ℕ → ℕ → ℤ) → i ≤ 900 → i' ≤ 900 → j ≤ 900 → j' ≤ 900
    → ((v u : ℕ) → v < 8 → u < 8 → Approx (F v u) (S * 2 * P * P * 2 * P * P) (A v u) e b) → ((u : ℕ) → u < 8 → Const (c u) P (C u)) → ((u x : ℕ) → u < 8 → x < 8 → Const (k u x) P (K u x))
    → b + off i < below i → 8 * (b + 2 * off i + off i') < below i' → after i i' b + off j < below j → 8 * (after i i' b + 2 * off j + off j') < below j'
    → (y x : ℕ) → y < 8 → x < 8 → Approx (block_f c k F y x) S (block_z C K A y x) (after j j' (after i i' e)) (after j j' (after i i' b))
approx_block i i' j j' S P e b c k F C K A I I' J J' h q r s s' t t' y x ly lx =
    subst (λ (z : ℤ). Approx (block_f c k F y x) S z (after j j' (after i i' e)) (after j j' (after i i' b))) (nested C K A y x)
    (approx_pass j j' S P (after i i' e) (after i i' b) c (λ v. pass c (F v) (λ u. k u x)) (λ v. k v y) C (λ v. pass_z C (A v) (λ u. K u x)) (λ v. K v y) J J'
    (λ v l. approx_pass i i' (S * 2 * P * P) P e b c (F v) (λ u. k u x) C (A v) (λ u. K u x) I I' (λ u m. h v u l m) q (λ u m. r u x m lx) s s')
    q
    (λ v l. r v y l ly)
    t
    t')
