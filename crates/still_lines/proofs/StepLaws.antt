-- What one step tells and leaves, by what was fed and by the room that is lent. Assumes nothing.
use mathlib.Core.Bool.{Bool, cond, false, true}
use mathlib.Core.List.{List}
use mathlib.Core.Path.{◌≡◌, ap, refl, subst, subst⁻¹, sym, ◌∙◌}
use Prim.Native.Nat.{ℕ, ◌≤◌}
use native.Mathlib.Omega.{arith}
use lib.IntN.{ℤ}
use lib.ListN.{drop, length, length-append}
use Rattle.forms.specs.Forms.{longest}
use Rattle.still_lines.proofs.LineLaws.{fed_inside, line-long, rest-inside}
use Rattle.lines.specs.Fed.{fed_of, rest_of}
use Rattle.still_lines.specs.Steps.{Inside, Left, Memory, count_fed, data_fed, fed_to, finish_by, left, lent, line_after, roomy, said_into, samples_fed, step_by, still_fed, store_fed, text_ended, text_fed, went, with_room}
use Rattle.lines.specs.declared.fed.Fed.{Fed}
use Rattle.lines.specs.declared.fed.Fed.TheVariants.{Ended, Kept, Skipped}
use Rattle.still_lines.specs.declared.steps.Reading.{Reading}
use Rattle.still_lines.specs.declared.steps.Stepped.{Stepped}
use Rattle.still_lines.specs.declared.steps.Stepped.TheVariants.{TooShort, Went}
use Rattle.still_lines.specs.declared.still.Still.{Still}

-- ---- what is fed is no longer than the lent line

pub fed_fits : {l : List ℕ} {f : Fed} (line : List ℕ) (n b : ℕ) → longest ≤ length line → f ≡ fed_of n b → l ≡ line_after line n b → Inside (length l) f
fed_fits {l} line n b h e p =
    let k : length l ≡ length (line_after line n b) = ap length p in
    subst⁻¹ (Inside (length l)) e (fed_inside (length l) (omega (arith, line-long line n b)) n b)

pub rest_fits : {f : Fed} (line : List ℕ) (n : ℕ) → longest ≤ length line → f ≡ rest_of n → Inside (length line) f
rest_fits line n h e = subst⁻¹ (Inside (length line)) e (rest-inside (length line) h n)

pub ended_fits : (room : ℕ) {f : Fed} {n : ℕ} → Inside room f → f ≡ Ended n → n ≤ room
ended_fits room i e = subst (Inside room) e i

-- ---- what a step tells and leaves where there is room

module _ (s : Still) (samples store : List ℤ) (old out : List ℕ) where
  abbrev pub Tells : List ℕ → Fed → Still → ℕ → ℕ → List ℕ → List ℤ → List ℤ → List ℕ → Type 0
  Tells line f still n said bytes ss st text =
      ((still ≡ still_fed s line samples store f) × ((n ≡ count_fed f) × ((said ≡ length (text_fed s line samples store f)) × (said ≤ 256))))
      × ((bytes ≡ data_fed line old f) × ((ss ≡ samples_fed s line samples store f) ×
      ((st ≡ store_fed s line samples store f) × (text ≡ said_into (text_fed s line samples store f) out))))

  pub told-kept : (line : List ℕ) {f : Fed} {n : ℕ} → f ≡ Kept n → Tells line f s n 0 old samples store out
  told-kept line {f} {n} e = subst⁻¹ (λ (g : Fed). Tells line g s n 0 old samples store out) e ((refl, (refl, (refl, omega arith))), (refl, (refl, (refl, refl))))

  pub told-skipped : (line : List ℕ) {f : Fed} → f ≡ Skipped → Tells line f s 0 0 old samples store out
  told-skipped line e = subst⁻¹ (λ (g : Fed). Tells line g s 0 0 old samples store out) e ((refl, (refl, (refl, omega arith))), (refl, (refl, (refl, refl))))

  module _ {still : Still} {n said : ℕ} {bytes : List ℕ} {ss st : List ℤ} {text : List ℕ} where
    pub told-ended : (line : List ℕ) {f : Fed} {k : ℕ} → f ≡ Ended k → Tells line (Ended k) still n said bytes ss st text → Tells line f still n said bytes ss st text
    told-ended line e t = subst⁻¹ (λ (g : Fed). Tells line g still n said bytes ss st text) e t

    -- the line and what was fed, by their equations
    pub moved : {line new : List ℕ} {f g : Fed} → line ≡ new → f ≡ g → Tells line f still n said bytes ss st text → Tells new g still n said bytes ss st text
    moved {new = new} {f} p q t = subst (λ (h : Fed). Tells new h still n said bytes ss st text) q (subst (λ (l : List ℕ). Tells l f still n said bytes ss st text) p t)

-- ---- what is said lies within the lent bytes

said_fits : (x y : Memory) (s : Still) (f : Fed) (m : ℕ) (text : List ℕ) {r : Reading} {n : ℕ} {new : Memory}
    → left (Went r n) new ≡ with_room x (fed_to s y f m text) → n ≤ length new.out
said_fits x y s f m text {r} {n} {new} = by (roomy x.line x.bytes x.out)
  where
    by : (t : Bool) → left (Went r n) new ≡ cond t (fed_to s y f m text) (left TooShort x) → n ≤ length new.out
    by true e =
        let g : Went r n ≡ went (still_fed s y.line y.samples y.store f) m text = ap (λ (l : Left). l.answer) e in
        let k : n ≡ length text = cc in
        omega (arith, ap (λ (l : Left). length l.memory.out) e, length-append text (drop (length text) y.out))
    by false e = absurd (let g : Went r n ≡ TooShort = ap (λ (l : Left). l.answer) e in let z : ◌≡◌ {A = ℕ} 0 1 = cc in omega arith)

pub step_fits : (r : Reading) (b : ℕ) (x : Memory) {s : Stepped} {q : Reading} {n : ℕ} {new : Memory} → s ≡ Went q n → left s new ≡ step_by r b x → n ≤ length new.out
unfolding step_by
step_fits r b x {new = new} g e =
    let y = lent (line_after x.line r.n b) x.bytes x.samples x.store x.out in
    let f = fed_of r.n b in
    said_fits x y r.still f (count_fed f) (text_fed r.still y.line y.samples y.store f) (ap (λ (a : Stepped). left a new) (sym g) ∙ e)

pub finish_fits : (r : Reading) (x : Memory) {s : Stepped} {q : Reading} {n : ℕ} {new : Memory} → s ≡ Went q n → left s new ≡ finish_by r x → n ≤ length new.out
unfolding finish_by
finish_fits r x {new = new} g e =
    let f = rest_of r.n in
    said_fits x x r.still f 0 (text_ended r.still x.line x.samples x.store f) (ap (λ (a : Stepped). left a new) (sym g) ∙ e)
