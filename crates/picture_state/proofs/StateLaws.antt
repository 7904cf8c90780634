-- The checks of a call, test by test, and what a state that passes is. Assumes nothing.
use mathlib.Core.Bool.{Bool, cond, true, ◌&&◌}
use mathlib.Core.List.{List, ◌++◌}
use mathlib.Core.Path.{◌≡◌, ap, ap₂, refl, sym, ◌∙◌}
use Prim.Native.Nat.{ℕ, ◌*◌, ◌+◌, ◌-◌, ◌<◌, ◌≤◌}
use native.Mathlib.Nat.{mul-le-mul}
use native.Mathlib.Omega.{arith}
use lib.Dec.{leb, ltb}
use lib.IntN.{ℤ}
use lib.ListN.{length}
use borrow.Author.Tests.{le-leb, leb-true, lt-ltb, ltb-true}
use Rattle.bits.specs.Cursor.{in_data}
use Rattle.numbers.proofs.OutcomeLaws.{two_tests}
use Rattle.numbers.proofs.Tests.{both_true}
use Rattle.ranges.specs.Range.{depth_fine}
use Rattle.assembly.proofs.OutcomeLaws.{answered}
use Rattle.assembly.proofs.TestLaws.{all_pass, bad_first, fine_first, first_of}
use Rattle.assembly.specs.Answer.{first_bad}
use Rattle.assembly.specs.Values.{context_fine}
use Rattle.assembly.specs.declared.context.MacroblockTextureContext.{MacroblockTextureContext}
use Rattle.assembly.specs.declared.error.BlockAssemblyError.{BlockAssemblyError}
use Rattle.assembly.specs.declared.error.BlockAssemblyError.TheVariants.{Complete, Context, OutOfRange, Predictor, TooShort}
use Rattle.headers.specs.Fields.{header_check, header_tests}
use Rattle.headers.specs.declared.header.MacroblockHeader.{MacroblockHeader}
use Rattle.neighbours.proofs.TakenLaws.{place_passes}
use Rattle.neighbours.specs.Neighbours.{Around, around_by, neighbours_fine}
use Rattle.record.specs.Record.{blank}
use Rattle.neighbours.specs.Taken.{place_lies}
use Rattle.places.specs.declared.place.Place.{Place}
use Rattle.picture_state.proofs.RingLaws.{slot_in}
use Rattle.picture_state.specs.Outcomes.{open_due, opened_outcome, state_before_due, state_due, state_outcome}
use Rattle.picture_state.specs.Picture.{context_of, open_of, size_fine}
use Rattle.picture_state.specs.Ring.{around_due, offset, place_of}
use Rattle.samples.specs.Samples.{macroblock_samples}
use Rattle.picture_state.specs.Sizes.{store_for}
use Rattle.picture_state.specs.State.{checked_by, due_of, first_tests, later_tests, neighbour_tests, state_before, state_by}
use Rattle.picture_state.specs.declared.picture.MacroblockContext.{MacroblockContext}
use Rattle.picture_state.specs.declared.picture.Picture.{Picture}
use Rattle.picture_state.specs.declared.state.Due.{Due}
use Rattle.std.specs.Prelude.{Err, Ok, Result, ⊤}

-- ---- the size

pub record Sized (w h : ℕ) : Type 0 where
  pub w_low : 1 ≤ w
  pub w_high : w ≤ 45
  pub cells : w * h ≤ 1620

pub sized : (w h : ℕ) → size_fine w h ≡ true → Sized w h
sized w h e =
    let a = both_true (leb 1 w) (leb w 45 && (leb 1 h && leb h 36)) e in
    let b = both_true (leb w 45) (leb 1 h && leb h 36) a.1 in
    let high = leb-true w 45 b.0 in
    record { w_low = leb-true 1 w a.0; w_high = high; cells = mul-le-mul {n₂ = 45} {m₂ = 36} high (leb-true h 36 (both_true (leb 1 h) (leb h 36) b.1).1) }

-- ---- 11, 12, 14, 15

module _ (p : Picture) (d : List ℕ) (at : ℕ) (x : MacroblockTextureContext) (w : List (List ℕ)) (room stored : ℕ) where
  abbrev first : Bool → Bool → Bool → Bool → Bool → Bool → Result ⊤ BlockAssemblyError
  first a b c e f g =
      cond a (cond b (cond c (cond e (cond f (cond g (Ok tt) (Err Complete)) (Err TooShort)) (Err TooShort)) (Err Context)) (Err OutOfRange)) (Err OutOfRange)

  pub first_by : (a b c e f g : Bool) → size_fine p.width p.height ≡ a → in_data (length d) at ≡ b → context_fine x w ≡ c → leb macroblock_samples room ≡ e → leb (store_for p.width) stored ≡ f
      → ltb p.accepted (p.width * p.height) ≡ g → first_bad (first_tests p d at x w room stored) ≡ first a b c e f g
  first_by a b c e f g p₁ p₂ p₃ p₄ p₅ p₆ =
      ap₂ (λ (s t : Bool). first s t (context_fine x w) (leb macroblock_samples room) (leb (store_for p.width) stored) (ltb p.accepted (p.width * p.height))) p₁ p₂
      ∙ ap₂ (λ (s t : Bool). first a b s t (leb (store_for p.width) stored) (ltb p.accepted (p.width * p.height))) p₃ p₄
      ∙ ap₂ (λ (s t : Bool). first a b c e s t) p₅ p₆

  pub record FirstFine : Type 0 where
    pub size : Sized p.width p.height
    pub inside : in_data (length d) at ≡ true
    pub context : context_fine x w ≡ true
    pub roomy : macroblock_samples ≤ room
    pub long : store_for p.width ≤ stored
    pub due : p.accepted < p.width * p.height

  pub first_fine : first_bad (first_tests p d at x w room stored) ≡ Ok tt → FirstFine
  first_fine q =
      let t = all_pass (first_tests p d at x w room stored) q in
      record {
        size = sized p.width p.height t.0;
        inside = t.1.0;
        context = t.1.1.0;
        roomy = leb-true macroblock_samples room t.1.1.1.0;
        long = leb-true (store_for p.width) stored t.1.1.1.1.0;
        due = ltb-true p.accepted (p.width * p.height) t.1.1.1.1.1.0;
      }

  -- ---- then 13

  module _ (ar : Around) where
    pub before_bad : {e : BlockAssemblyError} → first_bad (first_tests p d at x w room stored) ≡ Err e → state_before p d at x w room stored ar ≡ Err e
    unfolding state_before
    before_bad q = bad_first (first_tests p d at x w room stored) (neighbour_tests p x ar) q

    pub before_after : first_bad (first_tests p d at x w room stored) ≡ Ok tt → state_before p d at x w room stored ar ≡ first_bad (neighbour_tests p x ar)
    unfolding state_before
    before_after q = fine_first (first_tests p d at x w room stored) (neighbour_tests p x ar) q

    pub before_first : state_before p d at x w room stored ar ≡ Ok tt → FirstFine
    unfolding state_before
    before_first q = first_fine (first_of (first_tests p d at x w room stored) (neighbour_tests p x ar) q)

    pub before_neighbours : state_before p d at x w room stored ar ≡ Ok tt → neighbours_fine p.bits_per_pixel x.quantiser_scale ar (blank x.quantiser_scale) ≡ true
    unfolding state_before
    before_neighbours q = (all_pass (first_tests p d at x w room stored ++ neighbour_tests p x ar) q).1.1.1.1.1.1.0

    -- all of these pass
    pub before_fine : size_fine p.width p.height ≡ true → FirstFine → neighbours_fine p.bits_per_pixel x.quantiser_scale ar (blank x.quantiser_scale) ≡ true → state_before p d at x w room stored ar ≡ Ok tt
    before_fine s f n =
        before_after (first_by true true true true true true s f.inside f.context (le-leb macroblock_samples room f.roomy) (le-leb (store_for p.width) stored f.long) (lt-ltb p.accepted (p.width * p.height) f.due))
        ∙ ap (λ (t : Bool). cond t (Ok tt) (Err Predictor)) n

    pub before_size : state_before p d at x w room stored ar ≡ Ok tt → size_fine p.width p.height ≡ true
    unfolding state_before
    before_size q = (all_pass (first_tests p d at x w room stored ++ neighbour_tests p x ar) q).0

  -- ---- then 9, 10

  module _ (h : MacroblockHeader) (ar : Around) where
    pub state-bad : {e : BlockAssemblyError} → state_before p d at x w room stored ar ≡ Err e → state_by p d at h x w room stored ar ≡ Err e
    unfolding state_before state_by
    state-bad q = bad_first (first_tests p d at x w room stored ++ neighbour_tests p x ar) (header_tests h) q

    pub state-after : state_before p d at x w room stored ar ≡ Ok tt → state_by p d at h x w room stored ar ≡ header_check h
    unfolding state_before state_by
    state-after q = fine_first (first_tests p d at x w room stored ++ neighbour_tests p x ar) (header_tests h) q

    pub state_first : state_by p d at h x w room stored ar ≡ Ok tt → FirstFine
    unfolding state_by
    state_first q = first_fine (first_of (first_tests p d at x w room stored) (later_tests p h x ar) q)

    pub state-neighbours : state_by p d at h x w room stored ar ≡ Ok tt → neighbours_fine p.bits_per_pixel x.quantiser_scale ar (blank x.quantiser_scale) ≡ true
    unfolding state_by
    state-neighbours q = (all_pass (first_tests p d at x w room stored ++ later_tests p h x ar) q).1.1.1.1.1.1.0

-- 13 by the place that the code makes
pub neighbours_by : (p : Picture) (x : MacroblockTextureContext) (store : List ℤ) (place : Place) (r : Bool) → place ≡ place_of p x.quantiser_scale
    → neighbours_fine place.bits_per_pixel place.quantiser_scale (around_by place store) (blank place.quantiser_scale) ≡ r
    → first_bad (neighbour_tests p x (around_due p x.quantiser_scale store)) ≡ cond r (Ok tt) (Err Predictor)
unfolding around_due
neighbours_by p x store place r e k =
    ap (λ (b : Bool). cond b (Ok tt) (Err Predictor))
    (sym (ap (λ (y : Place). neighbours_fine y.bits_per_pixel y.quantiser_scale (around_by y store) (blank y.quantiser_scale)) e) ∙ k)

-- what is due, by what the code makes
pub due_is : (p : Picture) (x : MacroblockTextureContext) (place : Place) (own : ℕ) → place ≡ place_of p x.quantiser_scale → own ≡ offset p.width p.accepted 0
    → ◌≡◌ {A = Result Due BlockAssemblyError} (Ok (record { context = x; place = place; own = own })) (Ok (due_of p x))
due_is p x place own e f = λ i. Ok (record { context = x; place = e i; own = f i })

-- 11, then 12, by number
pub open_due_lem : (w h depth : ℕ) (method : Bool) → opened_outcome (open_of w h depth method) ≡ open_due w h depth method
open_due_lem w h depth method = two_tests opened_outcome (size_fine w h) (depth_fine depth) _ _ _

-- and back, from what is answered to the checks
pub checked_ready : (p : Picture) (x : MacroblockTextureContext) (k : Result ⊤ BlockAssemblyError) {d : Due} → checked_by p x k ≡ Ok d → (k ≡ Ok tt) × (d ≡ due_of p x)
checked_ready p x (Ok tt) {d} e = let z : d ≡ due_of p x = cc in (refl, z)
checked_ready p x (Err b) e = absurd (let z : ◌≡◌ {A = ℕ} 0 1 = cc in omega arith)

pub checked_refused : (p : Picture) (x : MacroblockTextureContext) (k : Result ⊤ BlockAssemblyError) {b : BlockAssemblyError} → checked_by p x k ≡ Err b → k ≡ Err b
checked_refused p x (Ok tt) e = absurd (let z : ◌≡◌ {A = ℕ} 0 1 = cc in omega arith)
checked_refused p x (Err a) {b} e = let z : a ≡ b = cc in ap Err z

-- the header's checks after those that passed
pub checked-after : (p : Picture) (x : MacroblockTextureContext) (k : Result ⊤ BlockAssemblyError) (due : Due) → due ≡ due_of p x → k ≡ Ok tt → Ok due ≡ checked_by p x k
checked-after p x k due e f = ap Ok e ∙ sym (ap (checked_by p x) f)

-- the checks by number
pub before_due : (p : Picture) (d : List ℕ) (at : ℕ) (m : MacroblockContext) (w : List (List ℕ)) (room : ℕ) (store : List ℤ)
    → state_outcome (checked_by p (context_of p m) (state_before p d at (context_of p m) w room (length store) (around_due p m.quantiser_scale store))) ≡ state_before_due p d at m w room store
unfolding state_before
before_due p d at m w room store =
    answered state_outcome (checked_by p (context_of p m)) (λ e. refl)
    (first_tests p d at (context_of p m) w room (length store) ++ neighbour_tests p (context_of p m) (around_due p m.quantiser_scale store))
    (refl, (refl, (refl, (refl, (refl, (refl, (refl, tt)))))))

pub state_due_lem : (p : Picture) (d : List ℕ) (at : ℕ) (h : MacroblockHeader) (m : MacroblockContext) (w : List (List ℕ)) (room : ℕ) (store : List ℤ)
    → state_outcome (checked_by p (context_of p m) (state_by p d at h (context_of p m) w room (length store) (around_due p m.quantiser_scale store))) ≡ state_due p d at h m w room store
unfolding state_by
state_due_lem p d at h m w room store =
    answered state_outcome (checked_by p (context_of p m)) (λ e. refl)
    (first_tests p d at (context_of p m) w room (length store) ++ later_tests p h (context_of p m) (around_due p m.quantiser_scale store))
    (refl, (refl, (refl, (refl, (refl, (refl, (refl, (refl, (refl, tt)))))))))

-- the records around the macroblock that is due lie in the store
pub place-lies : (p : Picture) (q stored : ℕ) → 1 ≤ p.width → store_for p.width ≤ stored → place_lies stored (place_of p q) ≡ true
place-lies p q stored h l =
    place_passes stored (place_of p q)
    (λ _. let a = slot_in p.width (p.accepted + 2 * p.width - 1) stored h l in omega arith)
    (λ _. let a = slot_in p.width (p.accepted + 2 * p.width - (p.width + 1)) stored h l in omega arith)
    (λ _. let a = slot_in p.width (p.accepted + 2 * p.width - p.width) stored h l in omega arith)
