-- Where records refuse nothing, and what then stands beside the answer. Assumes nothing.
use mathlib.Core.Bool.{Bool, cond, false, true}
use mathlib.Core.Path.{◌≡◌, ap, refl, sym, ◌∙◌}
use Prim.Native.Nat.{ℕ, ◌+◌, ◌<◌, ◌≤◌}
use borrow.Author.Tests.{le-leb, lt-ltb}
use Rattle.ranges.specs.Range.{quantiser_fine}
use Rattle.record.specs.Refusals.{block_tests, first_bad, quantiser_tests, store_tests, unless}
use Rattle.record.specs.declared.refusal.RecordError.{RecordError}
use Rattle.record.specs.declared.refusal.RecordError.TheVariants.{Context}
use Rattle.std.specs.Prelude.{Err, Ok, Result, ⊤}

-- ---- of each call

pub block_passes : (owned i : ℕ) → i < 6 → 91 ≤ owned → first_bad (block_tests owned i) ≡ Ok tt
block_passes owned i h o = rw (lt-ltb i 6 h, le-leb 91 owned o)

pub quantiser_passes : (q : ℕ) → quantiser_fine q ≡ true → first_bad (quantiser_tests q) ≡ Ok tt
quantiser_passes q e = ap (λ (t : Bool). cond t (Ok tt) (Err Context)) e

-- and one that is refused is none
quantiser_only : (t : Bool) (e f : RecordError) → ◌≡◌ {A = Result ⊤ RecordError} (cond t (Ok tt) (Err f)) (Err e) → t ≡ false
quantiser_only true e f h = cc
quantiser_only false e f h = refl

pub quantiser-refused : (q : ℕ) (e : RecordError) → first_bad (quantiser_tests q) ≡ Err e → quantiser_fine q ≡ false
quantiser-refused q e h = quantiser_only (quantiser_fine q) e Context h

pub store_passes : (stored at : ℕ) → at + 91 ≤ stored → first_bad (store_tests stored at) ≡ Ok tt
store_passes stored at h = rw (le-leb (at + 91) stored h)

-- ---- an answer beside what is handed out or left in lent memory

pub beside : {A : Type 0} (new old : A) {a r : Result ⊤ RecordError} {x : A} → a ≡ r → x ≡ unless r new old → (r ≡ a) × (x ≡ unless a new old)
beside new old h e = (sym h, e ∙ ap (λ (r : Result ⊤ RecordError). unless r new old) (sym h))

pub handed_out : {A : Type 0} (new old : A) {a : Result ⊤ RecordError} → a ≡ Ok tt → unless a new old ≡ new
handed_out new old h = ap (λ (r : Result ⊤ RecordError). unless r new old) h
