-- Number and figure tell the refusals of a call apart, and an outcome its answer. Assumes nothing.
use mathlib.Core.Bool.{Bool, cond, false, true}
use mathlib.Core.List.{List, [], ◌∷◌}
use mathlib.Core.Path.{◌≡◌, ap, ap₂, refl, sym, ◌∙◌}
use Prim.Native.Nat.{ℕ}
use native.Mathlib.Omega.{arith}
use lib.Dec.{eqb}
use Rattle.numbers.specs.Outcome.{Outcome, accepted, refused}
use Rattle.bits.specs.Bits.{Bits}
use Rattle.prediction.specs.declared.predictor.BlockPredictors.{BlockPredictors}
use Rattle.fields.proofs.Apart.{error_by as readingBy}
use Rattle.fields.proofs.ByBits.{ByBits, OfBits}
use Rattle.fields.specs.Reader.{Res, no, ok}
use Rattle.fields.specs.declared.error.TextureParseError.{TextureParseError}
use Rattle.fields.specs.declared.error.TextureParseError.TheVariants.{EndedInsideCode, EscapeMarkerBitMissing, InvalidDcSize, InvalidHeader, InvalidTcoef, MarkerBitMissing, OutOfRange as ReadingOutOfRange, Overflow, ReservedEscapeLevel, RvlcEscapeDelimiterMissing, Truncated}
use Rattle.assembly.specs.Answer.{check_of, figure_of, first_bad, number_of, tests_of}
use Rattle.assembly.specs.Outcomes.{checked_outcome}
use Rattle.assembly.specs.declared.context.MacroblockTextureContext.{MacroblockTextureContext}
use Rattle.assembly.specs.declared.error.BlockAssemblyError.{BlockAssemblyError}
use Rattle.assembly.specs.declared.error.BlockAssemblyError.TheVariants.{Complete, Context, NotCoded, NotIntra, OutOfRange, Predictor, Texture, TooShort}
use Rattle.std.specs.Prelude.{Err, Ok, Result, ⊤}

-- ---- refusals

-- the refusals that a call gives: of reading, those of bits
abbrev pub Arises : BlockAssemblyError → Type 0
Arises OutOfRange = Unit {0}
Arises Context = Unit {0}
Arises Predictor = Unit {0}
Arises TooShort = Unit {0}
Arises Complete = Unit {0}
Arises NotCoded = Unit {0}
Arises NotIntra = Unit {0}
Arises (Texture e) = OfBits e

abbrev error_by : ℕ → ℕ → BlockAssemblyError
error_by n f =
    cond (eqb n 9) NotCoded
    (cond (eqb n 10) NotIntra
    (cond (eqb n 11) OutOfRange
    (cond (eqb n 12) Context
    (cond (eqb n 13) Predictor
    (cond (eqb n 14) TooShort
    (cond (eqb n 15) Complete (Texture (readingBy n f))))))))

error_by_lem : (e : BlockAssemblyError) → Arises e → e ≡ error_by (number_of e) (figure_of e)
error_by_lem OutOfRange a = refl
error_by_lem Context a = refl
error_by_lem Predictor a = refl
error_by_lem TooShort a = refl
error_by_lem Complete a = refl
error_by_lem NotCoded a = refl
error_by_lem NotIntra a = refl
error_by_lem (Texture Truncated) a = refl
error_by_lem (Texture (InvalidDcSize w)) a = refl
error_by_lem (Texture MarkerBitMissing) a = refl
error_by_lem (Texture (InvalidTcoef w)) a = refl
error_by_lem (Texture EscapeMarkerBitMissing) a = refl
error_by_lem (Texture ReservedEscapeLevel) a = refl
error_by_lem (Texture (RvlcEscapeDelimiterMissing w)) a = refl
error_by_lem (Texture (Overflow p)) a = refl
error_by_lem (Texture ReadingOutOfRange) a = absurd a
error_by_lem (Texture EndedInsideCode) a = refl
error_by_lem (Texture InvalidHeader) a = refl

pub error_apart : (e f : BlockAssemblyError) → Arises e → Arises f → number_of e ≡ number_of f → figure_of e ≡ figure_of f → e ≡ f
error_apart e f a b n g = error_by_lem e a ∙ ap₂ error_by n g ∙ sym (error_by_lem f b)

-- ---- answers: one that is accepted, or one that is refused

pub data Told {A R : Type 0} (took : A → R) (fails : BlockAssemblyError → R) (r : R) : Type 0 where
  taken : (a : A) → r ≡ took a → Told took fails r
  failed : (e : BlockAssemblyError) → Arises e → r ≡ fails e → Told took fails r

module _ {A R : Type 0} (took : A → R) (fails : BlockAssemblyError → R) (outcome : R → Outcome A) (accepts : (a : A) → outcome (took a) ≡ accepted a)
    (refuses : (e : BlockAssemblyError) → outcome (fails e) ≡ refused (number_of e) (figure_of e)) where
  abbrev answer_by : Outcome A → R
  answer_by (accepted a) = took a
  answer_by (refused n f) = fails (error_by n f)

  answer_by_lem : (r : R) → Told took fails r → r ≡ answer_by (outcome r)
  answer_by_lem r (taken a e) = e ∙ sym (ap answer_by (ap outcome e ∙ accepts a))
  answer_by_lem r (failed x a e) = e ∙ ap fails (error_by_lem x a) ∙ sym (ap answer_by (ap outcome e ∙ refuses x))

  -- answers of calls with the same outcome are the same
  pub answers-apart : (r s : R) → Told took fails r → Told took fails s → outcome r ≡ outcome s → r ≡ s
  answers-apart r s a b h = answer_by_lem r a ∙ ap answer_by h ∙ sym (answer_by_lem s b)

-- ---- what the state tells

abbrev pub Arise : List (Bool × BlockAssemblyError) → Type 0
Arise [] = Unit {0}
Arise (t ∷ ts) = Arises t.1 × Arise ts

abbrev pub fine : Unit {0} → Result ⊤ BlockAssemblyError
fine a = Ok tt

pub first_told : (ts : List (Bool × BlockAssemblyError)) → Arise ts → Told fine Err (first_bad ts)
first_told [] a = taken tt refl
first_told (t ∷ ts) a = go t.0 (first_told ts a.1)
  where
    go : (b : Bool) → Told fine Err (first_bad ts) → Told fine Err (cond b (first_bad ts) (Err t.1))
    go true rest = rest
    go false rest = failed t.1 a.0 refl

-- an answer that hangs on the state
pub after-told : {A R : Type 0} (took : A → R) (fails : BlockAssemblyError → R) (by : Result ⊤ BlockAssemblyError → R) → ((e : BlockAssemblyError) → by (Err e) ≡ fails e) → Told took fails (by (Ok tt))
    → (k : Result ⊤ BlockAssemblyError) → Told fine Err k → Told took fails (by k)
after-told took fails by h f (Ok tt) t = f
after-told took fails by h f (Err e) (taken a q) = let z : ◌≡◌ {A = ℕ} 0 1 = cc in absurd (omega arith)
after-told took fails by h f (Err e) (failed x a q) = failed x a (ap by q ∙ h x)

-- an answer that hangs on what was read
pub read_told : {A B R : Type 0} (took : A → R) (fails : BlockAssemblyError → R) (of : Res B → R) → ((b : B) (r : Bits) → Told took fails (of (ok b r)))
    → ((e : TextureParseError) → of (no e) ≡ fails (Texture e)) → (y : Res B) → ByBits y → Told took fails (of y)
read_told took fails of h g (ok b r) t = h b r
read_told took fails of h g (no e) t = failed (Texture e) t (g e)

-- ---- the check

pub checked-apart : (r s : Result ⊤ BlockAssemblyError) → Told fine Err r → Told fine Err s → checked_outcome r ≡ checked_outcome s → r ≡ s
checked-apart = answers-apart fine Err checked_outcome (λ a. refl) (λ e. refl)

pub check_told : (d : List ℕ) (at : ℕ) (x : MacroblockTextureContext) (p : BlockPredictors) (w : List (List ℕ)) → Told fine Err (check_of d at x p w)
check_told d at x p w = first_told (tests_of d at x p w) (tt, (tt, (tt, tt)))
