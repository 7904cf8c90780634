-- The header record: 9 and 10 case by case and by number. Assumes nothing.
use mathlib.Core.Bool.{Bool, cond, not}
use mathlib.Core.Path.{◌≡◌, ap₂, refl}
use Rattle.assembly.proofs.OutcomeLaws.{answered}
use Rattle.assembly.specs.Outcomes.{checked_outcome}
use Rattle.assembly.specs.declared.error.BlockAssemblyError.TheVariants.{NotCoded, NotIntra}
use Rattle.headers.specs.Fields.{header_check, header_tests, is_intra}
use Rattle.headers.specs.Outcomes.{header_due}
use Rattle.headers.specs.declared.header.MacroblockHeader.{MacroblockHeader}
use Rattle.std.specs.Prelude.{Err, Ok, Result, ⊤}
use Rattle.assembly.specs.declared.error.BlockAssemblyError.{BlockAssemblyError}

pub header_by_lem : (h : MacroblockHeader) (a b : Bool) → h.not_coded ≡ a → is_intra h.mb_type ≡ b → header_check h ≡ cond (not a) (cond b (Ok tt) (Err NotIntra)) (Err NotCoded)
header_by_lem h a b e f = ap₂ (λ (s t : Bool). cond (not s) (cond t (Ok tt) (Err NotIntra)) (Err NotCoded)) e f

-- 9 and 10 by number
pub header_due_lem : (h : MacroblockHeader) → checked_outcome (header_check h) ≡ header_due h
header_due_lem h = answered checked_outcome (λ (k : Result ⊤ BlockAssemblyError). k) (λ e. refl) (header_tests h) (refl, (refl, tt))
