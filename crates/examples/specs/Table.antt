-- Document 01's examples P1 to P10: what the definitions say of each, beside what the paper says. Definitions only.
use Rattle.std.specs.Prelude.{◌≡◌, true, false, List, [], ◌∷◌, map, ℕ, ℤ, pos, neg_ℤ}
use Rattle.bits.specs.Bits.{Bits, bin}
use Rattle.codes.specs.declared.dc_size.DcComponent.{DcComponent}
use Rattle.codes.specs.declared.dc_size.DcComponent.TheVariants.{Luminance, Chrominance}
use Rattle.codes.specs.declared.tcoef_tables.TcoefTable.TheVariants.{Intra}
use Rattle.fields.specs.Refusal.{number_of}
use Rattle.fields.specs.Reader.{Res, ok, no, mapped}
use Rattle.dc_parts.specs.Dc.{difference_of}
use Rattle.dc_parts.specs.DcReader.{read_dc}
use Rattle.events.specs.Event.{Event, ◌▸◌, last_number, run_of, level_of}
use Rattle.events.specs.EventReader.{event}
use Rattle.scan.specs.declared.DcPredictionDirection.{DcPredictionDirection}
use Rattle.scan.specs.declared.DcPredictionDirection.TheVariants.{FromLeft}
use Rattle.prediction.specs.Prediction.{dc_scaler, direction_of}
use Rattle.dequantise.specs.Methods.{method1, method2}

-- numbers, a refusal's number, or a side to predict from
pub data Said : Type 0 where
  values : List ℤ → Said
  refused : ℕ → Said
  from : DcPredictionDirection → Said

abbrev pub told : Res (List ℤ) → Said
told (ok xs r) = values xs
told (no e) = refused (number_of e)

-- the difference of a DC part
abbrev pub difference : DcComponent → Bits → Said
difference c b = told (mapped (λ d. difference_of c d ∷ []) (read_dc c b))

-- last, run and level of a plain event in the intra table
abbrev pub figures : Event → List ℤ
figures e = pos (last_number Intra e) ∷ pos (run_of Intra e) ∷ level_of Intra e ∷ []

abbrev pub intra_event : Bits → Said
intra_event b = told (mapped figures (event false b))

-- a type 3 event with last, run 0 and the 12 bits of a level
abbrev pub type3_bits : ℕ → Bits
type3_bits v = bin 7 0b0000011 ▸ bin 2 0b11 ▸ bin 1 1 ▸ bin 6 0 ▸ bin 1 1 ▸ bin 12 v ▸ bin 1 1

abbrev pub scalers : DcComponent → Said
scalers c = values (map (λ (q : ℕ). pos (dc_scaler c q)) (4 ∷ 5 ∷ 9 ∷ 25 ∷ 31 ∷ []))

pub record Example : Type 0 where
  pub given : Said
  pub paper : Said

infixl 20 ◌is◌
abbrev pub ◌is◌ : Said → Said → Example
a is b = record { given = a; paper = b }

-- each example of a list is what the paper says
abbrev pub AllHold : List Example → Type 0
AllHold [] = Unit {0}
AllHold (e ∷ es) = (e.given ≡ e.paper) × AllHold es

abbrev pub minus : ℕ → ℤ
minus n = neg_ℤ (pos n)

unfoldable pub table : List Example
table =
    -- P1
    (difference Luminance (bin 3 0b110) is values (minus 1 ∷ []))
    ∷ (difference Luminance (bin 3 0b111) is values (pos 1 ∷ []))
    -- P2
    ∷ (difference Luminance (bin 8 0b00000001 ▸ bin 9 0b100000000 ▸ bin 1 1) is values (pos 256 ∷ []))
    ∷ (difference Luminance (bin 8 0b00000001 ▸ bin 9 0b100000000 ▸ bin 1 0) is refused 3)
    -- P3
    ∷ (intra_event (bin 5 0b01111) is values (pos 1 ∷ pos 0 ∷ minus 1 ∷ []))
    -- P4
    ∷ (intra_event (bin 7 0b0000011 ▸ bin 1 0 ▸ bin 5 0b01110) is values (pos 1 ∷ pos 0 ∷ pos 9 ∷ []))
    -- P5
    ∷ (intra_event (bin 7 0b0000011 ▸ bin 2 0b10 ▸ bin 5 0b01110) is values (pos 1 ∷ pos 21 ∷ pos 1 ∷ []))
    -- P6
    ∷ (intra_event (type3_bits 0x801) is values (pos 1 ∷ pos 0 ∷ minus 2047 ∷ []))
    ∷ (intra_event (type3_bits 0x800) is refused 6)
    -- P7
    ∷ (scalers Luminance is values (pos 8 ∷ pos 10 ∷ pos 17 ∷ pos 34 ∷ pos 46 ∷ []))
    ∷ (scalers Chrominance is values (pos 8 ∷ pos 9 ∷ pos 11 ∷ pos 19 ∷ pos 25 ∷ []))
    -- P8
    ∷ (from (direction_of (pos 1024) (pos 1024) (pos 1024)) is from FromLeft)
    -- P9
    ∷ (values (method1 true (minus 1) 17 1 ∷ []) is values (minus 2 ∷ []))
    -- P10
    ∷ (values (method2 (minus 1) 2 ∷ []) is values (minus 5 ∷ []))
    ∷ []
