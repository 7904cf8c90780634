-- The header of a macroblock in an I-VOP (6.2.6, 6.3.6): how it is spelled in bits, and when its parts are good. No reader is named here. Definitions only.
use Rattle.std.specs.Prelude.{Bool, [], ℕ, suc, zero, ◌<◌, eqb, Option}
use Rattle.bits.specs.Bits.{Bits, bin}
use Rattle.codes.specs.Header.{cbpy_codes, cbpy_lens, mcbpc_codes, mcbpc_lens, type_at}
use Rattle.codes.specs.Table.{code_bits}
use Rattle.events.specs.Event.{◌▸◌}
use Rattle.sentences.specs.Compose.{GoodOpt, GoodPair, GoodThen, opt_bits, pair_bits}

-- ---- mcbpc: how many stuffing codes stand before it, and its row of Table B.6, which is not that of stuffing

abbrev pub Mcbpc : Type 0
Mcbpc = ℕ × ℕ

abbrev pub row_of : Mcbpc → ℕ
row_of m = m.1

unfoldable pub stuffing_bits : ℕ → Bits
stuffing_bits zero = []
stuffing_bits (suc n) = code_bits mcbpc_codes mcbpc_lens 8 ▸ stuffing_bits n

abbrev pub mcbpc_bits : Mcbpc → Bits
mcbpc_bits m = stuffing_bits m.0 ▸ code_bits mcbpc_codes mcbpc_lens m.1

abbrev pub GoodMcbpc : Mcbpc → Type 0
GoodMcbpc m = m.1 < 8

-- type 4, intra with a quantiser change
abbrev pub changes_at : ℕ → Bool
changes_at row = eqb (type_at row) 4

-- ---- what follows it: ac_pred_flag, a row of cbpy, and two bits of dquant where the type has a quantiser change

abbrev pub Rest : Type 0
Rest = ℕ × (ℕ × Option ℕ)

abbrev pub rest_bits : Rest → Bits
rest_bits = pair_bits (bin 1) (pair_bits (code_bits cbpy_codes cbpy_lens) (opt_bits (bin 2)))

abbrev pub GoodRest : Bool → Rest → Type 0
GoodRest changes = GoodPair (λ (flag : ℕ). flag < 2) (GoodPair (λ (row : ℕ). row < 16) (GoodOpt changes (λ (dquant : ℕ). dquant < 4)))

-- ---- the whole

abbrev pub Header : Type 0
Header = Mcbpc × Rest

abbrev pub header_bits : Header → Bits
header_bits = pair_bits mcbpc_bits rest_bits

abbrev pub GoodHeader : Header → Type 0
GoodHeader = GoodThen GoodMcbpc (λ (m : Mcbpc). GoodRest (changes_at (row_of m)))
