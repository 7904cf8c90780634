-- `forms::hex::hex_value` meets its contract: by the range that the digit lies in. Assumes nothing.
use native.Mathlib.Omega.{arith}
use Rattle.forms.proofs.HexLaws.{hex_low, hex_past_lower, hex_past_upper, hex_of_digit, hex_of_lower, hex_of_upper}
use Rattle.forms.proofs.hex.hex_value.Statement.{statement}
use Rattle.forms.proofs.hex.hex_value.Tie as tie

overflow_sub-result : tie.Need-overflow_sub-result
overflow_sub-result c = hex_low _ c.requires

returns-then-b-le57 : tie.Need-returns-then-b-le57
returns-then-b-le57 c = (hex_of_digit _ c.if-b-le57.true, omega arith)

overflow_sub-result-then-b-le70 : tie.Need-overflow_sub-result-then-b-le70
overflow_sub-result-then-b-le70 c = omega arith

returns-then-b-le70 : tie.Need-returns-then-b-le70
returns-then-b-le70 c = (hex_of_upper _ c.if-b-le57.false c.if-b-le70.true, omega arith)

overflow_sub-result-2 : tie.Need-overflow_sub-result-2
overflow_sub-result-2 c = let b = c.args.b in omega (arith, hex_past_upper b c.requires c.if-b-le70.false)

returns : tie.Need-returns
returns c =
    let s = c.before.before in
    (hex_of_lower _ c.if-b-le57.false c.if-b-le70.false, omega (arith, hex_past_lower s.args.b s.requires c.if-b-le70.false))

pub hex_value_spec : {M : Type 1} → statement M
hex_value_spec =
    tie.close (tie.spec overflow_sub-result returns-then-b-le57 overflow_sub-result-then-b-le70 returns-then-b-le70 overflow_sub-result-2 returns)
