-- `forms::hex::data_of` meets its contract: the pairs of digits fill the word. Assumes nothing.
use mathlib.Core.Path.{◌≡◌, sym, ◌∙◌}
use Prim.Native.Nat.{◌+◌, ◌*◌, ◌-◌, ◌/◌}
use native.Mathlib.Omega.{arith}
use Rattle.forms.proofs.HexLaws.{bytes_count, data_digits, data_even, data_fits, data_pasted}
use Rattle.forms.proofs.hex.data_of.Statement.{statement}
use Rattle.forms.proofs.hex.data_of.Tie as tie

overflow_sub-n : tie.Need-overflow_sub-n
overflow_sub-n c = omega arith

decode-requires : tie.Need-decode-requires
decode-requires c κs =
    let s = c.before.before.before in
    let p = s.requires in
    let e : s.args.from + 2 * ((s.args.to - s.args.from) / 2) ≡ s.args.to = data_even _ _ _ p.1.0 p.0 p.1.1.1.1 in
    (omega arith, (data_fits s.args.line.now s.args.from _ p.1.0 p.1.1.0 _ p.1.1.1.0, (p.1.1.0, data_digits _ _ _ p.1.0 p.0 p.1.1.1.1)))

shape_of-data : tie.Need-shape_of-data
shape_of-data c = omega arith

returns : tie.Need-returns
returns c =
    let p = c.requires in
    (sym (bytes_count _ _ _ p.1.0), c.decode.ensures ∙ data_pasted _ _ _ p.1.0 p.0 p.1.1.1.1 _)

pub data_of_spec : {M : Type 1} → statement M
data_of_spec = tie.close (tie.spec overflow_sub-n decode-requires shape_of-data returns)
