-- `forms::hex::decode` meets its contract: the bytes before k are written. Assumes nothing.
use mathlib.Core.Bool.{true}
use mathlib.Core.List.{List}
use mathlib.Core.Path.{◌≡◌, refl, ap, ◌∙◌}
use Prim.Native.Nat.{ℕ, ◌+◌, ◌*◌, ◌-◌, ◌<◌, ◌≤◌}
use native.Mathlib.Omega.{arith}
use lib.ListN.{get_or, length, length-set}
use lib.Seq.{paste, paste-zero}
use Rattle.forms.specs.Reading.{part}
use Rattle.forms.specs.Words.{bytes_of, is_hex}
use Rattle.forms.proofs.HexLaws.{byte_at, bytes_count, part_each, paste_more}
use Rattle.forms.proofs.hex.decode.Statement.{statement}
use Rattle.forms.proofs.hex.decode.Tie as tie

abbrev invariant-loop-k : tie.invariant-loop-k
invariant-loop-k line from n data₀ k₀ «data» k = (k ≤ n) × (length «data» ≡ length data₀) × («data» ≡ paste data₀ 0 (bytes_of (part line from (from + 2 * n))) k)

abbrev decreases-loop-k : tie.decreases-loop-k
decreases-loop-k line from n data₀ k₀ «data» k = n - k

-- the bytes that the digits write
abbrev written : tie.Start invariant-loop-k decreases-loop-k → List ℕ
written s = bytes_of (part s.args.line.now s.args.from (s.args.from + 2 * s.args.n))

digit : (s : tie.Start invariant-loop-k decreases-loop-k) (i : ℕ) → s.args.from ≤ i → i < s.args.from + 2 * s.args.n → is_hex (get_or s.args.line.now i 0) ≡ true
digit s = part_each is_hex _ _ _ s.requires.0 s.requires.1.1.1

loop-k-init : tie.Need-loop-k-init invariant-loop-k decreases-loop-k
loop-k-init c = let s = c.before.before in (omega arith, refl, paste-zero s.args.«data».now 0 (written s))

overflow_mul-k : tie.Need-overflow_mul-k invariant-loop-k decreases-loop-k
overflow_mul-k c = omega arith

overflow_add-from : tie.Need-overflow_add-from invariant-loop-k decreases-loop-k
overflow_add-from c = omega arith

bounds-line-from : tie.Need-bounds-line-from invariant-loop-k decreases-loop-k
bounds-line-from c = omega arith

hex_value-high-requires : tie.Need-hex_value-high-requires invariant-loop-k decreases-loop-k
hex_value-high-requires c κs = digit c.before.before.before.before.before _ (omega arith) (omega arith)

overflow_mul-k-in-loop-k : tie.Need-overflow_mul-k-in-loop-k invariant-loop-k decreases-loop-k
overflow_mul-k-in-loop-k c = omega arith

overflow_add-from-in-loop-k : tie.Need-overflow_add-from-in-loop-k invariant-loop-k decreases-loop-k
overflow_add-from-in-loop-k c = omega arith

overflow_add-from-in-loop-k-2 : tie.Need-overflow_add-from-in-loop-k-2 invariant-loop-k decreases-loop-k
overflow_add-from-in-loop-k-2 c = omega arith

bounds-line-from-in-loop-k : tie.Need-bounds-line-from-in-loop-k invariant-loop-k decreases-loop-k
bounds-line-from-in-loop-k c = omega arith

hex_value-low-requires : tie.Need-hex_value-low-requires invariant-loop-k decreases-loop-k
hex_value-low-requires c κs = digit c.before.before.before.before.before.before.before _ (omega arith) (omega arith)

overflow_mul-data : tie.Need-overflow_mul-data invariant-loop-k decreases-loop-k
overflow_mul-data c = omega arith

overflow_add-data : tie.Need-overflow_add-data invariant-loop-k decreases-loop-k
overflow_add-data c = omega arith

bounds-data-k : tie.Need-bounds-data-k invariant-loop-k decreases-loop-k
bounds-data-k c = omega arith

overflow_step-k : tie.Need-overflow_step-k invariant-loop-k decreases-loop-k
overflow_step-k c = omega arith

loop-k-smaller : tie.Need-loop-k-smaller invariant-loop-k decreases-loop-k
loop-k-smaller c = omega arith

loop-k-preserved : tie.Need-loop-k-preserved invariant-loop-k decreases-loop-k
loop-k-preserved c =
    let l = c.loop-k in
    let s = c.before.before.before.before.before.before.before.before in
    let z : length (written s) ≡ s.args.n = omega (arith, bytes_count s.args.line.now s.args.from (s.args.from + 2 * s.args.n) s.requires.0) in
    let e : 16 * c.hex_value-high.result + c.hex_value-low.result ≡ get_or (written s) l.k 0 =
    byte_at _ _ _ _ s.requires.0 c.loop-k-test.true _ _ c.hex_value-high.ensures.0 c.hex_value-low.ensures.0 in
    (omega arith, simp length-set l.invariant.1, paste_more _ _ _ _ _ l.invariant.2 (omega arith) (omega arith) e)

shape_of-data : tie.Need-shape_of-data invariant-loop-k decreases-loop-k
shape_of-data c = omega arith

returns : tie.Need-returns invariant-loop-k decreases-loop-k
returns c =
    let s = c.before.before.before.before in
    let z : c.loop-k.k ≡ s.args.n = omega arith in
    c.loop-k.invariant.2 ∙ ap (λ (k : ℕ). paste s.args.«data».now 0 (written s) k) z

pub decode_spec : {M : Type 1} → statement M
decode_spec =
    tie.close
    (tie.spec
    invariant-loop-k
    decreases-loop-k
    loop-k-init
    overflow_mul-k
    overflow_add-from
    bounds-line-from
    hex_value-high-requires
    overflow_mul-k-in-loop-k
    overflow_add-from-in-loop-k
    overflow_add-from-in-loop-k-2
    bounds-line-from-in-loop-k
    hex_value-low-requires
    overflow_mul-data
    overflow_add-data
    bounds-data-k
    overflow_step-k
    loop-k-smaller
    loop-k-preserved
    shape_of-data
    returns)
