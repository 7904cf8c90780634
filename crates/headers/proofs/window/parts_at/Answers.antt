-- `headers::window::parts_at` meets its contract: where the window has both codes and the data the bits, they are the header. Assumes nothing.
use Rattle.std.proofs.Common.{Ok, ap, length, sym, ℕ, ◌%◌, ◌*◌, ◌+◌, ◌≡◌, ◌≤◌, ◌∙◌}
use mathlib.Core.Path.{subst, subst₂}
use Prim.Native.Nat.{◌^◌}
use Rattle.bits.specs.Ahead.{ahead_of}
use Rattle.bits.specs.Bits.{bits_from}
use Rattle.bits.specs.Cursor.{cursor_at}
use Rattle.codes.specs.Header.{cbpy_short, mcbpc_short}
use Rattle.fields.specs.Reader.{mapped}
use Rattle.headers.proofs.WindowLaws.{few, header-there}
use Rattle.headers.specs.HeaderReader.{read_header}
use Rattle.headers.specs.Inside.{SaysParts, parts_in, parts_of}
use Rattle.headers.specs.declared.parts.HeaderParts.{HeaderParts}
use Rattle.headers.proofs.window.parts_at.Goals as goal
use Rattle.headers.proofs.window.parts_at.Goals.{Else-cbpy-eq0}

-- what six bits tell of mcbpc, and of cbpy
m_is : (k : Else-cbpy-eq0) → k.mcbpc_short-mcbpc.result ≡ mcbpc_short (ahead_of k.args.«data».now k.args.at)
m_is k = k.mcbpc_short-mcbpc.ensures ∙ ap mcbpc_short k.ahead-w.ensures

y-is : (k : Else-cbpy-eq0) → k.cbpy_short-cbpy.result ≡ cbpy_short (ahead_of k.args.«data».now k.args.at * 2 ^ (k.mcbpc_short-mcbpc.result % 16 + 1) % 4294967296)
y-is k = k.cbpy_short-cbpy.ensures ∙ ap (λ (x : ℕ). cbpy_short (x * 2 ^ (k.mcbpc_short-mcbpc.result % 16 + 1) % 4294967296)) k.ahead-w.ensures

pub returns-then-mcbpc-eq0 : goal.returns-then-mcbpc-eq0
returns-then-mcbpc-eq0 c = λ z. absurd (z c.no_parts.ensures)

pub returns-then-cbpy-eq0 : goal.returns-then-cbpy-eq0
returns-then-cbpy-eq0 c = λ z. absurd (z c.no_parts-then-cbpy-eq0.ensures)

pub returns-then-data-next : goal.returns-then-data-next
returns-then-data-next c = λ z. absurd (z c.no_parts-then-data-next.ensures)

pub parts_in-parts-requires : goal.parts_in-parts-requires
parts_in-parts-requires c =
    let k = (goal.at.parts_in-parts-requires c).Else-cbpy-eq0 in
    few c.args.«data».now c.args.at _ _ (m_is k) c.if-mcbpc-eq0.false (y-is k) c.if-cbpy-eq0.false

pub returns : goal.returns
returns c =
    let k = (goal.at.returns c).Else-cbpy-eq0 in
    let d = c.args.«data».now in
    let at = c.args.at in
    let m = c.mcbpc_short-mcbpc.result in
    let y = c.cbpy_short-cbpy.result in
    let l = c.length_in.ensures in
    let p = c.parts_in-parts.ensures ∙ ap (λ (x : ℕ). parts_in x m y) c.ahead-w.ensures in
    λ z. subst₂ (λ (p : HeaderParts) (n : ℕ). SaysParts d (Ok (p, cursor_at (at + n))) (mapped parts_of (read_header (bits_from d at)))) (sym p) (sym l)
    (header-there d at m y (m_is k) c.if-mcbpc-eq0.false (y-is k) c.if-cbpy-eq0.false (subst (λ (n : ℕ). at + n ≤ 8 * length d) l c.if-data-next.false))
