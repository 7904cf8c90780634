-- `window_reader::symbol::type3_at` meets its contract: the fields of the window are those of the escape. Assumes nothing.
use Rattle.std.proofs.Common.{ap, arith, refl, sym, ℕ, ◌%◌, ◌/◌, ◌≡◌, ◌∙◌}
use native.Mathlib.Nat.{mod-lt}
use lib.Dec.{eqb}
use lib.Pow.{pow_pos}
use Rattle.bits.specs.Ahead.{ahead_of}
use Rattle.events.specs.Event.{signed12}
use Rattle.window_reader.proofs.EventLaws.{type3-told}
use Rattle.window_reader.proofs.SymbolLaws.{twelve_back}
use Rattle.window_reader.proofs.symbol.type3_at.Goals as goal

one : (n : ℕ) → (n % 2 ≡ 0 → ⊥) → n % 2 ≡ 1
one n z = omega (arith, z)

pub returns : goal.returns
returns c =
    let p = c.requires in
    let w : ℕ = c.args.w in
    let a : ℕ = ahead_of c.args.«data».now c.args.at in
    let is : w ≡ a = p.1 in
    type3-told c.args.«data».now c.args.at (ap (λ (x : ℕ). x / 33554432) (sym is) ∙ p.2) (ap (λ (x : ℕ). x / 8388608 % 4) (sym is) ∙ p.3)
    (one (a / 32768) (λ q. c.if-w-eq0.false (ap (λ (x : ℕ). x / 32768 % 2) is ∙ q)))
    (one (a / 4) (λ q. c.if-w-eq0-2.false (ap (λ (x : ℕ). x / 4 % 2) is ∙ q)))
    (λ q. c.if-raw-eq0.false (ap (λ (x : ℕ). x / 8 % 4096 % 2048) is ∙ q)) _ c.within.ensures (ap (λ (x : ℕ). eqb (x / 4194304 % 2) 1) is) (ap (λ (x : ℕ). x / 65536 % 64) is)
    (twelve_back (w / 8 % 4096) (mod-lt _ (pow_pos 12)) c.two_s_complement.ensures ∙ ap (λ (x : ℕ). signed12 (x / 8 % 4096)) is) refl
